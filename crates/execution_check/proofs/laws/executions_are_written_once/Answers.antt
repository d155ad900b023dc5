use Rattle.execution_check.proofs.Once.{executions_are_written_once_lem}
use Rattle.execution_check.proofs.laws.executions_are_written_once.Goals as goal

pub returns : goal.returns
returns c = executions_are_written_once_lem
