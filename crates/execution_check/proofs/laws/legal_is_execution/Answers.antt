use Rattle.execution_check.proofs.Law.{legal_is_execution_lem}
use Rattle.execution_check.proofs.laws.legal_is_execution.Goals as goal

pub returns : goal.returns
returns c = legal_is_execution_lem
