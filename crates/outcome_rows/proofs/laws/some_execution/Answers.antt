use Rattle.outcome_rows.proofs.Fronts.{some_execution_lem}
use Rattle.outcome_rows.proofs.laws.some_execution.Goals as goal

pub returns : goal.returns
returns c = some_execution_lem
