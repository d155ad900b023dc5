use Rattle.outcome_rows.proofs.Fronts.{rows_go_on_lem}
use Rattle.outcome_rows.proofs.laws.rows_go_on.Goals as goal

pub returns : goal.returns
returns c = rows_go_on_lem
