use Rattle.outcome_rows.proofs.Fronts.{rows_begin_lem}
use Rattle.outcome_rows.proofs.laws.rows_begin.Goals as goal

pub returns : goal.returns
returns c = rows_begin_lem
