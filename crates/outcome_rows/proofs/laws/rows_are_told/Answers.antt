use Rattle.outcome_rows.proofs.Told.{rows_are_told_lem}
use Rattle.outcome_rows.proofs.laws.rows_are_told.Goals as goal

pub returns : goal.returns
returns c = rows_are_told_lem
