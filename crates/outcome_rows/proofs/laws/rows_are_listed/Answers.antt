use Rattle.outcome_rows.proofs.Listed.{rows_are_listed_lem}
use Rattle.outcome_rows.proofs.laws.rows_are_listed.Goals as goal

pub returns : goal.returns
returns c = rows_are_listed_lem
