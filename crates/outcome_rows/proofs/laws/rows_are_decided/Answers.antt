use Rattle.outcome_rows.proofs.Valued.{rows_are_decided_lem}
use Rattle.outcome_rows.proofs.laws.rows_are_decided.Goals as goal

pub returns : goal.returns
returns c = rows_are_decided_lem
