use Rattle.outcome_rows.proofs.Valued.{rows_are_sources_lem}
use Rattle.outcome_rows.proofs.laws.rows_are_sources.Goals as goal

pub returns : goal.returns
returns c = rows_are_sources_lem
