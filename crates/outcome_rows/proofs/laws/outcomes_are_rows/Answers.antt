use Rattle.outcome_rows.proofs.Conditioned.{outcomes_are_rows_lem}
use Rattle.outcome_rows.proofs.laws.outcomes_are_rows.Goals as goal

pub returns : goal.returns
returns c = outcomes_are_rows_lem
