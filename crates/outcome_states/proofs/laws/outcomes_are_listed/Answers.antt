use Rattle.outcome_states.proofs.Listed.{outcomes_are_listed_lem}
use Rattle.outcome_states.proofs.laws.outcomes_are_listed.Goals as goal

pub returns : goal.returns
returns c = outcomes_are_listed_lem
