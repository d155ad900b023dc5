use Rattle.litmus_outcomes.proofs.Possible.{outcomes_are_countable_lem}
use Rattle.litmus_outcomes.proofs.laws.outcomes_are_countable.Goals as goal

pub returns : goal.returns
returns c = outcomes_are_countable_lem
