use Rattle.litmus_outcomes.proofs.Steady.{steady_hits_are_outcomes_lem}
use Rattle.litmus_outcomes.proofs.laws.steady_hits_are_outcomes.Goals as goal

pub returns : goal.returns
returns c = steady_hits_are_outcomes_lem
