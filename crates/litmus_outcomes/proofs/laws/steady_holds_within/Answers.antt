use Rattle.litmus_outcomes.proofs.Steady.{steady_holds_within_lem}
use Rattle.litmus_outcomes.proofs.laws.steady_holds_within.Goals as goal

pub returns : goal.returns
returns c = steady_holds_within_lem
