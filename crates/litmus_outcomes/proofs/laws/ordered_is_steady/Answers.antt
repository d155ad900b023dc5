use Rattle.litmus_outcomes.proofs.Steady.{ordered_is_steady_lem}
use Rattle.litmus_outcomes.proofs.laws.ordered_is_steady.Goals as goal

pub returns : goal.returns
returns c = ordered_is_steady_lem
