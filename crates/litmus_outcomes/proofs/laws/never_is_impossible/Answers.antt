use Rattle.litmus_outcomes.proofs.Possible.{never_is_impossible_lem}
use Rattle.litmus_outcomes.proofs.laws.never_is_impossible.Goals as goal

pub returns : goal.returns
returns c = never_is_impossible_lem
