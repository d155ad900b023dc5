use Rattle.litmus_outcomes.proofs.Steady.{seen_is_allowed_lem}
use Rattle.litmus_outcomes.proofs.laws.seen_is_allowed.Goals as goal

pub returns : goal.returns
returns c = seen_is_allowed_lem
