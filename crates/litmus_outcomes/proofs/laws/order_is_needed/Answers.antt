use Rattle.litmus_outcomes.proofs.Unordered.{order_is_needed_lem}
use Rattle.litmus_outcomes.proofs.laws.order_is_needed.Goals as goal

pub returns : goal.returns
returns c = order_is_needed_lem
