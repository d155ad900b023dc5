use Rattle.once.proofs.Ordered.{ordered_is_shown_lem}
use Rattle.once.proofs.laws.ordered_is_shown.Goals as goal

pub returns : goal.returns
returns c = ordered_is_shown_lem
