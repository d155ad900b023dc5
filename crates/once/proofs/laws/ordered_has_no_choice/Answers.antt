use Rattle.once.proofs.Ordered.{ordered_has_no_choice_lem}
use Rattle.once.proofs.laws.ordered_has_no_choice.Goals as goal

pub returns : goal.returns
returns c = ordered_has_no_choice_lem
