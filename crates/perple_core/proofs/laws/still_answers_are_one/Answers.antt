use Rattle.perple_core.proofs.Same.{answer_one}
use Rattle.perple_core.proofs.laws.still_answers_are_one.Goals as goal

pub returns : goal.returns
returns c = answer_one
