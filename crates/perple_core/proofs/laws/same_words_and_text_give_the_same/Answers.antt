use Rattle.perple_core.proofs.Same.{calls_one}
use Rattle.perple_core.proofs.laws.same_words_and_text_give_the_same.Goals as goal

pub returns : goal.returns
returns c = calls_one
