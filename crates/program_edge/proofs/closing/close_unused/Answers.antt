use Rattle.std.proofs.Common.{sym, ap, ◌∙◌, subst}
use Rattle.tso_words.specs.History.{eight}
use Rattle.tso_words.specs.Views.{AllHome, list_of}
use Rattle.tso_words.proofs.Homes.{AllHome-no_steps, words_of_none}
use Rattle.program_edge.proofs.closing.close_unused.Goals as goal

pub close-requires-clause-home : goal.close-requires-clause-home
close-requires-clause-home c = subst AllHome (sym c.parts-words.ensures.fresh) AllHome-no_steps

pub returns-clause-still : goal.returns-clause-still
returns-clause-still c =
    let none = c.close.ensures.lists ∙ ap (λ ps. eight (λ t. list_of t ps)) c.parts-words.ensures.fresh in
    record { steps = none; memory = words_of_none c.close.result.words c.close.result.lists c.close.ensures.whole none }
