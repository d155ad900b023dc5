use Rattle.std.proofs.Common.{sym, subst}
use Rattle.tso_words.specs.Views.{AllHome}
use Rattle.tso_words.proofs.Homes.{AllHome-no_steps}
use Rattle.base_tests.proofs.lanes.an_untouched_field_closes_with_words_of_0.Goals as goal

pub close-done-requires-clause-home : goal.close-done-requires-clause-home
close-done-requires-clause-home g c = subst AllHome (sym c.parts-words.ensures.fresh) AllHome-no_steps
