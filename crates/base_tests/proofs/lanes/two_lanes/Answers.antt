use Rattle.std.proofs.Common.{◌≡◌, List, [], ◌∷◌, ◌++◌, refl, sym, ap, ◌∙◌, subst}
use Rattle.tso_words.specs.declared.step.Step.{Step}
use Rattle.tso_words.specs.Views.{AllHome, beside, others, one_part, no_steps}
use Rattle.tso_words.proofs.Eight.{below_eight}
use Rattle.base_tests.proofs.lanes.two_lanes.Goals as goal

all_back : (a b : List Step) → AllHome ((others 1 (others 0 no_steps) ++ one_part 0 a) ++ one_part 1 b)
all_back a b t h =
    let parts = (others 1 (others 0 no_steps) ++ one_part 0 a) ++ one_part 1 b in
    below_eight (λ t. (steps : List Step) × (beside t parts ≡ steps ∷ []))
    ((a, refl), (b, refl), ([], refl), ([], refl), ([], refl), ([], refl), ([], refl), ([], refl)) t h

pub close-done-requires-clause-home : goal.close-done-requires-clause-home
close-done-requires-clause-home g c =
    let first : c.lane.result.thread ≡ 0 = ap (λ l. l.thread) c.lane.ensures ∙ c.swap.ensures.stays.1
    ∙ c.drain.ensures.stays.1 ∙ ap (λ l. l.thread) c.new-one.ensures ∙ c.lend-first.ensures.lane.0 in
    let second : c.lane-2.result.thread ≡ 1 = ap (λ l. l.thread) c.lane-2.ensures ∙ c.load.ensures.stays.1
    ∙ ap (λ l. l.thread) c.new-two.ensures ∙ c.lend-second.ensures.lane.0 in
    let home = c.lend-second.ensures.home ∙ ap (others 1) (c.lend-first.ensures.home
    ∙ ap (others 0) c.parts-words.ensures.fresh) in
    let back =
    c.take_back-2.ensures.home ∙ ap (λ ps. ps ++ one_part c.lane-2.result.thread c.lane-2.result.steps)
    c.take_back.ensures.home
    ∙ ap (λ t. (c.lend-second.new.self.parts ++ one_part c.lane.result.thread c.lane.result.steps)
    ++ one_part t c.lane-2.result.steps) second
    ∙ ap (λ t. (c.lend-second.new.self.parts ++ one_part t c.lane.result.steps) ++ one_part 1 c.lane-2.result.steps)
    first
    ∙ ap (λ ps. (ps ++ one_part 0 c.lane.result.steps) ++ one_part 1 c.lane-2.result.steps) home
    in subst AllHome (sym back) (all_back c.lane.result.steps c.lane-2.result.steps)
