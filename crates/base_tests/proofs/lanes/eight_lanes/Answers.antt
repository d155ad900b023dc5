use Rattle.std.proofs.Common.{◌≡◌, ℕ, List, ◌∷◌, [], ◌++◌, refl, sym, ap, ◌∙◌, subst}
use Rattle.tso_words.specs.declared.step.Part.{Part}
use Rattle.tso_words.specs.declared.step.Step.{Step}
use Rattle.tso_words.specs.Views.{AllHome, beside, others, one_part, no_steps}
use Rattle.tso_words.proofs.Eight.{below_eight}
use Rattle.base_tests.proofs.lanes.eight_lanes.Goals as goal

abbrev away : List Part → List Part
away parts = others 7 (others 6 (others 5 (others 4 (others 3 (others 2 (others 1 (others 0 parts)))))))

-- all eight are back, in order
abbrev back : (p q r s t u v w : List Step) → List Part
back p q r s t u v w =
    (((((((away no_steps ++ one_part 0 p) ++ one_part 1 q) ++ one_part 2 r) ++ one_part 3 s) ++ one_part 4 t)
    ++ one_part 5 u) ++ one_part 6 v) ++ one_part 7 w

all_back : (p q r s t u v w : List Step) → AllHome (back p q r s t u v w)
all_back p q r s t u v w number low =
    below_eight (λ n. (steps : List Step) × (beside n (back p q r s t u v w) ≡ steps ∷ []))
    ((p, refl), (q, refl), (r, refl), (s, refl), (t, refl), (u, refl), (v, refl), (w, refl)) number low

-- a number goes, or comes back with its list
lent : (t : ℕ) (before after parts : List Part) → after ≡ others t before → before ≡ parts → after ≡ others t parts
lent t before after parts is same = is ∙ ap (others t) same

come : (t : ℕ) (steps : List Step) (before after parts : List Part) → after ≡ before ++ one_part t steps
    → before ≡ parts → after ≡ parts ++ one_part t steps
come t steps before after parts is same = is ∙ ap (λ ps. ps ++ one_part t steps) same

pub close-done-requires-clause-home : goal.close-done-requires-clause-home
close-done-requires-clause-home g c =
    let none = lent 7 _ _ _ c.lend-seven.ensures.home (lent 6 _ _ _ c.lend-six.ensures.home
    (lent 5 _ _ _ c.lend-five.ensures.home (lent 4 _ _ _ c.lend-four.ensures.home
    (lent 3 _ _ _ c.lend-three.ensures.home (lent 2 _ _ _ c.lend-two.ensures.home
    (lent 1 _ _ _ c.lend-one.ensures.home (lent 0 _ _ _ c.lend-zero.ensures.home c.parts-words.ensures.fresh))))))) in
    let all = come 7 _ _ _ _ c.take_back-8.ensures.home (come 6 _ _ _ _ c.take_back-7.ensures.home
    (come 5 _ _ _ _ c.take_back-6.ensures.home (come 4 _ _ _ _ c.take_back-5.ensures.home
    (come 3 _ _ _ _ c.take_back-4.ensures.home (come 2 _ _ _ _ c.take_back-3.ensures.home
    (come 1 _ _ _ _ c.take_back-2.ensures.home (come 0 _ _ _ _ c.take_back.ensures.home none))))))) in
    subst AllHome (sym all) (all_back c.stepped.result.steps c.stepped-2.result.steps c.stepped-3.result.steps
    c.stepped-4.result.steps c.stepped-5.result.steps c.stepped-6.result.steps c.stepped-7.result.steps
    c.stepped-8.result.steps)
