-- In a faithful test what holds at a frame holds within it.
use Rattle.std.proofs.Common.{◌≡◌, ◌⊎◌, inl, inr, ℕ, ◌+◌, ◌<◌, ◌≤◌, Bool, true, List, [], ◌∷◌, length, sym, ◌∙◌, arith, refl, subst}
use Rattle.std.specs.List.{AllByRecursion as Each, list_all, range_with_len}
use Rattle.std.proofs.lemmas.Bool.{cases_lt}
use Rattle.x86_subset.specs.Conjunctions.{conjunction_of}
use Rattle.tso_machine.specs.Event.{Event}
use Rattle.tso_machine.specs.Frame.{frames_of}
use Rattle.tso_machine.specs.Run.{IsRunOf}
use Rattle.perp_base.proofs.Lists.{any_map, any_same, each_among, each_from_among, each_weaker, filter_same}
use Rattle.profile_check.specs.Profile.{CheckedTest, IsChecked}
use Rattle.profile_check.specs.declared.kind.AtomKind.{AtomKind}
use Rattle.profile_check.proofs.KindLemmas.{Tells}
use Rattle.outcome_conv.specs.Hits.{IsFrame, is_hit}
use Rattle.outcome_conv.specs.Holds.{holds_in}
use Rattle.verdict.specs.Edges.{kinds_in}
use Rattle.verdict.proofs.Forward.{each_all, kinds_tell}
use Rattle.litmus_outcomes.specs.Within.{IsSteady, holds_within, is_steady}
use Rattle.litmus_outcomes.proofs.Possible.{each_below, frames_are}
use Rattle.litmus_outcomes.proofs.Steady.{steady_agrees, steady_hits_are_outcomes_lem}
use Rattle.frames_within.specs.Counting.{is_hit_within}
use Rattle.frames_within.specs.Laws.{FaithfulHitsAreOutcomes, FaithfulHitsAreWithin}
use Rattle.frames_within.specs.Loose.{IsFaithful}

pub faithful_hits_are_outcomes_lem : FaithfulHitsAreOutcomes
faithful_hits_are_outcomes_lem checked n c run frame h faithful there r f holds =
    steady_hits_are_outcomes_lem checked n c run frame h (faithful c there) r f holds

all_same : {X : Type 0} (p q : X → Bool) (xs : List X) → Each (λ x. p x ≡ q x) xs → list_all p xs ≡ list_all q xs
all_same p q [] h = refl
all_same p q (x ∷ xs) h = rw (h.0, all_same p q xs h.1) refl

-- the atoms of a steady conjunction hold at a frame exactly where they hold within it
conjunction_agrees : (checked : CheckedTest) (n c : ℕ) (run : List Event) (frame : List ℕ) → IsChecked checked
    → IsSteady checked c → IsRunOf checked.test n run → IsFrame checked.test n frame
    → list_all (holds_in checked.test run frame) (kinds_in checked c)
    ≡ list_all (holds_within checked.test run frame) (kinds_in checked c)
conjunction_agrees checked n c run frame h steady r f =
    let test = checked.test in
    let kinds = kinds_in checked c in
    let tells = kinds_tell checked c h in
    all_same (holds_in test run frame) (holds_within test run frame) kinds
    (each_from_among (λ kind. holds_in test run frame kind ≡ holds_within test run frame kind) kinds
    (λ kind a. steady_agrees test n run frame kind r f (each_among (Tells test) kind kinds a tells)
    (each_among (λ k. is_steady k ≡ true) kind kinds a (each_all is_steady kinds steady))))

hit_agrees : (checked : CheckedTest) (n : ℕ) (run : List Event) (frame : List ℕ) → IsChecked checked
    → IsFaithful checked → IsRunOf checked.test n run → IsFrame checked.test n frame
    → is_hit checked.test checked.kinds run frame ≡ is_hit_within checked.test checked.kinds run frame
hit_agrees checked n run frame h faithful r f =
    let test = checked.test in
    let ends = test.ends in
    let all = range_with_len 0 (length ends) in
    let p : List AtomKind → Bool = list_all (holds_in test run frame) in
    let q : List AtomKind → Bool = list_all (holds_within test run frame) in
    let at = conjunction_of ends checked.kinds in
    any_map p at all
    ∙ any_same (λ c. p (at c)) (λ c. q (at c)) all
    (each_below (λ c. p (at c) ≡ q (at c)) 0 (length ends) (length ends) (omega arith)
    (λ c there. conjunction_agrees checked n c run frame h (faithful c there) r f))
    ∙ sym (any_map q at all)

pub faithful_hits_are_within_lem : FaithfulHitsAreWithin
faithful_hits_are_within_lem checked n run h faithful r =
    let test = checked.test in
    let frames = frames_of n (length test.bodies) in
    filter_same (is_hit test checked.kinds run) (is_hit_within test checked.kinds run) frames
    (each_weaker (IsFrame test n)
    (λ frame. is_hit test checked.kinds run frame ≡ is_hit_within test checked.kinds run frame)
    (λ frame f. hit_agrees checked n run frame h faithful r f) frames
    (frames_are test n h.test.some_threads))

-- so far no conjunction has a loose atom
pub steady_more : (checked : CheckedTest) (c : ℕ) → ((b : ℕ) → b < c → IsSteady checked b) → IsSteady checked c
    → (b : ℕ) → b < c + 1 → IsSteady checked b
steady_more checked c before here b l = go (cases_lt b c)
  where
    go : (b < c) ⊎ (c ≤ b) → IsSteady checked b
    go (inl less) = before b less
    go (inr more) = let e : c ≡ b = omega arith in subst (IsSteady checked) e here
