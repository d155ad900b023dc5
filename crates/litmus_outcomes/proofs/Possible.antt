-- What is seen in runs is an outcome of the test, and each outcome can be seen.
use Rattle.std.proofs.Common.{◌≡◌, ◌↔◌, ℕ, zero, suc, ◌+◌, ◌*◌, ◌^◌, ◌<◌, ◌≤◌, Bool, true, Ok, Some, List, [], ◌∷◌, arith, filter, length, map, refl, sym, ◌∙◌, subst}
use native.Mathlib.Nat.{pow-suc}
use Rattle.std.proofs.lemmas.Bool.{both_ways, false_from_ne_true}
use Rattle.std.proofs.lemmas.List.Elements.{All-from_recursion, recursion_from_All}
use Rattle.std.specs.List.{AllZip, AllByRecursion as Each, list_all, list_any, range_with_len}
use Rattle.x86_subset.specs.Conjunctions.{conjunction_of, some_conjunction}
use Rattle.x86_subset.specs.Test.{LitmusTest}
use Rattle.x86_subset.specs.declared.test.Atom.{Atom}
use Rattle.x86_subset.proofs.Conjoined.{zip_of}
use Rattle.tso_machine.specs.Event.{Event}
use Rattle.tso_machine.specs.Frame.{frame_of, frames_of}
use Rattle.tso_machine.specs.Run.{IsRunOf}
use Rattle.perp_base.proofs.Lists.{any_map, each_among, each_zip, filter_split}
use Rattle.profile_check.specs.Kinds.{kind_of}
use Rattle.profile_check.specs.Profile.{CheckedTest, IsChecked}
use Rattle.profile_check.specs.declared.kind.AtomKind.{AtomKind}
use Rattle.outcome_conv.specs.Hits.{IsFrame, hits_of, is_hit}
use Rattle.outcome_conv.specs.Holds.{holds_in}
use Rattle.outcome_conv.proofs.Agree.{frame_is}
use Rattle.verdict.specs.Edges.{edge_in, is_cycle_of, kinds_in}
use Rattle.verdict.proofs.Finds.{any_found}
use Rattle.verdict.proofs.Forward.{cycles_forbid_lem, each_all}
use Rattle.decision.specs.Shown.{zeros}
use Rattle.decision.proofs.Deciding.{zeros_frame}
use Rattle.decision.proofs.Finish.{all_from, no_cycle_is_shown_lem}
use Rattle.decision.proofs.Longer.{each_length_has_a_hit_lem}
use Rattle.litmus_outcomes.specs.Laws.{HitsAreOutcomes, NeverIsImpossible, OnceIsTheTest, OutcomesAreCountable}
use Rattle.litmus_outcomes.specs.Machine.{Step}
use Rattle.litmus_outcomes.specs.Outcome.{HasOutcome, final_value}
use Rattle.litmus_outcomes.proofs.Atoms.{atom_agrees}
use Rattle.litmus_outcomes.proofs.Images.{is_execution, steps_of}
use Rattle.litmus_outcomes.proofs.Rebuilt.{imaged}

pub each_back : {A B : Type 0} (R : A → B → Type 0) (P : A → Type 0) (Q : B → Type 0)
    → ((a : A) (b : B) → R a b → Q b → P a) → (xs : List A) (ys : List B) → AllZip R xs ys → Each Q ys → Each P xs
each_back R P Q f [] [] h k = tt
each_back R P Q f [] (y ∷ ys) h k = absurd h
each_back R P Q f (x ∷ xs) [] h k = absurd h
each_back R P Q f (x ∷ xs) (y ∷ ys) h k = (f x y h.0 k.0, each_back R P Q f xs ys h.1 k.1)

-- a conjunction holds at the one frame of a run of one iteration exactly where it is the outcome of its image
outcome_agrees : (checked : CheckedTest) (c : ℕ) (run : List Event) → IsChecked checked → IsRunOf checked.test 1 run
    → HasOutcome checked.test c (steps_of checked.test run)
    ↔ (list_all (holds_in checked.test run (zeros checked.test)) (kinds_in checked c) ≡ true)
outcome_agrees checked c run h r =
    let test = checked.test in
    let atoms = conjunction_of test.ends test.atoms c in
    let kinds = kinds_in checked c in
    let p = holds_in test run (zeros test) in
    let R : Atom → AtomKind → Type 0 = λ atom kind. kind_of test atom ≡ Ok kind in
    let P : Atom → Type 0 = λ atom. final_value test (steps_of test run) atom.thread atom.reg ≡ Some atom.value in
    let Q : AtomKind → Type 0 = λ kind. p kind ≡ true in
    let zip : AllZip R atoms kinds = zip_of R test.ends test.atoms checked.kinds c h.kinds in (
      λ m. all_from p kinds (each_zip R P Q (λ atom kind e. (atom_agrees test run atom kind h.test.holds_reads r e).0)
          atoms kinds zip (recursion_from_All P atoms m)),
      λ m. All-from_recursion P atoms (each_back R P Q
          (λ atom kind e. (atom_agrees test run atom kind h.test.holds_reads r e).1) atoms kinds zip
          (each_all p kinds m)),
    )

pub once_is_the_test_lem : OnceIsTheTest
once_is_the_test_lem checked c h = (
  λ s. (
    steps_of checked.test s.0,
    is_execution checked.test s.0 s.1.0,
    (outcome_agrees checked c s.0 h s.1.0).1 s.1.1,
  ),
  λ p.
      let i = imaged checked.test p.0 p.1 in
      let P : List Step → Type 0 = λ z. HasOutcome checked.test c z in
      (i.run, (i.is_run, (outcome_agrees checked c i.run h i.is_run).0 (subst P (sym i.image) p.2))),
)

pub hits_are_outcomes_lem : HitsAreOutcomes
hits_are_outcomes_lem checked n c run frame h o r f holds =
    (once_is_the_test_lem checked c h).0 (no_cycle_is_shown_lem checked c h o
    (λ cycle. false_from_ne_true (is_cycle_of (edge_in checked c) cycle)
    (λ k. both_ways (list_all (holds_in checked.test run frame) (kinds_in checked c))
    (cycles_forbid_lem checked n c run frame cycle h r f k) holds)))

-- A hit is a frame at which some conjunction holds.

pub each_below : (P : ℕ → Type 0) (a k n : ℕ) → a + k ≤ n → ((i : ℕ) → i < n → P i) → Each P (range_with_len a k)
each_below P a zero n l f = tt
each_below P a (suc k) n l f = (f a (omega arith), each_below P (a + 1) k n (omega arith) f)

each_map : {X Y : Type 0} (P : Y → Type 0) (f : X → Y) → ((x : X) → P (f x)) → (xs : List X) → Each P (map f xs)
each_map P f g [] = tt
each_map P f g (x ∷ xs) = (g x, each_map P f g xs)

zero_power : (t : ℕ) → 1 ≤ t → 0 ^ t ≡ 0
zero_power zero some = absurd (omega arith)
zero_power (suc t) some = let e : 0 ^ suc t ≡ 0 ^ t * 0 = pow-suc 0 t in omega arith

-- a frame at which all atoms of a conjunction pass a test
pub record HitBy (checked : CheckedTest) (n : ℕ) (passes : List ℕ → AtomKind → Bool) : Type 0 where
  pub frame : List ℕ
  pub is_frame : IsFrame checked.test n frame
  pub conjunction : ℕ
  pub there : conjunction < length checked.test.ends
  pub holds : list_all (passes frame) (kinds_in checked conjunction) ≡ true

-- and at which they hold
abbrev pub HitAt : CheckedTest → ℕ → List Event → Type 0
HitAt checked n run = HitBy checked n (holds_in checked.test run)

pub frames_are : (test : LitmusTest) (n : ℕ) → 1 ≤ length test.bodies
    → Each (IsFrame test n) (frames_of n (length test.bodies))
frames_are test zero some =
    let P : ℕ → Type 0 = λ k. Each (IsFrame test 0) (map (frame_of 0 (length test.bodies)) (range_with_len 0 k)) in
    subst P (sym (zero_power (length test.bodies) some)) tt
frames_are test (suc n) some =
    each_map (IsFrame test (suc n)) (frame_of (suc n) (length test.bodies))
    (λ number. frame_is test (suc n) number (omega arith)) (range_with_len 0 (suc n ^ length test.bodies))

pub hit_by : (checked : CheckedTest) (n : ℕ) (passes : List ℕ → AtomKind → Bool) (hits : List (List ℕ))
    → IsChecked checked
    → filter (λ frame. some_conjunction (passes frame) checked.test.ends checked.kinds)
    (frames_of n (length checked.test.bodies)) ≡ hits → (hits ≡ [] → ⊥) → HitBy checked n passes
hit_by checked n passes [] h e some = absurd (some refl)
hit_by checked n passes (frame ∷ hits) h e some =
    let test = checked.test in
    let q : List ℕ → Bool = λ f. some_conjunction (passes f) test.ends checked.kinds in
    let s = filter_split q (frames_of n (length test.bodies)) [] frame hits e in
    let p = list_all (passes frame) in
    let any : list_any (λ c. p (conjunction_of test.ends checked.kinds c)) (range_with_len 0 (length test.ends))
    ≡ true =
    sym (any_map p (conjunction_of test.ends checked.kinds) (range_with_len 0 (length test.ends))) ∙ s.passes in
    let f = any_found (λ c. p (conjunction_of test.ends checked.kinds c)) (range_with_len 0 (length test.ends)) any in
    record {
      frame = frame;
      is_frame =
          each_among (IsFrame test n) frame (frames_of n (length test.bodies))
          (record { front = s.before; rest = s.after; whole = s.whole }) (frames_are test n h.test.some_threads);
      conjunction = f.here;
      there =
          each_among (λ c. c < length test.ends) f.here (range_with_len 0 (length test.ends)) f.among
          (each_below (λ c. c < length test.ends) 0 (length test.ends) (length test.ends) (omega arith) (λ c l. l));
      holds = f.passes;
    }

pub hit_at : (checked : CheckedTest) (n : ℕ) (run : List Event) (hits : List (List ℕ)) → IsChecked checked
    → hits_of checked.test checked.kinds n run ≡ hits → (hits ≡ [] → ⊥) → HitAt checked n run
hit_at checked n run hits h e some = hit_by checked n (holds_in checked.test run) hits h e some

pub outcomes_are_countable_lem : OutcomesAreCountable
outcomes_are_countable_lem checked n c h there p l =
    let s = (once_is_the_test_lem checked c h).1 p in
    each_length_has_a_hit_lem checked c s.0 n h there s.1 l

pub never_is_impossible_lem : NeverIsImpossible
never_is_impossible_lem checked c h never p =
    let s = (once_is_the_test_lem checked c h).1 p in
    both_ways (list_all (holds_in checked.test s.0 (zeros checked.test)) (kinds_in checked c))
    (never 1 s.0 (zeros checked.test) s.1.0 (zeros_frame checked.test)) s.1.1
