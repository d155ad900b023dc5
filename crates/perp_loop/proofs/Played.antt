-- A walker's step is the next turn of its thread in the state.
use Rattle.std.proofs.Common.{◌≡◌, ◌∙◌, refl, sym, ap, subst, ℕ, zero, suc, ◌+◌, ◌==◌, false, not, if◌then◌else◌, Some, List, [], ◌∷◌, ◌++◌, length, map, filter, drop, slice_get, arith, append_assoc, append-nil}
use Rattle.std.proofs.lemmas.List.{append_cancel_left, map-append}
use Rattle.std.proofs.lemmas.List.Elements.{filter-append}
use Rattle.std.proofs.lemmas.List.Sums.{sum_by-append, sum_by-cons}
use Rattle.x86_subset.specs.Test.{LitmusTest}
use Rattle.tso_machine.specs.Event.{Event, is_drain}
use Rattle.tso_machine.specs.Machine.{State, Steps, Write, after, after_all}
use Rattle.tso_machine.specs.Part.{Agrees, KeepsBuffer, Slot, own_after}
use Rattle.tso_words.specs.History.{History, history_part}
use Rattle.tso_words.specs.Traces.{entries}
use Rattle.tso_words.specs.declared.step.Step.{Step}
use Rattle.tso_words.specs.declared.step.TracedStep.{TracedStep}
use Rattle.perp_base.specs.declared.options.Options.{Options}
use Rattle.tso_runs.specs.SharedSteps.{shared_history, shared_steps, steps_of}
use Rattle.tso_runs.specs.Turns.{IsTurnBefore, turns_of}
use Rattle.tso_runs.proofs.Cuts.{AreDrains, drain_turn, drains_alone, turns_front}
use Rattle.perp_loop.specs.Walking.{actions_in}
use Rattle.tso_runs.proofs.Events.{buffer_own, history_part-tagged_own, memory_traced, needs_from, tagged, traced}
use Rattle.tso_runs.proofs.Memories.{FindsAll}
use Rattle.tso_runs.proofs.Rest.{IsRest}
use Rattle.tso_runs.proofs.Runs.{FindsAll-back}
use Rattle.tso_runs.specs.Own.{drain_event}
use Rattle.tso_runs.proofs.Turns.{AreOf, all_drain, drains_of, end_split, gives_no_drain, next_by, nothing_left, split, taken, turn_by}

-- Histories.

pub shared_history-append : (test : LitmusTest) (s : State) (xs ys : List Event)
    → shared_history test s (xs ++ ys) ≡ shared_history test s xs ++ shared_history test (after_all test s xs) ys
shared_history-append test s [] ys = refl
shared_history-append test s (x ∷ xs) ys =
    ap (λ l. traced test (s.buffer x.thread) x ++ l) (shared_history-append test (after test s x) xs ys)
    ∙ sym (append_assoc (traced test (s.buffer x.thread) x) (shared_history test (after test s x) xs)
    (shared_history test (after_all test (after test s x) xs) ys))

pub entries_of : (test : LitmusTest) (s : State) (t : ℕ) (es : List Event) → AreOf t es
    → shared_history test s es ≡ entries t (shared_steps test (s.buffer t) es)
entries_of test s t [] own = refl
entries_of test s t (e ∷ es) own =
    ap (λ (u : ℕ). map (tagged u) (steps_of test (s.buffer u) e) ++ shared_history test (after test s e) es) own.0
    ∙ ap (λ (l : History). map (tagged t) (steps_of test (s.buffer t) e) ++ l)
    (entries_of test (after test s e) t es own.1
    ∙ ap (λ (b : List Write). entries t (shared_steps test b es)) (buffer_own test s e t own.0))
    ∙ sym (map-append (tagged t) (steps_of test (s.buffer t) e) (shared_steps test (own_after test (s.buffer t) e) es))

history_part-append : (t : ℕ) (h k : History) → history_part t (h ++ k) ≡ history_part t h ++ history_part t k
history_part-append t h k =
    ap (map (λ (s : TracedStep). s.step)) (filter-append (λ (s : TracedStep). s.thread == t) h k)
    ∙ map-append (λ (s : TracedStep). s.step) (filter (λ (s : TracedStep). s.thread == t) h)
    (filter (λ (s : TracedStep). s.thread == t) k)

-- what a history gained is what its thread's list gained
pub gained_is : (t : ℕ) (h : History) (gained more : List Step)
    → history_part t (h ++ entries t gained) ≡ history_part t h ++ more → gained ≡ more
gained_is t h gained more is =
    let own : history_part t (entries t gained) ≡ gained =
    ap (history_part t) (sym (append-nil (entries t gained))) ∙ history_part-tagged_own t t gained [] refl
    ∙ append-nil gained
    in
    append_cancel_left (history_part t h) gained more (ap (λ l. history_part t h ++ l) (sym own)
    ∙ sym (history_part-append t h (entries t gained)) ∙ is)

-- events of a thread can come where its buffer agrees and the memory is found
pub steps_from : (test : LitmusTest) (s : State) (t : ℕ) (es rest : List Event) → AreOf t es
    → KeepsBuffer test (s.buffer t) (es ++ rest) → FindsAll s.memory (shared_history test s es) → Steps test s es
steps_from test s t [] rest own keeps finds = tt
steps_from test s t (e ∷ es) rest own keeps finds = (
  needs_from test s e (shared_history test (after test s e) es)
      (subst (λ (u : ℕ). Agrees test (s.buffer u) e) (sym own.0) keeps.0) finds,
  steps_from test (after test s e) t es rest own.1
      (subst (λ (b : List Write). KeepsBuffer test b (es ++ rest)) (sym (buffer_own test s e t own.0)) keeps.1)
      (subst (λ (m : ℕ → ℕ). FindsAll m (shared_history test (after test s e) es)) (memory_traced test s e)
      (FindsAll-back s.memory (traced test (s.buffer e.thread) e) (shared_history test (after test s e) es) finds)),
)

-- Turns.

pub no_actions : (ds : List Event) → AreDrains ds → actions_in ds ≡ 0
no_actions [] drains = refl
no_actions (d ∷ ds) drains =
    sum_by-cons (λ (e : Event). if not (is_drain e) then 1 else 0) d ds
    ∙ omega (arith, no_actions ds drains.1, ap {B = ℕ} (λ b. if not b then 1 else 0) drains.0)

pub one_action : (ds : List Event) (e : Event) → AreDrains ds → is_drain e ≡ false → actions_in (ds ++ e ∷ []) ≡ 1
one_action ds e drains acts =
    let one : actions_in (e ∷ []) ≡ 1 = ap (λ b. 0 + (if not b then 1 else 0)) acts in
    sum_by-append (λ (e : Event). if not (is_drain e) then 1 else 0) ds (e ∷ [])
    ∙ omega (arith, no_actions ds drains, one)

drop_next : {X : Type 0} (m : ℕ) (xs : List X) (y : X) (ys : List X) → drop m xs ≡ y ∷ ys → drop (suc m) xs ≡ ys
drop_next zero [] y ys h = cc
drop_next zero (x ∷ xs) y ys h = cc
drop_next (suc m) [] y ys h = cc
drop_next (suc m) (x ∷ xs) y ys h = drop_next m xs y ys h

-- a part begins with one turn
same_first : (turn other rest : List Event) (others : List (List Event)) → IsTurnBefore turn rest
    → turns_of (turn ++ rest) ≡ other ∷ others → turn ≡ other
same_first turn other rest others before cut =
    let heads : Some turn ≡ Some other = ap (λ l. slice_get l 0) (sym before ∙ cut) in cc

-- no part begins with a turn where it is empty
some_turn : (turn rest : List Event) → IsTurnBefore turn rest → turn ++ rest ≡ [] → ⊥
some_turn [] rest before none = let more = ap length before in omega arith
some_turn (e ∷ es) rest before none = cc

module _ (test : LitmusTest) (options : Options) (t : ℕ) where
  -- the turn that a walker took is that of the state
  pub same_turn : (s : State) (slots : List Slot) (j : ℕ) (buffer : List Write) (turn rest : List Event)
      → IsTurnBefore turn rest → IsRest test options t slots buffer j 0 (turn ++ rest) → Steps test s turn
      → turn ≡ turn_by test options t s slots j buffer
  same_turn s slots j buffer turn rest before r steps =
      let h = taken test options t s slots j buffer (turn ++ rest) r in
      let same = same_first turn h.turn rest _ before h.cut in
      same ∙ h.is (subst (Steps test s) same steps)

  -- where a slot is left, the turn has one action
  acts : (slot : Slot) (slots : List Slot) (j : ℕ) (buffer : List Write) (turn rest : List Event)
      → IsTurnBefore turn rest → IsRest test options t (slot ∷ slots) buffer j 0 (turn ++ rest) → actions_in turn ≡ 1
  acts slot slots j buffer turn rest before r =
      let h = split test options t slot slots buffer j 0 (turn ++ rest) r in
      let ds = drains_of t h.count buffer in
      let drains = all_drain t h.count buffer in
      let action = gives_no_drain slot.action h.here.kind h.fills.kind in
      let is = same_first turn (ds ++ h.here ∷ []) rest _ before (ap turns_of h.whole
      ∙ turns_front [] ds h.here h.later drains action) in
      ap actions_in is ∙ one_action ds h.here drains action

  -- and none after the last one
  drains_alone_there : (j : ℕ) (w : Write) (ws : List Write) (turn rest : List Event) → IsTurnBefore turn rest
      → IsRest test options t [] (w ∷ ws) j 0 (turn ++ rest) → actions_in turn ≡ 0
  drains_alone_there j w ws turn rest before r =
      let h = end_split test options t w ws j (turn ++ rest) r in
      let d = drain_event t w in
      let is = same_first turn (d ∷ []) rest _ before (ap turns_of h.whole
      ∙ drain_turn d h.later refl (drains_alone t h.later h.rest.fills)) in
      ap actions_in is

  -- what is to do after it is what the walker has left
  pub next_left : (all slots : List Slot) (j made : ℕ) (buffer : List Write) (turn rest : List Event)
      → drop j all ≡ slots → made ≡ j + actions_in turn → IsTurnBefore turn rest
      → IsRest test options t slots buffer j 0 (turn ++ rest)
      → next_by test options t slots j buffer ≡ Some (record { slots = drop made all; made = made })
  next_left all (slot ∷ slots) j made buffer turn rest left more before r =
      let one = acts slot slots j buffer turn rest before r in
      let made_is : suc j ≡ made = omega arith in
      let plus : j + 1 ≡ suc j = omega arith in
      let slots_are : slots ≡ drop made all = sym (drop_next j all slot slots left) ∙ ap (λ m. drop m all) made_is in
      λ i. Some (record { slots = slots_are i; made = (plus ∙ made_is) i })
  next_left all [] j made (w ∷ ws) turn rest left more before r =
      let none = drains_alone_there j w ws turn rest before r in
      let made_is : j ≡ made = omega arith in
      let slots_are : [] ≡ drop made all = sym left ∙ ap (λ m. drop m all) made_is in
      λ i. Some (record { slots = slots_are i; made = made_is i })
  next_left all [] j made [] turn rest left more before r =
      absurd (some_turn turn rest before (nothing_left test options t j (turn ++ rest) r))
