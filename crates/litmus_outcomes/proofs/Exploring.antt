-- Outcomes that no execution has, by trying out all of them: whether threads that do these actions can come to an end.
use Rattle.std.proofs.Common.{◌≡◌, ℕ, zero, suc, ◌+◌, ◌<◌, ◌≤◌, ◌==◌, Bool, true, false, cond, not, ◌&&◌, ◌||◌, Some, List, [], ◌∷◌, arith, filter, map, refl, slice_get, sym, ap, ◌∙◌, subst, inl, inr, ◌⊎◌, drop, eq-eqb, ne_eqb}
use Rattle.std.proofs.lemmas.Bool.{and_from, cases_lt, or_left, or_right, both_ways}
use Rattle.std.specs.List.{list_all, list_any, range_with_len}
use Rattle.x86_subset.specs.Test.{LitmusTest}
use Rattle.tso_machine.specs.Machine.{updated}
use Rattle.decision.proofs.Hits.{any_range}
use Rattle.run_witness.proofs.Stands.{mark_at}
use Rattle.litmus_outcomes.specs.Machine.{Action, Writes, Drains, Reads, Fences, Exchanges, Allows, AllowsAll, State, Step, Waiting, end_of, found, next, start}
use Rattle.litmus_outcomes.specs.Outcome.{IsExecution, done_by, is_draining}

abbrev is_nil : {X : Type 0} → List X → Bool
is_nil [] = true
is_nil (x ∷ xs) = false

-- whether the state allows an action that is no drain
abbrev is_allowed : State → ℕ → Action → Bool
is_allowed s t (Writes x v) = true
is_allowed s t (Drains x v) = false
is_allowed s t (Reads x v) = v == found s t x
is_allowed s t Fences = is_nil (s.buffer t)
is_allowed s t (Exchanges x v w) = is_nil (s.buffer t) && (v == s.memory x)

-- whether the first n threads have nothing left to do, and empty store buffers
abbrev is_over : ℕ → State → (ℕ → List Action) → Bool
is_over n s left = list_all (λ t. is_nil (left t) && is_nil (s.buffer t)) (range_with_len 0 n)

-- whether thread t can take a step after which this passes: a drain, or the first action that is left for it
abbrev goes_on : (State → (ℕ → List Action) → Bool) → State → (ℕ → List Action) → ℕ → Bool
goes_on passes s left t =
    elim (s.buffer t) [
      | [] ↦ false
      | w ∷ ws ↦ passes (next s t (Drains w.location w.value)) left
    ]
    || elim (left t) [
      | [] ↦ false
      | a ∷ rest ↦ elim (is_allowed s t a) [
        | true ↦ passes (next s t a) (updated left t rest)
        | false ↦ false
      ]
    ]

-- whether the first n threads may come to an end, where these actions are left for each; it stops after so many steps,
-- and says that they may
abbrev pub may_end : ℕ → ℕ → State → (ℕ → List Action) → Bool
may_end n zero s left = true
may_end n (suc steps) s left =
    is_over n s left || list_any (goes_on (λ r more. may_end n steps r more) s left) (range_with_len 0 n)

-- Where steps come to an end, it says so.

nil_is : {X : Type 0} (xs : List X) → xs ≡ [] → is_nil xs ≡ true
nil_is xs e = ap is_nil e

-- what steps do from a state on
record Ends (n : ℕ) (s : State) (left : ℕ → List Action) (steps : List Step) : Type 0 where
  allowed : AllowsAll s steps
  drained : (t : ℕ) → (end_of s steps).buffer t ≡ []
  does : (t : ℕ) → done_by t steps ≡ left t
  none_left : (t : ℕ) → n ≤ t → left t ≡ []
  none_waits : (t : ℕ) → n ≤ t → s.buffer t ≡ []

all_range : (p : ℕ → Bool) (a k : ℕ) → ((t : ℕ) → p t ≡ true) → list_all p (range_with_len a k) ≡ true
all_range p a zero f = refl
all_range p a (suc k) f = and_from (p a) (list_all p (range_with_len (a + 1) k)) (f a) (all_range p (a + 1) k f)

over_is : (n : ℕ) (s : State) (left : ℕ → List Action) → Ends n s left [] → is_over n s left ≡ true
over_is n s left e =
    all_range (λ t. is_nil (left t) && is_nil (s.buffer t)) 0 n
    (λ t. and_from (is_nil (left t)) (is_nil (s.buffer t)) (nil_is (left t) (sym (e.does t)))
    (nil_is (s.buffer t) (e.drained t)))

abbrev Passes : (State → (ℕ → List Action) → Bool) → ℕ → List Step → Type 0
Passes passes n steps = (s : State) (left : ℕ → List Action) → Ends n s left steps → passes s left ≡ true

below : (n t : ℕ) → (n ≤ t → ⊥) → t < n
below n t f = go (cases_lt t n)
  where
    go : (t < n) ⊎ (n ≤ t) → t < n
    go (inl l) = l
    go (inr l) = absurd (f l)

-- a drain

waiting_first : (ws : List Waiting) (x v : ℕ) (passes : Waiting → Bool)
    → slice_get ws 0 ≡ Some (record { location = x; value = v }) → passes (record { location = x; value = v }) ≡ true
    → elim ws [ [] ↦ false | w ∷ rest ↦ passes w ] ≡ true
waiting_first [] x v passes e h = cc
waiting_first (w ∷ ws) x v passes e h =
    let k : w ≡ record { location = x; value = v } = cc in ap passes k ∙ h

same_done : (t u : ℕ) (action : Action) (steps : List Step) → is_draining action ≡ true
    → done_by u (record { thread = t; action = action } ∷ steps) ≡ done_by u steps
same_done t u action steps h = rw h (go (t == u))
  where
    go : (b : Bool) → map (λ (e : Step). e.action) (cond (b && false) (record { thread = t; action = action }
        ∷ filter (λ (e : Step). (e.thread == u) && not (is_draining e.action)) steps)
        (filter (λ (e : Step). (e.thread == u) && not (is_draining e.action)) steps)) ≡ done_by u steps
    go true = refl
    go false = refl

drain_goes_on : (passes : State → (ℕ → List Action) → Bool) (n : ℕ) (s : State) (left : ℕ → List Action) (t x v : ℕ)
    (steps : List Step) → Passes passes n steps
    → Ends n s left (record { thread = t; action = Drains x v } ∷ steps) → (t < n) × (goes_on passes s left t ≡ true)
drain_goes_on passes n s left t x v steps rec e =
    let after = next s t (Drains x v) in
    let first = e.allowed.0 in
    let there : t < n = below n t (λ l. let k : slice_get {X = Waiting} [] 0
    ≡ Some (record { location = x; value = v }) = ap (λ b. slice_get b 0) (sym (e.none_waits t l)) ∙ first in cc) in
    let ends : Ends n after left steps = record {
      allowed = e.allowed.1;
      drained = e.drained;
      does = λ u. sym (same_done t u (Drains x v) steps refl) ∙ e.does u;
      none_left = e.none_left;
      none_waits = λ u l. mark_at (λ (b : List Waiting). b ≡ []) s.buffer t (drop 1 (s.buffer t)) u
          (λ k. absurd (omega arith)) (λ k. e.none_waits u l);
    } in (
      there,
      or_left (elim (s.buffer t) [ [] ↦ false | w ∷ ws ↦ passes (next s t (Drains w.location w.value)) left ])
          (elim (left t) [
            | [] ↦ false
            | a ∷ rest ↦ elim (is_allowed s t a) [ true ↦ passes (next s t a) (updated left t rest) | false ↦ false ]
          ])
          (waiting_first (s.buffer t) x v (λ w. passes (next s t (Drains w.location w.value)) left) first
          (rec after left ends)),
    )

-- an action

allowed_is : (s : State) (t : ℕ) (a : Action) → is_draining a ≡ false → Allows s t a → is_allowed s t a ≡ true
allowed_is s t (Writes x v) d h = refl
allowed_is s t (Drains x v) d h = cc
allowed_is s t (Reads x v) d h = eq-eqb v (found s t x) h
allowed_is s t Fences d h = nil_is (s.buffer t) h
allowed_is s t (Exchanges x v w) d h =
    and_from (is_nil (s.buffer t)) (v == s.memory x) (nil_is (s.buffer t) h.0) (eq-eqb v (s.memory x) h.1)

left_first : (xs : List Action) (a : Action) (rest : List Action) (allowed : Action → Bool)
    (passes : Action → List Action → Bool) → xs ≡ a ∷ rest → allowed a ≡ true → passes a rest ≡ true
    → elim xs [ [] ↦ false | b ∷ bs ↦ elim (allowed b) [ true ↦ passes b bs | false ↦ false ] ] ≡ true
left_first xs a rest allowed passes e h k =
    let P : List Action → Type 0 = λ z. elim z [
      | [] ↦ false
      | b ∷ bs ↦ elim (allowed b)
          [ true ↦ passes b bs | false ↦ false ]
    ] ≡ true in
    let Q : Bool → Type 0 = λ z. elim z [ true ↦ passes a rest | false ↦ false ] ≡ true in
    subst P (sym e) (subst Q (sym h) k)

done_first : (t : ℕ) (a : Action) (steps : List Step) → is_draining a ≡ false
    → done_by t (record { thread = t; action = a } ∷ steps) ≡ a ∷ done_by t steps
done_first t a steps h = rw (eq-eqb t t refl, h) refl

done_other : (t u : ℕ) (a : Action) (steps : List Step) → (t ≡ u → ⊥)
    → done_by u (record { thread = t; action = a } ∷ steps) ≡ done_by u steps
done_other t u a steps ne = rw (ne_eqb t u ne) refl

no_write_buffer : (s : State) (t u : ℕ) (a : Action) → is_draining a ≡ false → (t ≡ u → ⊥)
    → (next s t a).buffer u ≡ s.buffer u
no_write_buffer s t u (Writes x v) d ne = rw (ne_eqb t u ne) refl
no_write_buffer s t u (Drains x v) d ne = cc
no_write_buffer s t u (Reads x v) d ne = refl
no_write_buffer s t u Fences d ne = refl
no_write_buffer s t u (Exchanges x v w) d ne = refl

act_goes_on : (passes : State → (ℕ → List Action) → Bool) (n : ℕ) (s : State) (left : ℕ → List Action) (t : ℕ)
    (a : Action) (steps : List Step) → is_draining a ≡ false → Passes passes n steps
    → Ends n s left (record { thread = t; action = a } ∷ steps) → (t < n) × (goes_on passes s left t ≡ true)
act_goes_on passes n s left t a steps d rec e =
    let rest = done_by t steps in
    let has : left t ≡ a ∷ rest = sym (e.does t) ∙ done_first t a steps d in
    let there : t < n = below n t (λ l. let k : a ∷ rest ≡ [] = sym has ∙ e.none_left t l in cc) in
    let ends : Ends n (next s t a) (updated left t rest) steps = record {
      allowed = e.allowed.1;
      drained = e.drained;
      does = λ u. mark_at (λ (l : List Action). done_by u steps ≡ l) left t rest u
          (λ k. ap (λ z. done_by z steps) (sym k)) (λ ne. sym (done_other t u a steps ne) ∙ e.does u);
      none_left = λ u l. mark_at (λ (z : List Action). z ≡ []) left t rest u (λ k. absurd (omega arith))
          (λ ne. e.none_left u l);
      none_waits = λ u l. no_write_buffer s t u a d (λ k. omega arith) ∙ e.none_waits u l;
    } in (
      there,
      or_right (elim (s.buffer t) [ [] ↦ false | w ∷ ws ↦ passes (next s t (Drains w.location w.value)) left ])
          (elim (left t) [
            | [] ↦ false
            | b ∷ bs ↦ elim (is_allowed s t b) [ true ↦ passes (next s t b) (updated left t bs) | false ↦ false ]
          ])
          (left_first (left t) a rest (is_allowed s t) (λ b bs. passes (next s t b) (updated left t bs)) has
          (allowed_is s t a d e.allowed.0) (rec (next s t a) (updated left t rest) ends)),
    )

step_goes_on : (passes : State → (ℕ → List Action) → Bool) (n : ℕ) (s : State) (left : ℕ → List Action) (t : ℕ)
    (a : Action) (steps : List Step) → Passes passes n steps
    → Ends n s left (record { thread = t; action = a } ∷ steps) → (t < n) × (goes_on passes s left t ≡ true)
step_goes_on passes n s left t (Writes x v) steps rec e =
    act_goes_on passes n s left t (Writes x v) steps refl rec e
step_goes_on passes n s left t (Drains x v) steps rec e = drain_goes_on passes n s left t x v steps rec e
step_goes_on passes n s left t (Reads x v) steps rec e = act_goes_on passes n s left t (Reads x v) steps refl rec e
step_goes_on passes n s left t Fences steps rec e = act_goes_on passes n s left t Fences steps refl rec e
step_goes_on passes n s left t (Exchanges x v w) steps rec e =
    act_goes_on passes n s left t (Exchanges x v w) steps refl rec e

ends_pass : (n f : ℕ) (steps : List Step) → Passes (may_end n f) n steps
ends_pass n zero steps = λ s left e. refl
ends_pass n (suc f) [] = λ s left e.
    or_left (is_over n s left) (list_any (goes_on (λ r more. may_end n f r more) s left) (range_with_len 0 n))
    (over_is n s left e)
ends_pass n (suc f) (step ∷ steps) = λ s left e.
    let passes = λ (r : State) (more : ℕ → List Action). may_end n f r more in
    let k = step_goes_on passes n s left step.thread step.action steps (ends_pass n f steps) e in
    or_right (is_over n s left) (list_any (goes_on passes s left) (range_with_len 0 n))
    (any_range (goes_on passes s left) 0 n step.thread (omega arith) (omega (arith, k.0)) k.1)

-- where threads that do these actions cannot come to an end, no execution of a test does them
pub no_end_from : {test : LitmusTest} (n f : ℕ) (steps : List Step) (left : ℕ → List Action) → IsExecution test steps
    → ((t : ℕ) → done_by t steps ≡ left t) → ((t : ℕ) → n ≤ t → left t ≡ []) → may_end n f start left ≡ false → ⊥
no_end_from n f steps left x does none never =
    both_ways (may_end n f start left) never (ends_pass n f steps start left (record {
      allowed = x.allowed;
      drained = x.drained;
      does = does;
      none_left = none;
      none_waits = λ t l. refl;
    }))
