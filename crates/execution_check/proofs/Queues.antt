-- What stands in a store buffer and what enters it later leaves it in this order: by the stores that the events name.
use Rattle.std.proofs.Common.{◌≡◌, ℕ, ◌==◌, Bool, true, false, cond, None, Some, List, [], ◌∷◌, ◌++◌, filter, map, drop, slice_get, refl, sym, ap, ◌∙◌, subst, inl, inr, ◌⊎◌, append_assoc, append-nil, eq-eqb, ne_eqb}
use Rattle.std.proofs.lemmas.Bool.{cases_eq}
use Rattle.std.proofs.lemmas.List.{map-append}
use Rattle.x86_subset.specs.Test.{LitmusTest}
use Rattle.seq_conv.specs.Sequence.{Origin}
use Rattle.tso_machine.specs.Event.{Event, Kind, Push, Drain, Read, Fenced, Exchanged, is_drain, is_drain_kind}
use Rattle.tso_machine.specs.Machine.{State, Write}
use Rattle.tso_machine.specs.Part.{part_of}
use Rattle.run_judge.specs.Written.{NeedsBy, StepsBy, Writes, after_by, after_by_as, all_after_by, write_by}
use Rattle.run_judge.proofs.Owned.{other_buffer_by}
use Rattle.execution_check.specs.Steps.{drained, is_push, is_push_kind, origin_of, stored}

-- the store of a write that waits in thread t's buffer
abbrev pub waits_for : ℕ → Write → Origin
waits_for t w = record { thread = t; place = w.place; iteration = w.iteration }

-- what waits and what enters is what leaves
abbrev pub Meets : ℕ → List Write → List Event → Type 0
Meets t buffer es = map (waits_for t) buffer ++ stored t es ≡ drained t es

-- one event more in front

stored_other : (t : ℕ) (e : Event) (es : List Event) → (e.thread == t) ≡ false → stored t (e ∷ es) ≡ stored t es
stored_other t e es h = rw h refl

drained_other : (t : ℕ) (e : Event) (es : List Event) → (e.thread == t) ≡ false → drained t (e ∷ es) ≡ drained t es
drained_other t e es h = rw h refl

stored_own : (e : Event) (es : List Event) (c : Bool) → is_push e ≡ c
    → stored e.thread (e ∷ es) ≡ cond c (origin_of e ∷ stored e.thread es) (stored e.thread es)
stored_own e es true h = rw (eq-eqb e.thread e.thread refl, h) refl
stored_own e es false h = rw (eq-eqb e.thread e.thread refl, h) refl

drained_own : (e : Event) (es : List Event) (c : Bool) → is_drain e ≡ c
    → drained e.thread (e ∷ es) ≡ cond c (origin_of e ∷ drained e.thread es) (drained e.thread es)
drained_own e es true h = rw (eq-eqb e.thread e.thread refl, h) refl
drained_own e es false h = rw (eq-eqb e.thread e.thread refl, h) refl

-- the oldest write is that of the event, where the event drains
abbrev pub Takes : Kind → List Write → Event → Type 0
Takes Push buffer e = Unit {0}
Takes Drain buffer e = (w : Write) × (slice_get buffer 0 ≡ Some w) × (waits_for e.thread w ≡ origin_of e)
Takes (Read v) buffer e = Unit {0}
Takes Fenced buffer e = Unit {0}
Takes (Exchanged v) buffer e = Unit {0}

oldest_first : (t : ℕ) (ws : List Write) (w : Write) → slice_get ws 0 ≡ Some w
    → map (waits_for t) ws ≡ waits_for t w ∷ map (waits_for t) (drop 1 ws)
oldest_first t [] w h = cc
oldest_first t (v ∷ ws) w h = let k : v ≡ w = cc in ap (λ u. waits_for t u ∷ map (waits_for t) ws) k

own_buffer_by : (writes : Writes) (test : LitmusTest) (s : State) (e : Event)
    → (after_by_as writes Push test s e).buffer e.thread ≡ s.buffer e.thread ++ write_by writes test e ∷ []
own_buffer_by writes test s e = rw (eq-eqb e.thread e.thread refl) refl

own_rest_by : (writes : Writes) (test : LitmusTest) (s : State) (e : Event)
    → (after_by_as writes Drain test s e).buffer e.thread ≡ drop 1 (s.buffer e.thread)
own_rest_by writes test s e = rw (eq-eqb e.thread e.thread refl) refl

pushed : (writes : Writes) (test : LitmusTest) (s : State) (e : Event) (rest : List Origin)
    → map (waits_for e.thread) ((after_by_as writes Push test s e).buffer e.thread) ++ rest
    ≡ map (waits_for e.thread) (s.buffer e.thread) ++ origin_of e ∷ rest
pushed writes test s e rest =
    ap (λ b. map (waits_for e.thread) b ++ rest) (own_buffer_by writes test s e)
    ∙ ap (λ l. l ++ rest) (map-append (waits_for e.thread) (s.buffer e.thread) (write_by writes test e ∷ []))
    ∙ append_assoc (map (waits_for e.thread) (s.buffer e.thread)) (origin_of e ∷ []) rest

-- the own queue, from behind an event to in front of it

own_meets_as : (writes : Writes) (test : LitmusTest) (s : State) (e : Event) (es : List Event) (k : Kind) → e.kind ≡ k
    → Takes k (s.buffer e.thread) e → Meets e.thread ((after_by_as writes k test s e).buffer e.thread) es
    → Meets e.thread (s.buffer e.thread) (e ∷ es)
own_meets_as writes test s e es Push h k m =
    ap (λ z. map (waits_for e.thread) (s.buffer e.thread) ++ z) (stored_own e es true (ap is_push_kind h))
    ∙ sym (pushed writes test s e (stored e.thread es)) ∙ m ∙ sym (drained_own e es false (ap is_drain_kind h))
own_meets_as writes test s e es Drain h k m =
    let old = oldest_first e.thread (s.buffer e.thread) k.0 k.1 in
    ap (λ z. map (waits_for e.thread) (s.buffer e.thread) ++ z) (stored_own e es false (ap is_push_kind h))
    ∙ ap (λ z. z ++ stored e.thread es) old
    ∙ ap (λ z. z ∷ (map (waits_for e.thread) (drop 1 (s.buffer e.thread)) ++ stored e.thread es)) k.2
    ∙ ap (λ z. origin_of e ∷ z) (ap (λ b. map (waits_for e.thread) b ++ stored e.thread es)
    (sym (own_rest_by writes test s e)) ∙ m)
    ∙ sym (drained_own e es true (ap is_drain_kind h))
own_meets_as writes test s e es (Read v) h k m =
    ap (λ z. map (waits_for e.thread) (s.buffer e.thread) ++ z) (stored_own e es false (ap is_push_kind h))
    ∙ m ∙ sym (drained_own e es false (ap is_drain_kind h))
own_meets_as writes test s e es Fenced h k m =
    ap (λ z. map (waits_for e.thread) (s.buffer e.thread) ++ z) (stored_own e es false (ap is_push_kind h))
    ∙ m ∙ sym (drained_own e es false (ap is_drain_kind h))
own_meets_as writes test s e es (Exchanged v) h k m =
    ap (λ z. map (waits_for e.thread) (s.buffer e.thread) ++ z) (stored_own e es false (ap is_push_kind h))
    ∙ m ∙ sym (drained_own e es false (ap is_drain_kind h))

takes_as : (writes : Writes) (test : LitmusTest) (s : State) (e : Event) (k : Kind) → NeedsBy writes k test s e
    → Takes k (s.buffer e.thread) e
takes_as writes test s e Push n = tt
takes_as writes test s e Drain n = (write_by writes test e, n, refl)
takes_as writes test s e (Read v) n = tt
takes_as writes test s e Fenced n = tt
takes_as writes test s e (Exchanged v) n = tt

other_meets : (writes : Writes) (test : LitmusTest) (s : State) (e : Event) (es : List Event) (t : ℕ)
    → (e.thread == t) ≡ false → Meets t ((after_by writes test s e).buffer t) es ≡ Meets t (s.buffer t) (e ∷ es)
other_meets writes test s e es t h =
    λ i. map (waits_for t) (other_buffer_by writes test s e t e.kind h i) ++ sym (stored_other t e es h) i
    ≡ sym (drained_other t e es h) i

meets_step : (writes : Writes) (test : LitmusTest) (s : State) (e : Event) (es : List Event) (t : ℕ)
    → Takes e.kind (s.buffer e.thread) e → Meets t ((after_by writes test s e).buffer t) es
    → (e.thread ≡ t) ⊎ (e.thread ≡ t → ⊥) → Meets t (s.buffer t) (e ∷ es)
meets_step writes test s e es t k m (inl same) =
    let P : ℕ → Type 0 = λ u. Meets u ((after_by writes test s e).buffer u) es → Meets u (s.buffer u) (e ∷ es) in
    subst P same (own_meets_as writes test s e es e.kind refl k) m
meets_step writes test s e es t k m (inr ne) =
    let P : Type 0 → Type 0 = λ z. z in
    subst P (other_meets writes test s e es t (ne_eqb e.thread t ne)) m

-- events that lead to an empty buffer
pub meets_all : (writes : Writes) (test : LitmusTest) (s : State) (es : List Event) (t : ℕ) → StepsBy writes test s es
    → (all_after_by writes test s es).buffer t ≡ [] → Meets t (s.buffer t) es
meets_all writes test s [] t h q = ap (λ b. map (waits_for t) b ++ []) q
meets_all writes test s (e ∷ es) t h q =
    meets_step writes test s e es t (takes_as writes test s e e.kind h.0)
    (meets_all writes test (after_by writes test s e) es t h.1 q) (cases_eq e.thread t)

-- and from in front of an event to behind it

own_behind_as : (writes : Writes) (test : LitmusTest) (s : State) (e : Event) (es : List Event) (k : Kind)
    → e.kind ≡ k → Takes k (s.buffer e.thread) e → Meets e.thread (s.buffer e.thread) (e ∷ es)
    → Meets e.thread ((after_by_as writes k test s e).buffer e.thread) es
own_behind_as writes test s e es Push h k m =
    pushed writes test s e (stored e.thread es)
    ∙ ap (λ z. map (waits_for e.thread) (s.buffer e.thread) ++ z) (sym (stored_own e es true (ap is_push_kind h)))
    ∙ m ∙ drained_own e es false (ap is_drain_kind h)
own_behind_as writes test s e es Drain h k m =
    let old = oldest_first e.thread (s.buffer e.thread) k.0 k.1 in
    let whole : waits_for e.thread k.0 ∷ (map (waits_for e.thread) (drop 1 (s.buffer e.thread)) ++ stored e.thread es)
    ≡ origin_of e ∷ drained e.thread es =
    ap (λ z. z ++ stored e.thread es) (sym old)
    ∙ ap (λ z. map (waits_for e.thread) (s.buffer e.thread) ++ z) (sym (stored_own e es false (ap is_push_kind h)))
    ∙ m ∙ drained_own e es true (ap is_drain_kind h) in
    ap (λ b. map (waits_for e.thread) b ++ stored e.thread es) (own_rest_by writes test s e) ∙ cc
own_behind_as writes test s e es (Read v) h k m =
    ap (λ z. map (waits_for e.thread) (s.buffer e.thread) ++ z) (sym (stored_own e es false (ap is_push_kind h)))
    ∙ m ∙ drained_own e es false (ap is_drain_kind h)
own_behind_as writes test s e es Fenced h k m =
    ap (λ z. map (waits_for e.thread) (s.buffer e.thread) ++ z) (sym (stored_own e es false (ap is_push_kind h)))
    ∙ m ∙ drained_own e es false (ap is_drain_kind h)
own_behind_as writes test s e es (Exchanged v) h k m =
    ap (λ z. map (waits_for e.thread) (s.buffer e.thread) ++ z) (sym (stored_own e es false (ap is_push_kind h)))
    ∙ m ∙ drained_own e es false (ap is_drain_kind h)

pub meets_behind : (writes : Writes) (test : LitmusTest) (s : State) (e : Event) (es : List Event) (t : ℕ)
    → Takes e.kind (s.buffer e.thread) e → Meets t (s.buffer t) (e ∷ es)
    → (e.thread ≡ t) ⊎ (e.thread ≡ t → ⊥) → Meets t ((after_by writes test s e).buffer t) es
meets_behind writes test s e es t k m (inl same) =
    let P : ℕ → Type 0 = λ u. Meets u (s.buffer u) (e ∷ es) → Meets u ((after_by writes test s e).buffer u) es in
    subst P same (own_behind_as writes test s e es e.kind refl k) m
meets_behind writes test s e es t k m (inr ne) =
    let P : Type 0 → Type 0 = λ z. z in
    subst P (sym (other_meets writes test s e es t (ne_eqb e.thread t ne))) m

-- where the event drains, the oldest write that waits is that of its store
pub first_taken : (t : ℕ) (ws : List Write) (e : Event) (es : List Event) → e.thread ≡ t → is_drain e ≡ true
    → is_push e ≡ false → (ws ≡ [] → ⊥) → Meets t ws (e ∷ es) → (w : Write) × (slice_get ws 0 ≡ Some w)
    × (waits_for e.thread w ≡ origin_of e)
first_taken t [] e es h d p some m = absurd (some refl)
first_taken t (w ∷ ws) e es h d p some m =
    let P : ℕ → Type 0 = λ u. Meets u (w ∷ ws) (e ∷ es) in
    let own : Meets e.thread (w ∷ ws) (e ∷ es) = subst P (sym h) m in
    let whole : waits_for e.thread w ∷ (map (waits_for e.thread) ws ++ stored e.thread (e ∷ es))
    ≡ origin_of e ∷ drained e.thread es = own ∙ drained_own e es true d in
    (w, refl, (let k : waits_for e.thread w ≡ origin_of e = cc in k))
