-- What waits in buffers, whatever stores write: each thread's writes are those of its own events.
use Rattle.std.proofs.Common.{◌≡◌, ℕ, ◌==◌, Bool, true, false, cond, Some, List, [], ◌∷◌, ◌++◌, drop, slice_get, refl, sym, ap, ◌∙◌, subst}
use Rattle.std.proofs.lemmas.Bool.{and_parts, eqb-true}
use Rattle.std.specs.List.{AllByRecursion as Each}
use Rattle.x86_subset.specs.Test.{LitmusTest}
use Rattle.tso_machine.specs.Event.{Event, Kind, Push, Drain, Read, Fenced, Exchanged}
use Rattle.tso_machine.specs.Machine.{State, Write, NeedsAs, Steps, after, after_all, after_as, initial}
use Rattle.tso_machine.specs.Run.{IsRunOf}
use Rattle.perp_base.proofs.Lists.{each_append}
use Rattle.run_judge.specs.Judgement.{is_named, is_of_write, judgement_from, judgement_of}
use Rattle.run_judge.specs.Written.{IsRunWith, NeedsBy, StepsBy, Writes, after_by, after_by_as, all_after_by, judgement_with, reached_by, sequence_value, write_by}

-- with k*n + a the machine is that of perpetual loops

same_as : (test : LitmusTest) (s : State) (e : Event) (k : Kind)
    → after_by_as (sequence_value test) k test s e ≡ after_as k test s e
same_as test s e Push = refl
same_as test s e Drain = refl
same_as test s e (Read v) = refl
same_as test s e Fenced = refl
same_as test s e (Exchanged v) = refl

all_same : (test : LitmusTest) (s : State) (es : List Event)
    → all_after_by (sequence_value test) test s es ≡ after_all test s es
all_same test s [] = refl
all_same test s (e ∷ es) =
    ap (λ z. all_after_by (sequence_value test) test z es) (same_as test s e e.kind) ∙ all_same test (after test s e) es

pub reached_same : (test : LitmusTest) (es : List Event)
    → reached_by (sequence_value test) test es ≡ after_all test initial es
reached_same test es = all_same test initial es

pub with_sequences : (test : LitmusTest) (n : ℕ) (run : List Event)
    → judgement_with (sequence_value test) test n run ≡ judgement_of test n run
with_sequences test n run = λ i. judgement_from (λ es. reached_same test es i) test n [] run

needs_to : (test : LitmusTest) (s : State) (e : Event) (k : Kind) → NeedsBy (sequence_value test) k test s e
    → NeedsAs k test s e
needs_to test s e Push h = h
needs_to test s e Drain h = h
needs_to test s e (Read v) h = h
needs_to test s e Fenced h = h
needs_to test s e (Exchanged v) h = h

needs_back : (test : LitmusTest) (s : State) (e : Event) (k : Kind) → NeedsAs k test s e
    → NeedsBy (sequence_value test) k test s e
needs_back test s e Push h = h
needs_back test s e Drain h = h
needs_back test s e (Read v) h = h
needs_back test s e Fenced h = h
needs_back test s e (Exchanged v) h = h

steps_to : (test : LitmusTest) (s : State) (es : List Event) → StepsBy (sequence_value test) test s es → Steps test s es
steps_to test s [] h = tt
steps_to test s (e ∷ es) h =
    let P : State → Type 0 = λ z. StepsBy (sequence_value test) test z es in
    (needs_to test s e e.kind h.0, steps_to test (after test s e) es (subst P (same_as test s e e.kind) h.1))

steps_back : (test : LitmusTest) (s : State) (es : List Event) → Steps test s es
    → StepsBy (sequence_value test) test s es
steps_back test s [] h = tt
steps_back test s (e ∷ es) h =
    let P : State → Type 0 = λ z. StepsBy (sequence_value test) test z es in
    (needs_back test s e e.kind h.0, subst P (sym (same_as test s e e.kind)) (steps_back test (after test s e) es h.1))

pub run_of : (test : LitmusTest) (n : ℕ) (run : List Event) → IsRunWith (sequence_value test) test n run
    → IsRunOf test n run
run_of test n run r = record {
  legal =
      record {
        steps = steps_to test initial run r.steps;
        drained = λ t. ap (λ (s : State). s.buffer t) (sym (reached_same test run)) ∙ r.drained t;
      };
  performs = r.performs;
  threads = r.threads;
}

pub run_with : (test : LitmusTest) (n : ℕ) (run : List Event) → IsRunOf test n run
    → IsRunWith (sequence_value test) test n run
run_with test n run r = record {
  steps = steps_back test initial run r.legal.steps;
  drained = λ t. ap (λ (s : State). s.buffer t) (reached_same test run) ∙ r.legal.drained t;
  performs = r.performs;
  threads = r.threads;
}

-- One event more.

pub steps_push_by : (writes : Writes) (test : LitmusTest) (s : State) (es : List Event) (e : Event)
    → StepsBy writes test s es → NeedsBy writes e.kind test (all_after_by writes test s es) e
    → StepsBy writes test s (es ++ e ∷ [])
steps_push_by writes test s [] e h n = (n, tt)
steps_push_by writes test s (d ∷ es) e h n = (h.0, steps_push_by writes test (after_by writes test s d) es e h.1 n)

pub steps_right_by : (writes : Writes) (test : LitmusTest) (s : State) (es fs : List Event)
    → StepsBy writes test s (es ++ fs) → StepsBy writes test (all_after_by writes test s es) fs
steps_right_by writes test s [] fs h = h
steps_right_by writes test s (e ∷ es) fs h = steps_right_by writes test (after_by writes test s e) es fs h.1

pub after_push_by : (writes : Writes) (test : LitmusTest) (s : State) (es : List Event) (e : Event)
    → all_after_by writes test s (es ++ e ∷ []) ≡ after_by writes test (all_after_by writes test s es) e
after_push_by writes test s [] e = refl
after_push_by writes test s (d ∷ es) e = after_push_by writes test (after_by writes test s d) es e

pub other_buffer_by : (writes : Writes) (test : LitmusTest) (s : State) (e : Event) (t : ℕ) (k : Kind)
    → (e.thread == t) ≡ false → (after_by_as writes k test s e).buffer t ≡ s.buffer t
other_buffer_by writes test s e t Push h = rw h refl
other_buffer_by writes test s e t Drain h = rw h refl
other_buffer_by writes test s e t _ h = refl

-- a buffered write is that of its thread at its place and iteration
abbrev pub IsOwn : Writes → LitmusTest → ℕ → Write → Type 0
IsOwn writes test t w = w ≡ write_by writes test (record {
  thread = t;
  iteration = w.iteration;
  place = w.place;
  kind
      = Push;
})

each_drop : (P : Write → Type 0) (ws : List Write) → Each P ws → Each P (drop 1 ws)
each_drop P [] h = tt
each_drop P (w ∷ ws) h = h.1

own_push : (writes : Writes) (test : LitmusTest) (s : State) (e : Event) (t : ℕ) (b : Bool) → (e.thread == t) ≡ b
    → Each (IsOwn writes test t) (s.buffer t) → Each (IsOwn writes test t) (cond b
    (s.buffer e.thread ++ write_by writes test e ∷ [])
    (s.buffer t))
own_push writes test s e t false h k = k
own_push writes test s e t true h k =
    let same : e.thread ≡ t = eqb-true e.thread t h in
    let P : ℕ → Type 0 = λ u. Each (IsOwn writes test u) (s.buffer u)
    → Each (IsOwn writes test u) (s.buffer e.thread ++ write_by writes test e ∷ []) in
    let own : IsOwn writes test e.thread (write_by writes test e) = refl in
    subst P same (λ l. each_append (IsOwn writes test e.thread) (s.buffer e.thread) (write_by writes test e ∷ []) l
    (own, tt)) k

own_drain : (writes : Writes) (test : LitmusTest) (s : State) (e : Event) (t : ℕ) (b : Bool) → (e.thread == t) ≡ b
    → Each (IsOwn writes test t) (s.buffer t) → Each (IsOwn writes test t) (cond b (drop 1 (s.buffer e.thread))
    (s.buffer t))
own_drain writes test s e t false h k = k
own_drain writes test s e t true h k =
    let same : e.thread ≡ t = eqb-true e.thread t h in
    let P : ℕ → Type 0 = λ u. Each (IsOwn writes test t) (drop 1 (s.buffer u)) in
    subst P (sym same) (each_drop (IsOwn writes test t) (s.buffer t) k)

own_step : (writes : Writes) (test : LitmusTest) (s : State) (e : Event) (t : ℕ) (k : Kind)
    → Each (IsOwn writes test t) (s.buffer t)
    → Each (IsOwn writes test t) ((after_by_as writes k test s e).buffer t)
own_step writes test s e t Push h = own_push writes test s e t (e.thread == t) refl h
own_step writes test s e t Drain h = own_drain writes test s e t (e.thread == t) refl h
own_step writes test s e t (Read v) h = h
own_step writes test s e t Fenced h = h
own_step writes test s e t (Exchanged v) h = h

pub own_after : (writes : Writes) (test : LitmusTest) (s : State) (es : List Event) (t : ℕ)
    → Each (IsOwn writes test t) (s.buffer t)
    → Each (IsOwn writes test t) ((all_after_by writes test s es).buffer t)
own_after writes test s [] t h = h
own_after writes test s (e ∷ es) t h = own_after writes test (after_by writes test s e) es t
    (own_step writes test s e t e.kind h)

-- whatever the events are, each write that waits is that of its thread
pub own_writes_by : (writes : Writes) (test : LitmusTest) (before : List Event) (t : ℕ)
    → Each (IsOwn writes test t) ((reached_by writes test before).buffer t)
own_writes_by writes test before t = own_after writes test initial before t tt

-- where each push has names, so has each write that waits

abbrev pub IsNamed : LitmusTest → ℕ → ℕ → Write → Type 0
IsNamed test n t w =
    is_named test n (record { thread = t; iteration = w.iteration; place = w.place; kind = Drain }) ≡ true

-- a push that has names
abbrev pub NamedAs : LitmusTest → ℕ → Kind → Event → Type 0
NamedAs test n k e = k ≡ Push → is_named test n e ≡ true

named_push : (writes : Writes) (test : LitmusTest) (n : ℕ) (s : State) (e : Event) (t : ℕ) (b : Bool)
    → (e.thread == t) ≡ b → is_named test n e ≡ true → Each (IsNamed test n t) (s.buffer t)
    → Each (IsNamed test n t) (cond b (s.buffer e.thread ++ write_by writes test e ∷ []) (s.buffer t))
named_push writes test n s e t false h m k = k
named_push writes test n s e t true h m k =
    let same : e.thread ≡ t = eqb-true e.thread t h in
    let P : ℕ → Type 0 = λ u. Each (IsNamed test n u) (s.buffer u)
    → Each (IsNamed test n u) (s.buffer e.thread ++ write_by writes test e ∷ []) in
    subst P same (λ l. each_append (IsNamed test n e.thread) (s.buffer e.thread) (write_by writes test e ∷ []) l
    (m, tt)) k

named_drain : (test : LitmusTest) (n : ℕ) (s : State) (e : Event) (t : ℕ) (b : Bool) → (e.thread == t) ≡ b
    → Each (IsNamed test n t) (s.buffer t)
    → Each (IsNamed test n t) (cond b (drop 1 (s.buffer e.thread)) (s.buffer t))
named_drain test n s e t false h k = k
named_drain test n s e t true h k =
    let same : e.thread ≡ t = eqb-true e.thread t h in
    let P : ℕ → Type 0 = λ u. Each (IsNamed test n t) (drop 1 (s.buffer u)) in
    subst P (sym same) (each_drop (IsNamed test n t) (s.buffer t) k)

named_step : (writes : Writes) (test : LitmusTest) (n : ℕ) (s : State) (e : Event) (t : ℕ) (k : Kind)
    → NamedAs test n k e → Each (IsNamed test n t) (s.buffer t)
    → Each (IsNamed test n t) ((after_by_as writes k test s e).buffer t)
named_step writes test n s e t Push m h = named_push writes test n s e t (e.thread == t) refl (m refl) h
named_step writes test n s e t Drain m h = named_drain test n s e t (e.thread == t) refl h
named_step writes test n s e t (Read v) m h = h
named_step writes test n s e t Fenced m h = h
named_step writes test n s e t (Exchanged v) m h = h

pub named_after : (writes : Writes) (test : LitmusTest) (n : ℕ) (s : State) (es : List Event) (t : ℕ)
    → Each (λ e. NamedAs test n e.kind e) es → Each (IsNamed test n t) (s.buffer t)
    → Each (IsNamed test n t) ((all_after_by writes test s es).buffer t)
named_after writes test n s [] t m h = h
named_after writes test n s (e ∷ es) t m h =
    named_after writes test n (after_by writes test s e) es t m.1 (named_step writes test n s e t e.kind m.0 h)

pub oldest_named : (test : LitmusTest) (n t : ℕ) (ws : List Write) (w : Write) → Each (IsNamed test n t) ws
    → slice_get ws 0 ≡ Some w → IsNamed test n t w
oldest_named test n t [] w h k = cc
oldest_named test n t (v ∷ ws) w h k =
    let same : v ≡ w = cc in let P : Write → Type 0 = λ z. IsNamed test n t z in subst P same h.0

pub oldest_tells : (writes : Writes) (test : LitmusTest) (e : Event) (ws : List Write)
    → Each (IsOwn writes test e.thread) ws
    → is_of_write (slice_get ws 0) e ≡ true → slice_get ws 0 ≡ Some (write_by writes test e)
oldest_tells writes test e [] own h = cc
oldest_tells writes test e (w ∷ ws) own h =
    let p = and_parts (w.iteration == e.iteration) (w.place == e.place) h in
    let i = eqb-true w.iteration e.iteration p.0 in
    let l = eqb-true w.place e.place p.1 in
    let same : write_by writes test (record {
      thread = e.thread;
      iteration = w.iteration;
      place = w.place;
      kind = Push;
    })
    ≡ write_by writes test e = rw (i, l) refl in
    ap (λ z. Some z) (own.0 ∙ same)
