-- Each execution is written by one list of events.
use Rattle.std.proofs.Common.{◌≡◌, ℕ, ◌<◌, ◌==◌, ◌||◌, Bool, true, false, cond, not, Option, None, Some, List, [], ◌∷◌, ◌++◌, length, map, filter, slice_get, refl, sym, ap, ◌∙◌, subst, unwrap_or, option_and_then}
use Rattle.std.proofs.lemmas.Bool.{and_parts, eqb-true}
use Rattle.std.proofs.lemmas.List.Elements.{All-from_recursion, recursion_from_All}
use Rattle.std.specs.List.{AllZip, AllByRecursion as Each}
use Rattle.std.specs.Option.{option_map_or}
use Rattle.x86_subset.specs.Test.{LitmusTest, body_of}
use Rattle.x86_subset.specs.declared.instr.Instr.{Instr}
use Rattle.x86_subset.specs.declared.instr.Instr.TheVariants.{Store, Load, Fence, Exchange}
use Rattle.seq_conv.specs.Sequence.{Site, action_at}
use Rattle.profile_check.specs.Kinds.{written_of}
use Rattle.tso_machine.specs.Event.{Event, Kind, Push, Drain, Read, Fenced, Exchanged, event_location, is_drain, is_drain_kind, site_of}
use Rattle.tso_machine.specs.Machine.{State, Write, initial}
use Rattle.tso_machine.specs.Part.{Fills, Gives, Slot, part_of, slots_of_loop}
use Rattle.tso_machine.proofs.Parts.{deeds}
use Rattle.run_judge.specs.Judgement.{done_by, fault_by, fault_from, is_of_slot, is_of_write, judgement_from}
use Rattle.run_judge.specs.declared.judgement.JudgeFault.TheVariants.{NotOldest}
use Rattle.run_judge.specs.declared.judgement.Judgement.TheVariants.{Legal}
use Rattle.run_judge.specs.Written.{number_of, reached_by, sequence_value, text_value}
use Rattle.run_judge.proofs.Judged.{by_legal, is_right, kept_none, slot_fills}
use Rattle.run_judge.proofs.Owned.{run_with}
use Rattle.litmus_outcomes.specs.Machine.{Action, Writes, Drains, Reads, Fences, Exchanges, Step}
use Rattle.litmus_outcomes.specs.Outcome.{IsExecution}
use Rattle.litmus_outcomes.proofs.Images.{action_as as image_as, steps_of as images_of}
use Rattle.litmus_outcomes.proofs.Rebuilt.{imaged}
use Rattle.litmus_outcomes.proofs.Values.{literal, told}
use Rattle.execution_check.specs.Laws.{ExecutionsAreWrittenOnce}
use Rattle.execution_check.specs.Steps.{IsWritten, action_as, drained, is_push, is_push_kind, origin_of, step_of, steps_of, stored}
use Rattle.execution_check.proofs.Law.{legal_is_execution_lem}
use Rattle.execution_check.proofs.Queues.{meets_all}

-- A run of one iteration, told with the values of the text.

abbrev told_as : LitmusTest → Event → Kind → Kind
told_as test e Push = Push
told_as test e Drain = Drain
told_as test e (Read v) = Read (told test (event_location test e) v)
told_as test e Fenced = Fenced
told_as test e (Exchanged v) = Exchanged (told test (event_location test e) v)

abbrev retold : LitmusTest → Event → Event
retold test e = record e { kind = told_as test e e.kind }

text_literal : (test : LitmusTest) (s : Site) (n : ℕ) → text_value test s n ≡ literal test s
text_literal test s n = go (action_at test s)
  where
    go : (o : Option Instr) → option_map_or number_of o 0 ≡ unwrap_or (option_and_then written_of o) 0
    go None = refl
    go (Some (Store x v)) = refl
    go (Some (Load reg x)) = refl
    go (Some Fence) = refl
    go (Some (Exchange x v reg)) = refl

action_same : (test : LitmusTest) (e : Event) (k : Kind)
    → action_as (told_as test e k) test (retold test e) ≡ image_as k test e
action_same test e Push = ap (Writes (event_location test e)) (text_literal test (site_of e) e.iteration)
action_same test e Drain = ap (Drains (event_location test e)) (text_literal test (site_of e) e.iteration)
action_same test e (Read v) = refl
action_same test e Fenced = refl
action_same test e (Exchanged v) =
    ap (Exchanges (event_location test e) (told test (event_location test e) v))
    (text_literal test (site_of e) e.iteration)

steps_same : (test : LitmusTest) (run : List Event) → steps_of test (map (retold test) run) ≡ images_of test run
steps_same test [] = refl
steps_same test (e ∷ run) =
    λ i. record { thread = e.thread; action = action_same test e e.kind i } ∷ steps_same test run i

drain_same : (test : LitmusTest) (e : Event) (k : Kind) → is_drain_kind (told_as test e k) ≡ is_drain_kind k
drain_same test e Push = refl
drain_same test e Drain = refl
drain_same test e (Read v) = refl
drain_same test e Fenced = refl
drain_same test e (Exchanged v) = refl

push_same : (test : LitmusTest) (e : Event) (k : Kind) → is_push_kind (told_as test e k) ≡ is_push_kind k
push_same test e Push = refl
push_same test e Drain = refl
push_same test e (Read v) = refl
push_same test e Fenced = refl
push_same test e (Exchanged v) = refl

deeds_retold : (test : LitmusTest) (t : ℕ) (run : List Event)
    → deeds t (map (retold test) run) ≡ map (retold test) (deeds t run)
deeds_retold test t [] = refl
deeds_retold test t (e ∷ run) =
    go (e.thread == t) (is_drain e) refl (drain_same test e e.kind) refl (deeds_retold test t run)
  where
    go : (b c : Bool) → (e.thread == t) ≡ b → is_drain_kind (told_as test e e.kind) ≡ c → is_drain e ≡ c
        → deeds t (map (retold test) run) ≡ map (retold test) (deeds t run)
        → deeds t (map (retold test) (e ∷ run)) ≡ map (retold test) (deeds t (e ∷ run))
    go true true h d k rec = rw (h, d, k) rec
    go true false h d k rec = rw (h, d, k) (ap (λ l. retold test e ∷ l) rec)
    go false c h d k rec = rw h rec

stored_retold : (test : LitmusTest) (t : ℕ) (run : List Event) → stored t (map (retold test) run) ≡ stored t run
stored_retold test t [] = refl
stored_retold test t (e ∷ run) =
    go (e.thread == t) (is_push e) refl (push_same test e e.kind) refl (stored_retold test t run)
  where
    go : (b c : Bool) → (e.thread == t) ≡ b → is_push_kind (told_as test e e.kind) ≡ c → is_push e ≡ c
        → stored t (map (retold test) run) ≡ stored t run
        → stored t (map (retold test) (e ∷ run)) ≡ stored t (e ∷ run)
    go true true h d k rec = rw (h, d, k) (ap (λ l. origin_of e ∷ l) rec)
    go true false h d k rec = rw (h, d, k) rec
    go false c h d k rec = rw h rec

drained_retold : (test : LitmusTest) (t : ℕ) (run : List Event) → drained t (map (retold test) run) ≡ drained t run
drained_retold test t [] = refl
drained_retold test t (e ∷ run) =
    go (e.thread == t) (is_drain e) refl (drain_same test e e.kind) refl (drained_retold test t run)
  where
    go : (b c : Bool) → (e.thread == t) ≡ b → is_drain_kind (told_as test e e.kind) ≡ c → is_drain e ≡ c
        → drained t (map (retold test) run) ≡ drained t run
        → drained t (map (retold test) (e ∷ run)) ≡ drained t (e ∷ run)
    go true true h d k rec = rw (h, d, k) (ap (λ l. origin_of e ∷ l) rec)
    go true false h d k rec = rw (h, d, k) rec
    go false c h d k rec = rw h rec

gives_told : (test : LitmusTest) (e : Event) (a : Instr) (k : Kind) → Gives a k → Gives a (told_as test e k)
gives_told test e (Store x v) Push g = tt
gives_told test e (Load reg x) (Read v) g = tt
gives_told test e Fence Fenced g = tt
gives_told test e (Exchange x v reg) (Exchanged w) g = tt
gives_told test e _ _ g = absurd g

fills_told : (test : LitmusTest) (t : ℕ) (s : Slot) (e : Event) → Fills t s e → Fills t s (retold test e)
fills_told test t s e f = record {
  thread = f.thread;
  iteration = f.iteration;
  place = f.place;
  kind = gives_told test e s.action e.kind f.kind;
}

zip_told : (test : LitmusTest) (t : ℕ) (slots : List Slot) (es : List Event) → AllZip (Fills t) slots es
    → AllZip (Fills t) slots (map (retold test) es)
zip_told test t [] [] h = tt
zip_told test t [] (e ∷ es) h = absurd h
zip_told test t (s ∷ slots) [] h = absurd h
zip_told test t (s ∷ slots) (e ∷ es) h = (fills_told test t s e h.0, zip_told test t slots es h.1)

threads_told : (test : LitmusTest) (n : ℕ) (run : List Event) → Each (λ e. e.thread < n) run
    → Each (λ e. e.thread < n) (map (retold test) run)
threads_told test n [] h = tt
threads_told test n (e ∷ run) h = (h.0, threads_told test n run h.1)

record Found (test : LitmusTest) (steps : List Step) : Type 0 where
  events : List Event
  written : IsWritten test events
  are : steps_of test events ≡ steps

found : (test : LitmusTest) (steps : List Step) → IsExecution test steps → Found test steps
found test steps x =
    let i = imaged test steps x in
    let r = run_with test 1 i.run i.is_run in
    let events = map (retold test) i.run in
    let are : steps_of test events ≡ steps = steps_same test i.run ∙ i.image in
    record {
      events = events;
      written =
          record {
            execution = subst (IsExecution test) (sym are) x;
            in_order =
                λ t l. subst (AllZip (Fills t) (slots_of_loop (body_of test t) 1)) (sym (deeds_retold test t i.run))
                (zip_told test t (slots_of_loop (body_of test t) 1) (deeds t i.run) (r.performs t l));
            threads =
                All-from_recursion (λ (e : Event). e.thread < length test.bodies) events
                (threads_told test (length test.bodies) i.run
                (recursion_from_All (λ (e : Event). e.thread < length test.bodies) i.run r.threads));
            drains =
                λ t. drained_retold test t i.run
                ∙ sym (meets_all (sequence_value test) test initial i.run t r.steps (r.drained t))
                ∙ sym (stored_retold test t i.run);
          };
      are = are;
    }

-- No two events with no fault, after the same events, are the same step.

same_kind : (test : LitmusTest) (a b : Event) (k j : Kind) → action_as k test a ≡ action_as j test b → k ≡ j
same_kind test a b Push Push h = refl
same_kind test a b Drain Drain h = refl
same_kind test a b (Read v) (Read w) h = let e : v ≡ w = cc in ap Read e
same_kind test a b Fenced Fenced h = refl
same_kind test a b (Exchanged v) (Exchanged w) h = let e : v ≡ w = cc in ap Exchanged e
same_kind test a b _ _ h = cc

abbrev SamePlace : Event → Event → Type 0
SamePlace a b = (a.iteration ≡ b.iteration) × (a.place ≡ b.place)

same_by_slot : (o : Option Slot) (a b : Event) → is_of_slot o a ≡ true → is_of_slot o b ≡ true → SamePlace a b
same_by_slot None a b h k = cc
same_by_slot (Some s) a b h k =
    let f = slot_fills a.thread s a refl h in
    let g = slot_fills b.thread s b refl k in
    (f.iteration ∙ sym g.iteration, f.place ∙ sym g.place)

same_by_write : (o : Option Write) (a b : Event) → is_of_write o a ≡ true → is_of_write o b ≡ true → SamePlace a b
same_by_write None a b h k = cc
same_by_write (Some w) a b h k =
    let p = and_parts (w.iteration == a.iteration) (w.place == a.place) h in
    let q = and_parts (w.iteration == b.iteration) (w.place == b.place) k in (
      sym (eqb-true w.iteration a.iteration p.0) ∙ eqb-true w.iteration b.iteration q.0,
      sym (eqb-true w.place a.place p.1) ∙ eqb-true w.place b.place q.1,
    )

drain_tells : (k : Kind) (buffer : List Write) (word x : ℕ) (e : Event) → is_drain_kind k ≡ true
    → fault_by k buffer word x e ≡ None → is_of_write (slice_get buffer 0) e ≡ true
drain_tells Push buffer word x e d h = cc
drain_tells Drain buffer word x e d h = kept_none (is_of_write (slice_get buffer 0) e) NotOldest h
drain_tells (Read v) buffer word x e d h = cc
drain_tells Fenced buffer word x e d h = cc
drain_tells (Exchanged v) buffer word x e d h = cc

abbrev reached : LitmusTest → List Event → State
reached test before = reached_by (text_value test) test before

same_event : (test : LitmusTest) (before : List Event) (a b : Event) → step_of test a ≡ step_of test b
    → fault_from (reached test) test 1 before a ≡ None → fault_from (reached test) test 1 before b ≡ None → a ≡ b
same_event test before a b e h k =
    let t : a.thread ≡ b.thread = ap (λ (s : Step). s.thread) e in
    let kind = same_kind test a b a.kind b.kind (ap (λ (s : Step). s.action) e) in
    let s = reached test before in
    let r = is_right test 1 (done_by a.thread before) (s.buffer a.thread) (s.memory (event_location test a)) a h in
    let q = is_right test 1 (done_by b.thread before) (s.buffer b.thread) (s.memory (event_location test b)) b k in
    let next : ℕ → Event → Bool = λ u z. is_of_slot (slice_get (slots_of_loop (body_of test u) 1)
    (done_by u before)) z in
    let place : SamePlace a b = go (is_drain a) refl (ap is_drain_kind (sym kind)) (next a.thread a) (next b.thread b)
    r.next q.next
    (λ f g. same_by_slot (slice_get (slots_of_loop (body_of test a.thread) 1) (done_by a.thread before)) a b f
    (let N : ℕ → Type 0 = λ u. next u b ≡ true in subst N (sym t) g))
    (λ d. same_by_write (slice_get (s.buffer a.thread) 0) a b
    (drain_tells a.kind (s.buffer a.thread) (s.memory (event_location test a)) (event_location test a) a d r.kind)
    (let W : ℕ → Type 0 = λ u. is_of_write (slice_get (s.buffer u) 0) b ≡ true in subst W (sym t)
    (drain_tells b.kind (s.buffer b.thread) (s.memory (event_location test b)) (event_location test b) b
    (ap is_drain_kind (sym kind) ∙ d) q.kind))) in
    λ i. record { thread = t i; iteration = place.0 i; place = place.1 i; kind = kind i }
  where
    go : (d : Bool) → is_drain a ≡ d → is_drain b ≡ is_drain a → (m n : Bool) → (is_drain a || m) ≡ true
        → (is_drain b || n) ≡ true → (m ≡ true → n ≡ true → SamePlace a b) → (is_drain a ≡ true → SamePlace a b)
        → SamePlace a b
    go true h k m n f g slot write = write h
    go false h k m n f g slot write =
        let i : m ≡ true = rw h at f in
        let j : is_drain b ≡ false = k ∙ h in
        slot i (rw j at g)

same_from : (test : LitmusTest) (before xs ys : List Event) → judgement_from (reached test) test 1 before xs ≡ Legal
    → judgement_from (reached test) test 1 before ys ≡ Legal → steps_of test xs ≡ steps_of test ys → xs ≡ ys
same_from test before [] [] h k e = refl
same_from test before [] (y ∷ ys) h k e = cc
same_from test before (x ∷ xs) [] h k e = cc
same_from test before (x ∷ xs) (y ∷ ys) h k e =
    let p = by_legal (fault_from (reached test) test 1 before x) (length before)
    (judgement_from (reached test) test 1 (before ++ x ∷ []) xs) h in
    let q = by_legal (fault_from (reached test) test 1 before y) (length before)
    (judgement_from (reached test) test 1 (before ++ y ∷ []) ys) k in
    let s : step_of test x ≡ step_of test y = cc in
    let r : steps_of test xs ≡ steps_of test ys = cc in
    let m = same_event test before x y s p.0 q.0 in
    let J : Event → Type 0 = λ z. judgement_from (reached test) test 1 (before ++ z ∷ []) ys ≡ Legal in
    let rest = same_from test (before ++ x ∷ []) xs ys p.1 (subst J (sym m) q.1) r in
    λ i. m i ∷ rest i

pub executions_are_written_once_lem : ExecutionsAreWrittenOnce
executions_are_written_once_lem test steps x =
    let f = found test steps x in
    record {
      events = f.events;
      written = f.written;
      are = f.are;
      only = λ others w e. same_from test [] others f.events ((legal_is_execution_lem test others).1 w)
          ((legal_is_execution_lem test f.events).1 f.written) (e ∙ sym f.are);
    }
