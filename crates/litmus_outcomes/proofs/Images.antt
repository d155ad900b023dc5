-- A run of one iteration, with the values of the text in place of its own, is an execution of the test.
use Rattle.std.proofs.Common.{◌≡◌, ℕ, ◌+◌, ◌<◌, ◌≤◌, ◌==◌, Bool, true, false, not, ◌&&◌, Some, List, [], ◌∷◌, ◌++◌, length, map, filter, drop, slice_get, refl, sym, ap, ◌∙◌, arith, subst, unwrap_or, option_and_then, option_map, inl, inr, ◌⊎◌, ne_eqb}
use Rattle.std.proofs.lemmas.Bool.{cases_lt}
use Rattle.std.proofs.lemmas.List.{map-append, drop-map}
use Rattle.std.proofs.lemmas.List.Elements.{recursion_from_All}
use Rattle.std.proofs.lemmas.Option.{slice_get-map, slice_get_past}
use Rattle.std.specs.List.{AllZip, AllByRecursion as Each}
use Rattle.std.specs.Option.{option_map_or}
use Rattle.x86_subset.specs.Instr.{location_of}
use Rattle.x86_subset.specs.Test.{Code, LitmusTest, body_of}
use Rattle.x86_subset.specs.declared.instr.Instr.{Instr}
use Rattle.x86_subset.specs.declared.instr.Instr.TheVariants.{Store, Load, Fence, Exchange}
use Rattle.tso_machine.specs.Event.{Event, Kind, Push, Drain, Read, Fenced, Exchanged, event_location, is_drain, is_drain_kind, site_of, written_value}
use Rattle.tso_machine.specs.Machine.{Write, NeedsAs, Steps, after, after_all, after_as, initial, newest as newest_write, readable, write_of}
use Rattle.tso_machine.specs.Machine.{State as RunState}
use Rattle.tso_machine.specs.Part.{Fills, Gives, Slot, part_of, slots_of_body, slots_of_loop}
use Rattle.tso_machine.specs.Run.{IsRunOf}
use Rattle.seq_conv.specs.Sequence.{Site, action_at}
use Rattle.perp_base.proofs.Lists.{each_from_among, each_weaker, filter_filter, filter_none, filter_same, map_filter, zip_with_each}
use Rattle.tso_machine.proofs.Parts.{IsLoopSlot, deeds, loop_slots, write_stores, writes_kind}
use Rattle.run_witness.proofs.Stands.{at_two}
use Rattle.profile_check.specs.Kinds.{written_of}
use Rattle.litmus_outcomes.specs.Machine.{Action, Writes, Drains, Reads, Fences, Exchanges, Allows, AllowsAll, State, Step, Waiting, end_of, found, newest, next, start}
use Rattle.litmus_outcomes.specs.Outcome.{Does, IsExecution, done_by, is_draining}
use Rattle.litmus_outcomes.proofs.Values.{WritesTold, literal, or_told, told, told_newest, waiting_of, writes_told}

-- the step that an event is, by the values of the text
abbrev pub action_as : Kind → LitmusTest → Event → Action
action_as Push test e = Writes (event_location test e) (literal test (site_of e))
action_as Drain test e = Drains (event_location test e) (literal test (site_of e))
action_as (Read v) test e = Reads (event_location test e) (told test (event_location test e) v)
action_as Fenced test e = Fences
action_as (Exchanged v) test e =
    Exchanges (event_location test e) (told test (event_location test e) v) (literal test (site_of e))

abbrev pub action_of : LitmusTest → Event → Action
action_of test e = action_as e.kind test e

abbrev pub step_of : LitmusTest → Event → Step
step_of test e = record { thread = e.thread; action = action_of test e }

abbrev pub steps_of : LitmusTest → List Event → List Step
steps_of test run = map (step_of test) run

-- Both machines do the same: memory and buffers are alike.

pub record Alike (test : LitmusTest) (s : RunState) (l : State) : Type 0 where
  pub memory : (x : ℕ) → l.memory x ≡ told test x (s.memory x)
  pub buffer : (t : ℕ) → l.buffer t ≡ map (waiting_of test) (s.buffer t)

pub alike_start : (test : LitmusTest) → Alike test initial start
alike_start test = record { memory = λ x. refl; buffer = λ t. refl }

pub alike_found : (test : LitmusTest) (s : RunState) (l : State) (t x : ℕ) → Alike test s l
    → found l t x ≡ told test x (readable s t x)
alike_found test s l t x a =
    (λ i. unwrap_or (newest x (a.buffer t i)) (a.memory x i))
    ∙ ap (λ o. unwrap_or o (told test x (s.memory x))) (told_newest test x (s.buffer t))
    ∙ or_told test x (s.memory x) (newest_write x (s.buffer t))

-- a store, as it writes, writes what the text says
abbrev pub IsTold : LitmusTest → Event → Type 0
IsTold test e = writes_kind e.kind ≡ true → WritesTold test e

allows_as : (test : LitmusTest) (s : RunState) (l : State) (e : Event) (k : Kind) → Alike test s l
    → (writes_kind k ≡ true → WritesTold test e) → NeedsAs k test s e → Allows l e.thread (action_as k test e)
allows_as test s l e Push a w n = tt
allows_as test s l e Drain a w n =
    ap (λ b. slice_get b 0) (a.buffer e.thread) ∙ slice_get-map (waiting_of test) (s.buffer e.thread) 0
    ∙ ap (option_map (waiting_of test)) n
    ∙ ap (λ (v : ℕ). Some (record { location = event_location test e; value = v })) (w refl)
allows_as test s l e (Read v) a w n =
    ap (told test (event_location test e)) n ∙ sym (alike_found test s l e.thread (event_location test e) a)
allows_as test s l e Fenced a w n = a.buffer e.thread ∙ ap (map (waiting_of test)) n
allows_as test s l e (Exchanged v) a w n = (
  a.buffer e.thread ∙ ap (map (waiting_of test)) n.0,
  ap (told test (event_location test e)) n.1 ∙ sym (a.memory (event_location test e)),
)

alike_as : (test : LitmusTest) (s : RunState) (l : State) (e : Event) (k : Kind) → Alike test s l
    → (writes_kind k ≡ true → WritesTold test e)
    → Alike test (after_as k test s e) (next l e.thread (action_as k test e))
alike_as test s l e Push a w =
    let t = e.thread in
    let new : Waiting = record { location = event_location test e; value = literal test (site_of e) } in
    let same : waiting_of test (write_of test e) ≡ new =
    ap (λ (v : ℕ). record { location = event_location test e; value = v }) (w refl) in
    record {
      memory = a.memory;
      buffer =
          at_two (λ u (ws : List Write) (ls : List Waiting). ls ≡ map (waiting_of test) ws) s.buffer l.buffer t
          (s.buffer t ++ write_of test e ∷ []) (l.buffer t ++ new ∷ [])
          ((λ i. a.buffer t i ++ sym same i ∷ [])
          ∙ sym (map-append (waiting_of test) (s.buffer t) (write_of test e ∷ [])))
          a.buffer;
    }
alike_as test s l e Drain a w =
    let t = e.thread in
    record {
      memory =
          at_two (λ x (v y : ℕ). y ≡ told test x v) s.memory l.memory (event_location test e) (written_value test e)
          (literal test (site_of e)) (sym (w refl)) a.memory;
      buffer =
          at_two (λ u (ws : List Write) (ls : List Waiting). ls ≡ map (waiting_of test) ws) s.buffer l.buffer t
          (drop 1 (s.buffer t)) (drop 1 (l.buffer t))
          (ap (drop 1) (a.buffer t) ∙ drop-map (waiting_of test) 1 (s.buffer t))
          a.buffer;
    }
alike_as test s l e (Read v) a w = a
alike_as test s l e Fenced a w = a
alike_as test s l e (Exchanged v) a w = record {
  memory =
      at_two (λ x (v y : ℕ). y ≡ told test x v) s.memory l.memory (event_location test e) (written_value test e)
      (literal test (site_of e)) (sym (w refl)) a.memory;
  buffer = a.buffer;
}

pub alike_after : (test : LitmusTest) (s : RunState) (l : State) (e : Event) → Alike test s l → IsTold test e
    → Alike test (after test s e) (next l e.thread (action_of test e))
alike_after test s l e a w = alike_as test s l e e.kind a w

allows_all : (test : LitmusTest) (s : RunState) (l : State) (run : List Event) → Alike test s l → Each (IsTold test) run
    → Steps test s run → AllowsAll l (steps_of test run)
allows_all test s l [] a w h = tt
allows_all test s l (e ∷ run) a w h = (
  allows_as test s l e e.kind a w.0 h.0,
  allows_all test (after test s e) (next l e.thread (action_of test e)) run (alike_after test s l e a w.0) w.1 h.1,
)

alike_end : (test : LitmusTest) (s : RunState) (l : State) (run : List Event) → Alike test s l → Each (IsTold test) run
    → Alike test (after_all test s run) (end_of l (steps_of test run))
alike_end test s l [] a w = a
alike_end test s l (e ∷ run) a w =
    alike_end test (after test s e) (next l e.thread (action_of test e)) run (alike_after test s l e a w.0) w.1

-- Each thread does its instructions.

draining_as : (test : LitmusTest) (e : Event) (k : Kind) → is_draining (action_as k test e) ≡ is_drain_kind k
draining_as test e Push = refl
draining_as test e Drain = refl
draining_as test e (Read v) = refl
draining_as test e Fenced = refl
draining_as test e (Exchanged v) = refl

-- what a thread does is what it did in the run
pub done_is : (test : LitmusTest) (t : ℕ) (run : List Event)
    → done_by t (steps_of test run) ≡ map (action_of test) (deeds t run)
done_is test t run =
    let p : Event → Bool = λ e. (e.thread == t) && not (is_draining (action_of test e)) in
    let q : Event → Bool = λ e. (e.thread == t) && not (is_drain e) in
    sym (map_filter (λ (f : Step). f.action) (λ (f : Step). (f.thread == t) && not (is_draining f.action))
    (step_of test) run)
    ∙ ap (map (action_of test)) (filter_same p q run
    (each_from_among (λ e. p e ≡ q e) run (λ e m. ap (λ b. (e.thread == t) && not b) (draining_as test e e.kind))))
    ∙ ap (map (action_of test)) (sym (filter_filter (λ (e : Event). not (is_drain e)) (λ (e : Event). e.thread == t)
    run))

pub at_place_of : (test : LitmusTest) (e : Event) (a : Instr) → action_at test (site_of e) ≡ Some a
    → event_location test e ≡ unwrap_or (location_of a) 0
at_place_of test e a h = ap (λ o. unwrap_or (option_and_then location_of o) 0) h

pub literal_of : (test : LitmusTest) (s : Site) (a : Instr) → action_at test s ≡ Some a
    → literal test s ≡ unwrap_or (written_of a) 0
literal_of test s a h = ap (λ o. unwrap_or (option_and_then written_of o) 0) h

does_as : (test : LitmusTest) (e : Event) (a : Instr) (k : Kind) → action_at test (site_of e) ≡ Some a → Gives a k
    → Does a (action_as k test e)
does_as test e (Store x v) Push h g = (at_place_of test e (Store x v) h, literal_of test (site_of e) (Store x v) h)
does_as test e (Load reg x) (Read v) h g = at_place_of test e (Load reg x) h
does_as test e Fence Fenced h g = tt
does_as test e (Exchange x v reg) (Exchanged w) h g =
    (at_place_of test e (Exchange x v reg) h, literal_of test (site_of e) (Exchange x v reg) h)
does_as test e _ _ h g = absurd g

slot_does : (test : LitmusTest) (t : ℕ) (slot : Slot) (e : Event) → Fills t slot e → IsLoopSlot (body_of test t) 1 slot
    → Does slot.action (action_of test e)
slot_does test t slot e f k =
    does_as test e slot.action e.kind (rw (f.thread, f.place) (k.1.stands)) f.kind

zip_does : (test : LitmusTest) (t q : ℕ) (body : List Instr) (es : List Event)
    → AllZip (λ slot e. Fills t slot e × IsLoopSlot (body_of test t) 1 slot) (slots_of_body 0 q body) es
    → AllZip Does body (map (action_of test) es)
zip_does test t q [] [] h = tt
zip_does test t q [] (e ∷ es) h = absurd h
zip_does test t q (a ∷ body) [] h = absurd h
zip_does test t q (a ∷ body) (e ∷ es) h = (
  slot_does test t (record { iteration = 0; place = q; action = a }) e h.0.0 h.0.1,
  zip_does test t (q + 1) body es h.1,
)

none_past : (test : LitmusTest) (t : ℕ) (run : List Event) → Each (λ e. e.thread < length test.bodies) run
    → length test.bodies ≤ t → part_of t run ≡ []
none_past test t run h l =
    filter_none (λ (e : Event). e.thread == t) run (each_weaker (λ (e : Event). e.thread < length test.bodies)
    (λ (e : Event). (e.thread == t) ≡ false) (λ e k. ne_eqb e.thread t (λ s. omega arith)) run h)

pub no_body : (test : LitmusTest) (t : ℕ) → length test.bodies ≤ t → body_of test t ≡ []
no_body test t l =
    ap (λ o. option_map_or (λ (code : Code). code.actions) o []) (slice_get_past test.bodies t l)

in_order_by : (test : LitmusTest) (t : ℕ) (run : List Event) → IsRunOf test 1 run
    → (t < length test.bodies) ⊎ (length test.bodies ≤ t)
    → AllZip Does (body_of test t) (map (action_of test) (deeds t run))
in_order_by test t run r (inl l) =
    zip_does test t 0 (body_of test t) (deeds t run)
    (zip_with_each (Fills t) (IsLoopSlot (body_of test t) 1) (slots_of_loop (body_of test t) 1) (deeds t run)
    (r.performs t l) (loop_slots (body_of test t) 1))
in_order_by test t run r (inr l) =
    let part : part_of t run ≡ [] = none_past test t run
    (recursion_from_All (λ (e : Event). e.thread < length test.bodies) run r.threads) l in
    let P : List Event → Type 0 = λ es. AllZip Does (body_of test t)
    (map (action_of test) (filter (λ e. not (is_drain e)) es)) in
    let Q : List Instr → Type 0 = λ body. AllZip Does body [] in
    subst P (sym part) (subst Q (sym (no_body test t l)) tt)

run_is_told : (test : LitmusTest) (run : List Event) → IsRunOf test 1 run → Each (IsTold test) run
run_is_told test run r =
    each_from_among (IsTold test) run (λ e a w. writes_told test e (write_stores test 1 run e r a w))

pub is_execution : (test : LitmusTest) (run : List Event) → IsRunOf test 1 run → IsExecution test (steps_of test run)
is_execution test run r =
    let w = run_is_told test run r in
    let a = alike_end test initial start run (alike_start test) w in
    record {
      allowed = allows_all test initial start run (alike_start test) w r.legal.steps;
      drained = λ t. a.buffer t ∙ ap (map (waiting_of test)) (r.legal.drained t);
      in_order = λ t.
          let P : List Action → Type 0 = λ l. AllZip Does (body_of test t) l in
          subst P (sym (done_is test t run)) (in_order_by test t run r (cases_lt t (length test.bodies)));
    }
