-- The judge's machine, whose writes know their places, and the textbook's do the same.
use Rattle.std.proofs.Common.{◌≡◌, ℕ, ◌==◌, cond, Option, None, Some, List, [], ◌∷◌, ◌++◌, map, drop, slice_get, refl, sym, ap, ◌∙◌, unwrap_or, option_map}
use Rattle.std.proofs.lemmas.List.{map-append, drop-map}
use Rattle.std.proofs.lemmas.Option.{slice_get-map}
use Rattle.std.specs.Option.{option_or}
use Rattle.x86_subset.specs.Test.{LitmusTest}
use Rattle.tso_machine.specs.Event.{Event, Kind, Push, Drain, Read, Fenced, Exchanged, event_location, site_of}
use Rattle.tso_machine.specs.Machine.{Write, initial, newest as newest_write, readable}
use Rattle.tso_machine.specs.Machine.{State as RunState}
use Rattle.run_witness.proofs.Stands.{at_two}
use Rattle.run_judge.specs.Written.{NeedsBy, StepsBy, after_by, after_by_as, all_after_by, text_value, write_by}
use Rattle.litmus_outcomes.specs.Machine.{Allows, AllowsAll, State, Waiting, end_of, found, newest, next, start}
use Rattle.execution_check.specs.Steps.{action_as, action_of, steps_of}

-- a write without its place
abbrev pub waiting_of : Write → Waiting
waiting_of w = record { location = w.location; value = w.value }

newest_waiting : (x : ℕ) (ws : List Write) → newest x (map waiting_of ws) ≡ newest_write x ws
newest_waiting x [] = refl
newest_waiting x (w ∷ ws) = ap (λ o. option_or o (cond (w.location == x) (Some w.value) None)) (newest_waiting x ws)

pub record Alike (s : RunState) (l : State) : Type 0 where
  pub memory : (x : ℕ) → l.memory x ≡ s.memory x
  pub buffer : (t : ℕ) → l.buffer t ≡ map waiting_of (s.buffer t)

pub alike_start : Alike initial start
alike_start = record { memory = λ x. refl; buffer = λ t. refl }

alike_found : (s : RunState) (l : State) (t x : ℕ) → Alike s l → found l t x ≡ readable s t x
alike_found s l t x a =
    (λ i. unwrap_or (newest x (a.buffer t i)) (a.memory x i))
    ∙ ap (λ o. unwrap_or o (s.memory x)) (newest_waiting x (s.buffer t))

allows_as : (test : LitmusTest) (s : RunState) (l : State) (e : Event) (k : Kind) → Alike s l
    → NeedsBy (text_value test) k test s e → Allows l e.thread (action_as k test e)
allows_as test s l e Push a n = tt
allows_as test s l e Drain a n =
    ap (λ b. slice_get b 0) (a.buffer e.thread) ∙ slice_get-map waiting_of (s.buffer e.thread) 0
    ∙ ap (option_map waiting_of) n
allows_as test s l e (Read v) a n = n ∙ sym (alike_found s l e.thread (event_location test e) a)
allows_as test s l e Fenced a n = a.buffer e.thread ∙ ap (map waiting_of) n
allows_as test s l e (Exchanged v) a n =
    (a.buffer e.thread ∙ ap (map waiting_of) n.0, n.1 ∙ sym (a.memory (event_location test e)))

nil_of : (ws : List Write) → map waiting_of ws ≡ [] → ws ≡ []
nil_of [] h = refl
nil_of (w ∷ ws) h = cc

pub quiet_of : (s : RunState) (l : State) (t : ℕ) → Alike s l → l.buffer t ≡ [] → s.buffer t ≡ []
quiet_of s l t a h = nil_of (s.buffer t) (sym (a.buffer t) ∙ h)

-- the other way round, where a drain takes the write of its own place
pub needs_as : (test : LitmusTest) (s : RunState) (l : State) (e : Event) (k : Kind) → Alike s l
    → (k ≡ Drain → slice_get (s.buffer e.thread) 0 ≡ Some (write_by (text_value test) test e))
    → Allows l e.thread (action_as k test e) → NeedsBy (text_value test) k test s e
needs_as test s l e Push a o h = tt
needs_as test s l e Drain a o h = o refl
needs_as test s l e (Read v) a o h = h ∙ alike_found s l e.thread (event_location test e) a
needs_as test s l e Fenced a o h = quiet_of s l e.thread a h
needs_as test s l e (Exchanged v) a o h = (quiet_of s l e.thread a h.0, h.1 ∙ a.memory (event_location test e))

alike_as : (test : LitmusTest) (s : RunState) (l : State) (e : Event) (k : Kind) → Alike s l
    → Alike (after_by_as (text_value test) k test s e) (next l e.thread (action_as k test e))
alike_as test s l e Push a =
    let t = e.thread in
    let w = write_by (text_value test) test e in
    record {
      memory = a.memory;
      buffer =
          at_two (λ u (ws : List Write) (ls : List Waiting). ls ≡ map waiting_of ws) s.buffer l.buffer t
          (s.buffer t ++ w ∷ []) (l.buffer t ++ waiting_of w ∷ [])
          (ap (λ b. b ++ waiting_of w ∷ []) (a.buffer t) ∙ sym (map-append waiting_of (s.buffer t) (w ∷ [])))
          a.buffer;
    }
alike_as test s l e Drain a =
    let t = e.thread in
    let v = text_value test (site_of e) e.iteration in
    record {
      memory = at_two (λ x (u y : ℕ). y ≡ u) s.memory l.memory (event_location test e) v v refl a.memory;
      buffer =
          at_two (λ u (ws : List Write) (ls : List Waiting). ls ≡ map waiting_of ws) s.buffer l.buffer t
          (drop 1 (s.buffer t)) (drop 1 (l.buffer t))
          (ap (drop 1) (a.buffer t) ∙ drop-map waiting_of 1 (s.buffer t))
          a.buffer;
    }
alike_as test s l e (Read v) a = a
alike_as test s l e Fenced a = a
alike_as test s l e (Exchanged u) a =
    let v = text_value test (site_of e) e.iteration in
    record {
      memory = at_two (λ x (u y : ℕ). y ≡ u) s.memory l.memory (event_location test e) v v refl a.memory;
      buffer = a.buffer;
    }

pub alike_after : (test : LitmusTest) (s : RunState) (l : State) (e : Event) → Alike s l
    → Alike (after_by (text_value test) test s e) (next l e.thread (action_of test e))
alike_after test s l e a = alike_as test s l e e.kind a

pub allows_all : (test : LitmusTest) (s : RunState) (l : State) (es : List Event) → Alike s l
    → StepsBy (text_value test) test s es → AllowsAll l (steps_of test es)
allows_all test s l [] a h = tt
allows_all test s l (e ∷ es) a h = (
  allows_as test s l e e.kind a h.0,
  allows_all test (after_by (text_value test) test s e) (next l e.thread (action_of test e)) es
      (alike_after test s l e a) h.1,
)

pub alike_end : (test : LitmusTest) (s : RunState) (l : State) (es : List Event) → Alike s l
    → Alike (all_after_by (text_value test) test s es) (end_of l (steps_of test es))
alike_end test s l [] a = a
alike_end test s l (e ∷ es) a =
    alike_end test (after_by (text_value test) test s e) (next l e.thread (action_of test e)) es
    (alike_after test s l e a)
