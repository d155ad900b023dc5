-- Legal is said exactly of written executions.
use Rattle.std.proofs.Common.{◌≡◌, ℕ, ◌<◌, ◌==◌, Bool, true, Some, List, [], ◌∷◌, ◌++◌, length, map, slice_get, refl, sym, ap, ◌∙◌, subst, append-nil}
use Rattle.std.proofs.lemmas.Bool.{cases_eq}
use Rattle.std.proofs.lemmas.List.Elements.{recursion_from_All}
use Rattle.std.specs.List.{AllByRecursion as Each}
use Rattle.x86_subset.specs.Test.{LitmusTest}
use Rattle.seq_conv.specs.Sequence.{Origin}
use Rattle.tso_machine.specs.Event.{Event, Kind, Push, Drain, Read, Fenced, Exchanged, is_drain_kind, site_of}
use Rattle.tso_machine.specs.Event.{event_location}
use Rattle.tso_machine.specs.Machine.{State as RunState, Write, initial}
use Rattle.seq_conv.specs.Sequence.{site_location}
use Rattle.run_judge.specs.Written.{IsRunWith, NeedsBy, StepsBy, after_by, all_after_by, text_value, write_by}
use Rattle.run_judge.proofs.Judged.{legal_is_run_with_lem}
use Rattle.run_judge.proofs.Owned.{IsOwn, own_after}
use Rattle.litmus_outcomes.specs.Machine.{Action, Allows, AllowsAll, State, Waiting, end_of, next, start}
use Rattle.litmus_outcomes.specs.Outcome.{IsExecution}
use Rattle.execution_check.specs.Laws.{LegalIsExecution}
use Rattle.execution_check.specs.Steps.{IsWritten, action_as, action_of, drained, is_push_kind, origin_of, steps_of, stored}
use Rattle.execution_check.proofs.Alike.{Alike, alike_after, alike_end, alike_start, allows_all, needs_as, quiet_of, waiting_of}
use Rattle.execution_check.proofs.Doing.{does_all}
use Rattle.execution_check.proofs.Queues.{Meets, Takes, first_taken, meets_all, meets_behind, waits_for}

-- A run of the judge's machine is written.

written_from : (test : LitmusTest) (run : List Event) → IsRunWith (text_value test) test 1 run → IsWritten test run
written_from test run r =
    let a = alike_end test initial start run alike_start in
    record {
      execution =
          record {
            allowed = allows_all test initial start run alike_start r.steps;
            drained = λ t. a.buffer t ∙ ap (map waiting_of) (r.drained t);
            in_order =
                λ t. does_all test t run (r.performs t)
                (recursion_from_All (λ (e : Event). e.thread < length test.bodies)
                run r.threads);
          };
      in_order = r.performs;
      threads = r.threads;
      drains = λ t. sym (meets_all (text_value test) test initial run t r.steps (r.drained t));
    }

-- And what is written is such a run.

-- a write that waits is told by its store
told_by : (test : LitmusTest) (e : Event) (w : Write) → IsOwn (text_value test) test e.thread w
    → waits_for e.thread w ≡ origin_of e → w ≡ write_by (text_value test) test e
told_by test e w own h =
    own ∙ ap (λ (o : Origin). record {
      location = site_location test (record { thread = o.thread; place = o.place });
      value = text_value test (record { thread = o.thread; place = o.place }) o.iteration;
      iteration = o.iteration;
      place = o.place;
    }) h

first_own : (test : LitmusTest) (t : ℕ) (ws : List Write) (w : Write) → Each (IsOwn (text_value test) test t) ws
    → slice_get ws 0 ≡ Some w → IsOwn (text_value test) test t w
first_own test t [] w h k = cc
first_own test t (v ∷ ws) w h k =
    let same : v ≡ w = cc in let P : Write → Type 0 = λ z. IsOwn (text_value test) test t z in subst P same h.0

some_waits : (s : RunState) (l : State) (t : ℕ) (v : Waiting) → Alike s l → slice_get (l.buffer t) 0 ≡ Some v
    → s.buffer t ≡ [] → ⊥
some_waits s l t v a h e =
    let k : slice_get (map waiting_of (s.buffer t)) 0 ≡ Some v = ap (λ b. slice_get b 0) (sym (a.buffer t)) ∙ h in
    let P : List Write → Type 0 = λ ws. slice_get (map waiting_of ws) 0 ≡ Some v in
    let z = subst P e k in
    cc

record Taken (test : LitmusTest) (s : RunState) (e : Event) (k : Kind) : Type 0 where
  takes : Takes k (s.buffer e.thread) e
  oldest : k ≡ Drain → slice_get (s.buffer e.thread) 0 ≡ Some (write_by (text_value test) test e)

drain_taken : (test : LitmusTest) (s : RunState) (e : Event) → Each (IsOwn (text_value test) test e.thread)
    (s.buffer e.thread)
    → ((w : Write) × (slice_get (s.buffer e.thread) 0 ≡ Some w) × (waits_for e.thread w ≡ origin_of e))
    → Taken test s e Drain
drain_taken test s e own w = record {
  takes = w;
  oldest = λ k. w.1 ∙ ap (λ z. Some z) (told_by test e w.0 (first_own test e.thread
      (s.buffer e.thread) w.0 own w.1) w.2);
}

taken_as : (test : LitmusTest) (s : RunState) (l : State) (e : Event) (es : List Event) (k : Kind) → e.kind ≡ k
    → Alike s l → Each (IsOwn (text_value test) test e.thread) (s.buffer e.thread)
    → Meets e.thread (s.buffer e.thread) (e ∷ es) → Allows l e.thread (action_as k test e) → Taken test s e k
taken_as test s l e es Push h a own m c = record { takes = tt; oldest = λ k. cc }
taken_as test s l e es Drain h a own m c =
    drain_taken test s e own (first_taken e.thread (s.buffer e.thread) e es refl (ap is_drain_kind h)
    (ap is_push_kind h) (some_waits s l e.thread _ a c) m)
taken_as test s l e es (Read v) h a own m c = record { takes = tt; oldest = λ k. cc }
taken_as test s l e es Fenced h a own m c = record { takes = tt; oldest = λ k. cc }
taken_as test s l e es (Exchanged v) h a own m c = record { takes = tt; oldest = λ k. cc }

steps_from : (test : LitmusTest) (s : RunState) (l : State) (es : List Event) → Alike s l
    → ((t : ℕ) → Each (IsOwn (text_value test) test t) (s.buffer t)) → ((t : ℕ) → Meets t (s.buffer t) es)
    → AllowsAll l (steps_of test es) → StepsBy (text_value test) test s es
steps_from test s l [] a own m h = tt
steps_from test s l (e ∷ es) a own m h =
    let k = taken_as test s l e es e.kind refl a (own e.thread) (m e.thread) h.0 in (
      needs_as test s l e e.kind a k.oldest h.0,
      steps_from test (after_by (text_value test) test s e) (next l e.thread (action_of test e)) es
          (alike_after test s l e a)
          (λ t. own_after (text_value test) test s (e ∷ []) t (own t))
          (λ t. meets_behind (text_value test) test s e es t k.takes (m t) (cases_eq e.thread t))
          h.1,
    )

run_from : (test : LitmusTest) (run : List Event) → IsWritten test run → IsRunWith (text_value test) test 1 run
run_from test run w =
    let a = alike_end test initial start run alike_start in
    record {
      steps =
          steps_from test initial start run alike_start (λ t. tt) (λ t. sym (w.drains t)) w.execution.allowed;
      drained =
          λ t. quiet_of (all_after_by (text_value test) test initial run) (end_of start (steps_of test run)) t a
          (w.execution.drained t);
      performs = w.in_order;
      threads = w.threads;
    }

pub legal_is_execution_lem : LegalIsExecution
legal_is_execution_lem test events =
    let law = legal_is_run_with_lem (text_value test) test 1 events in (
      λ h. written_from test events (law.0 h),
      λ w. law.1 (run_from test events w),
    )
