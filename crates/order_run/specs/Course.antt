-- How far a run along edges has come, which event can be next, and what holds a thread back. The machine is x86-TSO
-- (Sewell, Sarkar, Owens, Zappa Nardelli and Myreen, CACM 2010); doing each event as soon as it can be done is this
-- project's own.
use Rattle.std.specs.Prelude.{◌≡◌, ℕ, ◌+◌, ◌*◌, ◌/◌, ◌%◌, ◌<◌, ◌==◌, ◌&&◌, ◌⊎◌, Bool, true, false, nat_le, Option, None, Some, List, length, map, slice_get, slice_index, unwrap_or, if◌then◌else◌}
use Rattle.std.specs.List.{list_any}
use Rattle.x86_subset.specs.Test.{LitmusTest, body_of}
use Rattle.x86_subset.specs.declared.instr.Instr.{Instr}
use Rattle.x86_subset.specs.declared.instr.Instr.TheVariants.{Store, Load, Fence, Exchange}
use Rattle.tso_machine.specs.Event.{Event, Drain}
use Rattle.tso_machine.specs.Machine.{after_all, initial}
use Rattle.tso_machine.specs.Part.{Slot}
use Rattle.seq_conv.specs.Sequence.{action_at, site_location}
use Rattle.run_judge.specs.Judgement.{event_of}
use Rattle.run_witness.specs.Marks.{Mark, is_storing}
use Rattle.verdict.specs.Edges.{is_access}
use Rattle.choice_search.specs.declared.graph.Pair.{Pair}
use Rattle.run_orders.specs.Course.{Begun, IsOldest, StoresNone, kind_now}
use Rattle.run_orders.specs.Orders.{AllDraw, Spot}
use Rattle.order_run.specs.declared.course.Course.{Course}
use Rattle.order_run.specs.declared.course.Progress.{Progress}
use Rattle.order_run.specs.Along.{StandFor}

-- ---- what is done

abbrev pub mark_of : Progress → Mark
mark_of p = record { done = p.done; drained = p.drained }

-- the mark of each thread
abbrev pub marks_of : List Progress → ℕ → Mark
marks_of threads t = mark_of (unwrap_or (slice_get threads t) (record { done = 0; drained = 0 }))

-- what is kept is that of a run that has been begun, along each relation that the edges stand for
pub record IsKept (test : LitmusTest) (edges : List Pair) (threads : List Progress) (words : List ℕ)
    (events : List Event) : Type 0 where
  pub along : (edge : Spot → Spot → Bool) (wanted : Spot → ℕ → Bool) → StandFor edges edge
      → AllDraw test 1 edge wanted → Begun test 1 edge wanted (marks_of threads) events
  pub count : length threads ≡ length test.bodies
  pub long : length words ≡ 16
  pub memory : (x : ℕ) → x < 16 → slice_index words x ≡ (after_all test initial events).memory x

abbrev pub IsCourse : LitmusTest → List Pair → Course → Type 0
IsCourse test edges course =
    IsKept test edges course.threads.items course.memory (map event_of course.events.items)

-- the thread has done all, and none of its stores waits
abbrev pub AreEnded : LitmusTest → (ℕ → Mark) → Type 0
AreEnded test marks =
    (t : ℕ) → t < length test.bodies
    → ((marks t).done ≡ length (body_of test t)) × StoresNone test 1 t (marks t).drained (marks t).done

-- ---- what edges hold back

-- whether the moment of an action is still to come: that of a store is when it reaches memory, and that of a load or an
-- exchange when it is done
abbrev pub is_late : Option Instr → Mark → ℕ → Bool
is_late None m p = false
is_late (Some a) m p = is_access a && nat_le (if is_storing a then m.drained else m.done) p

abbrev pub is_open : LitmusTest → (ℕ → Mark) → ℕ → ℕ → Bool
is_open test marks t p = is_late (action_at test (record { thread = t; place = p })) (marks t) p

-- whether an edge leads to a place from one whose moment is still to come
abbrev pub holds_back : LitmusTest → (ℕ → Mark) → ℕ → Pair → Bool
holds_back test marks k edge = (edge.second == k) && is_open test marks (edge.first / 16) (edge.first % 16)

abbrev pub is_held : LitmusTest → List Pair → (ℕ → Mark) → ℕ → Bool
is_held test edges marks k = list_any (holds_back test marks k) edges

-- ---- what can be next

-- what the next action of a thread waits for: a read for its place to be free, a fence and an exchange for the thread's
-- own stores
abbrev pub CanDo : LitmusTest → List Pair → (ℕ → Mark) → ℕ → Instr → Type 0
CanDo test edges marks t (Store loc written) = Unit {0}
CanDo test edges marks t (Load reg loc) = is_held test edges marks (t * 16 + (marks t).done) ≡ false
CanDo test edges marks t Fence = StoresNone test 1 t (marks t).drained (marks t).done
CanDo test edges marks t (Exchange loc written reg) =
    StoresNone test 1 t (marks t).drained (marks t).done
    × (is_held test edges marks (t * 16 + (marks t).done) ≡ false)

-- the event of a thread's next action
abbrev pub deed_event : LitmusTest → List Event → ℕ → ℕ → Instr → Event
deed_event test events t p a = record {
  thread = t;
  iteration = 0;
  place = p;
  kind = kind_now a (after_all test initial events) t (site_location test (record { thread = t; place = p }));
}

pub data IsNext (test : LitmusTest) (edges : List Pair) (marks : ℕ → Mark) (events : List Event)
    (e : Event) : Type 0 where
  -- the Drain of its thread's oldest store
  drains : e.thread < length test.bodies → (s : Slot)
      → IsOldest test 1 e.thread (marks e.thread).drained (marks e.thread).done e.place s
      → is_held test edges marks (e.thread * 16 + e.place) ≡ false
      → e ≡ record { thread = e.thread; iteration = 0; place = e.place; kind = Drain }
      → IsNext test edges marks events e
  -- its thread's next action
  acts : e.thread < length test.bodies → (a : Instr)
      → slice_get (body_of test e.thread) e.place ≡ Some a
      → e.place ≡ (marks e.thread).done
      → CanDo test edges marks e.thread a
      → e ≡ deed_event test events e.thread e.place a
      → IsNext test edges marks events e

abbrev pub IsNextIn : LitmusTest → List Pair → Course → Event → Type 0
IsNextIn test edges course e =
    IsNext test edges (marks_of course.threads.items) (map event_of course.events.items) e

-- ---- what holds a thread back

-- no store of a thread waits, or an edge holds the oldest back
abbrev pub IsDrainHeld : LitmusTest → List Pair → (ℕ → Mark) → ℕ → Type 0
IsDrainHeld test edges marks t =
    StoresNone test 1 t (marks t).drained (marks t).done
    ⊎ ((place : ℕ) × ((s : Slot) × IsOldest test 1 t (marks t).drained (marks t).done place s)
    × (is_held test edges marks (t * 16 + place) ≡ true))

-- the thread's next action cannot be done
pub record IsWaiting (test : LitmusTest) (edges : List Pair) (marks : ℕ → Mark) (t : ℕ) : Type 0 where
  pub action : Instr
  pub stands : slice_get (body_of test t) (marks t).done ≡ Some action
  pub why : CanDo test edges marks t action → ⊥

-- a thread has done all, or its next action cannot be done
abbrev pub IsActHeld : LitmusTest → List Pair → (ℕ → Mark) → ℕ → Type 0
IsActHeld test edges marks t = ((marks t).done ≡ length (body_of test t)) ⊎ IsWaiting test edges marks t

-- the thread cannot go on
pub record IsHeld (test : LitmusTest) (edges : List Pair) (marks : ℕ → Mark) (t : ℕ) : Type 0 where
  pub drain : IsDrainHeld test edges marks t
  pub act : IsActHeld test edges marks t
