-- What is kept of a run that has been begun, which event can be next, and what holds a thread back. This project's own.
use Rattle.std.specs.Prelude.{◌≡◌, ℕ, zero, suc, ◌+◌, ◌-◌, ◌<◌, ◌≤◌, ◌&&◌, ◌||◌, ◌⊎◌, Bool, true, false, Option, None, Some, List, [], ◌∷◌, ◌++◌, length, map, nat_le, slice_get, slice_index, unwrap_or}
use Rattle.std.specs.List.{list_any}
use Rattle.x86_subset.specs.Instr.{is_reading}
use Rattle.x86_subset.specs.Test.{LitmusTest, body_of}
use Rattle.x86_subset.specs.declared.instr.Instr.{Instr}
use Rattle.tso_machine.specs.Event.{Event, Kind, Push, Drain, Read, Fenced, Exchanged, site_of}
use Rattle.tso_machine.specs.Machine.{after_all, initial, updated}
use Rattle.seq_conv.specs.Numbers.{AreOf, Table}
use Rattle.tso_machine.specs.Part.{Slot}
use Rattle.seq_conv.specs.Sequence.{action_at}
use Rattle.tso_machine.specs.Source.{is_memory_kind}
use Rattle.profile_check.specs.Profile.{CheckedTest, IsChecked}
use Rattle.profile_check.specs.declared.kind.AtomKind.{AtomKind}
use Rattle.run_judge.specs.Judgement.{event_of}
use Rattle.run_witness.specs.Marks.{Mark, is_storing, loop_of, waiting}
use Rattle.verdict.specs.declared.asked.Asked.{Asked}
use Rattle.verdict.specs.declared.node.Node.{Node}
use Rattle.verdict.specs.Edges.{asked_of, is_barrier, is_the, kinds_in, same_node}
use Rattle.decision.specs.declared.course.Course.{Course}
use Rattle.decision.specs.declared.course.Progress.{Progress}
use Rattle.decision.specs.Shown.{IsOrdered}
use Rattle.decision.specs.Stage.{Stage}

-- what a run is asked for: its atoms ask for this
pub record IsCase (checked : CheckedTest) (table : Table) (c : ℕ) (asked : List Asked) : Type 0 where
  pub within : IsChecked checked
  pub sequences : AreOf checked.test table
  pub ordered : IsOrdered checked c
  pub atoms : asked ≡ map (asked_of checked.test) (kinds_in checked c)

-- the mark of a thread
abbrev pub mark_of : Progress → Mark
mark_of p = record { done = p.done; drained = p.drained }

-- the mark of each thread
abbrev pub marks_of : List Progress → ℕ → Mark
marks_of threads t = mark_of (unwrap_or (slice_get threads t) (record { done = 0; drained = 0 }))

-- what is kept is that of a run that has been begun
pub record IsKept (test : LitmusTest) (kinds : List AtomKind) (threads : List Progress) (words : List ℕ)
    (events : List Event) : Type 0 where
  pub stage : Stage test kinds (marks_of threads) events
  pub count : length threads ≡ length test.bodies
  pub long : length words ≡ 16
  pub memory : (x : ℕ) → x < 16 → slice_index words x ≡ (after_all test initial events).memory x

-- the course of a run that has been begun
abbrev pub IsCourse : CheckedTest → ℕ → Course → Type 0
IsCourse checked c course =
    IsKept checked.test (kinds_in checked c) course.threads.items course.memory (map event_of course.events.items)

-- a thread's mark after an event of this kind, at this place
abbrev pub mark_after : Kind → ℕ → Mark → Mark
mark_after Push place m = record { done = m.done + 1; drained = m.drained }
mark_after Drain place m = record { done = m.done; drained = place + 1 }
mark_after (Read v) place m = record { done = m.done + 1; drained = m.drained }
mark_after Fenced place m = record { done = m.done + 1; drained = m.drained }
mark_after (Exchanged v) place m = record { done = m.done + 1; drained = m.done + 1 }

-- what a thread has left to do
abbrev pub left : LitmusTest → ℕ → Mark → ℕ
left test t m = (length (loop_of test 1 t) - m.done) + (length (loop_of test 1 t) - m.drained)

-- what the first threads have left to do
abbrev pub total : LitmusTest → (ℕ → Mark) → ℕ → ℕ
total test marks zero = 0
total test marks (suc k) = left test k (marks k) + total test marks k

-- a store or an exchange stands at the event's place
pub record IsOfStore (test : LitmusTest) (e : Event) : Type 0 where
  pub action : Instr
  pub stands : action_at test (site_of e) ≡ Some action
  pub storing : is_storing action ≡ true

-- the event can be next, and leaves less to do
pub record IsNext (test : LitmusTest) (kinds : List AtomKind) (marks : ℕ → Mark) (events : List Event)
    (e : Event) : Type 0 where
  pub thread : e.thread < length test.bodies
  pub iteration : e.iteration ≡ 0
  pub place : e.place < length (body_of test e.thread)
  pub writes : is_memory_kind e.kind ≡ true → IsOfStore test e
  pub stage : Stage test kinds (updated marks e.thread (mark_after e.kind e.place (marks e.thread))) (events ++ e ∷ [])
  pub less : left test e.thread (mark_after e.kind e.place (marks e.thread)) < left test e.thread (marks e.thread)

-- the event can be next in a course
abbrev pub IsNextIn : CheckedTest → ℕ → Course → Event → Type 0
IsNextIn checked c course e =
    IsNext checked.test (kinds_in checked c) (marks_of course.threads.items) (map event_of course.events.items) e

-- ---- what holds a thread back

-- no action of a thread from one place up to another stores
abbrev pub StoresNone : LitmusTest → ℕ → ℕ → ℕ → Type 0
StoresNone test t from to =
    (i : ℕ) (a : Instr) → from ≤ i → i < to
    → action_at test (record { thread = t; place = i }) ≡ Some a → is_storing a ≡ false

-- the first that does stands here
pub record IsOldest (test : LitmusTest) (t from to place : ℕ) : Type 0 where
  pub action : Instr
  pub stands : action_at test (record { thread = t; place = place }) ≡ Some action
  pub storing : is_storing action ≡ true
  pub after : from ≤ place
  pub below : place < to
  pub none_before : StoresNone test t from place

-- what waits in a thread's buffer
abbrev pub queue : LitmusTest → (ℕ → Mark) → ℕ → List Slot
queue test marks t = waiting (loop_of test 1 t) (marks t).drained (marks t).done

-- whether the write that an atom's reader reads from is not in memory yet
abbrev pub source_open : (ℕ → Mark) → Option Node → Bool
source_open marks None = false
source_open marks (Some s) = nat_le (marks s.thread).drained s.place

-- whether an atom's reader, here, would read too early: before its source is in memory
abbrev pub reads_early : (ℕ → Mark) → Node → Asked → Bool
reads_early marks n asked = same_node asked.reader n && source_open marks asked.source

-- whether an atom's follower, here, would write too early: before its reader has read
abbrev pub writes_early : (ℕ → Mark) → Node → Asked → Bool
writes_early marks n asked = is_the asked.follower n && nat_le (marks asked.reader.thread).done asked.reader.place

-- whether an action reads or writes memory too early
abbrev pub is_early : Instr → List Asked → (ℕ → Mark) → Node → Bool
is_early action asked marks n =
    is_reading action
    && (list_any (reads_early marks n) asked || is_storing action && list_any (writes_early marks n) asked)

-- no write of a thread waits, or the oldest would be too early
abbrev pub IsDrainHeld : LitmusTest → List Asked → (ℕ → Mark) → ℕ → Type 0
IsDrainHeld test asked marks t =
    StoresNone test t (marks t).drained (marks t).done
    ⊎ ((place : ℕ) × IsOldest test t (marks t).drained (marks t).done place
    × (list_any (writes_early marks (record { thread = t; place = place })) asked ≡ true))

-- a thread's next action waits for its own writes, or would be too early
pub record IsWaiting (test : LitmusTest) (asked : List Asked) (marks : ℕ → Mark) (t : ℕ) : Type 0 where
  pub action : Instr
  pub stands : action_at test (record { thread = t; place = (marks t).done }) ≡ Some action
  pub why : ((is_barrier action ≡ true) × ((place : ℕ) × IsOldest test t (marks t).drained (marks t).done place))
      ⊎ (is_early action asked marks (record { thread = t; place = (marks t).done }) ≡ true)

-- a thread has done all, or its next action waits
abbrev pub IsDeedHeld : LitmusTest → List Asked → (ℕ → Mark) → ℕ → Type 0
IsDeedHeld test asked marks t = ((marks t).done ≡ length (body_of test t)) ⊎ IsWaiting test asked marks t

-- neither a write nor an action of the thread can be next
pub record IsHeld (test : LitmusTest) (asked : List Asked) (marks : ℕ → Mark) (t : ℕ) : Type 0 where
  pub drain : IsDrainHeld test asked marks t
  pub deed : IsDeedHeld test asked marks t
