-- How far a run along edges has come, what is kept of it, and what a thread's next action does. The machine is x86-TSO
-- (Sewell, Sarkar, Owens, Zappa Nardelli and Myreen, CACM 2010); what is kept is this project's own.
use Rattle.std.specs.Prelude.{◌≡◌, ℕ, zero, suc, ◌+◌, ◌-◌, ◌<◌, ◌≤◌, Bool, true, false, not, Some, List, filter, take, slice_get, length, if◌then◌else◌}
use Rattle.std.specs.List.{AllZip, AllByRecursion as Each}
use Rattle.x86_subset.specs.Test.{LitmusTest}
use Rattle.x86_subset.specs.declared.instr.Instr.{Instr}
use Rattle.x86_subset.specs.declared.instr.Instr.TheVariants.{Store, Load, Fence, Exchange}
use Rattle.tso_machine.specs.Event.{Event, Kind, Push, Drain, Read, Fenced, Exchanged, is_drain}
use Rattle.tso_machine.specs.Machine.{State, Steps, after_all, initial, readable}
use Rattle.tso_machine.specs.Part.{Fills, Slot, part_of}
use Rattle.run_witness.specs.Marks.{Mark, is_storing, loop_of}
use Rattle.run_witness.specs.Order.{is_store}
use Rattle.run_witness.specs.Stage.{Stands}
use Rattle.verdict.specs.Edges.{is_access}
use Rattle.run_orders.specs.Orders.{FromStart, FromStore, IsWanted, Spot, slot_in, value_at}

-- ---- what is done

-- what thread t has done
abbrev pub deeds : ℕ → List Event → List Event
deeds t events = filter (λ e. not (is_drain e)) (part_of t events)

-- what waits in a thread's buffer is stores, no exchanges
abbrev pub WaitsStores : LitmusTest → ℕ → ℕ → Mark → Type 0
WaitsStores test n t m =
    (i : ℕ) (s : Slot) → m.drained ≤ i → i < m.done → slice_get (loop_of test n t) i ≡ Some s
    → is_storing s.action ≡ true → is_store s.action ≡ true

-- events that lead on from the beginning, by how far the threads have come
pub record Gone (test : LitmusTest) (n : ℕ) (marks : ℕ → Mark) (events : List Event) : Type 0 where
  pub steps : Steps test initial events
  pub stands : Stands test n (after_all test initial events) marks
  pub performed : (t : ℕ) → t < length test.bodies
      → AllZip (Fills t) (take (marks t).done (loop_of test n t)) (deeds t events)
  pub threads : Each (λ e. e.thread < length test.bodies) events
  pub stores : (t : ℕ) → WaitsStores test n t (marks t)

-- a thread's mark after an event of this kind, at this place of its loop
abbrev pub mark_then : Kind → ℕ → Mark → Mark
mark_then Push i m = record { done = m.done + 1; drained = m.drained }
mark_then Drain i m = record { done = m.done; drained = i + 1 }
mark_then (Read v) i m = record { done = m.done + 1; drained = m.drained }
mark_then Fenced i m = record { done = m.done + 1; drained = m.drained }
mark_then (Exchanged v) i m = record { done = m.done + 1; drained = m.done + 1 }

-- what a thread has left to do, and what the first threads have
abbrev pub left : LitmusTest → ℕ → ℕ → Mark → ℕ
left test n t m = (length (loop_of test n t) - m.done) + (length (loop_of test n t) - m.drained)

abbrev pub total : LitmusTest → ℕ → (ℕ → Mark) → ℕ → ℕ
total test n marks zero = 0
total test n marks (suc k) = left test n k (marks k) + total test n marks k

-- ---- what is kept

-- a store, a load or an exchange whose moment is still to come
pub record IsOpen (test : LitmusTest) (n : ℕ) (marks : ℕ → Mark) (a : Spot) : Type 0 where
  pub slot : Slot
  pub stands : slot_in test n a ≡ Some slot
  pub access : is_access slot.action ≡ true
  pub late : (if is_storing slot.action then (marks a.thread).drained else (marks a.thread).done) ≤ a.index

pub record Begun (test : LitmusTest) (n : ℕ) (edge : Spot → Spot → Bool) (wanted : Spot → ℕ → Bool)
    (marks : ℕ → Mark) (events : List Event) : Type 0 where
  pub gone : Gone test n marks events
  -- what an edge leads to comes after what it leads from
  pub closed : (a b : Spot) → edge a b ≡ true → IsOpen test n marks a → (s : Slot) → slot_in test n b ≡ Some s
      → is_access s.action ≡ true → IsOpen test n marks b
  -- until it is read memory has what is read
  pub start : (x : ℕ) (r : Spot) → FromStart test n edge x r → IsOpen test n marks r
      → (after_all test initial events).memory x ≡ 0
  pub stored : (x : ℕ) (r : Spot) (f : FromStore test n edge x r) → IsOpen test n marks r
      → (IsOpen test n marks f.source → ⊥)
      → (after_all test initial events).memory x ≡ value_at test n x f.source f.stores
  pub reads : Each (IsWanted test wanted) events

-- ---- what can be next

-- no action of a thread's loop from one place up to another stores
abbrev pub StoresNone : LitmusTest → ℕ → ℕ → ℕ → ℕ → Type 0
StoresNone test n t from to =
    (i : ℕ) (s : Slot) → from ≤ i → i < to → slice_get (loop_of test n t) i ≡ Some s → is_storing s.action ≡ false

-- the first that does stands here
pub record IsOldest (test : LitmusTest) (n t from to place : ℕ) (s : Slot) : Type 0 where
  pub stands : slice_get (loop_of test n t) place ≡ Some s
  pub storing : is_storing s.action ≡ true
  pub after : from ≤ place
  pub below : place < to
  pub none_before : StoresNone test n t from place

-- what an action of thread t, of location x, does in a state of the machine
abbrev pub kind_now : Instr → State → ℕ → ℕ → Kind
kind_now (Store loc written) s t x = Push
kind_now (Load reg loc) s t x = Read (readable s t x)
kind_now Fence s t x = Fenced
kind_now (Exchange loc written reg) s t x = Exchanged (s.memory x)
