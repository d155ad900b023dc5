-- The order of the moments in a run: a store's moment is when it reaches memory, and that of any other action when it
-- is done (x86-TSO: Sewell, Sarkar, Owens, Zappa Nardelli and Myreen, CACM 2010).
use Rattle.std.specs.Prelude.{◌≡◌, ℕ, ◌==◌, ◌&&◌, Bool, false, not, nat_lt, Option, None, Some, List, Contains}
use Rattle.std.specs.List.{position_or_len}
use Rattle.x86_subset.specs.Test.{LitmusTest}
use Rattle.tso_machine.specs.Event.{Event}
use Rattle.tso_machine.specs.Log.{value_read}
use Rattle.tso_machine.specs.Part.{Slot}
use Rattle.tso_machine.specs.Run.{IsRunOf}
use Rattle.tso_machine.specs.Source.{is_push}
use Rattle.verdict.specs.Edges.{is_cycle_of}
use Rattle.run_orders.specs.Orders.{Draws, KeepsOrder, Spot, slot_in, spot_of}

-- the moment of a slot of thread t
abbrev pub comes_at : ℕ → Slot → Event → Bool
comes_at t s e = not (is_push e) && (e.thread == t) && (e.place == s.place) && (e.iteration == s.iteration)

abbrev pub moment_by : List Event → ℕ → Option Slot → ℕ
moment_by run t None = 0
moment_by run t (Some s) = position_or_len (comes_at t s) run

-- whether a's moment is before b's
abbrev pub comes_before : LitmusTest → ℕ → List Event → Spot → Spot → Bool
comes_before test n run a b =
    nat_lt (moment_by run a.thread (slot_in test n a)) (moment_by run b.thread (slot_in test n b))

-- the order of a run's moments has kept order, says where each read takes its value from, and has no cycle
pub record IsOrdered (test : LitmusTest) (n : ℕ) (run : List Event) : Type 0 where
  pub keeps : KeepsOrder test n (comes_before test n run)
  pub draws : (e : Event) (v : ℕ) → Contains run e → value_read e ≡ Some v
      → Draws test n (comes_before test n run) (spot_of test e) v
  pub acyclic : (cycle : List Spot) → is_cycle_of (comes_before test n run) cycle ≡ false

-- law: so it is in each run. With `run_along` of run_orders: reads of n iterations can have some values exactly where
-- an order without cycle says so
abbrev pub RunsAreOrdered : Type 0
RunsAreOrdered = (test : LitmusTest) (n : ℕ) (run : List Event) → IsRunOf test n run → IsOrdered test n run
