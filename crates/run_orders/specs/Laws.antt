-- Laws: what an order asks of the reads of loops is had by a run, or the order has a cycle. For candidate executions
-- that fix the order of all stores this is in Alglave, Maranget and Tautschnig ("Herding cats", TOPLAS 2014), and for
-- the machine in Sewell, Sarkar, Owens, Zappa Nardelli and Myreen ("x86-TSO", CACM 2010).
use Rattle.std.specs.Prelude.{◌≡◌, ◌⊎◌, ℕ, Bool, true, List, All}
use Rattle.x86_subset.specs.Test.{LitmusTest}
use Rattle.load_log.specs.Values.{Values}
use Rattle.tso_machine.specs.Event.{Event}
use Rattle.tso_machine.specs.Run.{IsRunOf}
use Rattle.verdict.specs.Edges.{is_cycle_of}
use Rattle.run_witness.specs.Order.{AreLogsFor, HasLogs, HasWriters}
use Rattle.run_witness.specs.Right.{AreRight}
use Rattle.run_orders.specs.Logs.{log_edge}
use Rattle.run_orders.specs.Orders.{Draws, IsWanted, KeepsOrder, Spot}

-- law: where edges have kept order and say what is wanted of reads of n iterations, some run of n iterations has the
-- reads take it, or the edges have a cycle
abbrev pub RunAlong : Type 0
RunAlong =
    (test : LitmusTest) (n : ℕ) (edge : Spot → Spot → Bool) (wanted : Spot → ℕ → Bool)
    → KeepsOrder test n edge
    → ((r : Spot) (v : ℕ) → wanted r v ≡ true → Draws test n edge r v)
    → ((cycle : List Spot) × (is_cycle_of edge cycle ≡ true))
    ⊎ ((run : List Event) × IsRunOf test n run × All (IsWanted test wanted) run)

-- law: so where the stores of each location stand in one thread and each logged value is right by itself, some run has
-- the logs, or the order that they ask for has a cycle
abbrev pub LogsOrCycle : Type 0
LogsOrCycle =
    (test : LitmusTest) (n : ℕ) (logs : List Values)
    → HasWriters test
    → AreLogsFor test n logs
    → AreRight test n logs
    → ((cycle : List Spot) × (is_cycle_of (log_edge test n logs) cycle ≡ true))
    ⊎ ((run : List Event) × IsRunOf test n run × HasLogs test logs run)
