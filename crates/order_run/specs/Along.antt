-- A run along edges between the places of a test's actions, or a cycle of the edges. What such edges are asked for is
-- in the specs of `run_orders`; numbers for places are this project's own.
use Rattle.std.specs.Prelude.{◌≡◌, ℕ, ◌/◌, ◌%◌, Bool, true, All, List}
use Rattle.x86_subset.specs.Test.{LitmusTest}
use Rattle.tso_machine.specs.Event.{Event}
use Rattle.tso_machine.specs.Run.{IsRunOf}
use Rattle.verdict.specs.Edges.{is_cycle_of}
use Rattle.choice_search.specs.declared.graph.Pair.{Pair}
use Rattle.choice_search.specs.Graph.{has_pair}
use Rattle.run_orders.specs.Orders.{AllDraw, IsWanted, KeepsOrder, Spot}

-- the place of a number, 16 to a thread
abbrev pub spot_at : ℕ → Spot
spot_at k = record { thread = k / 16; index = k % 16 }

-- the pairs are those between which the relation leads
abbrev pub StandFor : List Pair → (Spot → Spot → Bool) → Type 0
StandFor edges edge = (a b : ℕ) → has_pair edges a b ≡ edge (spot_at a) (spot_at b)

-- a run of one iteration, in which each read whose value follows from the edges has it
pub record IsRunAlong (test : LitmusTest) (edges : List Pair) (run : List Event) : Type 0 where
  pub legal : IsRunOf test 1 run
  pub wants : (edge : Spot → Spot → Bool) (wanted : Spot → ℕ → Bool) → StandFor edges edge
      → AllDraw test 1 edge wanted → All (IsWanted test wanted) run

-- where the edges have kept order, they have a cycle
abbrev pub HasCycle : LitmusTest → List Pair → Type 0
HasCycle test edges =
    (edge : Spot → Spot → Bool) → StandFor edges edge → KeepsOrder test 1 edge
    → (cycle : List Spot) × (is_cycle_of edge cycle ≡ true)
