use Rattle.std.proofs.Common.{◌≡◌, ◌<◌, ℕ, true, All, [], map}
use Rattle.choice_search.specs.Graph.{has_pair}
use Rattle.choice_search.specs.declared.graph.Pair.{Pair}
use Rattle.once.specs.Edges.{edge_among}
use Rattle.row_decision.specs.Seen.{node_at, seen}
use Rattle.row_decision.proofs.graph.edges_of.Given as goal

abbrev pub invariant-loop-first : goal.invariant-loop-first
invariant-loop-first l =
    All (λ (p : Pair).
    edge_among l.fn.test (map seen l.fn.readings) [] (node_at p.first) (node_at p.second) ≡ true) l.edges.items
    × ((a b : ℕ) → a < l.first → b < 128
    → edge_among l.fn.test (map seen l.fn.readings) [] (node_at a) (node_at b) ≡ true
    → has_pair l.edges.items a b ≡ true)
