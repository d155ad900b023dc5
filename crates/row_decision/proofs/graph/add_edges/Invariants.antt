use Rattle.std.proofs.Common.{◌≡◌, ◌<◌, ℕ, true, All, [], map}
use Rattle.choice_search.specs.Graph.{has_pair}
use Rattle.choice_search.specs.declared.graph.Pair.{Pair}
use Rattle.once.specs.Edges.{edge_among}
use Rattle.row_decision.specs.Seen.{node_at, seen}
use Rattle.row_decision.proofs.graph.add_edges.Given as goal

abbrev pub invariant-loop-second : goal.invariant-loop-second
invariant-loop-second l =
    (All (λ (p : Pair).
    edge_among l.fn.test (map seen l.fn.readings) [] (node_at p.first) (node_at p.second) ≡ true) l.initial.edges.items
    → All (λ (p : Pair).
    edge_among l.fn.test (map seen l.fn.readings) [] (node_at p.first) (node_at p.second) ≡ true) l.edges.items)
    × ((a b : ℕ) → has_pair l.initial.edges.items a b ≡ true → has_pair l.edges.items a b ≡ true)
    × ((b : ℕ) → b < l.second → edge_among l.fn.test (map seen l.fn.readings) [] (node_at l.fn.first) (node_at b) ≡ true
    → has_pair l.edges.items l.fn.first b ≡ true)
