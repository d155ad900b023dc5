use Rattle.std.proofs.Common.{◌≡◌, drop}
use Rattle.choice_search.specs.Graph.{edge_among, is_path}
use Rattle.choice_search.proofs.cycles.closes.Given as goal

abbrev pub invariant-loop-next : goal.invariant-loop-next
invariant-loop-next l =
    is_path (edge_among l.edges l.more) l.first l.rest l.first
    ≡ is_path (edge_among l.edges l.more) l.previous (drop l.next-index l.rest) l.first
