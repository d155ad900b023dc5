use Rattle.std.proofs.Common.{◌≡◌, true}
use Rattle.choice_search.specs.Graph.{edge_among}
use Rattle.choice_search.specs.Search.{is_among}
use Rattle.choice_search.proofs.Walks.{IsWalk, unseen}
use Rattle.choice_search.proofs.cycles.cycle_from.Given as goal

abbrev pub invariant-loop-next : goal.invariant-loop-next
invariant-loop-next l = record {
  walk : IsWalk (edge_among l.edges l.more) l.path.items l.last;
  among : is_among l.last l.nodes ≡ true;
}

abbrev pub decreases-loop-next : goal.decreases-loop-next
decreases-loop-next l = unseen l.nodes l.path.items
