use Rattle.std.proofs.Common.{vec_len}
use Rattle.choice_search.specs.Graph.{edge_among}
use Rattle.choice_search.specs.Search.{KeepsCycles}
use Rattle.choice_search.proofs.cycles.peeled.Given as goal

abbrev pub invariant-loop-left : goal.invariant-loop-left
invariant-loop-left l = KeepsCycles (edge_among l.edges l.more) l.initial.left.items l.left.items

abbrev pub decreases-loop-left : goal.decreases-loop-left
decreases-loop-left l = vec_len l.left
