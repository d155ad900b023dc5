use Rattle.std.proofs.Common.{◌≡◌, false, take}
use Rattle.choice_search.specs.Search.{leads}
use Rattle.choice_search.proofs.cycles.next_by.Given as goal

abbrev pub invariant-loop-edge : goal.invariant-loop-edge
invariant-loop-edge l = leads (take l.edge-index l.edges) l.nodes l.a ≡ false
