use Rattle.std.proofs.Common.{◌≡◌, false, take}
use Rattle.choice_search.specs.Search.{is_among}
use Rattle.choice_search.proofs.cycles.place_of.Given as goal

abbrev pub invariant-loop-i : goal.invariant-loop-i
invariant-loop-i l = is_among l.n (take l.i l.nodes) ≡ false
