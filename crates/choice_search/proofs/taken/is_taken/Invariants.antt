use Rattle.std.proofs.Common.{◌≡◌, false, take}
use Rattle.choice_search.specs.Graph.{has_pair}
use Rattle.choice_search.specs.Search.{taken_of}
use Rattle.choice_search.proofs.taken.is_taken.Given as goal

abbrev pub invariant-loop-i : goal.invariant-loop-i
invariant-loop-i l = has_pair (taken_of (take l.i l.choices) (take l.i l.sides)) l.a l.b ≡ false
