use Rattle.std.proofs.Common.{◌≡◌, take}
use Rattle.choice_search.specs.Search.{taken_of}
use Rattle.choice_search.proofs.taken.edges_of.Given as goal

abbrev pub invariant-loop-i : goal.invariant-loop-i
invariant-loop-i l = l.edges.items ≡ taken_of (take l.i l.choices) (take l.i l.sides)
