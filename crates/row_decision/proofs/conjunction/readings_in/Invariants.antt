use Rattle.std.proofs.Common.{◌≡◌, map}
use Rattle.std.specs.List.{slice_range}
use Rattle.x86_subset.specs.Conjunctions.{from_of}
use Rattle.once.specs.Edges.{reading_of}
use Rattle.row_decision.specs.Seen.{seen}
use Rattle.row_decision.proofs.conjunction.readings_in.Given as goal

abbrev pub invariant-loop-i : goal.invariant-loop-i
invariant-loop-i l =
    map seen l.readings.items ≡ map (reading_of l.checked.test) (slice_range l.checked.kinds
    (from_of l.checked.test.ends l.conjunction) l.i)
