use Rattle.std.proofs.Common.{◌≡◌, true}
use Rattle.std.specs.List.{list_all, slice_range}
use Rattle.x86_subset.specs.Conjunctions.{from_of}
use Rattle.litmus_outcomes.specs.Within.{is_steady}
use Rattle.frames_within.proofs.loose.first_in.Given as goal

-- no atom so far is loose
abbrev pub invariant-loop-i : goal.invariant-loop-i
invariant-loop-i l =
    list_all is_steady (slice_range l.checked.kinds (from_of l.checked.test.ends l.conjunction) l.i) ≡ true
