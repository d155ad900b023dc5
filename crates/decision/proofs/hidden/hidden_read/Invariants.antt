use Rattle.std.proofs.Common.{◌≡◌, []}
use Rattle.std.specs.List.{filter_map, slice_range}
use Rattle.x86_subset.specs.Conjunctions.{from_of}
use Rattle.decision.specs.Hidden.{hidden_by}
use Rattle.decision.proofs.hidden.hidden_read.Given as goal

-- no atom so far names a hidden store
abbrev pub invariant-loop-i : goal.invariant-loop-i
invariant-loop-i l =
    filter_map (hidden_by l.checked.test) (slice_range l.checked.kinds (from_of l.checked.test.ends l.conjunction) l.i)
    ≡ []
