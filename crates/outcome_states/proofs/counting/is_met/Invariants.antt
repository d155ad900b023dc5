use Rattle.std.proofs.Common.{◌≡◌, false, map}
use Rattle.std.specs.List.{list_all, list_any, range_with_len}
use Rattle.x86_subset.specs.Conjunctions.{conjunction_of}
use Rattle.row_decision.specs.Fronts.{register_seen}
use Rattle.outcome_states.specs.Counting.{holds_in}
use Rattle.outcome_states.proofs.counting.is_met.Given as goal

abbrev pub invariant-loop-conjunction : goal.invariant-loop-conjunction
invariant-loop-conjunction l =
    list_any (list_all (holds_in (map register_seen l.fn.registers) l.fn.row))
    (map (conjunction_of l.fn.test.ends l.fn.test.atoms) (range_with_len 0 l.conjunction))
    ≡ false
