use Rattle.std.proofs.Common.{◌≡◌, map, take}
use Rattle.std.specs.List.{count_by}
use Rattle.row_decision.specs.Fronts.{register_seen}
use Rattle.outcome_states.specs.Counting.{is_met}
use Rattle.outcome_states.proofs.counting.count_met.Given as goal

abbrev pub invariant-loop-row : goal.invariant-loop-row
invariant-loop-row l =
    l.met
    ≡ count_by (is_met l.fn.test (map register_seen l.fn.registers))
    (map (λ row. row.items) (take l.row-index l.fn.rows))
