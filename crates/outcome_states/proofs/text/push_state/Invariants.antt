use Rattle.std.proofs.Common.{◌≡◌, ◌++◌, drop, map, string_bytes}
use Rattle.row_decision.specs.Fronts.{register_seen}
use Rattle.outcome_states.specs.Text.{cells_from}
use Rattle.outcome_states.proofs.text.push_state.Given as goal

-- the cells that are left complete the line
abbrev pub invariant-loop-k : goal.invariant-loop-k
invariant-loop-k l =
    string_bytes l.out ++ cells_from l.k (map register_seen (drop l.k l.registers)) (drop l.k l.row)
    ≡ string_bytes l.initial.out ++ cells_from 0 (map register_seen l.registers) l.row
