use Rattle.std.proofs.Common.{◌≡◌, ◌++◌, map, string_bytes, take}
use Rattle.std.specs.List.{flat_map}
use Rattle.row_decision.specs.Fronts.{register_seen}
use Rattle.outcome_states.specs.Text.{state_line}
use Rattle.outcome_states.proofs.text.text_of.Given as goal

abbrev pub invariant-loop-row : goal.invariant-loop-row
invariant-loop-row l =
    string_bytes l.out
    ≡ string_bytes l.initial.out
    ++ flat_map (state_line (map register_seen l.registers)) (map (λ row. row.items) (take l.row-index l.rows))
