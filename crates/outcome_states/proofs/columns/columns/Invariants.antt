use Rattle.std.proofs.Common.{◌≡◌, map, take}
use Rattle.outcome_rows.specs.Listing.{columns_of_values}
use Rattle.row_decision.specs.Fronts.{register_seen}
use Rattle.outcome_states.proofs.columns.columns.Given as goal

abbrev pub invariant-loop-register : goal.invariant-loop-register
invariant-loop-register l =
    map (λ column. column.items) l.columns.items
    ≡ columns_of_values l.fn.test (map register_seen (take l.register-index l.fn.registers))
