use Rattle.std.proofs.Common.{◌≡◌, drop, map}
use Rattle.outcome_rows.specs.Conditions.{value_in}
use Rattle.row_decision.specs.Fronts.{register_seen}
use Rattle.outcome_states.proofs.counting.value_in.Given as goal

abbrev pub invariant-loop-k : goal.invariant-loop-k
invariant-loop-k l =
    value_in (map register_seen (drop l.k l.registers)) (drop l.k l.row) l.atom.thread l.atom.reg
    ≡ value_in (map register_seen l.registers) l.row l.atom.thread l.atom.reg
