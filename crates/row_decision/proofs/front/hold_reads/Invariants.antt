use Rattle.std.proofs.Common.{map, take}
use Rattle.outcome_rows.specs.Rows.{HoldReads}
use Rattle.row_decision.specs.Fronts.{register_seen}
use Rattle.row_decision.proofs.front.hold_reads.Given as goal

abbrev pub invariant-loop-register : goal.invariant-loop-register
invariant-loop-register l = HoldReads l.fn.test (map register_seen (take l.register-index l.fn.registers))
