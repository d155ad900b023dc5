use Rattle.std.proofs.Common.{◌≡◌, ◌++◌, filter, map, take}
use Rattle.row_decision.specs.Fronts.{register_seen}
use Rattle.outcome_states.specs.Registers.{all_registers, is_named, register_of}
use Rattle.outcome_states.proofs.registers.push_registers.Given as goal

abbrev pub invariant-loop-reg : goal.invariant-loop-reg
invariant-loop-reg l =
    map register_seen l.registers.items
    ≡ map register_seen l.fn.registers.items
    ++ filter (is_named l.fn.test) (map (register_of l.fn.thread) (take l.reg-index all_registers))
