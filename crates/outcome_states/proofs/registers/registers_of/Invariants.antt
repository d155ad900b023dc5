use Rattle.std.proofs.Common.{◌≡◌, filter, map}
use Rattle.std.specs.List.{flat_map, range_with_len}
use Rattle.row_decision.specs.Fronts.{register_seen}
use Rattle.outcome_states.specs.Registers.{is_named, registers_of_thread}
use Rattle.outcome_states.proofs.registers.registers_of.Given as goal

abbrev pub invariant-loop-thread : goal.invariant-loop-thread
invariant-loop-thread l =
    map register_seen l.registers.items
    ≡ filter (is_named l.fn.test) (flat_map registers_of_thread (range_with_len 0 l.thread))
