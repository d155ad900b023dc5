use Rattle.std.proofs.Common.{◌≡◌, ◌+◌, drop}
use Rattle.outcome_states.specs.Registers.{unread_from}
use Rattle.outcome_states.proofs.registers.first_unread.Given as goal

abbrev pub invariant-loop-index : goal.invariant-loop-index
invariant-loop-index l =
    unread_from l.fn.test (l.index + 1) (drop l.index l.atoms) ≡ unread_from l.fn.test 1 l.atoms
