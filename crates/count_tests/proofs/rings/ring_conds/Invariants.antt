use Rattle.std.proofs.Common.{◌≡◌, All, length}
use Rattle.outcome_conv.specs.declared.cond.Cond.{Cond}
use Rattle.outcome_conv.specs.Conditions.{IsKind}
use Rattle.count_tests.specs.RingLogs.{IsOfEach}
use Rattle.count_tests.proofs.rings.ring_conds.Given as goal

abbrev pub invariant-loop-t : goal.invariant-loop-t
invariant-loop-t l =
    (length l.conds.items ≡ l.t) × All (IsOfEach l.threads) l.conds.items
    × All (λ (x : Cond). IsKind x.kind) l.conds.items
