use Rattle.std.proofs.Common.{◌≡◌, ◌+◌, length}
use Rattle.count_tests.proofs.rings.ring_log.Given as goal

abbrev pub invariant-loop-i : goal.invariant-loop-i
invariant-loop-i l = (l.log.columns ≡ 1) × (length l.log.values ≡ l.i) × (l.log.spare + l.i ≡ l.n)
