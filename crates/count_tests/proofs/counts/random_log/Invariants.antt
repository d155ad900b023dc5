use Rattle.std.proofs.Common.{◌≡◌, ◌+◌, length}
use Rattle.count_tests.proofs.counts.random_log.Given as goal

abbrev pub invariant-loop-i : goal.invariant-loop-i
invariant-loop-i l = (l.log.columns ≡ l.columns) × (length l.log.values ≡ l.i) × (l.log.spare + l.i ≡ l.all)
