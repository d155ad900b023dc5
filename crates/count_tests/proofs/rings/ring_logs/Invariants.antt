use Rattle.std.proofs.Common.{◌≡◌, ◌+◌}
use Rattle.count_tests.specs.RingLogs.{HasEach}
use Rattle.count_tests.proofs.rings.ring_logs.Given as goal

abbrev pub invariant-loop-t : goal.invariant-loop-t
invariant-loop-t l = HasEach l.t l.n l.logs.logs × (l.logs.spare + l.t ≡ l.threads)
