use Rattle.std.proofs.Common.{◌≡◌, replicate}
use Rattle.perp_base.proofs.frame.Frame.filled.Given as goal

abbrev pub invariant-loop : goal.invariant-loop
invariant-loop l = l.frame ≡ replicate l.counter l.n
