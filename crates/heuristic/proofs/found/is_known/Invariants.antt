use Rattle.std.proofs.Common.{◌≡◌, false}
use Rattle.heuristic.specs.Steps.{is_known}
use Rattle.heuristic.proofs.found.is_known.Given as goal

abbrev pub invariant-loop-earlier : goal.invariant-loop-earlier
invariant-loop-earlier l = is_known l.conds l.logs.logs l.n l.earlier l.frame ≡ false
