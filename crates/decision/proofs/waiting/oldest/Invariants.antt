use Rattle.decision.specs.Course.{StoresNone}
use Rattle.decision.proofs.waiting.oldest.Given as goal

abbrev pub invariant-loop-place : goal.invariant-loop-place
invariant-loop-place l = StoresNone l.test l.t l.fn.own.drained l.place
