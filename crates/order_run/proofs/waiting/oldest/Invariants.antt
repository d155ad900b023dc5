use Rattle.run_orders.specs.Course.{StoresNone}
use Rattle.order_run.proofs.waiting.oldest.Given as goal

abbrev pub invariant-loop-place : goal.invariant-loop-place
invariant-loop-place l = StoresNone l.test 1 l.t l.fn.own.drained l.place
