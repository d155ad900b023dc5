use Rattle.std.proofs.Common.{length}
use Rattle.run_orders.specs.Course.{total}
use Rattle.order_run.specs.Course.{IsCourse, marks_of}
use Rattle.order_run.proofs.run.run_along.Given as goal

abbrev pub invariant-loop-event : goal.invariant-loop-event
invariant-loop-event l = IsCourse l.test l.edges l.course

abbrev pub decreases-loop-event : goal.decreases-loop-event
decreases-loop-event l = total l.test 1 (marks_of l.course.threads.items) (length l.test.bodies)
