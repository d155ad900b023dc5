use Rattle.std.proofs.Common.{ℕ, ◌<◌}
use Rattle.order_run.specs.Course.{IsHeld, marks_of}
use Rattle.order_run.proofs.next.next_event.Given as goal

abbrev pub invariant-loop-t : goal.invariant-loop-t
invariant-loop-t l = (u : ℕ) → u < l.t → IsHeld l.test l.edges (marks_of l.course.threads.items) u
