use Rattle.std.proofs.Common.{ℕ, ◌<◌}
use Rattle.decision.specs.Course.{IsHeld, marks_of}
use Rattle.decision.proofs.next.next_event.Given as goal

abbrev pub invariant-loop-t : goal.invariant-loop-t
invariant-loop-t l = (u : ℕ) → u < l.t → IsHeld l.checked.test l.asked (marks_of l.course.threads.items) u
