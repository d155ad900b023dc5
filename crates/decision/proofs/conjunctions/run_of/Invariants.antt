use Rattle.std.proofs.Common.{length}
use Rattle.decision.specs.Course.{IsCourse, marks_of, total}
use Rattle.decision.proofs.conjunctions.run_of.Given as goal

abbrev pub invariant-run : goal.invariant-run
invariant-run l = IsCourse l.checked l.conjunction l.course

abbrev pub decreases-run : goal.decreases-run
decreases-run l = total l.checked.test (marks_of l.course.threads.items) (length l.checked.test.bodies)
