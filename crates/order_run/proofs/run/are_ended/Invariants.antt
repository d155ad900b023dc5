use Rattle.std.proofs.Common.{◌≡◌, ℕ, ◌<◌, length}
use Rattle.x86_subset.specs.Test.{body_of}
use Rattle.run_orders.specs.Course.{StoresNone}
use Rattle.order_run.specs.Course.{marks_of}
use Rattle.order_run.proofs.run.are_ended.Given as goal

abbrev pub invariant-loop-t : goal.invariant-loop-t
invariant-loop-t l =
    (u : ℕ) → u < l.t → ((marks_of l.course.threads.items u).done ≡ length (body_of l.test u))
    × StoresNone l.test 1 u (marks_of l.course.threads.items u).drained (marks_of l.course.threads.items u).done
