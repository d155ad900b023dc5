use Rattle.decision.proofs.Courses.{more_held}
use Rattle.order_run.specs.Course.{IsHeld, marks_of}
use Rattle.order_run.proofs.next.next_event.Goals as goal

pub loop-t-preserved : goal.loop-t-preserved
loop-t-preserved c =
    more_held (IsHeld c.args.test.now c.args.edges.now (marks_of c.args.course.now.threads.items)) c.loop-t.t
    c.loop-t.invariant (record { drain = c.in_default.ensures; act = c.in_default-deed_of.ensures })
