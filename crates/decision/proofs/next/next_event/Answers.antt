use Rattle.std.proofs.Common.{◌≡◌, ◌∙◌, ap, arith, length}
use Rattle.x86_subset.specs.Test.{LitmusTest}
use Rattle.decision.specs.Course.{IsHeld, marks_of}
use Rattle.decision.proofs.Courses.{more_held}
use Rattle.decision.proofs.next.next_event.Goals as goal

pub loop-t-preserved : goal.loop-t-preserved
loop-t-preserved c =
    more_held (IsHeld c.args.checked.now.test c.args.asked.now (marks_of c.args.course.now.threads.items)) c.loop-t.t
    c.loop-t.invariant (record { drain = c.in_default.ensures; deed = c.in_default-deed_of.ensures })

pub returns : goal.returns
returns c = λ t l.
    let n : c.threads-t-end.result ≡ length c.args.checked.now.test.bodies = c.threads-t-end.ensures.is
    ∙ ap (λ (z : LitmusTest). length z.bodies) c.test.ensures.is in
    let last = c.loop-t-test.false in
    c.loop-t.invariant t (omega arith)
