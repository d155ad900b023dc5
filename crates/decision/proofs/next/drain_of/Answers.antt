use Rattle.std.proofs.Common.{◌≡◌, ◌∙◌, ap, arith, length, subst, sym}
use Rattle.x86_subset.specs.Test.{LitmusTest, body_of}
use Rattle.decision.specs.Course.{IsOldest}
use Rattle.decision.proofs.Courses.{done_here, drain_next}
use Rattle.decision.proofs.next.drain_of.Goals as goal

pub oldest-requires-clause-within : goal.oldest-requires-clause-within
oldest-requires-clause-within c =
    let checked = c.args.checked.now in
    let d = done_here checked c.args.conjunction c.args.course.now c.args.t c.progress_of.result
    c.requires.course c.progress_of.ensures in
    let b : length (body_of c.test-test.result.now c.args.t)
    ≡ length (body_of checked.test c.args.t) = ap (λ (z : LitmusTest). length (body_of z c.args.t))
    c.test-test.ensures.is in
    omega arith

pub returns-else-is_write_early : goal.returns-else-is_write_early
returns-else-is_write_early c =
    let P : LitmusTest → Type 0 = λ z. IsOldest z c.args.t c.progress_of.result.drained c.progress_of.result.done
    c.in-Some.place in
    drain_next c.args.checked.now c.args.sequences.now c.args.conjunction c.args.asked.now c.args.course.now c.args.t
    c.in-Some.place c.progress_of.result c.requires.case c.requires.course c.requires.thread c.progress_of.ensures
    (subst P c.test-test.ensures.is c.in-Some.ensures) (sym c.is_write_early.ensures ∙ c.if-is_write_early.false)
