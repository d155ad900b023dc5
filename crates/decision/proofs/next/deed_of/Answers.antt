use Rattle.std.proofs.Common.{◌≡◌, ◌∙◌, ap, arith, length}
use Rattle.x86_subset.specs.Test.{LitmusTest, body_of}
use Rattle.decision.proofs.Courses.{done_here}
use Rattle.decision.proofs.next.deed_of.Goals as goal

pub deed_kind-requires-clause-place : goal.deed_kind-requires-clause-place
deed_kind-requires-clause-place c =
    let checked = c.args.checked.now in
    let d = done_here checked c.args.conjunction c.args.course.now c.args.t c.progress_of-place.result
    c.requires.course c.progress_of-place.ensures in
    let b : length c.body.result.now ≡ length (body_of checked.test c.args.t) = ap length
    (c.body.ensures ∙ ap (λ (z : LitmusTest). body_of z c.args.t) c.test.ensures.is) in
    let ne = c.if-place-body.false in
    omega arith
