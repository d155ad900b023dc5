use Rattle.std.proofs.Common.{ap, arith, length, map}
use Rattle.run_judge.specs.Judgement.{event_of}
use Rattle.order_run.proofs.Steps.{done_within}
use Rattle.order_run.proofs.next.deed_of.Goals as goal

pub deed_kind-requires-clause-place : goal.deed_kind-requires-clause-place
deed_kind-requires-clause-place c =
    let course = c.args.course.now in
    let d = done_within c.args.test.now c.args.edges.now course.threads.items course.memory
    (map event_of course.events.items) c.args.t c.requires.course in
    let same = ap (λ m. m.done) c.progress_of-place.ensures in
    let b = ap length c.body.ensures in
    let ne = c.if-place-body.false in
    omega arith
