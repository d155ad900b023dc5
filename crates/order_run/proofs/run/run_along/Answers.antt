use Rattle.std.proofs.Common.{map}
use Rattle.std.proofs.lemmas.Bool.{both_ways}
use Rattle.run_judge.specs.Judgement.{event_of}
use Rattle.order_run.proofs.Steps.{run_ends, stuck_cycle}
use Rattle.order_run.proofs.run.run_along.Goals as goal

pub returns-then-are_ended : goal.returns-then-are_ended
returns-then-are_ended c =
    let course = c.loop-event.course in
    run_ends c.args.test.now c.args.edges.now course.threads.items course.memory (map event_of course.events.items)
    c.loop-event.invariant (c.are_ended.ensures.0 c.if-are_ended.true)

pub returns-else-are_ended : goal.returns-else-are_ended
returns-else-are_ended c =
    let course = c.loop-event.course in
    stuck_cycle c.args.test.now c.args.edges.now course.threads.items course.memory (map event_of course.events.items)
    c.threads-threads.ensures.test c.loop-event.invariant c.in_default.ensures
    (λ ended. both_ways c.are_ended.result c.if-are_ended.false (c.are_ended.ensures.1 ended))
