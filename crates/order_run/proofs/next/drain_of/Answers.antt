use Rattle.std.proofs.Common.{◌∙◌, ap, arith, map, refl, sym}
use Rattle.run_judge.specs.Judgement.{event_of}
use Rattle.order_run.specs.Course.{drains}
use Rattle.order_run.proofs.Held.{small_place}
use Rattle.order_run.proofs.Steps.{done_within, oldest_own}
use Rattle.order_run.proofs.next.drain_of.Goals as goal

pub oldest-requires-clause-within : goal.oldest-requires-clause-within
oldest-requires-clause-within c =
    let course = c.args.course.now in
    let d = done_within c.args.test.now c.args.edges.now course.threads.items course.memory
    (map event_of course.events.items) c.args.t c.requires.course in
    let same = ap (λ (m : _). m.done) c.progress_of.ensures in
    omega arith

pub overflow_add-t : goal.overflow_add-t
overflow_add-t c =
    let o = c.in-Some.ensures.1 in
    let p = small_place c.args.test.now c.args.t c.in-Some.place c.in-Some.ensures.0 c.threads-threads.ensures.test
    o.stands in
    let few = c.threads-threads.ensures.test.few_threads in
    let l = c.requires.thread in
    omega arith

pub returns-else-is_held : goal.returns-else-is_held
returns-else-is_held c =
    let course = c.args.course.now in
    let o = oldest_own c.args.test.now course.threads.items c.args.t c.in-Some.place c.progress_of.result
    c.progress_of.ensures c.in-Some.ensures in
    drains c.requires.thread o.0 o.1 (sym c.is_held.ensures ∙ c.if-is_held.false) refl
