use Rattle.std.proofs.Common.{◌∙◌, [], ◌∷◌, ap, arith, length-set, map, sym}
use Rattle.std.proofs.lemmas.List.{map-append}
use Rattle.seq_conv.proofs.Numbering.{body_short}
use Rattle.run_judge.specs.Judgement.{event_of}
use Rattle.run_witness.proofs.Courses.{loud_words, quiet_words}
use Rattle.run_orders.specs.Course.{mark_then}
use Rattle.decision.proofs.Courses.{row_place, value_written}
use Rattle.order_run.proofs.Steps.{able, able_stores, course_step, done_within, step_less}
use Rattle.order_run.proofs.perform.perform.Goals as goal

pub progress_after-own-requires-clause-done : goal.progress_after-own-requires-clause-done
progress_after-own-requires-clause-done c =
    let test = c.args.test.now in
    let course = c.args.course.now in
    let d = done_within test c.args.edges.now course.threads.items course.memory (map event_of course.events.items)
    c.args.event.thread c.requires.course in
    let same = ap (λ m. m.done) c.progress_of.ensures in
    let b = body_short test c.args.event.thread c.threads-threads.ensures.test in
    omega arith

pub progress_after-own-requires-clause-place : goal.progress_after-own-requires-clause-place
progress_after-own-requires-clause-place c =
    let test = c.args.test.now in
    let course = c.args.course.now in
    let a = able test c.args.edges.now course.threads.items course.memory (map event_of course.events.items)
    (event_of c.args.event) c.threads-threads.ensures.test c.requires.course c.requires.next in
    let p = a.place in
    let b = body_short test c.args.event.thread c.threads-threads.ensures.test in
    omega arith

pub location-loc-requires-clause-place : goal.location-loc-requires-clause-place
location-loc-requires-clause-place c =
    let course = c.args.course.now in
    (able c.args.test.now c.args.edges.now course.threads.items course.memory (map event_of course.events.items)
    (event_of c.args.event) c.threads-threads.ensures.test c.requires.course c.requires.next).place

pub value-requires-clause-place : goal.value-requires-clause-place
value-requires-clause-place c =
    let course = c.args.course.now in
    let a = able c.args.test.now c.args.edges.now course.threads.items course.memory (map event_of course.events.items)
    (event_of c.args.event) c.threads-threads.ensures.test c.requires.course c.requires.next in
    (row_place c.args.test.now c.args.sequences.now c.args.event.thread c.args.event.place c.requires.same a.thread
    a.place).1

pub returns-then-is_write-clause-course : goal.returns-then-is_write-clause-course
returns-then-is_write-clause-course c =
    let test = c.args.test.now in
    let course = c.args.course.now in
    let e = event_of c.args.event in
    let events = map event_of course.events.items in
    let a = able test c.args.edges.now course.threads.items course.memory events e c.threads-threads.ensures.test
    c.requires.course c.requires.next in
    let writes = sym c.is_write.ensures ∙ c.if-is_write.true in
    let value = c.value.ensures ∙ value_written test c.args.sequences.now e c.requires.same
    (able_stores test c.args.edges.now _ events e a writes) in
    course_step test c.args.edges.now course.threads.items course.memory events e c.progress_after-own.result _ _
    c.requires.course a (c.progress_after-own.ensures ∙ ap (mark_then e.kind e.place) c.progress_of.ensures)
    (length-set course.memory c.location-loc.result c.value.result ∙ c.requires.course.long)
    (λ x l. loud_words test e course.memory c.location-loc.result c.value.result x writes c.location-loc.ensures.is
    value (let k = c.requires.course.long in omega arith))
    (ap (map event_of) c.in_ok-push.ensures.items ∙ map-append event_of course.events.items (c.args.event ∷ []))

pub returns-then-is_write-clause-less : goal.returns-then-is_write-clause-less
returns-then-is_write-clause-less c =
    let test = c.args.test.now in
    let course = c.args.course.now in
    let e = event_of c.args.event in
    let events = map event_of course.events.items in
    let a = able test c.args.edges.now course.threads.items course.memory events e c.threads-threads.ensures.test
    c.requires.course c.requires.next in
    step_less test c.args.edges.now course.threads.items course.memory events e c.progress_after-own.result
    c.requires.course a (c.progress_after-own.ensures ∙ ap (mark_then e.kind e.place) c.progress_of.ensures)

pub returns-else-is_write-clause-course : goal.returns-else-is_write-clause-course
returns-else-is_write-clause-course c =
    let test = c.args.test.now in
    let course = c.args.course.now in
    let e = event_of c.args.event in
    let events = map event_of course.events.items in
    let a = able test c.args.edges.now course.threads.items course.memory events e c.threads-threads.ensures.test
    c.requires.course c.requires.next in
    course_step test c.args.edges.now course.threads.items course.memory events e c.progress_after-own.result _ _
    c.requires.course a (c.progress_after-own.ensures ∙ ap (mark_then e.kind e.place) c.progress_of.ensures)
    c.requires.course.long
    (λ x l. quiet_words test e course.memory x (sym c.is_write.ensures ∙ c.if-is_write.false))
    (ap (map event_of) c.in_ok-push.ensures.items ∙ map-append event_of course.events.items (c.args.event ∷ []))

pub returns-else-is_write-clause-less : goal.returns-else-is_write-clause-less
returns-else-is_write-clause-less c =
    let test = c.args.test.now in
    let course = c.args.course.now in
    let e = event_of c.args.event in
    let events = map event_of course.events.items in
    let a = able test c.args.edges.now course.threads.items course.memory events e c.threads-threads.ensures.test
    c.requires.course c.requires.next in
    step_less test c.args.edges.now course.threads.items course.memory events e c.progress_after-own.result
    c.requires.course a (c.progress_after-own.ensures ∙ ap (mark_then e.kind e.place) c.progress_of.ensures)
