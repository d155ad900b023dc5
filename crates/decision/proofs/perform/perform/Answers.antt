use Rattle.std.proofs.Common.{◌<◌, ◌∙◌, [], ◌∷◌, ap, arith, length, length-set, map, sym}
use Rattle.std.proofs.lemmas.List.{map-append}
use Rattle.x86_subset.specs.Test.{LitmusTest, body_of}
use Rattle.seq_conv.specs.Sequence.{site_location}
use Rattle.seq_conv.proofs.Numbering.{body_short}
use Rattle.run_judge.specs.Judgement.{event_of}
use Rattle.run_witness.proofs.Courses.{loud_words, quiet_words}
use Rattle.verdict.specs.Edges.{kinds_in}
use Rattle.decision.specs.Course.{mark_after}
use Rattle.decision.proofs.Courses.{course_step, done_here, step_less, value_written}
use Rattle.decision.proofs.perform.perform.Goals as goal

pub progress_after-own-requires-clause-done : goal.progress_after-own-requires-clause-done
progress_after-own-requires-clause-done c =
    let checked = c.args.checked.now in
    let t = c.args.event.thread in
    let d = done_here checked c.args.conjunction c.args.course.now t c.progress_of.result
    c.requires.course c.progress_of.ensures in
    let b = body_short checked.test t c.test-test.ensures.checked.test in
    omega arith

pub progress_after-own-requires-clause-place : goal.progress_after-own-requires-clause-place
progress_after-own-requires-clause-place c =
    let checked = c.args.checked.now in
    let t = c.args.event.thread in
    let b = body_short checked.test t c.test-test.ensures.checked.test in
    let p : c.args.event.place < length (body_of checked.test t) = c.requires.next.place in
    omega arith

pub returns-then-is_write-clause-course : goal.returns-then-is_write-clause-course
returns-then-is_write-clause-course c =
    let checked = c.args.checked.now in
    let course = c.args.course.now in
    let e = event_of c.args.event in
    let writes = sym c.is_write.ensures ∙ c.if-is_write.true in
    let here = c.location-loc.ensures.is ∙ ap (λ (z : LitmusTest). site_location z
    (record { thread = e.thread; place = e.place })) c.test-test.ensures.is in
    let value = c.value.ensures ∙ value_written checked.test c.args.sequences.now e c.requires.same
    (c.requires.next.writes writes) in
    course_step checked.test (kinds_in checked c.args.conjunction) course.threads.items course.memory
    (map event_of course.events.items) e c.progress_after-own.result _ _ c.requires.course c.requires.next
    (c.progress_after-own.ensures ∙ ap (mark_after e.kind e.place) c.progress_of.ensures)
    (length-set course.memory c.location-loc.result c.value.result ∙ c.requires.course.long)
    (λ x l. loud_words checked.test e course.memory c.location-loc.result c.value.result x writes here value
    (let k = c.requires.course.long in omega arith))
    (ap (map event_of) c.in_ok-push.ensures.items ∙ map-append event_of course.events.items (c.args.event ∷ []))

pub returns-then-is_write-clause-less : goal.returns-then-is_write-clause-less
returns-then-is_write-clause-less c =
    let checked = c.args.checked.now in
    let course = c.args.course.now in
    let e = event_of c.args.event in
    step_less checked.test (kinds_in checked c.args.conjunction) course.threads.items course.memory
    (map event_of course.events.items) e c.progress_after-own.result c.requires.course c.requires.next
    (c.progress_after-own.ensures ∙ ap (mark_after e.kind e.place) c.progress_of.ensures)

pub returns-else-is_write-clause-course : goal.returns-else-is_write-clause-course
returns-else-is_write-clause-course c =
    let checked = c.args.checked.now in
    let course = c.args.course.now in
    let e = event_of c.args.event in
    course_step checked.test (kinds_in checked c.args.conjunction) course.threads.items course.memory
    (map event_of course.events.items) e c.progress_after-own.result _ _ c.requires.course c.requires.next
    (c.progress_after-own.ensures ∙ ap (mark_after e.kind e.place) c.progress_of.ensures) c.requires.course.long
    (λ x l. quiet_words checked.test e course.memory x (sym c.is_write.ensures ∙ c.if-is_write.false))
    (ap (map event_of) c.in_ok-push.ensures.items ∙ map-append event_of course.events.items (c.args.event ∷ []))

pub returns-else-is_write-clause-less : goal.returns-else-is_write-clause-less
returns-else-is_write-clause-less c =
    let checked = c.args.checked.now in
    let course = c.args.course.now in
    let e = event_of c.args.event in
    step_less checked.test (kinds_in checked c.args.conjunction) course.threads.items course.memory
    (map event_of course.events.items) e c.progress_after-own.result c.requires.course c.requires.next
    (c.progress_after-own.ensures ∙ ap (mark_after e.kind e.place) c.progress_of.ensures)
