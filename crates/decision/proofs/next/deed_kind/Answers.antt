use Rattle.std.proofs.Common.{◌∙◌, Some, ap, get_or, map, refl, slice_get, subst, sym, unwrap_or}
use Rattle.x86_subset.specs.Test.{LitmusTest, body_of}
use Rattle.x86_subset.specs.declared.instr.Instr.{Instr}
use Rattle.x86_subset.specs.declared.instr.Instr.TheVariants.{Fence, Exchange}
use Rattle.tso_machine.specs.Machine.{after_all, initial, newest, readable}
use Rattle.seq_conv.specs.Sequence.{site_location}
use Rattle.run_judge.specs.Judgement.{event_of}
use Rattle.run_witness.specs.Marks.{loop_of, waiting}
use Rattle.run_witness.specs.Stage.{slot_write}
use Rattle.decision.specs.Course.{IsOldest, StoresNone, is_early, marks_of}
use Rattle.decision.proofs.Courses.{exchange_now, fence_now, push_now, read_now, waits_barred, waits_early, word_found}
use Rattle.decision.proofs.next.deed_kind.Goals as goal

pub returns-then-is_early : goal.returns-then-is_early
returns-then-is_early c =
    let at = ap (λ (z : LitmusTest). slice_get (body_of z c.args.n.thread) c.args.n.place) (sym c.test-test.ensures.is)
    ∙ c.action_of-action.ensures in
    waits_early c.args.checked.now.test c.args.asked.now (marks_of c.args.course.now.threads.items) c.args.n.thread
    c.args.n.place c.action_of-action.result c.requires.here at (sym c.is_early.ensures ∙ c.if-is_early.true)

pub returns-in-Store : goal.returns-in-Store
returns-in-Store c =
    let at = ap (λ (z : LitmusTest). slice_get (body_of z c.args.n.thread) c.args.n.place) (sym c.test-test.ensures.is)
    ∙ c.action_of-action.ensures ∙ ap (λ z. Some z) c.in-Store.is in
    push_now c.args.checked.now c.args.conjunction c.args.course.now c.args.n.thread c.args.n.place c.in-Store.loc
    c.in-Store.written c.requires.course c.requires.thread c.requires.here at

pub returns-in-Load : goal.returns-in-Load
returns-in-Load c =
    let checked = c.args.checked.now in
    let course = c.args.course.now in
    let t = c.args.n.thread in
    let own = c.progress_of-own.result in
    let x = c.location-loc.result in
    let at = ap (λ (z : LitmusTest). slice_get (body_of z t) c.args.n.place) (sym c.test-test.ensures.is)
    ∙ c.action_of-action.ensures ∙ ap (λ z. Some z) c.in-Load.is in
    let free = ap (λ (a : Instr). is_early a c.args.asked.now (marks_of course.threads.items) c.args.n)
    (sym c.in-Load.is) ∙ sym c.is_early.ensures ∙ c.if-is_early.false in
    let here = c.location-loc.ensures.is ∙ ap (λ (z : LitmusTest). site_location z
    (record { thread = t; place = c.args.n.place })) c.test-test.ensures.is in
    let waits = c.newest.ensures ∙ ap (λ (z : LitmusTest). newest x
    (map (slot_write z t) (waiting (loop_of z 1 t) own.drained own.done))) c.test-test.ensures.is in
    let value = word_found checked c.args.conjunction course t x
    (get_or course.memory x 0) c.unwrap_or-value.result own c.requires.course c.progress_of-own.ensures
    c.location-loc.ensures.limit refl (c.unwrap_or-value.ensures
    ∙ ap (λ z. unwrap_or z (get_or course.memory x 0)) waits) in
    read_now checked c.args.sequences.now c.args.conjunction c.args.asked.now course t c.args.n.place c.in-Load.reg
    c.in-Load.loc c.unwrap_or-value.result c.requires.case c.requires.course c.requires.thread c.requires.here
    at free
    (value ∙ ap (readable (after_all checked.test initial (map event_of course.events.items)) t) here)

pub returns-in-Some : goal.returns-in-Some
returns-in-Some c =
    let own = c.progress_of-own.result in
    let at = ap (λ (z : LitmusTest). slice_get (body_of z c.args.n.thread) c.args.n.place) (sym c.test-test.ensures.is)
    ∙ c.action_of-action.ensures ∙ ap (λ z. Some z) c.in-Fence.is in
    let P : LitmusTest → Type 0 = λ z. IsOldest z c.args.n.thread own.drained own.done c.in-Some.field-0 in
    waits_barred c.args.checked.now.test c.args.asked.now c.args.course.now.threads.items c.args.n.thread c.args.n.place
    c.in-Some.field-0 own Fence c.requires.here at refl c.progress_of-own.ensures
    (subst P c.test-test.ensures.is c.in-Some.ensures)

pub returns-in-None : goal.returns-in-None
returns-in-None c =
    let own = c.progress_of-own.result in
    let at = ap (λ (z : LitmusTest). slice_get (body_of z c.args.n.thread) c.args.n.place) (sym c.test-test.ensures.is)
    ∙ c.action_of-action.ensures ∙ ap (λ z. Some z) c.in-Fence.is in
    let P : LitmusTest → Type 0 = λ z. StoresNone z c.args.n.thread own.drained own.done in
    fence_now c.args.checked.now c.args.conjunction c.args.course.now c.args.n.thread c.args.n.place own
    c.requires.course c.requires.thread c.requires.here at c.progress_of-own.ensures
    (subst P c.test-test.ensures.is c.in-None.ensures)

pub returns-in-Some-oldest : goal.returns-in-Some-oldest
returns-in-Some-oldest c =
    let own = c.progress_of-own.result in
    let x = c.in-Exchange in
    let at = ap (λ (z : LitmusTest). slice_get (body_of z c.args.n.thread) c.args.n.place) (sym c.test-test.ensures.is)
    ∙ c.action_of-action.ensures ∙ ap (λ z. Some z) c.in-Exchange.is in
    let P : LitmusTest → Type 0 = λ z. IsOldest z c.args.n.thread own.drained own.done c.in-Some-oldest.field-0 in
    waits_barred c.args.checked.now.test c.args.asked.now c.args.course.now.threads.items c.args.n.thread c.args.n.place
    c.in-Some-oldest.field-0 own (Exchange x.loc x.written x.reg) c.requires.here at refl c.progress_of-own.ensures
    (subst P c.test-test.ensures.is c.in-Some-oldest.ensures)

pub returns-in-None-oldest : goal.returns-in-None-oldest
returns-in-None-oldest c =
    let checked = c.args.checked.now in
    let course = c.args.course.now in
    let t = c.args.n.thread in
    let own = c.progress_of-own.result in
    let x = c.in-Exchange in
    let at = ap (λ (z : LitmusTest). slice_get (body_of z t) c.args.n.place) (sym c.test-test.ensures.is)
    ∙ c.action_of-action.ensures ∙ ap (λ z. Some z) c.in-Exchange.is in
    let free = ap (λ (a : Instr). is_early a c.args.asked.now (marks_of course.threads.items) c.args.n)
    (sym c.in-Exchange.is) ∙ sym c.is_early.ensures ∙ c.if-is_early.false in
    let here = c.location-loc.ensures.is ∙ ap (λ (z : LitmusTest). site_location z
    (record { thread = t; place = c.args.n.place })) c.test-test.ensures.is in
    let P : LitmusTest → Type 0 = λ z. StoresNone z t own.drained own.done in
    exchange_now checked c.args.sequences.now c.args.conjunction c.args.asked.now course t c.args.n.place x.loc
    x.written x.reg _ own c.requires.case c.requires.course c.requires.thread c.requires.here at free
    c.progress_of-own.ensures
    (subst P c.test-test.ensures.is c.in-None-oldest.ensures) (c.requires.course.memory c.location-loc.result
    c.location-loc.ensures.limit ∙ ap (after_all checked.test initial (map event_of course.events.items)).memory
    here)
