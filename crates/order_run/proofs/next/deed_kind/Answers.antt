use Rattle.std.proofs.Common.{◌∙◌, ap, arith, false, get_or, map, refl, sym, true, unwrap_or}
use Rattle.std.proofs.lemmas.Bool.{true≢false}
use Rattle.tso_machine.specs.Event.{Push, Read, Fenced, Exchanged}
use Rattle.tso_machine.specs.Machine.{after_all, initial, readable}
use Rattle.run_judge.specs.Judgement.{event_of}
use Rattle.order_run.specs.Course.{marks_of}
use Rattle.order_run.proofs.Steps.{acts_now, held_here, marks_order, none_own, not_none, oldest_own, waits_for, word_found}
use Rattle.order_run.proofs.next.deed_kind.Goals as goal

pub newest-requires-clause-order : goal.newest-requires-clause-order
newest-requires-clause-order c =
    let course = c.args.course.now in
    let m = marks_order c.args.test.now c.args.edges.now course.threads.items course.memory
    (map event_of course.events.items) c.args.n.thread c.requires.course in
    let d = ap (λ z. z.done) c.progress_of-own.ensures in
    let e = ap (λ z. z.drained) c.progress_of-own.ensures in
    omega arith

pub returns-in-Store : goal.returns-in-Store
returns-in-Store c =
    let test = c.args.test.now in
    let edges = c.args.edges.now in
    let course = c.args.course.now in
    let marks = marks_of course.threads.items in
    let events = map event_of course.events.items in
    let t = c.args.n.thread in
    let place = c.args.n.place in
    let own = c.progress_of-own.result in
    acts_now test edges marks events t place _ Push c.requires.thread c.requires.here c.in-Store.ensures tt refl

pub returns-then-is_held : goal.returns-then-is_held
returns-then-is_held c =
    let test = c.args.test.now in
    let edges = c.args.edges.now in
    let course = c.args.course.now in
    let marks = marks_of course.threads.items in
    let events = map event_of course.events.items in
    let t = c.args.n.thread in
    let place = c.args.n.place in
    let own = c.progress_of-own.result in
    let held = held_here test edges marks t place true c.requires.here (sym c.if-is_held.true ∙ c.is_held.ensures) in
    waits_for test edges marks t place _ c.requires.here c.in-Load.ensures (λ can. true≢false (sym held ∙ can))

pub returns-else-is_held : goal.returns-else-is_held
returns-else-is_held c =
    let test = c.args.test.now in
    let edges = c.args.edges.now in
    let course = c.args.course.now in
    let marks = marks_of course.threads.items in
    let events = map event_of course.events.items in
    let t = c.args.n.thread in
    let place = c.args.n.place in
    let own = c.progress_of-own.result in
    let x = c.location-loc.result in
    let free = held_here test edges marks t place false c.requires.here (sym c.if-is_held.false ∙ c.is_held.ensures) in
    let value = word_found test edges course.threads.items course.memory events t x (get_or course.memory x 0)
    c.unwrap_or-value.result own c.requires.course c.progress_of-own.ensures c.location-loc.ensures.limit refl
    (c.unwrap_or-value.ensures ∙ ap (λ z. unwrap_or z (get_or course.memory x 0)) c.newest.ensures) in
    acts_now test edges marks events t place _ (Read c.unwrap_or-value.result) c.requires.thread c.requires.here
    c.in-Load.ensures free
    (ap (λ v. Read v) (value ∙ ap (readable (after_all test initial events) t) c.location-loc.ensures.is))

pub returns-in-Some : goal.returns-in-Some
returns-in-Some c =
    let test = c.args.test.now in
    let edges = c.args.edges.now in
    let course = c.args.course.now in
    let marks = marks_of course.threads.items in
    let events = map event_of course.events.items in
    let t = c.args.n.thread in
    let place = c.args.n.place in
    let own = c.progress_of-own.result in
    let o = oldest_own test course.threads.items t c.in-Some.field-0 own c.progress_of-own.ensures c.in-Some.ensures in
    waits_for test edges marks t place _ c.requires.here c.in-Fence.ensures
    (λ can. not_none test t (marks t).drained (marks t).done c.in-Some.field-0 o can)

pub returns-in-None : goal.returns-in-None
returns-in-None c =
    let test = c.args.test.now in
    let edges = c.args.edges.now in
    let course = c.args.course.now in
    let marks = marks_of course.threads.items in
    let events = map event_of course.events.items in
    let t = c.args.n.thread in
    let place = c.args.n.place in
    let own = c.progress_of-own.result in
    acts_now test edges marks events t place _ Fenced c.requires.thread c.requires.here c.in-Fence.ensures
    (none_own test course.threads.items t own c.progress_of-own.ensures c.in-None.ensures) refl

pub returns-in-Some-oldest : goal.returns-in-Some-oldest
returns-in-Some-oldest c =
    let test = c.args.test.now in
    let edges = c.args.edges.now in
    let course = c.args.course.now in
    let marks = marks_of course.threads.items in
    let events = map event_of course.events.items in
    let t = c.args.n.thread in
    let place = c.args.n.place in
    let own = c.progress_of-own.result in
    let o = oldest_own test course.threads.items t c.in-Some-oldest.field-0 own c.progress_of-own.ensures
    c.in-Some-oldest.ensures in
    waits_for test edges marks t place _ c.requires.here c.in-Exchange.ensures
    (λ can. not_none test t (marks t).drained (marks t).done c.in-Some-oldest.field-0 o can.0)

pub returns-then-is_held-2 : goal.returns-then-is_held-2
returns-then-is_held-2 c =
    let test = c.args.test.now in
    let edges = c.args.edges.now in
    let course = c.args.course.now in
    let marks = marks_of course.threads.items in
    let events = map event_of course.events.items in
    let t = c.args.n.thread in
    let place = c.args.n.place in
    let own = c.progress_of-own.result in
    let held = held_here test edges marks t place true c.requires.here
    (sym c.if-is_held-2.true ∙ c.is_held-in-None-oldest.ensures) in
    waits_for test edges marks t place _ c.requires.here c.in-Exchange.ensures (λ can. true≢false (sym held ∙ can.1))

pub returns-else-is_held-2 : goal.returns-else-is_held-2
returns-else-is_held-2 c =
    let test = c.args.test.now in
    let edges = c.args.edges.now in
    let course = c.args.course.now in
    let marks = marks_of course.threads.items in
    let events = map event_of course.events.items in
    let t = c.args.n.thread in
    let place = c.args.n.place in
    let own = c.progress_of-own.result in
    let free = held_here test edges marks t place false c.requires.here
    (sym c.if-is_held-2.false ∙ c.is_held-in-None-oldest.ensures) in
    let none = none_own test course.threads.items t own c.progress_of-own.ensures c.in-None-oldest.ensures in
    let value = c.requires.course.memory c.location-loc.result c.location-loc.ensures.limit
    ∙ ap (after_all test initial events).memory c.location-loc.ensures.is in
    acts_now test edges marks events t place _ (Exchanged (get_or course.memory c.location-loc.result 0))
    c.requires.thread c.requires.here c.in-Exchange.ensures (none, free) (ap (λ v. Exchanged v) value)
