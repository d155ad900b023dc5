use Rattle.std.proofs.Common.{true, false, get_or, arith, sym, ◌∙◌}
use Rattle.run_judge.specs.declared.event.RunEvent.{RunEvent}
use Rattle.run_judge.specs.declared.event.RunKind.TheVariants as run
use Rattle.run_judge.specs.Judgement.{event_of}
use Rattle.run_judge.proofs.Judged.{named_thread}
use Rattle.run_judge.proofs.Kept.{all_kept_set, kept_at}
use Rattle.run_judge.specs.Written.{written_with}
use Rattle.run_judge.proofs.Shown.{ended_here, right_here, room_here, shows_here, wrong_here}
use Rattle.run_judge.proofs.judging.judged.Goals as goal

abbrev no_event : RunEvent
no_event = record { thread = 0; iteration = 0; place = 0; kind = run.Push }

pub returns-in-Some : goal.returns-in-Some
returns-in-Some c =
    let x = c.loop-i.invariant in
    let l = c.location-loc.ensures in
    wrong_here (written_with c.args.test.now c.args.values) c.args.test.now c.args.n c.loop-i.i c.location-loc.result
    c.args.events.now no_event c.loop-i.memory
    c.loop-i.threads.items c.index.result.now c.in-Some.fault x.later x.shows c.loop-i-test.true
    (sym c.has_names.ensures ∙ c.if-not-has_names.false) c.index.ensures l.location l.limit
    (sym c.in-Some.is ∙ c.fault.ensures)

pub advance-requires-clause-room : goal.advance-requires-clause-room
advance-requires-clause-room c =
    let x = c.loop-i.invariant in
    let h = room_here (written_with c.args.test.now c.args.values) c.args.test.now c.args.n c.loop-i.i
    c.args.events.now no_event c.loop-i.memory
    c.loop-i.threads.items c.index_mut.result.now x.shows c.loop-i-test.true
    (sym c.has_names.ensures ∙ c.if-not-has_names.false) c.index_mut.ensures.value in
    omega arith

pub loop-i-preserved : goal.loop-i-preserved
loop-i-preserved c =
    let x = c.loop-i.invariant in
    let l = c.location-loc.ensures in
    let named = sym c.has_names.ensures ∙ c.if-not-has_names.false in
    let a = c.in_ok-advance-in-None.ensures in
    record {
      later =
          right_here (written_with c.args.test.now c.args.values) c.args.test.now c.args.n c.loop-i.i
          c.location-loc.result c.args.events.now no_event
          c.loop-i.memory c.loop-i.threads.items c.index.result.now x.later x.shows c.loop-i-test.true named
          c.index.ensures l.location l.limit
          (sym c.in-None.is ∙ c.fault.ensures);
      shows =
          shows_here c.args.test.now c.args.values c.args.n c.loop-i.i c.location-loc.result c.value-value.result
          c.args.events.now no_event c.loop-i.memory c.advance.new.memory c.loop-i.threads.items
          c.index_mut.result.now c.advance.new.own c.index.result.now x.shows c.loop-i-test.true
          c.requires.values named c.index_mut.ensures.value c.index.ensures l.location c.value-value.ensures
          (sym c.in-None.is ∙ c.fault.ensures) a.done a.buffer a.memory;
      kept = all_kept_set c.loop-i.threads.items _ c.advance.new.own x.kept a.kept;
    }

pub returns-then-are_ended : goal.returns-then-are_ended
returns-then-are_ended c =
    let x = c.loop-i.invariant in
    ended_here (written_with c.args.test.now c.args.values) c.args.test.now c.args.n c.loop-i.i c.args.events.now
    c.loop-i.memory c.loop-i.threads.items true x.later
    x.shows (omega arith) (omega arith) (sym c.if-are_ended.true
    ∙ (rw c.deref.ensures.value at c.are_ended.ensures))

pub returns : goal.returns
returns c =
    let x = c.loop-i.invariant in
    ended_here (written_with c.args.test.now c.args.values) c.args.test.now c.args.n c.loop-i.i c.args.events.now
    c.loop-i.memory c.loop-i.threads.items false
    x.later x.shows (omega arith) (omega arith) (sym c.if-are_ended.false
    ∙ (rw c.deref.ensures.value at c.are_ended.ensures))

pub fault-requires-clause-kept : goal.fault-requires-clause-kept
fault-requires-clause-kept c =
    let x = c.loop-i.invariant in
    let count = x.shows.count in
    let thread = named_thread c.args.test.now c.args.n (event_of (get_or c.args.events.now c.loop-i.i no_event))
    (sym c.has_names.ensures ∙ c.if-not-has_names.false) in
    kept_at c.loop-i.threads.items _ c.index.result.now x.kept (omega arith) c.index.ensures

pub advance-requires-clause-kept : goal.advance-requires-clause-kept
advance-requires-clause-kept c =
    let x = c.loop-i.invariant in
    let count = x.shows.count in
    let thread = named_thread c.args.test.now c.args.n (event_of (get_or c.args.events.now c.loop-i.i no_event))
    (sym c.has_names.ensures ∙ c.if-not-has_names.false) in
    kept_at c.loop-i.threads.items _ c.index_mut.result.now x.kept (omega arith) c.index_mut.ensures.value
