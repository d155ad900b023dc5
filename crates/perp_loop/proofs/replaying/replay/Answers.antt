use Rattle.std.proofs.Common.{rules, ◌≡◌, refl, length, arith}
use Rattle.perp_loop.proofs.Playing.{plays_start}
use Rattle.perp_loop.proofs.ReplayLoop.{IsIdle, all_finished, each_run, fewer_left, has_no_lane, has_room, is_low, is_member, is_thread, replays_on, run_made, whole_logs}
use Rattle.perp_loop.proofs.replaying.replay.Goals as goal

pub loop-t-init : goal.loop-t-init
loop-t-init c =
    let crew = c.parts-members.ensures in
    record {
      plays = plays_start c.args.crew c.args.schedule c.parts-members.result.0.items c.parts-members.result.1
          c.first_words-generator.result c.args.traced crew c.first_words-generator.ensures c.requires.empty
          c.requires.room;
      flat = c.steps.ensures.flat;
      long = refl;
      count = search rules;
      few = crew.is_test.few_threads;
      one = crew.options.low_buffer;
    }

pub index_mut-member-requires : goal.index_mut-member-requires
index_mut-member-requires c =
    let r = c.loop-t.invariant in
    let within = is_member r c.in-Some.t (c.in-Some.ensures.named r.plays.number r.plays.at) in
    let len : c.loop-t.members.len ≡ length c.loop-t.members.items = search rules in
    omega arith

pub turn-went-requires-clause-none : goal.turn-went-requires-clause-none
turn-went-requires-clause-none c =
    let r = c.loop-t.invariant in
    has_no_lane r c.in-Some.t (c.in-Some.ensures.named r.plays.number r.plays.at) c.index_mut-member.result.now
    c.index_mut-member.ensures.value

pub turn-went-requires-clause-thread : goal.turn-went-requires-clause-thread
turn-went-requires-clause-thread c =
    let r = c.loop-t.invariant in
    is_thread r c.in-Some.t (c.in-Some.ensures.named r.plays.number r.plays.at) c.index_mut-member.result.now
    c.index_mut-member.ensures.value

pub turn-went-requires-clause-room : goal.turn-went-requires-clause-room
turn-went-requires-clause-room c =
    let r = c.loop-t.invariant in
    has_room r c.in-Some.t (c.in-Some.ensures.named r.plays.number r.plays.at) c.index_mut-member.result.now
    c.index_mut-member.ensures.value

pub bounds-playing-t : goal.bounds-playing-t
bounds-playing-t c =
    let r = c.loop-t.invariant in
    let low = is_low r c.in-Some.t (c.in-Some.ensures.named r.plays.number r.plays.at) in
    omega arith

pub overflow_add-from : goal.overflow_add-from
overflow_add-from c =
    let r = c.loop-t.invariant in
    let low = is_low r c.in-Some.t (c.in-Some.ensures.named r.plays.number r.plays.at) in
    omega arith

pub loop-t-smaller : goal.loop-t-smaller
loop-t-smaller c =
    let r = c.loop-t.invariant in
    fewer_left r c.in-Some.t (c.in-Some.ensures.named r.plays.number r.plays.at) c.index_mut-member.result.now
    c.index_mut-member.ensures.value c.turn-went.result.0 c.goes_on.result c.goes_on.ensures c.turn-went.new.self
    c.turn-went.result.1 c.turn-went.ensures.stepped

pub loop-t-preserved : goal.loop-t-preserved
loop-t-preserved c =
    let r = c.loop-t.invariant in
    replays_on r c.in-Some.t (c.in-Some.ensures.named r.plays.number r.plays.at) c.index_mut-member.result.now
    c.index_mut-member.ensures.value c.turn-went.result.0 c.goes_on.result c.goes_on.ensures c.turn-went.new.self
    c.turn-went.result.1 c.turn-went.ensures.stepped c.pick.new.generator
    (c.in-Some.ensures.at r.plays.number r.plays.at refl) c.turn-went.ensures.none c.turn-went.ensures.flat

pub logs_of-requires-clause-finished : goal.logs_of-requires-clause-finished
logs_of-requires-clause-finished c =
    let idle : IsIdle c.loop-t.invariant = search rules in
    all_finished c.loop-t.invariant idle

pub returns-clause-made : goal.returns-clause-made
returns-clause-made c =
    let idle : IsIdle c.loop-t.invariant = search rules in
    run_made c.loop-t.invariant idle c.logs_of.result.logs c.logs_of.ensures

pub returns-clause-every : goal.returns-clause-every
returns-clause-every c =
    let idle : IsIdle c.loop-t.invariant = search rules in
    each_run c.loop-t.invariant idle c.logs_of.result.logs c.logs_of.ensures

pub returns-clause-whole : goal.returns-clause-whole
returns-clause-whole c =
    let idle : IsIdle c.loop-t.invariant = search rules in
    whole_logs c.loop-t.invariant idle c.logs_of.result.logs c.logs_of.ensures

pub returns-clause-flat : goal.returns-clause-flat
returns-clause-flat c = c.loop-t.invariant.flat
