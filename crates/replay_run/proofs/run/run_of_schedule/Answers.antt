use Rattle.std.proofs.Common.{rules, ◌≡◌, sym, refl, subst, length, arith}
use Rattle.replay_run.proofs.Playing.{plays_start, all_play, zero_words, Plays}
use Rattle.replay_run.proofs.Stepping.{IsIdle, fewer_left, is_legal, is_low, is_player, is_sound, only_run, replays_on, run_made}
use Rattle.replay_run.proofs.run.run_of_schedule.Goals as goal

pub loop-t-init : goal.loop-t-init
loop-t-init c =
    let test = c.args.test.now in
    let options = c.args.options.now in
    let schedule = c.args.schedule in
    let is_test = c.threads-threads.ensures.test in
    let plays = plays_start test options schedule c.in_ok-players.players.items c.first_words-generator.result
    c.in_ok-players.ensures.count is_test.few_threads c.in_ok-players.ensures.fresh c.first_words-generator.ensures in
    record {
      plays =
          subst (Plays test options schedule c.in_ok-players.players.items (all_play test options schedule) 0
          c.first_words-generator.result (zero_words test options schedule)) (sym c.new-events.ensures.items) plays;
      long = refl;
      count = c.threads-threads.ensures.is;
      few = is_test.few_threads;
      one = c.requires.limits.low_buffer;
      sixteen = refl;
      is_test = is_test;
    }

pub index_mut-player-requires : goal.index_mut-player-requires
index_mut-player-requires c =
    let r = c.loop-t.invariant in
    let within = is_player r c.args.sequences.now c.requires.sequences c.in-Some.t
    (c.in-Some.ensures.named r.plays.number r.plays.at) in
    let len : c.loop-t.players.len ≡ length c.loop-t.players.items = search rules in
    omega arith

pub take_turn-requires-clause-sound : goal.take_turn-requires-clause-sound
take_turn-requires-clause-sound c =
    let r = c.loop-t.invariant in
    is_sound r c.args.sequences.now c.requires.sequences c.in-Some.t
    (c.in-Some.ensures.named r.plays.number r.plays.at) c.index_mut-player.result.now c.index_mut-player.ensures.value

pub bounds-playing-t : goal.bounds-playing-t
bounds-playing-t c =
    let r = c.loop-t.invariant in
    is_low r c.args.sequences.now c.requires.sequences c.in-Some.t (c.in-Some.ensures.named r.plays.number r.plays.at)

pub overflow_add-from : goal.overflow_add-from
overflow_add-from c =
    let r = c.loop-t.invariant in
    let low = is_low r c.args.sequences.now c.requires.sequences c.in-Some.t
    (c.in-Some.ensures.named r.plays.number r.plays.at) in
    omega arith

pub loop-t-smaller : goal.loop-t-smaller
loop-t-smaller c =
    let r = c.loop-t.invariant in
    let turn = c.in_ok-went in
    fewer_left r c.args.sequences.now c.requires.sequences c.in-Some.t
    (c.in-Some.ensures.named r.plays.number r.plays.at) c.index_mut-player.result.now c.index_mut-player.ensures.value
    turn.went c.goes_on.result c.goes_on.ensures c.take_turn.new.own c.take_turn.new.words
    c.take_turn.new.events.items turn.ensures.sound turn.ensures.took

pub loop-t-preserved : goal.loop-t-preserved
loop-t-preserved c =
    let r = c.loop-t.invariant in
    let turn = c.in_ok-went in
    replays_on r c.args.sequences.now c.requires.sequences c.in-Some.t
    (c.in-Some.ensures.named r.plays.number r.plays.at) c.index_mut-player.result.now c.index_mut-player.ensures.value
    turn.went c.goes_on.result c.goes_on.ensures c.take_turn.new.own c.take_turn.new.words
    c.take_turn.new.events.items turn.ensures.sound turn.ensures.took c.pick.new.generator
    (c.in-Some.ensures.at r.plays.number r.plays.at refl) turn.ensures.words

pub returns-clause-run : goal.returns-clause-run
returns-clause-run c =
    let idle : IsIdle c.loop-t.invariant = search rules in
    run_made c.loop-t.invariant idle

pub returns-clause-only : goal.returns-clause-only
returns-clause-only c =
    let idle : IsIdle c.loop-t.invariant = search rules in
    only_run c.loop-t.invariant idle

pub returns-clause-legal : goal.returns-clause-legal
returns-clause-legal c =
    let idle : IsIdle c.loop-t.invariant = search rules in
    is_legal c.loop-t.invariant idle
