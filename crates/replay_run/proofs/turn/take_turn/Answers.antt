use Rattle.std.proofs.Common.{inl}
use Rattle.replay_run.proofs.Sounded.{makes_action, sound_acted, sound_drained}
use Rattle.replay_run.proofs.turn.take_turn.Goals as goal

pub returns-in_ok-push-clause-sound : goal.returns-in_ok-push-clause-sound
returns-in_ok-push-clause-sound c =
    let next = c.next_position-next in
    sound_acted c.requires.sound c.if-own-options.true c.body-body.result.now c.body-body.ensures c.args.sequences.now
    c.requires.sequences c.requires.test c.next-asks.result c.due-count.result c.len.result c.capacity.result
    c.next-asks.ensures.asks c.len.ensures.value c.capacity.ensures.value c.due-count.ensures.value c.drain.new.buffer
    c.act-kind.new.buffer c.in_ok-drain.ensures.rest c.value-written.result c.value-written.ensures
    c.act-kind.ensures.buffer next.result.0 next.result.1 next.ensures.further c.next-asks.new.self
    c.next-asks.ensures.rest (next.ensures.stands c.args.options.now.iterations c.if-own-options.true)

pub returns-in_ok-push-clause-took : goal.returns-in_ok-push-clause-took
returns-in_ok-push-clause-took c =
    let next = c.next_position-next in
    inl (makes_action c.requires.sound c.if-own-options.true c.body-body.result.now c.body-body.ensures
    c.args.sequences.now c.requires.sequences c.requires.test c.next-asks.result c.due-count.result c.len.result
    c.capacity.result c.next-asks.ensures.asks c.len.ensures.value c.capacity.ensures.value c.due-count.ensures.value
    c.drain.new.buffer c.act-kind.new.buffer c.in_ok-drain.ensures.rest c.value-written.result c.value-written.ensures
    c.act-kind.ensures.buffer next.result.0 next.result.1 next.ensures.further c.next-asks.new.self
    c.next-asks.ensures.rest c.args.words.now c.drain.new.words c.act-kind.new.words c.args.events.now.items
    c.drain.new.events.items c.push.new.self.items c.act-kind.result c.in_ok-drain.ensures.words
    c.act-kind.ensures.words c.in_ok-drain.ensures.events c.act-kind.ensures.kind c.in_ok-push.ensures.items)

pub returns-in_ok-drain-2-clause-sound : goal.returns-in_ok-drain-2-clause-sound
returns-in_ok-drain-2-clause-sound c =
    sound_drained c.requires.sound c.drain-else-is_empty.new.buffer c.in_ok-drain-2.ensures.rest
