use Rattle.std.proofs.Common.{◌≡◌, ◌++◌, map, take, drop, length}
use Rattle.perp_loop.specs.Actions.{AreInRange}
use Rattle.replay_run.specs.Turns.{drained, words_with}
use Rattle.replay_run.proofs.turn.drain.Given as goal

abbrev pub invariant-loop-i : goal.invariant-loop-i
invariant-loop-i l = record {
  rest : l.buffer ≡ record l.initial.buffer { entries = drop l._i l.initial.buffer.entries };
  in_range : AreInRange l.buffer.entries;
  sixteen : length l.words ≡ 16;
  words : l.words ≡ words_with l.initial.words (take l._i l.initial.buffer.entries);
  events : l.events.items
      ≡ l.initial.events.items ++ map (drained l.thread) (take l._i l.initial.buffer.entries);
}
