use Rattle.replay_run.proofs.Stepping.{Replays, turns_over}
use Rattle.replay_run.proofs.run.run_of_schedule.Given as goal

abbrev pub invariant-loop-t : goal.invariant-loop-t
invariant-loop-t l =
    Replays l.fn.test l.fn.options l.fn.schedule l.players.items l.playing l.from l.generator l.words l.events.items
    l.threads

abbrev pub decreases-loop-t : goal.decreases-loop-t
decreases-loop-t l = turns_over l.fn.test l.fn.options l.players.items l.playing
