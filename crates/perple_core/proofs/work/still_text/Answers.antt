use Rattle.perple_core.proofs.Working.{demo_can_count, replay_can_count}
use Rattle.perple_core.proofs.work.still_text.Goals as goal

pub replay_text-requires-clause-frames : goal.replay_text-requires-clause-frames
replay_text-requires-clause-frames g c κs within =
    replay_can_count _ c.args.checked.now.test (rw c.in-Replay.is at c.requires.frames)

pub demo_report-requires-clause-frames : goal.demo_report-requires-clause-frames
demo_report-requires-clause-frames g c κs within =
    demo_can_count _ c.args.checked.now.test (rw c.in-Demo.is at c.requires.frames)
