use Rattle.perple_core.proofs.Working.{none_due_has_few, run_can_count}
use Rattle.perple_core.proofs.work.work.Goals as goal

pub run_job-requires-clause-frames : goal.run_job-requires-clause-frames
run_job-requires-clause-frames g c κs within =
    run_can_count _ c.args.checked.now.test (rw c.in-Run.is at (none_due_has_few c.args.command.now
    c.args.checked.now.test c.requires.none_due))
