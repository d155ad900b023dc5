use Rattle.std.proofs.Common.{IfOk, subst}
use Rattle.command_words.specs.Job.{AskedReplay}
use Rattle.tool_core.specs.Replaying.{AreOfSchedule}
use Rattle.tool_core.proofs.ScheduleRuns.{events_of_schedule}
use Rattle.tool_core.proofs.replaying.events_of.Goals as goal

pub returns : goal.returns
returns c =
    let asked : AskedReplay = record { options = c.job.inside.options; schedule = c.job.inside.schedule } in
    subst (λ (j : AskedReplay). IfOk c.run_of_schedule.result (λ v. AreOfSchedule c.args.test.now j v.items)) c.job.view_is
    (events_of_schedule c.args.test.now asked c.run_of_schedule.result c.run_of_schedule.ensures.run
    c.run_of_schedule.ensures.only)
