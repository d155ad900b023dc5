-- The events that are made are those of the one run of the schedule.
use Rattle.std.proofs.Common.{◌≡◌, List, map, Result, Ok, Err, Vec, Global, IfOk}
use Rattle.x86_subset.specs.Test.{LitmusTest}
use Rattle.tso_machine.specs.Event.{Event}
use Rattle.tso_runs.specs.Schedule.{IsScheduled}
use Rattle.perp_base.specs.declared.failure.NoMemory.{NoMemory}
use Rattle.command_words.specs.Job.{AskedReplay}
use Rattle.run_judge.specs.Judgement.{event_of}
use Rattle.run_judge.specs.declared.event.RunEvent.{RunEvent}
use Rattle.tool_core.specs.Replaying.{AreOfSchedule}

pub events_of_schedule : (test : LitmusTest) (job : AskedReplay) (r : Result (Vec RunEvent Global) NoMemory)
    → IfOk r (λ v. IsScheduled test job.options job.schedule (map event_of v.items))
    → IfOk r (λ v. (run : List Event) → IsScheduled test job.options job.schedule run → run ≡ map event_of v.items)
    → IfOk r (λ v. AreOfSchedule test job v.items)
events_of_schedule test job (Ok v) run only = record { run = run; only = only }
events_of_schedule test job (Err e) run only = tt
