-- What the command replay writes: the events of the run of a schedule. Runs are those of x86-TSO (Sewell, Sarkar, Owens,
-- Zappa Nardelli and Myreen, CACM 2010); schedules and the text are this project's own.
use Rattle.std.specs.Prelude.{◌≡◌, ℕ, List, map}
use Rattle.x86_subset.specs.Test.{LitmusTest}
use Rattle.tso_machine.specs.Event.{Event}
use Rattle.tso_runs.specs.Schedule.{IsScheduled}
use Rattle.command_words.specs.Job.{AskedReplay}
use Rattle.run_judge.specs.Judgement.{event_of}
use Rattle.run_judge.specs.declared.event.RunEvent.{RunEvent}
use Rattle.run_text.specs.Runs.{run_text_of}

-- the events are those of the run of the schedule, which is the only one
pub record AreOfSchedule (test : LitmusTest) (job : AskedReplay) (events : List RunEvent) : Type 0 where
  pub run : IsScheduled test job.options job.schedule (map event_of events)
  pub only : (run : List Event) → IsScheduled test job.options job.schedule run → run ≡ map event_of events

-- the text tells them
pub record IsReplayText (test : LitmusTest) (job : AskedReplay) (text : List ℕ) : Type 0 where
  pub events : List RunEvent
  pub are : AreOfSchedule test job events
  pub is : text ≡ run_text_of job.options.iterations events
