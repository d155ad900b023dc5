-- Law: the two programs' replays are of one run. The executions are those of x86-TSO (Sewell, Sarkar, Owens, Zappa
-- Nardelli and Myreen, CACM 2010); schedules and texts are this project's own.
use Rattle.std.specs.Prelude.{◌≡◌, List, ◌++◌, ℕ, Some, map}
use Rattle.x86_subset.specs.Test.{LitmusTest}
use Rattle.tso_runs.specs.Schedule.{IsScheduled}
use Rattle.tso_words.specs.Seats.{Ended as Closed}
use Rattle.perp_base.specs.View.{View}
use Rattle.litmus_reader.specs.Answer.{Accepted}
use Rattle.litmus_reader.specs.Reading.{Reads}
use Rattle.report_text.specs.declared.status.Status.TheVariants.{Whole}
use Rattle.run_judge.specs.Judgement.{event_of}
use Rattle.run_judge.specs.declared.event.RunEvent.{RunEvent}
use Rattle.run_text.specs.Runs.{run_text_of}
use Rattle.command_words.specs.Job.{Asked, AskedReplay}
use Rattle.command_words.specs.Lines.{IsJobOf}
use Rattle.command_words.specs.Words.{command_of as perple_command_of}
use Rattle.command_words.specs.declared.job.Command.TheVariants.{Replay as PerpleReplay}
use Rattle.perple_core.specs.Texts.{text_of}
use Rattle.perple_core.specs.Top.{WritesWhole}
use Rattle.tool_core.specs.Laws.{CallOf}
use Rattle.tool_core.specs.Words.{command_of}
use Rattle.tool_core.specs.declared.words.Command.TheVariants.{Replay}

-- What the clause `whole` of `perple` says of a call that ended with 0: its source told that it had this input left, and
-- its output has this text after what it had before.
pub record ReportOf (words : List (List ℕ)) (input text : List ℕ) : Type 0 where
  pub old : View
  pub done : Closed
  pub out_old : View
  pub out_new : View
  pub before : List ℕ
  pub whole : WritesWhole words old done out_old out_new Whole
  pub told : old.bytes ≡ Some input
  pub held : out_old.bytes ≡ Some before
  pub got : out_new.bytes ≡ Some (before ++ text)

-- the words are a replay of `perple` too; the events that were told are those of the run of its schedule, and its report
-- is the report of that run
pub record IsReportedBy (words : List (List ℕ)) (test : LitmusTest) (replay : AskedReplay) (told reported : List ℕ)
    : Type 0 where
  pub job : Asked
  pub is : IsJobOf replay job
  pub command : perple_command_of words ≡ Some (PerpleReplay job)
  pub events : List RunEvent
  pub run : IsScheduled test replay.options replay.schedule (map event_of events)
  pub tells : told ≡ run_text_of replay.options.iterations events
  pub reports : reported ≡ text_of test job (map event_of events)

-- law: where `perple_tool` tells the run of a replay, and `perple` reports the replay of the same words and input, the
-- report is that of the run that was told
abbrev pub ReplaysAreReported : Type 0
ReplaysAreReported =
    (words : List (List ℕ)) (input told reported : List ℕ) (replay : AskedReplay) (test : LitmusTest)
    → command_of words ≡ Some (Replay replay)
    → Reads input (Accepted test)
    → CallOf words input told
    → ReportOf words input reported
    → IsReportedBy words test replay told reported
