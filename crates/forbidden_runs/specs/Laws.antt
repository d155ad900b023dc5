-- Laws: of a forbidden test `run` and `replay` report that nothing was seen; and a test is forbidden where each
-- conjunction has a cycle or a hidden read. The runs are those of x86-TSO (Sewell, Sarkar, Owens, Zappa Nardelli and
-- Myreen, CACM 2010); that cycles forbid an outcome is after Alglave, Maranget and Tautschnig ("Herding cats", TOPLAS
-- 2014).
use Rattle.std.specs.Prelude.{◌≡◌, ◌⊎◌, ℕ, ◌<◌, List, ◌++◌, Some, Vec, length, take}
use Rattle.std.specs.Global.{Global}
use Rattle.x86_subset.specs.Test.{LitmusTest}
use Rattle.tso_machine.specs.Event.{Event}
use Rattle.tso_machine.specs.Run.{IsRunOf}
use Rattle.profile_check.specs.Profile.{CheckedTest, IsChecked}
use Rattle.litmus_reader.specs.Answer.{Accepted}
use Rattle.litmus_reader.specs.Reading.{Reads}
use Rattle.tso_words.specs.Seats.{Ended as Closed}
use Rattle.perp_base.specs.declared.schedule.Schedule.{Schedule}
use Rattle.command_words.specs.Job.{Asked as Job}
use Rattle.command_words.specs.Words.{command_of}
use Rattle.command_words.specs.declared.job.Command.TheVariants.{Run, Replay}
use Rattle.perp_base.specs.View.{View}
use Rattle.report_text.specs.declared.status.Status.{Status}
use Rattle.report_text.specs.declared.status.Status.TheVariants.{Whole, WriteFault}
use Rattle.perple_core.specs.Texts.{kinds_of, text_of}
use Rattle.perple_core.specs.Top.{IsTextOfRun, IsTextOfSchedule, WritesPart, WritesWhole}
use Rattle.verdict.specs.Verdicts.{IsVerdict}
use Rattle.verdict.specs.declared.answer.Verdict.TheVariants.{Forbidden}
use Rattle.verdict.specs.declared.node.Node.{Node}
use Rattle.forbidden_runs.specs.Forbidden.{HasReason, IsForbidden}
use Rattle.forbidden_runs.specs.Texts.{zero_text}

-- law: the text of each run of a forbidden test is the report that nothing was seen
abbrev pub ForbiddenRunsReportNothing : Type 0
ForbiddenRunsReportNothing =
    (checked : CheckedTest) (job : Job) (run : List Event)
    → IsChecked checked
    → IsForbidden checked
    → IsRunOf checked.test job.options.iterations run
    → text_of checked.test job run ≡ zero_text checked.test job

-- law: so a text that is right for what threads did on a field is that report
abbrev pub ForbiddenRunsGiveNoOtherText : Type 0
ForbiddenRunsGiveNoOtherText =
    (checked : CheckedTest) (job : Job) (done : Closed) (text : List ℕ)
    → IsChecked checked
    → IsForbidden checked
    → IsTextOfRun checked.test job done text
    → text ≡ zero_text checked.test job

-- law: and so is one that is right for a schedule
abbrev pub ForbiddenReplaysGiveNoOtherText : Type 0
ForbiddenReplaysGiveNoOtherText =
    (checked : CheckedTest) (job : Job) (schedule : Schedule) (text : List ℕ)
    → IsChecked checked
    → IsForbidden checked
    → IsTextOfSchedule checked.test job.options schedule (text_of checked.test job) text
    → text ≡ zero_text checked.test job

-- the words are those of a run, or of a replay, of this job
abbrev pub AsksFor : List (List ℕ) → Job → Type 0
AsksFor words job = (command_of words ≡ Some (Run job)) ⊎ (command_of words ≡ Some (Replay job))

-- the test of a text that is read, with the kinds of its atoms
abbrev pub read_test : LitmusTest → CheckedTest
read_test test = record { test = test; kinds = kinds_of test }

-- law: where each conjunction has a cycle or a hidden read, the test is forbidden as it is read
abbrev pub ReasonsForbid : Type 0
ReasonsForbid =
    (checked : CheckedTest)
    → IsChecked checked
    → ((c : ℕ) → c < length checked.test.ends → HasReason checked c)
    → IsForbidden (read_test checked.test)

-- law: so where `verdict` answers Forbidden, the test is forbidden as it is read
abbrev pub ForbiddenVerdictsForbid : Type 0
ForbiddenVerdictsForbid =
    (checked : CheckedTest) (cycles : Vec (Vec Node Global) Global)
    → IsChecked checked
    → IsVerdict checked (Forbidden cycles)
    → IsForbidden (read_test checked.test)

-- the words of a call of `perple` ask for this job, `out` has these bytes before it, and the source the text of this
-- test
pub record IsCall (words : List (List ℕ)) (old out_old : View) (job : Job) (before : List ℕ) (test : LitmusTest)
    : Type 0 where
  pub asks : AsksFor words job
  pub text : List ℕ
  pub told : old.bytes ≡ Some text
  pub told_out : out_old.bytes ≡ Some before
  pub reading : Reads text (Accepted test)

-- law: where the clauses `whole` and `part` of `perple` hold of a call with the text of a forbidden test, the call has
-- written that report, or with a fault of writing a part of it
abbrev pub PerpleReportsNothingForbidden : Type 0
PerpleReportsNothingForbidden =
    (words : List (List ℕ)) (old : View) (done : Closed) (out_old out_new : View) (status : Status)
    (job : Job) (before : List ℕ) (test : LitmusTest)
    → WritesWhole words old done out_old out_new status
    → WritesPart words old done out_old out_new status
    → IsCall words old out_old job before test
    → IsForbidden (read_test test)
    → (status ≡ Whole → out_new.bytes ≡ Some (before ++ zero_text test job))
    × (status ≡ WriteFault → (n : ℕ) × (n < length (zero_text test job))
    × (out_new.bytes ≡ Some (before ++ take n (zero_text test job))))
