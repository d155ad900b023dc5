-- Laws: what `run` and `replay` report is allowed. The executions are those of x86-TSO (Sewell, Sarkar, Owens, Zappa
-- Nardelli and Myreen, CACM 2010); the reports are this project's own.
use Rattle.std.specs.Prelude.{◌≡◌, ◌⊎◌, ℕ, List, ◌++◌, Some}
use Rattle.x86_subset.specs.Test.{LitmusTest}
use Rattle.tso_machine.specs.Event.{Event}
use Rattle.tso_machine.specs.Run.{IsRunOf}
use Rattle.profile_check.specs.Profile.{CheckedTest, IsChecked}
use Rattle.tso_words.specs.Seats.{Ended as Closed}
use Rattle.command_words.specs.Job.{Asked as Job}
use Rattle.perp_base.specs.View.{View}
use Rattle.report_text.specs.declared.status.Status.{Status}
use Rattle.report_text.specs.declared.status.Status.TheVariants.{Whole}
use Rattle.perple_core.specs.Texts.{text_of}
use Rattle.perple_core.specs.Top.{WritesWhole}
use Rattle.forbidden_runs.specs.Laws.{IsCall, read_test}
use Rattle.forbidden_runs.specs.Texts.{zero_text}
use Rattle.litmus_outcomes.specs.Laws.{AreSteadyOrNever}
use Rattle.litmus_outcomes.specs.Outcome.{IsAllowed}

-- law: where each conjunction is steady or never holds, the text of each run is the report that nothing was seen, or
-- x86-TSO allows what the condition asks for
abbrev pub RunsReportWhatIsAllowed : Type 0
RunsReportWhatIsAllowed =
    (checked : CheckedTest) (job : Job) (run : List Event)
    → IsChecked checked
    → AreSteadyOrNever checked
    → IsRunOf checked.test job.options.iterations run
    → (text_of checked.test job run ≡ zero_text checked.test job) ⊎ IsAllowed checked.test

-- law: where the clause `whole` of `perple` holds of a call with the text of such a test, and its status is 0, the call
-- has written that report, or x86-TSO allows what the condition asks for
abbrev pub PerpleReportsWhatIsAllowed : Type 0
PerpleReportsWhatIsAllowed =
    (words : List (List ℕ)) (old : View) (done : Closed) (out_old out_new : View) (status : Status)
    (job : Job) (before : List ℕ) (test : LitmusTest)
    → WritesWhole words old done out_old out_new status
    → IsCall words old out_old job before test
    → AreSteadyOrNever (read_test test)
    → status ≡ Whole
    → (out_new.bytes ≡ Some (before ++ zero_text test job)) ⊎ IsAllowed test
