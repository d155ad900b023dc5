-- A run without a hit is reported as not seen, and a hit is allowed; so is what a call of `perple` writes.
use Rattle.std.proofs.Common.{◌≡◌, ◌⊎◌, ℕ, List, [], ◌∷◌, ◌++◌, Some, inl, inr, refl, sym, ◌∙◌, subst}
use Rattle.x86_subset.specs.Test.{LitmusTest}
use Rattle.profile_check.specs.Kinds.{AreKinds}
use Rattle.profile_check.specs.Profile.{IsChecked}
use Rattle.outcome_conv.specs.Hits.{hits_of}
use Rattle.litmus_reader.specs.Answer.{Accepted}
use Rattle.litmus_reader.specs.Reading.{Reads}
use Rattle.litmus_reader.proofs.ReadingLaws.{same_test}
use Rattle.litmus_reader.proofs.TestLaws.{reads_tests}
use Rattle.tso_words.specs.Seats.{Ended as Closed}
use Rattle.tso_runs.specs.Fits.{Fits}
use Rattle.tso_runs.specs.Schedule.{IsScheduled}
use Rattle.tso_runs.proofs.Fitting.{fitting_run, scheduled_run}
use Rattle.command_words.specs.Job.{Asked as Job}
use Rattle.command_words.specs.declared.job.Command.{Command}
use Rattle.command_words.specs.declared.job.Command.TheVariants.{Run, Replay}
use Rattle.perp_base.specs.View.{View}
use Rattle.perple_core.specs.Texts.{kinds_of, schedule_of, text_of}
use Rattle.perple_core.specs.Top.{HasAnswer, IsText}
use Rattle.perple_core.proofs.Accepting.{none_due_has_kinds}
use Rattle.forbidden_runs.specs.Laws.{AsksFor, read_test}
use Rattle.forbidden_runs.specs.Texts.{zero_text}
use Rattle.forbidden_runs.proofs.Reports.{none_seen}
use Rattle.litmus_outcomes.specs.Laws.{AreSteadyOrNever}
use Rattle.litmus_outcomes.specs.Outcome.{IsAllowed}
use Rattle.litmus_outcomes.proofs.Steady.{seen_is_allowed_lem}
use Rattle.reported_outcomes.specs.Laws.{PerpleReportsWhatIsAllowed, RunsReportWhatIsAllowed}

pub runs_report_what_is_allowed_lem : RunsReportWhatIsAllowed
runs_report_what_is_allowed_lem checked job run is decided runs =
    go (hits_of checked.test checked.kinds job.options.iterations run) refl
  where
    go : (hits : List (List ℕ)) → hits_of checked.test checked.kinds job.options.iterations run ≡ hits
        → (text_of checked.test job run ≡ zero_text checked.test job) ⊎ IsAllowed checked.test
    go [] e = inl (none_seen checked job run is runs e)
    go (hit ∷ hits) e =
        inr (seen_is_allowed_lem checked job.options.iterations run is decided runs
        (λ none. let k : hit ∷ hits ≡ [] = sym e ∙ none in cc))

-- the right answer to a job
abbrev Told : LitmusTest → Job → List ℕ → Type 0
Told test job answer = (answer ≡ zero_text test job) ⊎ IsAllowed test

told_by : (test : LitmusTest) (job : Job) (answer text : List ℕ) → answer ≡ text → Told test job text
    → Told test job answer
told_by test job answer text e (inl k) = inl (e ∙ k)
told_by test job answer text e (inr k) = inr k

run_is : (job : Job) (test : LitmusTest) (done : Closed) (answer : List ℕ) → IsChecked (read_test test)
    → AreSteadyOrNever (read_test test) → IsText (Run job) test done answer → Told test job answer
run_is job test done answer is decided right =
    let run = right.some_run.run in
    let fits : Fits test job.options done.lists run = right.some_run.fits in
    told_by test job answer (text_of test job run) (right.each run fits)
    (runs_report_what_is_allowed_lem (read_test test) job run is decided
    (fitting_run test job.options done.lists run fits))

replay_is : (job : Job) (test : LitmusTest) (done : Closed) (answer : List ℕ) → IsChecked (read_test test)
    → AreSteadyOrNever (read_test test) → IsText (Replay job) test done answer → Told test job answer
replay_is job test done answer is decided right =
    let run = right.1.some_run.0 in
    let scheduled : IsScheduled test job.options (schedule_of job) run = right.1.some_run.1 in
    told_by test job answer (text_of test job run) (right.1.each run scheduled)
    (runs_report_what_is_allowed_lem (read_test test) job run is decided
    (scheduled_run test job.options (schedule_of job) run scheduled))

-- what stands on `out`
abbrev IsOn : List ℕ → View → List ℕ → Type 0
IsOn before out answer = out.bytes ≡ Some (before ++ answer)

answer_is : (command : Command) (job : Job) (text before : List ℕ) (out : View) (test : LitmusTest) (done : Closed)
    → ((answer : List ℕ) → IsChecked (read_test test) → IsText command test done answer → Told test job answer)
    → Reads text (Accepted test) → HasAnswer command text done (IsOn before out)
    → IsOn before out (zero_text test job) ⊎ IsAllowed test
answer_is command job text before out test done each reading a =
    let same : a.test ≡ test = same_test text a.test test a.reading reading in
    let kinds : AreKinds test (kinds_of test) =
    subst (λ (t : LitmusTest). AreKinds t (kinds_of t)) same (none_due_has_kinds command a.test a.none_due) in
    let right : IsText command test done a.answer = subst (λ (t : LitmusTest). IsText command t done a.answer) same
    a.right in
    go (each a.answer (record { kinds = kinds; test = reads_tests text test reading }) right)
  where
    go : Told test job a.answer → IsOn before out (zero_text test job) ⊎ IsAllowed test
    go (inl e) = inl (subst (IsOn before out) e a.is_on)
    go (inr k) = inr k

pub perple_reports_what_is_allowed_lem : PerpleReportsWhatIsAllowed
perple_reports_what_is_allowed_lem words old done out_old out_new status job before test writes call decided whole =
    go call.asks
  where
    go : AsksFor words job → IsOn before out_new (zero_text test job) ⊎ IsAllowed test
    go (inl asks) =
        answer_is (Run job) job call.text before out_new test done (λ answer is right. run_is job test done answer is
        decided right) call.reading (writes (Run job) call.text before asks call.told call.told_out whole)
    go (inr asks) =
        answer_is (Replay job) job call.text before out_new test done (λ answer is right. replay_is job test done answer
        is decided right) call.reading (writes (Replay job) call.text before asks call.told call.told_out whole)
