-- What a call of `perple` writes for a text whose test is forbidden.
use Rattle.std.proofs.Common.{◌≡◌, ℕ, ◌<◌, List, ◌++◌, Some, length, take, inl, inr, subst}
use Rattle.x86_subset.specs.Test.{LitmusTest}
use Rattle.profile_check.specs.Kinds.{AreKinds}
use Rattle.profile_check.specs.Profile.{IsChecked}
use Rattle.litmus_reader.specs.Answer.{Accepted}
use Rattle.litmus_reader.specs.Reading.{Reads}
use Rattle.litmus_reader.proofs.ReadingLaws.{same_test}
use Rattle.tso_words.specs.Seats.{Ended as Closed}
use Rattle.command_words.specs.Job.{Asked as Job}
use Rattle.command_words.specs.declared.job.Command.{Command}
use Rattle.command_words.specs.declared.job.Command.TheVariants.{Run, Replay}
use Rattle.perp_base.specs.View.{View}
use Rattle.report_text.specs.declared.status.Status.{Status}
use Rattle.report_text.specs.declared.status.Status.TheVariants.{Whole, WriteFault}
use Rattle.perple_core.specs.Texts.{kinds_of, schedule_of}
use Rattle.perple_core.specs.Top.{HasAnswer, IsText, WritesPart, WritesWhole}
use Rattle.perple_core.proofs.Accepting.{none_due_has_kinds}
use Rattle.forbidden_runs.specs.Laws.{AsksFor, IsCall, PerpleReportsNothingForbidden, read_test}
use Rattle.forbidden_runs.specs.Forbidden.{IsForbidden}
use Rattle.forbidden_runs.specs.Texts.{zero_text}
use Rattle.litmus_reader.proofs.TestLaws.{reads_tests}
use Rattle.forbidden_runs.proofs.Reports.{replays_give_no_other_text, runs_give_no_other_text}

-- the right answer is the report that nothing was seen
run_is : (job : Job) (test : LitmusTest) (done : Closed) (answer : List ℕ)
    → IsChecked (read_test test) → IsForbidden (read_test test)
    → IsText (Run job) test done answer → answer ≡ zero_text test job
run_is job test done answer is forbidden right =
    runs_give_no_other_text (read_test test) job done answer is forbidden right

replay_is : (job : Job) (test : LitmusTest) (done : Closed) (answer : List ℕ)
    → IsChecked (read_test test) → IsForbidden (read_test test)
    → IsText (Replay job) test done answer → answer ≡ zero_text test job
replay_is job test done answer is forbidden right =
    replays_give_no_other_text (read_test test) job (schedule_of job) answer is forbidden right.1

-- the answer of a command whose right answers are that report
answer_is : (command : Command) (job : Job) (text : List ℕ) (test : LitmusTest) (done : Closed) (IsOn : List ℕ → Type 0)
    → ((answer : List ℕ) → IsChecked (read_test test) → IsText command test done answer → answer ≡ zero_text test job)
    → Reads text (Accepted test) → HasAnswer command text done IsOn → IsOn (zero_text test job)
answer_is command job text test done IsOn each reading a =
    let same : a.test ≡ test = same_test text a.test test a.reading reading in
    let kinds : AreKinds test (kinds_of test) =
    subst (λ (t : LitmusTest). AreKinds t (kinds_of t)) same (none_due_has_kinds command a.test a.none_due) in
    let right : IsText command test done a.answer = subst (λ (t : LitmusTest). IsText command t done a.answer) same
    a.right in
    subst IsOn (each a.answer (record { kinds = kinds; test = reads_tests text test reading }) right) a.is_on

-- a proper part of a text stands on `out` after what was there
abbrev IsPartOn : List ℕ → View → List ℕ → Type 0
IsPartOn before out text = (n : ℕ) × (n < length text) × (out.bytes ≡ Some (before ++ take n text))

-- what a call has on `out`, where its whole answer is to stand there and where a part of it is
whole_is : (words : List (List ℕ)) (old : View) (done : Closed) (out_old out_new : View) (status : Status)
    (job : Job) (before : List ℕ) (test : LitmusTest)
    → WritesWhole words old done out_old out_new status
    → IsCall words old out_old job before test → IsForbidden (read_test test)
    → AsksFor words job → status ≡ Whole → out_new.bytes ≡ Some (before ++ zero_text test job)
whole_is words old done out_old out_new status job before test writes call forbidden (inl asks) whole =
    answer_is (Run job) job call.text test done (λ answer. out_new.bytes ≡ Some (before ++ answer))
    (λ answer is right. run_is job test done answer is forbidden right) call.reading
    (writes (Run job) call.text before asks call.told call.told_out whole)
whole_is words old done out_old out_new status job before test writes call forbidden (inr asks) whole =
    answer_is (Replay job) job call.text test done (λ answer. out_new.bytes ≡ Some (before ++ answer))
    (λ answer is right. replay_is job test done answer is forbidden right) call.reading
    (writes (Replay job) call.text before asks call.told call.told_out whole)

part_is : (words : List (List ℕ)) (old : View) (done : Closed) (out_old out_new : View) (status : Status)
    (job : Job) (before : List ℕ) (test : LitmusTest)
    → WritesPart words old done out_old out_new status
    → IsCall words old out_old job before test → IsForbidden (read_test test)
    → AsksFor words job → status ≡ WriteFault → IsPartOn before out_new (zero_text test job)
part_is words old done out_old out_new status job before test writes call forbidden (inl asks) fault =
    answer_is (Run job) job call.text test done (IsPartOn before out_new)
    (λ answer is right. run_is job test done answer is forbidden right) call.reading
    (writes (Run job) call.text before asks call.told call.told_out fault)
part_is words old done out_old out_new status job before test writes call forbidden (inr asks) fault =
    answer_is (Replay job) job call.text test done (IsPartOn before out_new)
    (λ answer is right. replay_is job test done answer is forbidden right) call.reading
    (writes (Replay job) call.text before asks call.told call.told_out fault)

pub perple_reports_nothing : PerpleReportsNothingForbidden
perple_reports_nothing words old done out_old out_new status job before test whole part call forbidden = (
  whole_is words old done out_old out_new status job before test whole call forbidden call.asks,
  part_is words old done out_old out_new status job before test part call forbidden call.asks,
)
