-- The parts of the headline, from how a call ended.
use Rattle.std.proofs.Common.{◌≡◌, ℕ, ◌<◌, List, ◌++◌, length, take, Some, ap, subst, ◌∙◌}
use Rattle.x86_subset.specs.Test.{LitmusTest}
use Rattle.tso_machine.specs.Event.{Event}
use Rattle.tso_words.specs.Seats.{Ended as Closed}
use Rattle.tso_runs.specs.Fits.{Fits}
use Rattle.litmus_reader.specs.Answer.{Accepted}
use Rattle.litmus_reader.specs.Reading.{Reads}
use Rattle.litmus_reader.proofs.ReadingLaws.{same_test}
use Rattle.command_words.specs.declared.job.Command.TheVariants.{Run}
use Rattle.command_words.specs.Job.{Asked as Job}
use Rattle.report_text.specs.declared.status.Status.{Status}
use Rattle.perple_core.specs.Texts.{text_of}
use Rattle.perp_base.specs.View.{View}
use Rattle.program_edge.specs.Field.{SomeRunFits}
use Rattle.program_edge.proofs.Endings.{answer_of}
use Rattle.perple_core.specs.Headline.{HasRun, IsRun, RunFits, RunReads, RunText}
use Rattle.perple_core.specs.Top.{Ended, HasAnswer, IsTextOfRun}
use Rattle.perple_core.proofs.Accepting.{none_due_has_kinds}
use Rattle.perple_core.proofs.Endings.{accepts_text, laws, whole_of, part_of}

-- the answer of a run is the text of each run that fits
answer_is : (job : Job) (bytes : List ℕ) (test : LitmusTest) (done : Closed) (run : List Event) (IsOn : List ℕ → Type 0)
    → (a : HasAnswer (Run job) bytes done IsOn) → Reads bytes (Accepted test) → Fits test job.options done.lists run
    → a.answer ≡ text_of test job run
answer_is job bytes test done run IsOn a reading fits =
    let same : a.test ≡ test = same_test bytes a.test test a.reading reading in
    let right : IsTextOfRun test job done a.answer = subst (λ (t : LitmusTest). IsTextOfRun t job done a.answer) same
    a.right in
    right.each run fits

-- ---- what the clauses say

module _ {words : List (List ℕ)} {old new : View} {done : Closed} {out_old out_new : View} {untouched : Type 0}
    {status : Status} (ended : Ended words old new done out_old out_new untouched status) where
  -- a run that ended whole, or with a fault of writing, has its answer
  run_answer : (job : Job) (bytes : List ℕ)
      → IsRun words old job bytes → HasRun status
      → HasAnswer (Run job) bytes done (λ _. Unit {0})
  run_answer job bytes is has =
      let a = answer_of (laws words old new done) status ended has in
      accepts_text words old new done (Run job) bytes a.0 (λ _. Unit {0}) is.command_is is.told a.1 tt

  pub reads_of : RunReads words old status
  reads_of = λ job bytes is has.
      let a : HasAnswer (Run job) bytes done (λ _. Unit {0}) = run_answer job bytes is has in
      (a.test, a.reading, none_due_has_kinds (Run job) a.test a.none_due)

  pub fits_of : RunFits words old done status
  fits_of = λ job bytes test is has reading.
      let a : HasAnswer (Run job) bytes done (λ _. Unit {0}) = run_answer job bytes is has in
      subst (λ (t : LitmusTest). SomeRunFits t job.options done) (same_test bytes a.test test a.reading reading)
      a.right.some_run

  pub texts_of : RunText words old done out_old out_new status
  texts_of =
      λ job bytes before test run is told_out reading fits. (
        λ whole.
            let a = whole_of ended (Run job) bytes before is.command_is is.told told_out whole in
            a.is_on ∙ ap (λ t. Some (before ++ t)) (answer_is job bytes test done run
            (λ answer. out_new.bytes ≡ Some (before ++ answer)) a reading fits),
        λ fault.
            let a = part_of ended (Run job) bytes before is.command_is is.told told_out fault in
            subst (λ (t : List ℕ). (n : ℕ) × (n < length t) × (out_new.bytes ≡ Some (before ++ take n t)))
            (answer_is job bytes test done run (λ answer. (n : ℕ) × (n < length answer)
            × (out_new.bytes ≡ Some (before ++ take n answer))) a reading fits) a.is_on,
      )
