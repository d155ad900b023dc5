-- What the clauses of an answer rest on: the right answer, and what the run of a command leaves.
use Rattle.std.proofs.Common.{◌≡◌, ◌⊎◌, ℕ, List, None, Ok, Err, Vec, Global, string_bytes, IfOk, IfErr, inl, inr, refl, subst}
use Rattle.x86_subset.specs.Test.{LitmusTest}
use Rattle.tso_words.specs.Seats.{Ended as Closed}
use Rattle.litmus_reader.specs.Answer.{Accepted}
use Rattle.litmus_reader.specs.Reading.{Reads}
use Rattle.litmus_reader.proofs.ReadingLaws.{same_test}
use Rattle.command_words.specs.Job.{Asked as Job}
use Rattle.command_words.specs.declared.job.Command.{Command}
use Rattle.command_words.specs.declared.job.Command.TheVariants.{Run, Replay, Convert, Demo}
use Rattle.report_text.specs.declared.status.Status.TheVariants.{Memory}
use Rattle.program_edge.specs.Ending.{IsStillOr}
use Rattle.program_edge.specs.Field.{IsStill, SomeRunFits}
use Rattle.program_edge.specs.Request.{AsksFor}
use Rattle.program_edge.specs.declared.request.Request.{Request}
use Rattle.program_edge.specs.declared.request.Request.TheVariants.{Misused, NoMemory, Alone, Given}
use Rattle.perple_core.specs.Due.{IsDue, due_for_reading, perple_program}
use Rattle.perple_core.specs.Top.{IsText, RanFor}
use Rattle.perple_core.specs.Answering.{AnswerFits, AnswerReads, AnswerTells, Answers, IsAnswer, IsMade, Leaves, MovesInRuns, TextOrRefusal}
use Rattle.perple_core.proofs.Accepting.{none_due_has_kinds}

-- ---- what is left on the field

pub made_or_still : (command : Command) (text : List ℕ) (test : LitmusTest) (done : Closed) → Reads text (Accepted test)
    → due_for_reading command (Accepted test) ≡ None → IsStill done ⊎ RanFor command test done
    → IsStillOr (λ s. s) done (IsMade command text done) Memory
made_or_still command text test done reading none (inl still) = inl still
made_or_still command text test done reading none (inr ran) = inr (
  refl,
  record { test = test; accepted = record { reading = reading; none_due = none }; ran = ran },
)

text_still : (command : Command) (test : LitmusTest) (done : Closed) (answer : List ℕ)
    → ((job : Job) → command ≡ Run job → ⊥) → IsText command test done answer → IsStill done
text_still (Run job) test done answer other right = absurd (other job refl)
text_still (Replay job) test done answer other right = right.0
text_still Convert test done answer other right = right.0
text_still (Demo k) test done answer other right = right.0

made_still : (command : Command) (test : LitmusTest) (done : Closed)
    → ((job : Job) → command ≡ Run job → ⊥) → RanFor command test done → IsStill done
made_still (Run job) test done other ran = absurd (other job refl)
made_still (Replay job) test done other ran = absurd ran
made_still Convert test done other ran = absurd ran
made_still (Demo k) test done other ran = absurd ran

answer_still : (request : Request Command) (done : Closed) (answer : List ℕ) → Answers request done answer
    → MovesInRuns request done
answer_still Misused done answer right = absurd right
answer_still NoMemory done answer right = absurd right
answer_still (Alone command) done answer right =
    λ other. text_still command right.test done answer (λ job is. other (job, is)) right.right
answer_still (Given command (Ok input)) done answer right =
    λ other. text_still command right.test done answer (λ job is. other (job, is)) right.right
answer_still (Given command (Err why)) done answer right = absurd right

out_still : (request : Request Command) (done : Closed)
    → AsksFor perple_program request (λ command text. IsMade command text done) → MovesInRuns request done
out_still Misused done made = absurd made
out_still NoMemory done made = absurd made
out_still (Alone command) done made =
    λ other. made_still command made.test done (λ job is. other (job, is)) made.ran
out_still (Given command (Ok input)) done made =
    λ other. made_still command made.test done (λ job is. other (job, is)) made.ran
out_still (Given command (Err why)) done made = absurd made

pub moves_in_runs : (request : Request Command) (done : Closed) (answer : TextOrRefusal)
    → IfOk answer (λ text. Answers request done (string_bytes text)) → IfErr answer (Leaves request done)
    → MovesInRuns request done
moves_in_runs request done (Ok text) right left = answer_still request done (string_bytes text) right
moves_in_runs request done (Err status) right (inl still) = λ other. still
moves_in_runs request done (Err status) right (inr out) = out_still request done out.1

-- ---- what is due

asked_none_due : (request : Request Command) (done : Closed) (answer : List ℕ) → Answers request done answer
    → AsksFor perple_program request (λ command text. IsDue command text None)
asked_none_due Misused done answer right = right
asked_none_due NoMemory done answer right = right
asked_none_due (Alone command) done answer right = record {
  answer = Accepted right.test;
  reads = right.accepted.reading;
  is = right.accepted.none_due;
}
asked_none_due (Given command (Ok input)) done answer right = record {
  answer = Accepted right.test;
  reads = right.accepted.reading;
  is = right.accepted.none_due;
}
asked_none_due (Given command (Err why)) done answer right = right

pub answered_none_due : (request : Request Command) (done : Closed) (answer : TextOrRefusal)
    → IfOk answer (λ text. Answers request done (string_bytes text))
    → IfOk answer (λ _. AsksFor perple_program request (λ command text. IsDue command text None))
answered_none_due request done (Ok text) right = asked_none_due request done (string_bytes text) right
answered_none_due request done (Err status) right = tt

-- ---- the headline

answer_of_run : (request : Request Command) (done : Closed) (answer : List ℕ) (job : Job) (input : Vec ℕ Global)
    → request ≡ Given (Run job) (Ok input) → Answers request done answer
    → IsAnswer (Run job) input.items done answer
answer_of_run request done answer job input is right =
    subst (λ (r : Request Command). Answers r done answer) is right

pub answer_reads : (request : Request Command) (done : Closed) (answer : TextOrRefusal)
    → IfOk answer (λ text. Answers request done (string_bytes text)) → AnswerReads request answer
answer_reads request done (Ok text) right = λ job input is.
    let a = answer_of_run request done (string_bytes text) job input is right in
    (a.test, a.accepted.reading, none_due_has_kinds (Run job) a.test a.accepted.none_due)
answer_reads request done (Err status) right = λ job input is. tt

pub answer_fits : (request : Request Command) (done : Closed) (answer : TextOrRefusal)
    → IfOk answer (λ text. Answers request done (string_bytes text)) → AnswerFits request done answer
answer_fits request done (Ok text) right = λ job input test is reading.
    let a = answer_of_run request done (string_bytes text) job input is right in
    subst (λ (t : LitmusTest). SomeRunFits t job.options done)
    (same_test input.items a.test test a.accepted.reading reading) a.right.some_run
answer_fits request done (Err status) right = λ job input test is reading. tt

pub answer_tells : (request : Request Command) (done : Closed) (answer : TextOrRefusal)
    → IfOk answer (λ text. Answers request done (string_bytes text)) → AnswerTells request done answer
answer_tells request done (Ok text) right = λ job input test run is reading fits.
    let a = answer_of_run request done (string_bytes text) job input is right in
    let right : IsText (Run job) test done (string_bytes text) =
    subst (λ (t : LitmusTest). IsText (Run job) t done (string_bytes text))
    (same_test input.items a.test test a.accepted.reading reading) a.right in
    right.each run fits
answer_tells request done (Err status) right = λ job input test run is reading fits. tt
