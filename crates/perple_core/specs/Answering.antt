-- What the answer to a request promises before any of it is written: told of the bytes that were read, whatever the
-- source and the sinks are. The runs are those of x86-TSO (Sewell, Sarkar, Owens, Zappa Nardelli and Myreen, CACM
-- 2010), and the counts are PerpLE's (Melissaris, Markakis, Shaw and Martonosi, MICRO 2020); statuses and texts are
-- this project's own.
use Rattle.std.specs.Prelude.{◌≡◌, ℕ, List, None, Result, Ok, IfOk, String, string_bytes, Vec}
use Rattle.std.specs.Global.{Global}
use Rattle.x86_subset.specs.Test.{LitmusTest}
use Rattle.tso_machine.specs.Event.{Event}
use Rattle.tso_words.specs.Seats.{Ended as Closed}
use Rattle.tso_runs.specs.Fits.{Fits}
use Rattle.litmus_reader.specs.Answer.{Accepted}
use Rattle.litmus_reader.specs.Reading.{Reads}
use Rattle.profile_check.specs.Kinds.{AreKinds}
use Rattle.command_words.specs.Job.{Asked as Job}
use Rattle.command_words.specs.declared.job.Command.{Command}
use Rattle.command_words.specs.declared.job.Command.TheVariants.{Run}
use Rattle.report_text.specs.declared.status.Status.{Status}
use Rattle.program_edge.specs.Ending.{IsStillOr}
use Rattle.program_edge.specs.Field.{IsStill, SomeRunFits}
use Rattle.program_edge.specs.Request.{AsksFor}
use Rattle.program_edge.specs.declared.request.Request.{Request}
use Rattle.program_edge.specs.declared.request.Request.TheVariants.{Given}
use Rattle.perple_core.specs.Texts.{kinds_of, text_of}
use Rattle.perple_core.specs.Due.{due_for_reading, perple_program}
use Rattle.perple_core.specs.Top.{IsText, RanFor}

-- a text or a refusal
abbrev pub TextOrRefusal : Type 0
TextOrRefusal = Result (String Global) Status

-- the text reads as this test, and no refusal is due for it
pub record IsAccepted (command : Command) (text : List ℕ) (test : LitmusTest) : Type 0 where
  pub reading : Reads text (Accepted test)
  pub none_due : due_for_reading command (Accepted test) ≡ None

-- this is the right answer to a command on a text
pub record IsAnswer (command : Command) (text : List ℕ) (done : Closed) (answer : List ℕ) : Type 0 where
  pub test : LitmusTest
  pub accepted : IsAccepted command text test
  pub right : IsText command test done answer

-- the run of a command on a text was made
pub record IsMade (command : Command) (text : List ℕ) (done : Closed) : Type 0 where
  pub test : LitmusTest
  pub accepted : IsAccepted command text test
  pub ran : RanFor command test done

-- this is the right answer to a request
abbrev pub Answers : Request Command → Closed → List ℕ → Type 0
Answers request done answer = AsksFor perple_program request (λ command text. IsAnswer command text done answer)

-- what a refusal leaves on the field: no step, or memory ran out after the run of what was asked
abbrev pub Leaves : Request Command → Closed → Status → Type 0
Leaves request done status =
    IsStillOr (λ s. s) done (AsksFor perple_program request (λ command text. IsMade command text done)) status

-- The field moves only where the request is of a run.
abbrev pub MovesInRuns : Request Command → Closed → Type 0
MovesInRuns request done =
    (AsksFor perple_program request (λ command text. (job : Job) × (command ≡ Run job)) → ⊥) → IsStill done

-- ---- the headline, for a run whose input was read

-- First part: the input of a run that is answered reads as a test, all of whose atoms are rf, exact or fr.
abbrev pub AnswerReads : Request Command → TextOrRefusal → Type 0
AnswerReads request answer = (job : Job) (input : Vec ℕ Global) → request ≡ Given (Run job) (Ok input)
    → IfOk answer (λ _. (test : LitmusTest) × Reads input.items (Accepted test) × AreKinds test (kinds_of test))

-- Second part: what the threads did on the field is what some legal run of x86-TSO does, in which each thread performs
-- its body as often as the job asks; it ends with the field's words.
abbrev pub AnswerFits : Request Command → Closed → TextOrRefusal → Type 0
AnswerFits request done answer =
    (job : Job) (input : Vec ℕ Global) (test : LitmusTest) → request ≡ Given (Run job) (Ok input)
    → Reads input.items (Accepted test) → IfOk answer (λ _. SomeRunFits test job.options done)

-- Third part: the answer is the text of each such run.
abbrev pub AnswerTells : Request Command → Closed → TextOrRefusal → Type 0
AnswerTells request done answer =
    (job : Job) (input : Vec ℕ Global) (test : LitmusTest) (run : List Event) → request ≡ Given (Run job) (Ok input)
    → Reads input.items (Accepted test) → Fits test job.options done.lists run
    → IfOk answer (λ text. string_bytes text ≡ text_of test job run)
