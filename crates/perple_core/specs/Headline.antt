-- The headline: what a run that was answered promises. The runs are those of x86-TSO (Sewell, Sarkar, Owens, Zappa
-- Nardelli and Myreen, CACM 2010), and the counts are PerpLE's (Melissaris, Markakis, Shaw and Martonosi, MICRO 2020);
-- statuses and texts are this project's own.
--
-- A legal run is `IsLegal` of tso_machine/specs/Machine, what the threads do in it is `Fits` of tso_runs/specs/Fits, and
-- what is counted in it are the hits of outcome_conv/specs/Hits, which `text_of` of specs/Texts writes.
use Rattle.std.specs.Prelude.{◌≡◌, ◌⊎◌, ℕ, ◌<◌, List, ◌++◌, length, take, Some}
use Rattle.x86_subset.specs.Test.{LitmusTest}
use Rattle.tso_machine.specs.Event.{Event}
use Rattle.tso_words.specs.Seats.{Ended as Closed}
use Rattle.tso_runs.specs.Fits.{Fits}
use Rattle.litmus_reader.specs.Answer.{Accepted}
use Rattle.litmus_reader.specs.Reading.{Reads}
use Rattle.profile_check.specs.Kinds.{AreKinds}
use Rattle.command_words.specs.Words.{command_of}
use Rattle.command_words.specs.Job.{Asked as Job}
use Rattle.command_words.specs.declared.job.Command.TheVariants.{Run}
use Rattle.report_text.specs.declared.status.Status.{Status}
use Rattle.report_text.specs.declared.status.Status.TheVariants.{Whole, WriteFault}
use Rattle.perp_base.specs.View.{View}
use Rattle.program_edge.specs.Field.{SomeRunFits}
use Rattle.perple_core.specs.Texts.{kinds_of, text_of}

-- the words are those of a run of this job, and these are the bytes that the source had left
pub record IsRun (words : List (List ℕ)) (old : View) (job : Job) (bytes : List ℕ) : Type 0 where
  pub command_is : command_of words ≡ Some (Run job)
  pub told : old.bytes ≡ Some bytes

-- the statuses after which a whole run stands
abbrev pub HasRun : Status → Type 0
HasRun status = (status ≡ Whole) ⊎ (status ≡ WriteFault)

-- First part: the bytes of a run read as a test, all of whose atoms are rf, exact or fr.
abbrev pub RunReads : List (List ℕ) → View → Status → Type 0
RunReads words old status = (job : Job) (bytes : List ℕ) → IsRun words old job bytes → HasRun status
    → (test : LitmusTest) × Reads bytes (Accepted test) × AreKinds test (kinds_of test)

-- Second part: what the threads did on the field is what some legal run of x86-TSO does, in which each thread performs
-- its body as often as the words ask; it ends with the field's words.
abbrev pub RunFits : List (List ℕ) → View → Closed → Status → Type 0
RunFits words old done status =
    (job : Job) (bytes : List ℕ) (test : LitmusTest) → IsRun words old job bytes → HasRun status
    → Reads bytes (Accepted test) → SomeRunFits test job.options done

-- Third part: for every such run, its text stands on `out` (with a fault of writing, a part of it).
abbrev pub RunText : List (List ℕ) → View → Closed → View → View → Status → Type 0
RunText words old done out_old out_new status =
    (job : Job) (bytes before : List ℕ) (test : LitmusTest) (run : List Event)
    → IsRun words old job bytes → out_old.bytes ≡ Some before → Reads bytes (Accepted test)
    → Fits test job.options done.lists run
    → (status ≡ Whole → out_new.bytes ≡ Some (before ++ text_of test job run))
    × (status ≡ WriteFault → (n : ℕ) × (n < length (text_of test job run))
    × (out_new.bytes ≡ Some (before ++ take n (text_of test job run))))
