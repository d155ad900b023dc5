-- What the top call promises. The runs are those of x86-TSO (Sewell, Sarkar, Owens, Zappa Nardelli and Myreen, CACM
-- 2010), and the counts are PerpLE's (Melissaris, Markakis, Shaw and Martonosi, MICRO 2020); statuses and texts are
-- this project's own.
use Rattle.std.specs.Prelude.{◌≡◌, ◌⊎◌, ℕ, ◌<◌, All, List, ◌++◌, length, take, drop, Some, None, MatchOption}
use Rattle.std.specs.Io.KnownBytes.{IsAtEnd}
use Rattle.std.specs.Str.{IsAscii}
use Rattle.perp_base.specs.declared.limits.TheConstants.{MOST_BYTES}
use Rattle.x86_subset.specs.Test.{LitmusTest}
use Rattle.tso_machine.specs.Event.{Event}
use Rattle.tso_words.specs.Seats.{Ended as Closed}
use Rattle.perp_base.specs.declared.options.Options.{Options}
use Rattle.perp_base.specs.declared.schedule.Schedule.{Schedule}
use Rattle.perp_base.specs.declared.schedule.Schedule.TheVariants.{Seeded}
use Rattle.tso_runs.specs.Fits.{Fits}
use Rattle.tso_runs.specs.Schedule.{IsScheduled}
use Rattle.litmus_reader.specs.Answer.{Accepted}
use Rattle.litmus_reader.specs.Reading.{Reads}
use Rattle.command_words.specs.Words.{command_of}
use Rattle.command_words.specs.Job.{Asked as Job}
use Rattle.command_words.specs.declared.job.Command.{Command}
use Rattle.command_words.specs.declared.job.Command.TheVariants.{Run, Replay, Convert, Demo}
use Rattle.demo_text.specs.Demo.{demo_text_of}
use Rattle.report_text.specs.declared.status.Status.{Status}
use Rattle.report_text.specs.declared.status.Status.TheVariants.{Whole, Memory, Usage, ReadFault, WriteFault, NotLitmus, OutsideProfile, Limit}
use Rattle.report_text.specs.declared.status.Over.TheVariants.{Input, Threads, Locations, Instructions, Atoms, Frames}
use Rattle.perp_base.specs.Causes.{Rose}
use Rattle.perp_base.specs.View.{View}
use Rattle.program_edge.specs.Ending.{Ended as EndedCall, IsOutOfMemory as OutOfMemory, IsStillOr, IsUsage as IsUsageOf}
use Rattle.program_edge.specs.Field.{IsStill, SomeRunFits}
use Rattle.perple_core.specs.Texts.{text_of, conversion_text_of, demo_report_of, demo_options_of, schedule_of}
use Rattle.perple_core.specs.Due.{Took, IsDue, IsShort, call_of, due_for_reading, demo_number}

-- the words are those of a demo
abbrev pub IsDemo : List (List ℕ) → Type 0
IsDemo words = (k : ℕ) × (command_of words ≡ Some (Demo k))

-- the names of the test and of its locations are ASCII
pub record IsNamedInAscii (test : LitmusTest) : Type 0 where
  pub name : IsAscii test.name
  pub locations : All IsAscii test.locations

-- the text is that of every run that fits what the threads did on the field, and some run does
pub record IsTextOfRun (test : LitmusTest) (job : Job) (done : Closed) (text : List ℕ) : Type 0 where
  pub some_run : SomeRunFits test job.options done
  pub each : (run : List Event) → Fits test job.options done.lists run → text ≡ text_of test job run

-- the text is the one that this gives of the run of the schedule, and there is such a run
pub record IsTextOfSchedule (test : LitmusTest) (options : Options) (schedule : Schedule)
    (gives : List Event → List ℕ) (text : List ℕ) : Type 0 where
  pub some_run : (run : List Event) × IsScheduled test options schedule run
  pub each : (run : List Event) → IsScheduled test options schedule run → text ≡ gives run

-- the text is right for the command, the test and the field
abbrev pub IsText : Command → LitmusTest → Closed → List ℕ → Type 0
IsText (Run job) test done text = IsTextOfRun test job done text
IsText (Replay job) test done text =
    IsStill done × IsTextOfSchedule test job.options (schedule_of job) (text_of test job) text
IsText Convert test done text = IsStill done × (text ≡ conversion_text_of test)
IsText (Demo k) test done text =
    IsStill done × IsTextOfSchedule test (demo_options_of k test) (Seeded k) (demo_report_of k test) text

-- the command took a text that reads as a test for which no refusal is due
pub record Accepts (words : List (List ℕ)) (old new : View) (command : Command) (test : LitmusTest) : Type 0 where
  pub bytes : List ℕ
  pub took : Took words old new command bytes
  pub reading : Reads bytes (Accepted test)
  pub none_due : due_for_reading command (Accepted test) ≡ None

-- and this text is the right answer to it
pub record Answers (words : List (List ℕ)) (old new : View) (done : Closed) (text : List ℕ) : Type 0 where
  pub command : Command
  pub test : LitmusTest
  pub accepts : Accepts words old new command test
  pub right : IsText command test done text

-- a run was made, for a test that was accepted
pub record Ran (words : List (List ℕ)) (old new : View) (done : Closed) : Type 0 where
  pub job : Job
  pub test : LitmusTest
  pub accepts : Accepts words old new (Run job) test
  pub fits : SomeRunFits test job.options done

-- no step was made, or memory ran out after a run
abbrev pub IsStillOrRan : (words : List (List ℕ)) (old new : View) → Closed → Status → Type 0
IsStillOrRan words old new done status = IsStillOr (λ s. s) done (Ran words old new done) status

-- a command that makes no step on the field
abbrev pub IsStillCommand : Command → Type 0
IsStillCommand (Run job) = ⊥
IsStillCommand (Replay job) = Unit {0}
IsStillCommand Convert = Unit {0}
IsStillCommand (Demo k) = Unit {0}

-- the command is a run, and some run fits its field
abbrev pub RanFor : Command → LitmusTest → Closed → Type 0
RanFor (Run job) test done = SomeRunFits test job.options done
RanFor (Replay job) test done = ⊥
RanFor Convert test done = ⊥
RanFor (Demo k) test done = ⊥

-- How a call may end: with a refusal, which leaves `out` untouched, with the whole text, or with a part of it.
abbrev pub Ended : List (List ℕ) → View → View → Closed → View → View → Type 0 → Status → Type 0
Ended words old new done out_old out_new untouched status = EndedCall (call_of words old new)
    (Answers words old new done) (Ran words old new done) done out_old out_new untouched status

-- Where memory ran out no step was made on the field, or the command was a run whose text was accepted, and some run
-- fits the field.
abbrev pub IsOutOfMemory : List (List ℕ) → View → View → Closed → Status → Type 0
IsOutOfMemory words old new done status = OutOfMemory (λ s. s) done (Ran words old new done) status

-- the text that a command is to take: the demo's own, or what the source tells that it has left
abbrev pub Told : Command → View → List ℕ → Type 0
Told command old text = MatchOption (demo_number command) (old.bytes ≡ Some text) (λ k. text ≡ demo_text_of k)

-- Where no refusal is due and nothing fails, only want of memory keeps the answer back.
abbrev pub Completes : List (List ℕ) → View → View → View → View → Status → Type 0
Completes words old new out_old out_new status = (command : Command) (text : List ℕ)
    → command_of words ≡ Some command → Told command old text → IsShort command text → IsDue command text None
    → (demo_number command ≡ None → Rose old.faults new.faults → ⊥) → (Rose out_old.faults out_new.faults → ⊥)
    → (status ≡ Whole) ⊎ (status ≡ Memory)

-- A demo needs no source: no refusal is ever due for its text.
abbrev pub DemoCompletes : List (List ℕ) → View → View → Status → Type 0
DemoCompletes words out_old out_new status = (k : ℕ)
    → command_of words ≡ Some (Demo k) → (Rose out_old.faults out_new.faults → ⊥)
    → (status ≡ Whole) ⊎ (status ≡ Memory)

-- The words are no command exactly where that is answered, and it yields to want of memory.
abbrev pub IsUsage : List (List ℕ) → Status → Type 0
IsUsage words status = IsUsageOf (λ s. s) (command_of words) status

-- the statuses before which the input was read to its end
abbrev pub IsAfterReading : Status → Type 0
IsAfterReading Whole = Unit {0}
IsAfterReading Memory = ⊥
IsAfterReading Usage = ⊥
IsAfterReading ReadFault = ⊥
IsAfterReading WriteFault = Unit {0}
IsAfterReading (NotLitmus kind line) = Unit {0}
IsAfterReading (OutsideProfile atom kind) = Unit {0}
IsAfterReading (Limit Input) = ⊥
IsAfterReading (Limit Threads) = Unit {0}
IsAfterReading (Limit Locations) = Unit {0}
IsAfterReading (Limit Instructions) = Unit {0}
IsAfterReading (Limit Atoms) = Unit {0}
IsAfterReading (Limit Frames) = Unit {0}

-- A command that reads the source reads it to its end, where it goes on after the reading.
abbrev pub ReadsToEnd : List (List ℕ) → View → Status → Type 0
ReadsToEnd words new status = (command : Command) → command_of words ≡ Some command → demo_number command ≡ None
    → IsAfterReading status → IsAtEnd new.bytes

-- The refusal that is due for the text is answered, and it yields to want of memory and to a fault of reading.
abbrev pub AnswersDue : List (List ℕ) → View → View → Status → Type 0
AnswersDue words old new status = (command : Command) (text : List ℕ) (refusal : Status)
    → command_of words ≡ Some command → Told command old text → IsShort command text → IsDue command text (Some refusal)
    → (status ≡ refusal) ⊎ ((status ≡ Memory) ⊎ ((status ≡ ReadFault) × Rose old.faults new.faults))

-- An input that is too long is answered as such, after one byte more than the limit was taken. It yields to want of
-- memory and to a fault of reading.
abbrev pub AnswersTooLong : List (List ℕ) → View → View → Status → Type 0
AnswersTooLong words old new status = (command : Command) (text : List ℕ)
    → command_of words ≡ Some command → demo_number command ≡ None → old.bytes ≡ Some text → MOST_BYTES < length text
    → ((status ≡ Limit Input) × (new.bytes ≡ Some (drop 65537 text)))
    ⊎ ((status ≡ Memory) ⊎ ((status ≡ ReadFault) × Rose old.faults new.faults))

-- The field moves only in a run, and only where the run's text was made or memory ran out after it.
pub record IsField (words : List (List ℕ)) (done : Closed) (status : Status) : Type 0 where
  pub other_command : ((job : Job) → command_of words ≡ Some (Run job) → ⊥) → IsStill done
  pub other_status : (status ≡ Whole → ⊥) → (status ≡ WriteFault → ⊥) → (status ≡ Memory → ⊥) → IsStill done

-- The text reads as a test for which no refusal is due, and `out` has the right answer to it, or a part of the right
-- answer.
pub record HasAnswer (command : Command) (text : List ℕ) (done : Closed) (IsOn : List ℕ → Type 0) : Type 0 where
  pub test : LitmusTest
  pub reading : Reads text (Accepted test)
  pub none_due : due_for_reading command (Accepted test) ≡ None
  pub answer : List ℕ
  pub right : IsText command test done answer
  pub is_on : IsOn answer

-- A whole answer: the right one stands on `out`.
abbrev pub WritesWhole : List (List ℕ) → View → Closed → View → View → Status → Type 0
WritesWhole words old done out_old out_new status = (command : Command) (text before : List ℕ)
    → command_of words ≡ Some command → Told command old text → out_old.bytes ≡ Some before → status ≡ Whole
    → HasAnswer command text done (λ answer. out_new.bytes ≡ Some (before ++ answer))

-- A fault of writing: a part of the right answer stands on `out`.
abbrev pub WritesPart : List (List ℕ) → View → Closed → View → View → Status → Type 0
WritesPart words old done out_old out_new status = (command : Command) (text before : List ℕ)
    → command_of words ≡ Some command → Told command old text → out_old.bytes ≡ Some before → status ≡ WriteFault
    → HasAnswer command text done (λ answer. (n : ℕ) × (n < length answer)
    × (out_new.bytes ≡ Some (before ++ take n answer)))
