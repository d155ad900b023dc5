-- What the second program's top call promises. The runs are those of x86-TSO (Sewell, Sarkar, Owens, Zappa Nardelli and
-- Myreen, CACM 2010); commands, statuses and texts are this project's own.
use Rattle.std.specs.Prelude.{◌≡◌, ◌⊎◌, ℕ, ◌<◌, ◌≤◌, List, ◌++◌, length, take, drop, Option, Some, None}
use Rattle.std.specs.Io.KnownBytes.{IsAtEnd}
use Rattle.perp_base.specs.declared.limits.TheConstants.{MOST_BYTES, MOST_INPUT}
use Rattle.x86_subset.specs.Test.{LitmusTest}
use Rattle.tso_words.specs.Seats.{Ended as Closed}
use Rattle.litmus_reader.specs.Answer.{Accepted}
use Rattle.litmus_reader.specs.Reading.{Reads}
use Rattle.report_text.specs.declared.status.Over.TheVariants.{Frames}
use Rattle.report_text.specs.declared.status.Status.TheVariants.{Whole, Memory, Usage, ReadFault, WriteFault, NotLitmus, OutsideProfile, Limit}
use Rattle.perp_base.specs.Causes.{Rose}
use Rattle.perp_base.specs.declared.options.Options.{Options}
use Rattle.run_text.specs.Sections.{Split}
use Rattle.perp_base.specs.View.{View}
use Rattle.program_edge.specs.Ending.{Ended as EndedCall, IsOutOfMemory, IsStillOr, IsUsage as IsUsageOf}
use Rattle.program_edge.specs.Field.{IsStill, SomeRunFits}
use Rattle.tool_core.specs.Words.{command_of}
use Rattle.tool_core.specs.Due.{IsDue, StopsOn, Took, call_of, due_for_test, parts_of}
use Rattle.tool_core.specs.Texts.{IsJudged, IsOrdered, IsSkewText, IsVerdictText, IsWitnessed, options_of}
use Rattle.tool_core.specs.Showing.{IsShowingText}
use Rattle.outcome_states.specs.Outcomes.{IsOutcomesText}
use Rattle.tool_core.specs.Faithful.{IsFaithText}
use Rattle.tool_core.specs.Counting.{IsCountText, RanAs, run_options}
use Rattle.tool_core.specs.Replaying.{IsReplayText}
use Rattle.tool_core.specs.declared.words.Command.{Command}
use Rattle.tool_core.specs.declared.words.Command.TheVariants.{Judge, Order, Witness, Verdict, Show, Outcomes, Faithful, Skew, Count, Replay}
use Rattle.tool_core.specs.declared.status.ToolStatus.{ToolStatus}
use Rattle.tool_core.specs.declared.status.ToolStatus.TheVariants.{Core, NoSection, BadLine, TooLong, Events, SeveralWriters, States, Steps}

-- ---- answers

-- the text is right for the command, the test, the section and the field
abbrev pub IsText : Command → LitmusTest → Split → Closed → List ℕ → Type 0
IsText Judge test parts done text = IsStill done × IsJudged test parts text
IsText Order test parts done text = IsStill done × IsOrdered test parts text
IsText (Witness n) test parts done text = IsWitnessed test n done text
IsText Verdict test parts done text = IsStill done × IsVerdictText test text
IsText Show test parts done text = IsStill done × IsShowingText test text
IsText Outcomes test parts done text = IsStill done × IsOutcomesText test text
IsText Faithful test parts done text = IsStill done × IsFaithText test text
IsText (Skew n) test parts done text = IsSkewText test n done text
IsText (Count job) test parts done text = IsCountText test job done text
IsText (Replay job) test parts done text = IsStill done × IsReplayText test job text

-- how a command runs the test on the field, where it does
abbrev pub options_run : Command → Option Options
options_run Judge = None
options_run Order = None
options_run (Witness n) = Some (options_of n)
options_run Verdict = None
options_run Show = None
options_run Outcomes = None
options_run Faithful = None
options_run (Skew n) = Some (options_of n)
options_run (Count job) = run_options job.order job.options
options_run (Replay job) = None

-- the command makes no step on the field
abbrev pub IsStillCommand : Command → Type 0
IsStillCommand command = options_run command ≡ None

-- the command runs the test, and some run fits its field
abbrev pub RanFor : Command → LitmusTest → Closed → Type 0
RanFor command test done = RanAs (options_run command) test done

-- the input has a litmus part that reads as this test, and this section, and no refusal is due
pub record Accepts (command : Command) (input : List ℕ) (parts : Split) (test : LitmusTest) : Type 0 where
  pub parts_are : parts_of command input ≡ Some parts
  pub short : length parts.litmus ≤ MOST_BYTES
  pub reading : Reads parts.litmus (Accepted test)
  pub none_due : due_for_test command test parts ≡ None

-- and this text is the right answer to it
pub record IsAnswer (command : Command) (input : List ℕ) (done : Closed) (text : List ℕ) : Type 0 where
  pub parts : Split
  pub test : LitmusTest
  pub accepts : Accepts command input parts test
  pub right : IsText command test parts done text

-- or the run was made and memory ran out after it
pub record Ran (command : Command) (input : List ℕ) (done : Closed) : Type 0 where
  pub parts : Split
  pub test : LitmusTest
  pub accepts : Accepts command input parts test
  pub ran : RanFor command test done

-- what a refusal of an input leaves on the field: no step, or memory ran out after a run
abbrev pub IsStillOrRan : Command → List ℕ → Closed → ToolStatus → Type 0
IsStillOrRan command input done status = IsStillOr Core done (Ran command input done) status

-- ---- the call

-- the right answer to what a command took
pub record Answers (words : List (List ℕ)) (old new : View) (done : Closed) (text : List ℕ) : Type 0 where
  pub command : Command
  pub input : List ℕ
  pub took : Took words old new command input
  pub answer : IsAnswer command input done text

-- memory ran out after the run of a command
pub record RanOut (words : List (List ℕ)) (old new : View) (done : Closed) : Type 0 where
  pub command : Command
  pub input : List ℕ
  pub took : Took words old new command input
  pub ran : Ran command input done

-- what a refusal leaves on the field
abbrev pub Leaves : List (List ℕ) → View → View → Closed → ToolStatus → Type 0
Leaves words old new done status = IsStillOr Core done (RanOut words old new done) status

-- How a call may end: with a refusal, which leaves `out` untouched, with the whole text, or with a part of it.
abbrev pub Ended : List (List ℕ) → View → View → Closed → View → View → Type 0 → ToolStatus → Type 0
Ended words old new done out_old out_new untouched status = EndedCall (call_of words old new)
    (Answers words old new done) (RanOut words old new done) done out_old out_new untouched status

-- the words are this command's, and the source tells that it has this input left
pub record Told (words : List (List ℕ)) (old : View) (command : Command) (input : List ℕ) : Type 0 where
  pub command_is : command_of words ≡ Some command
  pub told : old.bytes ≡ Some input

-- Where no refusal is due and nothing fails, only want of memory keeps the answer back, or a limit of a list of outcomes.
abbrev pub Completes : List (List ℕ) → View → View → View → View → ToolStatus → Type 0
Completes words old new out_old out_new status = (command : Command) (input : List ℕ)
    → Told words old command input → length input ≤ MOST_INPUT → IsDue command input None
    → (Rose old.faults new.faults → ⊥) → (Rose out_old.faults out_new.faults → ⊥)
    → (status ≡ Core Whole) ⊎ ((status ≡ Core Memory) ⊎ StopsOn command input status)

-- The words are no command exactly where that is answered, and it yields to want of memory.
abbrev pub IsUsage : List (List ℕ) → ToolStatus → Type 0
IsUsage words status = IsUsageOf Core (command_of words) status

-- The refusal that is due for the input is answered, and it yields to want of memory and to a fault of reading.
abbrev pub AnswersDue : List (List ℕ) → View → View → ToolStatus → Type 0
AnswersDue words old new status = (command : Command) (input : List ℕ) (refusal : ToolStatus)
    → Told words old command input → length input ≤ MOST_INPUT → IsDue command input (Some refusal)
    → (status ≡ refusal) ⊎ ((status ≡ Core Memory) ⊎ ((status ≡ Core ReadFault) × Rose old.faults new.faults))

-- An input that is too long is answered as such, after one byte more than the limit was taken. It yields to want of
-- memory and to a fault of reading.
abbrev pub AnswersTooLong : List (List ℕ) → View → View → ToolStatus → Type 0
AnswersTooLong words old new status = (command : Command) (input : List ℕ)
    → Told words old command input → MOST_INPUT < length input
    → ((status ≡ TooLong) × (new.bytes ≡ Some (drop 16777217 input)))
    ⊎ ((status ≡ Core Memory) ⊎ ((status ≡ Core ReadFault) × Rose old.faults new.faults))

-- the commands that ask for the kind of each atom; a list of outcomes asks for the first two alone
abbrev pub AsksForKind : Command → ℕ → Type 0
AsksForKind Judge kind = ⊥
AsksForKind Order kind = ⊥
AsksForKind (Witness n) kind = ⊥
AsksForKind Verdict kind = Unit {0}
AsksForKind Show kind = Unit {0}
AsksForKind Outcomes kind = kind ≤ 2
AsksForKind Faithful kind = Unit {0}
AsksForKind (Skew n) kind = ⊥
AsksForKind (Count job) kind = Unit {0}
AsksForKind (Replay job) kind = ⊥

-- the command that asks for the number of frames
abbrev pub AsksForFrames : Command → Type 0
AsksForFrames Judge = ⊥
AsksForFrames Order = ⊥
AsksForFrames (Witness n) = ⊥
AsksForFrames Verdict = ⊥
AsksForFrames Show = ⊥
AsksForFrames Outcomes = ⊥
AsksForFrames Faithful = ⊥
AsksForFrames (Skew n) = ⊥
AsksForFrames (Count job) = Unit {0}
AsksForFrames (Replay job) = ⊥

-- That an atom cannot be counted is answered for `verdict`, `show`, `faithful` and `count` alone, and for `outcomes` that
-- it asks for no read; the limit of frames for `count` alone, and the limits of a list for `outcomes` alone.
pub record SuitsCommand (words : List (List ℕ)) (status : ToolStatus) : Type 0 where
  pub outside_profile : (atom kind : ℕ) → status ≡ Core (OutsideProfile atom kind)
      → (command : Command) × (command_of words ≡ Some command) × AsksForKind command kind
  pub frames : status ≡ Core (Limit Frames)
      → (command : Command) × (command_of words ≡ Some command) × AsksForFrames command
  pub states : status ≡ States → command_of words ≡ Some Outcomes
  pub steps : status ≡ Steps → command_of words ≡ Some Outcomes

-- the statuses before which the input was read to its end
abbrev pub IsAfterReading : ToolStatus → Type 0
IsAfterReading (Core Whole) = Unit {0}
IsAfterReading (Core Memory) = ⊥
IsAfterReading (Core Usage) = ⊥
IsAfterReading (Core ReadFault) = ⊥
IsAfterReading (Core WriteFault) = Unit {0}
IsAfterReading (Core (NotLitmus kind line)) = Unit {0}
IsAfterReading (Core (OutsideProfile atom kind)) = Unit {0}
IsAfterReading (Core (Limit over)) = Unit {0}
IsAfterReading NoSection = Unit {0}
IsAfterReading (BadLine line) = Unit {0}
IsAfterReading TooLong = ⊥
IsAfterReading Events = Unit {0}
IsAfterReading (SeveralWriters location) = Unit {0}
IsAfterReading States = Unit {0}
IsAfterReading Steps = Unit {0}

-- Where a call goes on after the reading, the input was read to its end.
abbrev pub ReadsToEnd : View → ToolStatus → Type 0
ReadsToEnd new status = IsAfterReading status → IsAtEnd new.bytes

-- Words that are no command leave the source as it was.
abbrev pub KeepsSource : View → View → ToolStatus → Type 0
KeepsSource old new status = status ≡ Core Usage → new ≡ old

-- The field moves only where the command runs the test, and only where its text was made or memory ran out after the
-- run.
pub record IsField (words : List (List ℕ)) (done : Closed) (status : ToolStatus) : Type 0 where
  pub other_command : ((command : Command) → command_of words ≡ Some command → IsStillCommand command) → IsStill done
  pub other_status : (status ≡ Core Whole → ⊥) → (status ≡ Core WriteFault → ⊥) → (status ≡ Core Memory → ⊥)
      → IsStill done

-- Where memory ran out no step was made on the field, or the command runs the test, the input was accepted, and some run
-- fits the field.
abbrev pub LeavesOutOfMemory : List (List ℕ) → View → View → Closed → ToolStatus → Type 0
LeavesOutOfMemory words old new done status = IsOutOfMemory Core done (RanOut words old new done) status

-- the statuses after which a whole run stands
abbrev pub HasRun : ToolStatus → Type 0
HasRun status = (status ≡ Core Whole) ⊎ (status ≡ Core WriteFault)

-- Where a command runs the test, what the threads did on the field is what some legal run of x86-TSO does, in which
-- each thread performs its body as often as the words ask; it ends with the field's words.
abbrev pub RunFits : List (List ℕ) → View → Closed → ToolStatus → Type 0
RunFits words old done status = (command : Command) (options : Options) (input : List ℕ) (test : LitmusTest)
    → Told words old command input → options_run command ≡ Some options → HasRun status → Reads input (Accepted test)
    → SomeRunFits test options done

-- the right answer to an input, of which `out` has this
pub record HasAnswer (command : Command) (input : List ℕ) (done : Closed) (IsOn : List ℕ → Type 0) : Type 0 where
  pub text : List ℕ
  pub answer : IsAnswer command input done text
  pub is_on : IsOn text

-- A whole answer: the right one stands on `out`.
abbrev pub WritesWhole : List (List ℕ) → View → Closed → View → View → ToolStatus → Type 0
WritesWhole words old done out_old out_new status = (command : Command) (input before : List ℕ)
    → Told words old command input → out_old.bytes ≡ Some before → status ≡ Core Whole
    → HasAnswer command input done (λ text. out_new.bytes ≡ Some (before ++ text))

-- A fault of writing: a part of the right answer stands on `out`.
abbrev pub WritesPart : List (List ℕ) → View → Closed → View → View → ToolStatus → Type 0
WritesPart words old done out_old out_new status = (command : Command) (input before : List ℕ)
    → Told words old command input → out_old.bytes ≡ Some before → status ≡ Core WriteFault
    → HasAnswer command input done (λ text. (n : ℕ) × (n < length text)
    × (out_new.bytes ≡ Some (before ++ take n text)))
