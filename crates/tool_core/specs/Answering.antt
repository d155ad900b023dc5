-- What the second program answers to a request, which holds the bytes that were read for it: nothing is asked of the
-- source that they came from, nor of the sink that the text is written to. The runs are those of x86-TSO (Sewell, Sarkar,
-- Owens, Zappa Nardelli and Myreen, CACM 2010); the rest is this project's own.
use Rattle.std.specs.Prelude.{◌≡◌, ℕ, List, Some, Result, Ok, Err, String, Vec, IfOk}
use Rattle.std.specs.Global.{Global}
use Rattle.perp_base.specs.declared.options.Options.{Options}
use Rattle.x86_subset.specs.Test.{LitmusTest}
use Rattle.tso_words.specs.Seats.{Ended as Closed}
use Rattle.litmus_reader.specs.Answer.{Accepted}
use Rattle.litmus_reader.specs.Reading.{Reads}
use Rattle.report_text.specs.declared.status.Status.TheVariants.{Usage}
use Rattle.program_edge.specs.Ending.{IsStillOr}
use Rattle.program_edge.specs.Field.{IsStill, SomeRunFits}
use Rattle.program_edge.specs.Request.{AsksFor}
use Rattle.program_edge.specs.declared.request.Request.{Request}
use Rattle.program_edge.specs.declared.request.Request.TheVariants.{Misused, NoMemory, Alone, Given}
use Rattle.tool_core.specs.Due.{tool_program}
use Rattle.tool_core.specs.Top.{IsAnswer, Ran, options_run}
use Rattle.tool_core.specs.Words.{IsWithinItsLimits}
use Rattle.tool_core.specs.declared.words.Command.{Command}
use Rattle.tool_core.specs.declared.status.ToolStatus.{ToolStatus}
use Rattle.tool_core.specs.declared.status.ToolStatus.TheVariants.{Core}

-- a text or a refusal
abbrev pub TextOrRefusal : Type 0
TextOrRefusal = Result (String Global) ToolStatus

-- the numbers of the command are within their limits
abbrev pub AsksWithin : Request Command → Type 0
AsksWithin Misused = Unit {0}
AsksWithin NoMemory = Unit {0}
AsksWithin (Alone command) = IsWithinItsLimits command
AsksWithin (Given command input) = IsWithinItsLimits command

-- the text is the right answer to the command and the input
abbrev pub IsAnswerTo : Request Command → Closed → List ℕ → Type 0
IsAnswerTo request done text = AsksFor tool_program request (λ command input. IsAnswer command input done text)

-- what a refusal leaves on the field: no step, or memory ran out after the run of what was asked
abbrev pub IsLeftBy : Request Command → Closed → ToolStatus → Type 0
IsLeftBy request done status = IsStillOr Core done (AsksFor tool_program request
    (λ command input. Ran command input done)) status

-- Words that are no command are answered as such, and nothing else is.
pub record IsUsageOf (request : Request Command) (answer : TextOrRefusal) : Type 0 where
  pub only : answer ≡ Err (Core Usage) → request ≡ Misused
  pub each : request ≡ Misused → answer ≡ Err (Core Usage)

-- Where a command runs the test, what the threads did on the field is what some legal run of x86-TSO does, in which each
-- thread performs its body as often as the command asks; it ends with the field's words.
abbrev pub AnswerFits : Request Command → Closed → TextOrRefusal → Type 0
AnswerFits request done answer = (command : Command) (options : Options) (input : Vec ℕ Global) (test : LitmusTest)
    → request ≡ Given command (Ok input) → options_run command ≡ Some options → Reads input.items (Accepted test)
    → IfOk answer (λ _. SomeRunFits test options done)

-- The field moves only where the request is of a command that runs the test.
abbrev pub MovesInRuns : Request Command → Closed → Type 0
MovesInRuns request done =
    (AsksFor tool_program request (λ command _. (options : Options) × (options_run command ≡ Some options)) → ⊥)
    → IsStill done
