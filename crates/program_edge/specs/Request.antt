-- What the words and the source ask of a program, and why it is refused. A request holds the bytes that were read, so
-- what is said of its answer is said of those bytes, whatever the source and the sinks are. This project's own.
use Rattle.std.specs.Prelude.{◌≡◌, ◌⊎◌, ℕ, ◌≤◌, List, Option, Some, None, Result, Ok, Err, IfErr, Vec, length}
use Rattle.std.specs.Global.{Global}
use Rattle.perp_base.specs.Bytes.{GaveAll, IsOver}
use Rattle.perp_base.specs.Causes.{Rose}
use Rattle.perp_base.specs.View.{View}
use Rattle.perp_base.specs.declared.source.ReadError.{ReadError}
use Rattle.perp_base.specs.declared.source.ReadError.TheVariants as read
use Rattle.report_text.specs.declared.status.Status.{Status}
use Rattle.report_text.specs.declared.status.Status.TheVariants.{Memory, Usage, ReadFault}
use Rattle.program_edge.specs.Ending.{Call}
use Rattle.program_edge.specs.declared.request.Request.{Request}
use Rattle.program_edge.specs.declared.request.Request.TheVariants.{Misused, NoMemory, Alone, Given}

-- a program whose commands are of `C` and whose statuses are of `S`: the text of a command that comes alone, which is
-- empty where the command should read one; what is due for a command and its text, and the limits that its work may
-- meet where nothing is due; how a status of `report_text` is one of the program's, and the one of an input that is too
-- long
pub record Program (C S : Type 0) : Type 1 where
  pub own : C → List ℕ
  pub due : C → List ℕ → Option S → Type 0
  pub stops : C → List ℕ → S → Type 0
  pub core : Status → S
  pub long : S

-- the input of the request, where it has one, has at most so many bytes
abbrev pub HasInputWithin : {C : Type 0} → ℕ → Request C → Type 0
HasInputWithin limit Misused = Unit {0}
HasInputWithin limit NoMemory = Unit {0}
HasInputWithin limit (Alone command) = Unit {0}
HasInputWithin limit (Given command (Ok input)) = length input.items ≤ limit
HasInputWithin limit (Given command (Err why)) = Unit {0}

-- the request is of a command on a text, its own or the input that was read for it, and this holds of the two
abbrev pub AsksFor : {C S : Type 0} → Program C S → Request C → (C → List ℕ → Type 0) → Type 0
AsksFor program Misused holds = ⊥
AsksFor program NoMemory holds = ⊥
AsksFor program (Alone command) holds = holds command (program.own command)
AsksFor program (Given command (Ok input)) holds = holds command input.items
AsksFor program (Given command (Err why)) holds = ⊥

-- ---- refusals

-- nothing is due for the text, and the work on it stops at a limit
abbrev pub IsAtLimit : {C S : Type 0} → Program C S → C → List ℕ → S → Type 0
IsAtLimit program command text status = program.due command text None × program.stops command text status

-- a command on a text is refused by what is due for it, or at a limit of its work, or for want of memory
abbrev pub IsRefusalOfText : {C S : Type 0} → Program C S → C → List ℕ → S → Type 0
IsRefusalOfText program command text status =
    (status ≡ program.core Memory) ⊎ (program.due command text (Some status) ⊎ IsAtLimit program command text status)

-- the status of an input that was not read
abbrev pub status_of_reading : {C S : Type 0} → Program C S → ReadError → S
status_of_reading program read.Fault = program.core ReadFault
status_of_reading program read.TooLong = program.long
status_of_reading program read.Memory = program.core Memory

-- the status has its cause in the request
abbrev pub IsRefusal : {C S : Type 0} → Program C S → Request C → S → Type 0
IsRefusal program Misused status = status ≡ program.core Usage
IsRefusal program NoMemory status = status ≡ program.core Memory
IsRefusal program (Alone command) status = IsRefusalOfText program command (program.own command) status
IsRefusal program (Given command (Ok input)) status = IsRefusalOfText program command input.items status
IsRefusal program (Given command (Err why)) status = status ≡ status_of_reading program why

-- where nothing is due for the text, only want of memory or a limit of the work keeps the answer back
abbrev pub IsComplete : {C S T : Type 0} → Program C S → Request C → Result T S → Type 0
IsComplete program request answer = AsksFor program request (λ command text. program.due command text None)
    → IfErr answer (λ status. (status ≡ program.core Memory)
    ⊎ AsksFor program request (λ command text. program.stops command text status))

-- what is due for the text is answered, and it yields to want of memory
abbrev pub AnswersDue : {C S T : Type 0} → Program C S → Request C → Result T S → Type 0
AnswersDue {S = S} program request answer = (refusal : S)
    → AsksFor program request (λ command text. program.due command text (Some refusal))
    → (answer ≡ Err refusal) ⊎ (answer ≡ Err (program.core Memory))

-- ---- where a request comes from

-- what the reading of a whole input answers: all that the source had left, or why that was not read
abbrev pub IsInputOf : View → View → ℕ → Result (Vec ℕ Global) ReadError → Type 0
IsInputOf old new limit (Ok input) = GaveAll old.bytes new.bytes input.items × (length input.items ≤ limit)
IsInputOf old new limit (Err read.Fault) = Rose old.faults new.faults
IsInputOf old new limit (Err read.TooLong) = IsOver old.bytes new.bytes limit
IsInputOf old new limit (Err read.Memory) = Unit {0}

-- the request of a call: the source is read where the command of the words reads it, and only there
abbrev pub IsRequestOf : {C S : Type 0} → Call C S → Request C → Type 0
IsRequestOf call Misused = (call.command ≡ None) × (call.new ≡ call.old)
IsRequestOf call NoMemory = call.new ≡ call.old
IsRequestOf call (Alone command) =
    (call.command ≡ Some command) × (call.reads command → ⊥) × (call.new ≡ call.old)
IsRequestOf call (Given command input) =
    (call.command ≡ Some command) × call.reads command × IsInputOf call.old call.new call.limit input

-- the program of a call, whose commands that read no input have these texts
abbrev pub program_of : {C S : Type 0} → Call C S → (C → List ℕ) → Program C S
program_of call own = record {
  own = own;
  due = call.due;
  stops = call.stops;
  core = call.core;
  long = call.long;
}
