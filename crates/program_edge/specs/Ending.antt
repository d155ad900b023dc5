-- How a call ends, and why it is refused, whatever its commands and its statuses are. This project's own.
use Rattle.std.specs.Prelude.{◌≡◌, ◌⊎◌, ℕ, List, Option, Some, None}
use Rattle.std.specs.Io.KnownBytes.{Appends}
use Rattle.tso_words.specs.Seats.{Ended as Closed}
use Rattle.perp_base.specs.Bytes.{AppendsPart, IsOver}
use Rattle.perp_base.specs.Causes.{Rose}
use Rattle.perp_base.specs.View.{View}
use Rattle.report_text.specs.declared.status.Status.{Status}
use Rattle.report_text.specs.declared.status.Status.TheVariants.{Whole, Memory, Usage, ReadFault, WriteFault}
use Rattle.program_edge.specs.Field.{IsStill}

-- a call whose commands are of `C` and whose statuses are of `S`: what a command takes and what is due for it, the
-- limits that its work may meet where nothing is due, what the words say, which commands read the source, how a status
-- of `report_text` is one of them, and the one of a source that has more bytes than the limit
pub record Call (C S : Type 0) : Type 1 where
  pub took : C → List ℕ → Type 0
  pub due : C → List ℕ → Option S → Type 0
  pub stops : C → List ℕ → S → Type 0
  pub command : Option C
  pub reads : C → Type 0
  pub core : Status → S
  pub long : S
  pub limit : ℕ
  pub old : View
  pub new : View

-- the causes of the refusals before a run, and of an answer that stops at a limit
pub data Refused {C S : Type 0} (call : Call C S) : S → Type 0 where
  no_memory : Refused call (call.core Memory)
  no_command : call.command ≡ None → call.new ≡ call.old → Refused call (call.core Usage)
  no_reading : (command : C) → call.command ≡ Some command → call.reads command
      → Rose call.old.faults call.new.faults → Refused call (call.core ReadFault)
  too_long : (command : C) → call.command ≡ Some command → call.reads command
      → IsOver call.old.bytes call.new.bytes call.limit → Refused call call.long
  no_input : (status : S) (command : C) (input : List ℕ) → call.took command input
      → call.due command input (Some status) → Refused call status
  at_limit : (status : S) (command : C) (input : List ℕ) → call.took command input → call.due command input None
      → call.stops command input status → Refused call status

-- no step was made on the field, or memory ran out after a run
abbrev pub IsStillOr : {S : Type 0} → (Status → S) → Closed → Type 0 → S → Type 0
IsStillOr core done ran status = IsStill done ⊎ ((status ≡ core Memory) × ran)

-- Where memory ran out no step was made on the field, or the run of an input that was accepted was made.
abbrev pub IsOutOfMemory : {S : Type 0} → (Status → S) → Closed → Type 0 → S → Type 0
IsOutOfMemory core done ran status = status ≡ core Memory → IsStill done ⊎ ran

-- How a call may end: with a refusal, which leaves `out` untouched, with the whole text, or with a part of it.
pub data Ended {C S : Type 0} (call : Call C S) (answers : List ℕ → Type 0) (ran : Type 0) (done : Closed)
    (out_old out_new : View) (untouched : Type 0) : S → Type 0 where
  ended_refused : (status : S) → Refused call status → IsStillOr call.core done ran status → untouched
      → Ended call answers ran done out_old out_new untouched status
  ended_whole : (text : List ℕ) → answers text → Appends out_old.bytes out_new.bytes text
      → Ended call answers ran done out_old out_new untouched (call.core Whole)
  ended_part : (text : List ℕ) → answers text → Rose out_old.faults out_new.faults
      → AppendsPart out_old.bytes out_new.bytes text
      → Ended call answers ran done out_old out_new untouched (call.core WriteFault)

-- The words are no command exactly where that is answered, and it yields to want of memory.
pub record IsUsage {C S : Type 0} (core : Status → S) (command : Option C) (status : S) : Type 0 where
  pub only : status ≡ core Usage → command ≡ None
  pub each : command ≡ None → (status ≡ core Usage) ⊎ (status ≡ core Memory)
