-- From a request and its answer to the call that it was made in.
use Rattle.std.proofs.Common.{◌≡◌, ◌⊎◌, ℕ, ◌≤◌, List, None, Some, Result, Ok, Err, Vec, Global, IfOk, IfErr, length, inl, inr, refl, sym, ap, subst, ◌∙◌}
use Rattle.std.specs.declared.option.Option.{Option}
use Rattle.std.specs.Result.{IsErrOf}
use Rattle.perp_base.specs.Bytes.{GaveAll, IsOver}
use Rattle.perp_base.specs.Causes.{Rose}
use Rattle.perp_base.specs.View.{View}
use Rattle.perp_base.specs.declared.source.ReadError.{ReadError}
use Rattle.perp_base.specs.declared.source.ReadError.TheVariants as read
use Rattle.report_text.specs.declared.status.Status.TheVariants.{Memory}
use Rattle.program_edge.specs.Ending.{Call, Refused}
use Rattle.program_edge.specs.Ending.Refused.{no_memory, no_command, no_reading, too_long, no_input, at_limit}
use Rattle.program_edge.specs.Request.{AnswersDue, AsksFor, HasInputWithin, IsComplete, IsInputOf, IsRefusal, IsRefusalOfText, IsRequestOf, Program, program_of}
use Rattle.program_edge.specs.declared.request.Request.{Request}
use Rattle.program_edge.specs.declared.request.Request.TheVariants.{Misused, NoMemory, Alone, Given}

-- what `read_input` promises of its answer
pub input_from : (old new : View) (limit : ℕ) (answer : Result (Vec ℕ Global) ReadError)
    → IfOk answer (λ bytes. GaveAll old.bytes new.bytes bytes.items)
    → IfOk answer (λ bytes. length bytes.items ≤ limit)
    → (IsErrOf answer read.TooLong → IsOver old.bytes new.bytes limit)
    → (IsErrOf answer read.Fault → Rose old.faults new.faults)
    → IsInputOf old new limit answer
input_from old new limit (Ok input) whole within long fault = (whole, within)
input_from old new limit (Err read.Fault) whole within long fault = fault refl
input_from old new limit (Err read.TooLong) whole within long fault = long refl
input_from old new limit (Err read.Memory) whole within long fault = tt

-- so the input of a request is within the limit
pub input_within : {C : Type 0} (command : C) (old new : View) (limit : ℕ) (answer : Result (Vec ℕ Global) ReadError)
    → IsInputOf old new limit answer → HasInputWithin limit (Given command answer)
input_within command old new limit (Ok input) is = is.1
input_within command old new limit (Err why) is = tt

-- what a program takes: the text of a command that reads no input, and all that the source gave for another
pub record IsTaking {C S : Type 0} (call : Call C S) (own : C → List ℕ) : Type 0 where
  pub takes_own : (command : C) → call.command ≡ Some command → (call.reads command → ⊥) → call.new ≡ call.old
      → call.took command (own command)
  pub takes_input : (command : C) (input : List ℕ) → call.command ≡ Some command → call.reads command
      → GaveAll call.old.bytes call.new.bytes input → length input ≤ call.limit → call.took command input

-- a command took a text, and this holds of the two
pub record TookFor {C S : Type 0} (call : Call C S) (holds : C → List ℕ → Type 0) : Type 0 where
  pub command : C
  pub text : List ℕ
  pub took : call.took command text
  pub is : holds command text

module _ {C S : Type 0} {call : Call C S} {own : C → List ℕ} (taking : IsTaking call own) where
  pub took_of : (request : Request C) (holds : C → List ℕ → Type 0) → IsRequestOf call request
      → AsksFor (program_of call own) request holds → TookFor call holds
  took_of Misused holds is asks = absurd asks
  took_of NoMemory holds is asks = absurd asks
  took_of (Alone command) holds is asks = record {
    command = command;
    text = own command;
    took = taking.takes_own command is.0 is.1 is.2;
    is = asks;
  }
  took_of (Given command (Ok input)) holds is asks = record {
    command = command;
    text = input.items;
    took = taking.takes_input command input.items is.0 is.1 is.2.0 is.2.1;
    is = asks;
  }
  took_of (Given command (Err why)) holds is asks = absurd asks

  text_refused : (command : C) (text : List ℕ) (status : S) → call.took command text
      → IsRefusalOfText (program_of call own) command text status → Refused call status
  text_refused command text status took (inl memory) = subst (Refused call) (sym memory) no_memory
  text_refused command text status took (inr (inl due)) = no_input status command text took due
  text_refused command text status took (inr (inr limit)) = at_limit status command text took limit.0 limit.1

  pub refused_of : (request : Request C) (status : S) → IsRequestOf call request
      → IsRefusal (program_of call own) request status → Refused call status
  refused_of Misused status is refused = subst (Refused call) (sym refused) (no_command is.0 is.1)
  refused_of NoMemory status is refused = subst (Refused call) (sym refused) no_memory
  refused_of (Alone command) status is refused =
      text_refused command (own command) status (taking.takes_own command is.0 is.1 is.2) refused
  refused_of (Given command (Ok input)) status is refused =
      text_refused command input.items status (taking.takes_input command input.items is.0 is.1 is.2.0 is.2.1) refused
  refused_of (Given command (Err read.Fault)) status is refused =
      subst (Refused call) (sym refused) (no_reading command is.0 is.1 is.2)
  refused_of (Given command (Err read.TooLong)) status is refused =
      subst (Refused call) (sym refused) (too_long command is.0 is.1 is.2)
  refused_of (Given command (Err read.Memory)) status is refused = subst (Refused call) (sym refused) no_memory

-- ---- what is due

module _ {C S : Type 0} (program : Program C S)
    (due_one : (command : C) (text : List ℕ) (a b : Option S) → program.due command text a → program.due command text b
    → a ≡ b) where
  text_complete : (command : C) (text : List ℕ) (status : S) → IsRefusalOfText program command text status
      → program.due command text None → (status ≡ program.core Memory) ⊎ program.stops command text status
  text_complete command text status (inl memory) none = inl memory
  text_complete command text status (inr (inl due)) none =
      let same : Some status ≡ None = due_one command text (Some status) None due none in absurd (cc)
  text_complete command text status (inr (inr limit)) none = inr limit.1

  refusal_complete : (request : Request C) (status : S) → IsRefusal program request status
      → AsksFor program request (λ command text. program.due command text None)
      → (status ≡ program.core Memory) ⊎ AsksFor program request (λ command text. program.stops command text status)
  refusal_complete Misused status is asks = absurd asks
  refusal_complete NoMemory status is asks = absurd asks
  refusal_complete (Alone command) status is asks = text_complete command (program.own command) status is asks
  refusal_complete (Given command (Ok input)) status is asks = text_complete command input.items status is asks
  refusal_complete (Given command (Err why)) status is asks = absurd asks

  pub complete_from : {T : Type 0} (request : Request C) (answer : Result T S)
      → IfErr answer (IsRefusal program request) → IsComplete program request answer
  complete_from request (Ok value) refused = λ asks. tt
  complete_from request (Err status) refused = λ asks. refusal_complete request status refused asks

  text_due : (command : C) (text : List ℕ) (status refusal : S) → IsRefusalOfText program command text status
      → program.due command text (Some refusal) → (status ≡ refusal) ⊎ (status ≡ program.core Memory)
  text_due command text status refusal (inl memory) due = inr memory
  text_due command text status refusal (inr (inl is)) due =
      let same : Some status ≡ Some refusal = due_one command text (Some status) (Some refusal) is due in inl (cc)
  text_due command text status refusal (inr (inr limit)) due =
      let same : None ≡ Some refusal = due_one command text None (Some refusal) limit.0 due in absurd (cc)

  refusal_due : (request : Request C) (status refusal : S) → IsRefusal program request status
      → AsksFor program request (λ command text. program.due command text (Some refusal))
      → (status ≡ refusal) ⊎ (status ≡ program.core Memory)
  refusal_due Misused status refusal is asks = absurd asks
  refusal_due NoMemory status refusal is asks = absurd asks
  refusal_due (Alone command) status refusal is asks =
      text_due command (program.own command) status refusal is asks
  refusal_due (Given command (Ok input)) status refusal is asks =
      text_due command input.items status refusal is asks
  refusal_due (Given command (Err why)) status refusal is asks = absurd asks

  not_answered : (request : Request C) (refusal : S)
      → AsksFor program request (λ command text. program.due command text None)
      → AsksFor program request (λ command text. program.due command text (Some refusal)) → ⊥
  not_answered Misused refusal none asks = asks
  not_answered NoMemory refusal none asks = asks
  not_answered (Alone command) refusal none asks =
      let same : None ≡ Some refusal = due_one command (program.own command) None (Some refusal) none asks in cc
  not_answered (Given command (Ok input)) refusal none asks =
      let same : None ≡ Some refusal = due_one command input.items None (Some refusal) none asks in cc
  not_answered (Given command (Err why)) refusal none asks = asks

  err_of : {T : Type 0} (answer : Result T S) (status refusal : S) → answer ≡ Err status
      → (status ≡ refusal) ⊎ (status ≡ program.core Memory)
      → (answer ≡ Err refusal) ⊎ (answer ≡ Err (program.core Memory))
  err_of answer status refusal is (inl same) = inl (is ∙ ap Err same)
  err_of answer status refusal is (inr memory) = inr (is ∙ ap Err memory)

  pub due_from : {T : Type 0} (request : Request C) (answer : Result T S)
      → IfOk answer (λ _. AsksFor program request (λ command text. program.due command text None))
      → IfErr answer (IsRefusal program request) → AnswersDue program request answer
  due_from request (Ok value) none refused = λ refusal asks. absurd (not_answered request refusal none asks)
  due_from request (Err status) none refused =
      λ refusal asks. err_of (Err status) status refusal refl (refusal_due request status refusal refused asks)
