-- What follows from the answer to a request, for the request and for the call that it was made in.
use Rattle.std.proofs.Common.{◌≡◌, ℕ, List, [], Some, None, Ok, Err, string_bytes, IfOk, IfErr, inl, inr, refl, ap, subst}
use Rattle.std.specs.declared.option.Option.{Option}
use Rattle.perp_base.specs.View.{View}
use Rattle.perp_base.specs.declared.source.ReadError.{ReadError}
use Rattle.perp_base.specs.declared.source.ReadError.TheVariants as read
use Rattle.tso_words.specs.Seats.{Ended as Closed}
use Rattle.report_text.specs.declared.status.Status.TheVariants.{Usage}
use Rattle.program_edge.specs.Field.{IsStill}
use Rattle.program_edge.specs.Request.{AsksFor, IsRefusal, IsRefusalOfText, IsRequestOf, status_of_reading}
use Rattle.program_edge.specs.declared.request.Request.{Request}
use Rattle.program_edge.specs.declared.request.Request.TheVariants.{Misused, NoMemory, Alone, Given}
use Rattle.program_edge.proofs.Requests.{IsTaking, refused_of, took_of}
use Rattle.tool_core.specs.Answering.{AnswerFits, IsAnswerTo, IsLeftBy, IsUsageOf, MovesInRuns, TextOrRefusal}
use Rattle.tool_core.specs.Due.{IsDue, Refused, StopsAt, call_of, tool_program}
use Rattle.tool_core.specs.Top.{Answers, IsAnswer, IsStillCommand, Leaves, Ran, options_run}
use Rattle.perp_base.specs.declared.options.Options.{Options}
use Rattle.tool_core.specs.declared.words.Command.{Command}
use Rattle.tool_core.specs.declared.status.ToolStatus.{ToolStatus}
use Rattle.tool_core.specs.declared.status.ToolStatus.TheVariants.{Core}
use Rattle.tool_core.proofs.Dues.{IsOfInput, core_is_no_stop, of_input}
use Rattle.tool_core.proofs.Endings.{fits_by, none_is_due, still_ran, still_text}

-- ---- the words

text_is_no_usage : (command : Command) (input : List ℕ) (status : ToolStatus)
    → IsRefusalOfText tool_program command input status → status ≡ Core Usage → ⊥
text_is_no_usage command input status (inl memory) e = cc
text_is_no_usage command input status (inr (inl due)) e =
    subst (IsOfInput command) e (of_input command input status due)
text_is_no_usage command input status (inr (inr limit)) e =
    core_is_no_stop command limit.1.test Usage (subst (StopsAt command limit.1.test) e limit.1.stops)

reading_is_no_usage : (why : ReadError) → status_of_reading tool_program why ≡ Core Usage → ⊥
reading_is_no_usage read.Fault e = cc
reading_is_no_usage read.TooLong e = cc
reading_is_no_usage read.Memory e = cc

misused_by : (request : Request Command) (status : ToolStatus) → IsRefusal tool_program request status
    → status ≡ Core Usage → request ≡ Misused
misused_by Misused status refused e = refl
misused_by NoMemory status refused e = cc
misused_by (Alone command) status refused e = absurd (text_is_no_usage command [] status refused e)
misused_by (Given command (Ok input)) status refused e =
    absurd (text_is_no_usage command input.items status refused e)
misused_by (Given command (Err why)) status refused e = absurd (reading_is_no_usage why (cc))

pub usage_from : (request : Request Command) (done : Closed) (answer : TextOrRefusal)
    → IfOk answer (λ t. IsAnswerTo request done (string_bytes t)) → IfErr answer (IsRefusal tool_program request)
    → IsUsageOf request answer
usage_from request done (Ok t) right refused = record {
  only = λ e. cc;
  each = λ e. absurd (subst (λ (r : Request Command). IsAnswerTo r done (string_bytes t)) e right);
}
usage_from request done (Err s) right refused = record {
  only = λ e. misused_by request s refused (cc);
  each = λ e. ap (λ (x : ToolStatus). Err x) (subst (λ (r : Request Command). IsRefusal tool_program r s) e refused);
}

-- ---- what is due

-- for a request that is answered nothing is due
none_due_for : (request : Request Command) (done : Closed) (text : List ℕ) → IsAnswerTo request done text
    → AsksFor tool_program request (λ command input. IsDue command input None)
none_due_for Misused done text right = right
none_due_for NoMemory done text right = right
none_due_for (Alone command) done text right = none_is_due command [] text done right
none_due_for (Given command (Ok input)) done text right = none_is_due command input.items text done right
none_due_for (Given command (Err why)) done text right = right

pub none_due_from : (request : Request Command) (done : Closed) (answer : TextOrRefusal)
    → IfOk answer (λ t. IsAnswerTo request done (string_bytes t))
    → IfOk answer (λ _. AsksFor tool_program request (λ command input. IsDue command input None))
none_due_from request done (Ok t) right = none_due_for request done (string_bytes t) right
none_due_from request done (Err s) right = tt

-- ---- the field

pub fits_from : (request : Request Command) (done : Closed) (answer : TextOrRefusal)
    → IfOk answer (λ t. IsAnswerTo request done (string_bytes t)) → AnswerFits request done answer
fits_from request done (Ok t) right = λ command options input test is runs reading.
    fits_by command options input.items (string_bytes t) test done runs reading
    (subst (λ (r : Request Command). IsAnswerTo r done (string_bytes t)) is right)
fits_from request done (Err s) right = λ command options input test is runs reading. tt

none_of : {X : Type 0} (o : Option X) → ((x : X) × (o ≡ Some x) → ⊥) → o ≡ None
none_of None other = refl
none_of (Some x) other = absurd (other (x, refl))

still_command : (command : Command) → ((options : Options) × (options_run command ≡ Some options) → ⊥) → IsStillCommand command
still_command command other = none_of (options_run command) other

still_answer : (command : Command) (input text : List ℕ) (done : Closed) → IsAnswer command input done text
    → ((options : Options) × (options_run command ≡ Some options) → ⊥) → IsStill done
still_answer command input text done a other =
    still_text command a.test a.parts done text (still_command command other) a.right

not_ran : (command : Command) (input : List ℕ) (done : Closed) → Ran command input done
    → ((options : Options) × (options_run command ≡ Some options) → ⊥) → ⊥
not_ran command input done r other = still_ran command r.test done (still_command command other) r.ran

answered_still : (request : Request Command) (done : Closed) (text : List ℕ) → IsAnswerTo request done text
    → MovesInRuns request done
answered_still Misused done text right other = absurd right
answered_still NoMemory done text right other = absurd right
answered_still (Alone command) done text right other = still_answer command [] text done right other
answered_still (Given command (Ok input)) done text right other = still_answer command input.items text done right other
answered_still (Given command (Err why)) done text right other = absurd right

left_still : (request : Request Command) (done : Closed)
    → AsksFor tool_program request (λ command input. Ran command input done) → MovesInRuns request done
left_still Misused done ran other = absurd ran
left_still NoMemory done ran other = absurd ran
left_still (Alone command) done ran other = absurd (not_ran command [] done ran other)
left_still (Given command (Ok input)) done ran other = absurd (not_ran command input.items done ran other)
left_still (Given command (Err why)) done ran other = absurd ran

pub still_from : (request : Request Command) (done : Closed) (answer : TextOrRefusal)
    → IfOk answer (λ t. IsAnswerTo request done (string_bytes t)) → IfErr answer (IsLeftBy request done)
    → MovesInRuns request done
still_from request done (Ok t) right left = answered_still request done (string_bytes t) right
still_from request done (Err s) right (inl still) = λ _. still
still_from request done (Err s) right (inr ran) = left_still request done ran.1

-- ---- the call

taking : (words : List (List ℕ)) (old new : View) → IsTaking (call_of words old new) (λ _. [])
taking words old new = record {
  takes_own = λ command is other same. absurd (other tt);
  takes_input = λ command input is reads gave short. record { command_is = is; gave = gave; short = short };
}

module _ (words : List (List ℕ)) (old new : View) (request : Request Command)
    (is : IsRequestOf (call_of words old new) request) where
  pub answers_from : (done : Closed) (answer : TextOrRefusal)
      → IfOk answer (λ t. IsAnswerTo request done (string_bytes t))
      → IfOk answer (λ t. Answers words old new done (string_bytes t))
  answers_from done (Ok t) right =
      let P : Command → List ℕ → Type 0 = λ command input. IsAnswer command input done (string_bytes t) in
      let took = took_of (taking words old new) request P is right in
      record { command = took.command; input = took.text; took = took.took; answer = took.is }
  answers_from done (Err s) right = tt

  pub refused_from : (answer : TextOrRefusal) → IfErr answer (IsRefusal tool_program request)
      → IfErr answer (Refused words old new)
  refused_from (Ok t) refused = tt
  refused_from (Err s) refused = refused_of (taking words old new) request s is refused

  pub leaves_from : (done : Closed) (answer : TextOrRefusal) → IfErr answer (IsLeftBy request done)
      → IfErr answer (Leaves words old new done)
  leaves_from done (Ok t) left = tt
  leaves_from done (Err s) (inl still) = inl still
  leaves_from done (Err s) (inr ran) =
      let P : Command → List ℕ → Type 0 = λ command input. Ran command input done in
      let took = took_of (taking words old new) request P is ran.1 in
      inr (ran.0, record { command = took.command; input = took.text; took = took.took; ran = took.is })
