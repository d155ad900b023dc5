-- From the answer to a request to the call that it was made in.
use Rattle.std.proofs.Common.{◌≡◌, ℕ, List, None, Ok, Err, string_bytes, IfOk, IfErr, inl, inr, refl, sym, subst}
use Rattle.tso_words.specs.Seats.{Ended as Closed}
use Rattle.command_words.specs.declared.job.Command.{Command}
use Rattle.command_words.specs.declared.job.Command.TheVariants.{Run, Replay, Convert, Demo}
use Rattle.report_text.specs.declared.status.Status.{Status}
use Rattle.perp_base.specs.View.{View}
use Rattle.program_edge.specs.Request.{IsRefusal, IsRequestOf}
use Rattle.program_edge.specs.declared.request.Request.{Request}
use Rattle.program_edge.proofs.Requests.{IsTaking, refused_of, took_of}
use Rattle.perple_core.specs.Due.{Refused, Takes, call_of, demo_number, own_text_of, perple_program}
use Rattle.perple_core.specs.Answering.{Answers, IsAnswer, IsMade, Leaves, TextOrRefusal}
use Rattle.perple_core.specs.Top.{Answers as AnswersCall, IsStillOrRan}
use Rattle.perple_core.proofs.Refusals.{ran_or_still}

own_taken : (command : Command) (old new : View) → (demo_number command ≡ None → ⊥) → new ≡ old
    → Takes command old new (own_text_of command)
own_taken (Run job) old new alone same = absurd (alone refl)
own_taken (Replay job) old new alone same = absurd (alone refl)
own_taken Convert old new alone same = absurd (alone refl)
own_taken (Demo k) old new alone same = (same, refl)

taking : (words : List (List ℕ)) (old new : View) → IsTaking (call_of words old new) own_text_of
taking words old new = record {
  takes_own = λ command is alone same. record {
    command_is = is;
    takes = own_taken command old new alone same;
    short = λ none. absurd (alone none);
  };
  takes_input = λ command input is none gave short. record {
    command_is = is;
    takes = rw none gave;
    short = λ _. short;
  };
}

module _ (words : List (List ℕ)) (old new : View) (request : Request Command)
    (is : IsRequestOf (call_of words old new) request) (done : Closed) where
  pub call_answers : (answer : TextOrRefusal) → IfOk answer (λ text. Answers request done (string_bytes text))
      → IfOk answer (λ text. AnswersCall words old new done (string_bytes text))
  call_answers (Ok text) right =
      let took = took_of (taking words old new) request (λ command input. IsAnswer command input done
      (string_bytes text)) is right in record {
        command = took.command;
        test = took.is.test;
        accepts = record {
          bytes = took.text;
          took = took.took;
          reading = took.is.accepted.reading;
          none_due = took.is.accepted.none_due;
        };
        right = took.is.right;
      }
  call_answers (Err status) right = tt

  pub call_refused : (answer : TextOrRefusal) → IfErr answer (IsRefusal perple_program request)
      → IfErr answer (Refused words old new)
  call_refused (Ok text) refused = tt
  call_refused (Err status) refused = refused_of (taking words old new) request status is refused

  status_leaves : (status : Status) → Leaves request done status → IsStillOrRan words old new done status
  status_leaves status (inl still) = inl still
  status_leaves status (inr out) =
      let took = took_of (taking words old new) request (λ command input. IsMade command input done) is out.1 in
      subst (IsStillOrRan words old new done) (sym out.0)
      (ran_or_still words old new done took.command took.is.test (record {
        bytes = took.text;
        took = took.took;
        reading = took.is.accepted.reading;
        none_due = took.is.accepted.none_due;
      }) (inr took.is.ran))

  pub call_leaves : (answer : TextOrRefusal) → IfErr answer (Leaves request done)
      → IfErr answer (IsStillOrRan words old new done)
  call_leaves (Ok text) left = tt
  call_leaves (Err status) left = status_leaves status left
