-- Laws: what `replay`, `convert` and `demo` write is a function of the words and of the text. This project's own.
use Rattle.std.specs.Prelude.{◌≡◌, List, ℕ, ◌++◌, Some}
use Rattle.tso_words.specs.Seats.{Ended as Closed}
use Rattle.command_words.specs.Words.{command_of}
use Rattle.command_words.specs.declared.job.Command.{Command}
use Rattle.report_text.specs.declared.status.Status.TheVariants.{Whole}
use Rattle.perp_base.specs.View.{View}
use Rattle.perple_core.specs.Answering.{IsAnswer}
use Rattle.perple_core.specs.Top.{IsStillCommand, Told, WritesWhole}

-- law: two right answers to a command that makes no step on the field, on one text, are the same
abbrev pub StillAnswersAreOne : Type 0
StillAnswersAreOne =
    (command : Command) (text : List ℕ) (done later : Closed) (first second : List ℕ)
    → IsStillCommand command
    → IsAnswer command text done first
    → IsAnswer command text later second
    → first ≡ second

-- a call of `perple` with these words and this text, whose clause `whole` holds, ended whole and appended this
pub record IsWholeCall (words : List (List ℕ)) (command : Command) (text added : List ℕ) : Type 0 where
  pub old : View
  pub out_old : View
  pub out_new : View
  pub done : Closed
  pub whole : WritesWhole words old done out_old out_new Whole
  pub told : Told command old text
  pub before : List ℕ
  pub told_out : out_old.bytes ≡ Some before
  pub appended : out_new.bytes ≡ Some (before ++ added)

-- law: so two whole calls of `replay`, `convert` or `demo` with the same words and the same text append the same
abbrev pub SameWordsAndTextGiveTheSame : Type 0
SameWordsAndTextGiveTheSame =
    (words : List (List ℕ)) (command : Command) (text first second : List ℕ)
    → command_of words ≡ Some command
    → IsStillCommand command
    → IsWholeCall words command text first
    → IsWholeCall words command text second
    → first ≡ second
