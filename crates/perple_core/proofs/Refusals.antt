-- From what is left, and what is due, in one layer to those of the next.
use Rattle.std.proofs.Common.{◌≡◌, ◌⊎◌, ℕ, List, Some, refl, inl, inr}
use Rattle.report_text.specs.declared.status.Status.{Status}
use Rattle.report_text.specs.declared.status.Status.TheVariants.{Memory}
use Rattle.x86_subset.specs.Test.{LitmusTest}
use Rattle.tso_words.specs.Seats.{Ended as Closed}
use Rattle.perp_base.specs.View.{View}
use Rattle.program_edge.specs.Field.{IsStill}
use Rattle.program_edge.specs.Form.{due_for_form}
use Rattle.litmus_reader.specs.Answer.{Answer, Accepted, Refused as Unread, Over as TooLarge}
use Rattle.perple_core.specs.Due.{due_for_reading}
use Rattle.perple_core.specs.Top.{RanFor, Accepts, IsStillOrRan}
use Rattle.command_words.specs.declared.job.Command.{Command}
use Rattle.command_words.specs.declared.job.Command.TheVariants.{Run, Replay, Convert, Demo}

-- what a command did to the field, where memory ran out
pub ran_or_still : (words : List (List ℕ)) (old new : View) (done : Closed) (command : Command) (test : LitmusTest)
    → Accepts words old new command test → IsStill done ⊎ RanFor command test done
    → IsStillOrRan words old new done Memory
ran_or_still words old new done command test accepts (inl still) = inl still
ran_or_still words old new done (Run job) test accepts (inr fits) =
    inr (refl, record { job = job; test = test; accepts = accepts; fits = fits })
ran_or_still words old new done (Replay job) test accepts (inr ran) = absurd ran
ran_or_still words old new done Convert test accepts (inr ran) = absurd ran
ran_or_still words old new done (Demo k) test accepts (inr ran) = absurd ran

-- the refusal that is due for a text by its form is due for each command
due_of_form : (command : Command) (answer : Answer) (status : Status) → due_for_form answer ≡ Some status
    → due_for_reading command answer ≡ Some status
due_of_form command (Unread refusal) status e = e
due_of_form command (TooLarge limit) status e = e
due_of_form command (Accepted test) status e = absurd (cc)
