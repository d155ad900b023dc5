-- One text has one right answer, where the command makes no step on the field.
use Rattle.std.proofs.Common.{◌≡◌, ℕ, List, ◌++◌, Some, refl, sym, subst, ◌∙◌}
use Rattle.std.specs.declared.option.Option.{Option}
use Rattle.std.proofs.lemmas.List.{append_cancel_left}
use Rattle.x86_subset.specs.Test.{LitmusTest}
use Rattle.tso_machine.specs.Event.{Event}
use Rattle.tso_words.specs.Seats.{Ended as Closed}
use Rattle.perp_base.specs.declared.options.Options.{Options}
use Rattle.perp_base.specs.declared.schedule.Schedule.{Schedule}
use Rattle.perp_base.specs.declared.schedule.Schedule.TheVariants.{Seeded}
use Rattle.litmus_reader.proofs.ReadingLaws.{same_test}
use Rattle.command_words.specs.Words.{command_of}
use Rattle.command_words.specs.declared.job.Command.{Command}
use Rattle.command_words.specs.declared.job.Command.TheVariants.{Run, Replay, Convert, Demo}
use Rattle.perple_core.specs.Answering.{IsAnswer}
use Rattle.perple_core.specs.Laws.{IsWholeCall}
use Rattle.perple_core.specs.Texts.{demo_options_of, demo_report_of, schedule_of, text_of}
use Rattle.perple_core.specs.Top.{HasAnswer, IsStillCommand, IsText, IsTextOfSchedule}

-- the text of the run of a schedule is one
schedule_text_one : (test : LitmusTest) (options : Options) (schedule : Schedule) (gives : List Event → List ℕ)
    (first second : List ℕ) → IsTextOfSchedule test options schedule gives first
    → IsTextOfSchedule test options schedule gives second → first ≡ second
schedule_text_one test options schedule gives first second a b =
    a.each a.some_run.0 a.some_run.1 ∙ sym (b.each a.some_run.0 a.some_run.1)

text_one : (command : Command) (test : LitmusTest) (done later : Closed) (first second : List ℕ)
    → IsStillCommand command → IsText command test done first → IsText command test later second → first ≡ second
text_one (Run job) test done later first second still a b = absurd still
text_one (Replay job) test done later first second still a b =
    schedule_text_one test job.options (schedule_of job) (text_of test job) first second a.1 b.1
text_one Convert test done later first second still a b = a.1 ∙ sym b.1
text_one (Demo k) test done later first second still a b =
    schedule_text_one test (demo_options_of k test) (Seeded k) (demo_report_of k test) first second a.1 b.1

pub answer_one : (command : Command) (text : List ℕ) (done later : Closed) (first second : List ℕ)
    → IsStillCommand command → IsAnswer command text done first → IsAnswer command text later second → first ≡ second
answer_one command text done later first second still a b =
    let right : IsText command a.test later second = subst (λ (t : LitmusTest). IsText command t later second)
    (same_test text b.test a.test b.accepted.reading a.accepted.reading) b.right in
    text_one command a.test done later first second still a.right right

-- what a whole call appended is its answer
is_added : (out : Option (List ℕ)) (before added answer : List ℕ) → out ≡ Some (before ++ added)
    → out ≡ Some (before ++ answer) → answer ≡ added
is_added out before added answer a b =
    let same : before ++ answer ≡ before ++ added = cc in append_cancel_left before answer added same

call_answer : (words : List (List ℕ)) (command : Command) (text added : List ℕ) → command_of words ≡ Some command
    → (call : IsWholeCall words command text added) → IsAnswer command text call.done added
call_answer words command text added is call =
    let a : HasAnswer command text call.done (λ answer. call.out_new.bytes ≡ Some (call.before ++ answer)) =
    call.whole command text call.before is call.told call.told_out refl in
    let right : IsText command a.test call.done added = subst (λ (t : List ℕ). IsText command a.test call.done t)
    (is_added call.out_new.bytes call.before added a.answer call.appended a.is_on) a.right in record {
      test = a.test;
      accepted = record { reading = a.reading; none_due = a.none_due };
      right = right;
    }

pub calls_one : (words : List (List ℕ)) (command : Command) (text first second : List ℕ)
    → command_of words ≡ Some command → IsStillCommand command → IsWholeCall words command text first
    → IsWholeCall words command text second → first ≡ second
calls_one words command text first second is still a b =
    answer_one command text a.done b.done first second still (call_answer words command text first is a)
    (call_answer words command text second is b)
