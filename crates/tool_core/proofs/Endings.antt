-- What the endings of the second program rest on, and what its clauses say of them.
use Rattle.std.proofs.Common.{◌≡◌, ◌⊎◌, ℕ, List, Option, Some, None, inl, inr, refl, sym, ap, subst, ◌∙◌}
use Rattle.std.proofs.lemmas.Option.{none-some}
use Rattle.x86_subset.specs.Test.{LitmusTest}
use Rattle.tso_words.specs.Seats.{Ended as Closed}
use Rattle.litmus_reader.specs.Answer.{Accepted}
use Rattle.litmus_reader.specs.Reading.{Reads}
use Rattle.litmus_reader.proofs.ReadingLaws.{same_test}
use Rattle.report_text.specs.declared.status.Over.TheVariants.{Frames}
use Rattle.report_text.specs.declared.status.Status.{Status}
use Rattle.report_text.specs.declared.status.Status.TheVariants.{Whole, Memory, Usage, ReadFault, WriteFault, OutsideProfile, Limit}
use Rattle.run_text.specs.Sections.{Split}
use Rattle.perp_base.specs.View.{View}
use Rattle.program_edge.specs.Field.{IsStill, SomeRunFits}
use Rattle.program_edge.proofs.Bytes.{given_bytes}
use Rattle.program_edge.proofs.Endings.{HasText, IsLawful, is_of_input, other_status_of, still_of, answer_of, taken_of, whole_of as text_whole, part_of as text_part}
use Rattle.tool_core.specs.Words.{command_of}
use Rattle.tool_core.specs.Due.{IsDue, StopsAt, StopsOn, Took, all_litmus, call_of}
use Rattle.perp_base.specs.declared.options.Options.{Options}
use Rattle.perp_base.specs.declared.schedule.Schedule.{Schedule}
use Rattle.tool_core.specs.Counting.{RanAs, WasMade, run_options}
use Rattle.tool_core.specs.Texts.{options_of}
use Rattle.tool_core.specs.Top.{Answers, Ended, IsAfterReading, IsAnswer, IsField, IsStillCommand, IsText, RanFor, ReadsToEnd, RunFits, SuitsCommand, Told, WritesPart, WritesWhole, options_run}
use Rattle.tool_core.specs.declared.words.Command.{Command}
use Rattle.tool_core.specs.declared.words.Command.TheVariants.{Judge, Order, Witness, Verdict, Show, Outcomes, Faithful, Skew, Count, Replay}
use Rattle.tool_core.specs.declared.status.ToolStatus.{ToolStatus}
use Rattle.tool_core.specs.declared.status.ToolStatus.TheVariants.{Core, States, Steps, TooLong}
use Rattle.tool_core.proofs.Dues.{IsOfInput, core_is_no_stop, due_for_text, of_input, one_due, stop_is_of_outcomes, test_is_due}

-- ---- what was told is what was taken

told_took : (words : List (List ℕ)) (old new : View) (command taking : Command) (input taken : List ℕ)
    → Told words old command input → Took words old new taking taken → (taking ≡ command) × (taken ≡ input)
told_took words old new command taking input taken told took =
    let both : Some taking ≡ Some command = sym took.command_is ∙ told.command_is in
    (cc, given_bytes old.bytes new.bytes input taken told.told took.gave)

answer_to_told : (words : List (List ℕ)) (old new : View) (done : Closed) (command : Command) (input text : List ℕ)
    → Told words old command input → Answers words old new done text → IsAnswer command input done text
answer_to_told words old new done command input text told answers =
    let same = told_took words old new command answers.command input answers.input told answers.took in
    subst (λ (xs : List ℕ). IsAnswer command xs done text) same.1
    (subst (λ (c : Command). IsAnswer c answers.input done text) same.0 answers.answer)

-- ---- laws

-- for an input that was accepted nothing is due
pub none_is_due : (command : Command) (input text : List ℕ) (done : Closed) → IsAnswer command input done text
    → IsDue command input None
none_is_due command input text done a =
    due_for_text command input a.parts None a.accepts.parts_are a.accepts.short
    (test_is_due command a.parts a.test None a.accepts.reading a.accepts.none_due)

pub laws : (words : List (List ℕ)) (old new : View) (done : Closed)
    → IsLawful (call_of words old new) (Answers words old new done) (Told words old)
laws words old new done = record {
  core_one = λ _ _ e. cc;
  long_input = is_of_input Core (λ s. s ≡ TooLong) (λ e. cc) (λ e. cc) (λ e. cc) TooLong refl;
  due_input = λ command input status due. is_of_input Core (IsOfInput command) (λ a. a) (λ a. a) (λ a. a) status
      (of_input command input status due);
  stop_input = λ command input status stop.
      is_of_input Core (StopsAt command stop.test) (core_is_no_stop command stop.test Whole)
      (core_is_no_stop command stop.test WriteFault) (core_is_no_stop command stop.test Usage) status stop.stops;
  due_one = one_due;
  accepted = λ text a. record {
    command = a.command;
    input = a.input;
    took = a.took;
    none_due = none_is_due a.command a.input text done a.answer;
  };
  took_is = λ command input took. took.command_is;
  took_all = λ command input took _. (took.gave, took.short);
  told_is = λ command input told. told.command_is;
  told_left = λ command input told _. told.told;
  told_one = λ command input taken told took. given_bytes old.bytes new.bytes input taken told.told took.gave;
}

-- ---- refusals that are not each command's

-- a refusal with a status of the first program that is no text was due for what was taken
of_taken : (command : Command) (input : List ℕ) (status : ToolStatus) (is : Status) → status ≡ Core is
    → (HasText Core (Core is) → ⊥)
    → HasText Core status ⊎ (IsDue command input (Some status) ⊎ StopsOn command input status)
    → IsOfInput command (Core is)
of_taken command input status is e none (inl has) = absurd (none (subst (HasText Core) e has))
of_taken command input status is e none (inr (inl due)) =
    subst (IsOfInput command) e (of_input command input status due)
of_taken command input status is e none (inr (inr stop)) =
    absurd (core_is_no_stop command stop.test is (subst (StopsAt command stop.test) e stop.stops))

-- a status that is due for no input is a limit that a list of outcomes met
of_limit : (command : Command) (input : List ℕ) (status is : ToolStatus) → status ≡ is → (HasText Core is → ⊥)
    → (IsOfInput command is → ⊥)
    → HasText Core status ⊎ (IsDue command input (Some status) ⊎ StopsOn command input status) → command ≡ Outcomes
of_limit command input status is e none other (inl has) = absurd (none (subst (HasText Core) e has))
of_limit command input status is e none other (inr (inl due)) =
    absurd (other (subst (IsOfInput command) e (of_input command input status due)))
of_limit command input status is e none other (inr (inr stop)) =
    stop_is_of_outcomes command stop.test status stop.stops

-- ---- what is left after

-- where the field is untouched by the words, it is by the call
still_made : (order : Option Schedule) (test : LitmusTest) (options : Options) (done : Closed)
    → run_options order options ≡ None → WasMade order test options done → IsStill done
still_made None test options done still made = absurd (none-some options (sym still))
still_made (Some schedule) test options done still made = made.0

pub still_text : (command : Command) (test : LitmusTest) (parts : Split) (done : Closed) (text : List ℕ)
    → IsStillCommand command → IsText command test parts done text → IsStill done
still_text Judge test parts done text still right = right.0
still_text Order test parts done text still right = right.0
still_text (Witness n) test parts done text still right = absurd (cc)
still_text Verdict test parts done text still right = right.0
still_text Show test parts done text still right = right.0
still_text Outcomes test parts done text still right = right.0
still_text Faithful test parts done text still right = right.0
still_text (Skew n) test parts done text still right = absurd (cc)
still_text (Count job) test parts done text still right = still_made job.order test job.options done still right.made
still_text (Replay job) test parts done text still right = right.0

pub still_ran : (command : Command) (test : LitmusTest) (done : Closed) → IsStillCommand command → RanFor command test done
    → ⊥
still_ran command test done still ran =
    subst (λ (o : Option Options). RanAs o test done) still ran

-- ---- runs

-- without a section the whole input is what reads as the test
pub whole_test : (input : List ℕ) (parts : Split) (test read : LitmusTest) → Some (all_litmus input) ≡ Some parts
    → Reads parts.litmus (Accepted test)
    → Reads input (Accepted read) → test ≡ read
whole_test input parts test read e reading reads =
    let same : all_litmus input ≡ parts = cc in
    let whole : Reads input (Accepted test) = subst (λ (p : Split). Reads p.litmus (Accepted test))
    (sym same) reading in
    same_test input test read whole reads

fits_for : (m n : Options) (test read : LitmusTest) (done : Closed) → Some m ≡ Some n → test ≡ read
    → SomeRunFits test m done → SomeRunFits read n done
fits_for m n test read done e same fits =
    let options : m ≡ n = cc in
    subst (λ (t : LitmusTest). SomeRunFits t n done) same
    (subst (λ (o : Options). SomeRunFits test o done) options fits)

-- threads made the run that is counted
fits_made : (order : Option Schedule) (m n : Options) (test read : LitmusTest) (done : Closed)
    → run_options order m ≡ Some n → test ≡ read → WasMade order test m done → SomeRunFits read n done
fits_made None m n test read done e same made = fits_for m n test read done e same made
fits_made (Some schedule) m n test read done e same made = absurd (none-some n e)

pub fits_by : (command : Command) (options : Options) (input text : List ℕ) (read : LitmusTest) (done : Closed)
    → options_run command ≡ Some options → Reads input (Accepted read)
    → IsAnswer command input done text → SomeRunFits read options done
fits_by Judge options input text read done e reads a = absurd (cc)
fits_by Order options input text read done e reads a = absurd (cc)
fits_by (Witness n) options input text read done e reads a =
    fits_for (options_of n) options a.test read done e
    (whole_test input a.parts a.test read a.accepts.parts_are a.accepts.reading reads) a.right.some_run
fits_by Verdict options input text read done e reads a = absurd (cc)
fits_by Show options input text read done e reads a = absurd (cc)
fits_by Outcomes options input text read done e reads a = absurd (cc)
fits_by Faithful options input text read done e reads a = absurd (cc)
fits_by (Skew n) options input text read done e reads a =
    fits_for (options_of n) options a.test read done e
    (whole_test input a.parts a.test read a.accepts.parts_are a.accepts.reading reads) a.right.some_run
fits_by (Count job) options input text read done e reads a =
    fits_made job.order job.options options a.test read done e
    (whole_test input a.parts a.test read a.accepts.parts_are a.accepts.reading reads) a.right.made
fits_by (Replay job) options input text read done e reads a = absurd (cc)

-- ---- what the clauses say

module _ {words : List (List ℕ)} {old new : View} {done : Closed} {out_old out_new : View} {untouched : Type 0}
    {status : ToolStatus} (ended : Ended words old new done out_old out_new untouched status) where
  here : IsLawful (call_of words old new) (Answers words old new done) (Told words old)
  here = laws words old new done

  limit_of : (is : ToolStatus) → (Core Whole ≡ is → ⊥) → (Core WriteFault ≡ is → ⊥) → (Core Usage ≡ is → ⊥)
      → (Core Memory ≡ is → ⊥) → (Core ReadFault ≡ is → ⊥) → (TooLong ≡ is → ⊥)
      → ((command : Command) → IsOfInput command is → ⊥) → status ≡ is → command_of words ≡ Some Outcomes
  limit_of is whole part usage memory fault long other e =
      let input = is_of_input Core (λ s. s ≡ is) whole part usage is refl in
      let t = taken_of here (λ s. s ≡ is) memory usage fault long status ended e in
      t.2.command_is ∙ ap Some (of_limit t.0 t.1 status is e input.text (other t.0) t.3)

  pub suits_of : SuitsCommand words status
  suits_of = record {
    outside_profile = λ atom kind e.
        let is = Core (OutsideProfile atom kind) in
        let input = is_of_input Core (λ s. s ≡ is) (λ e. cc) (λ e. cc) (λ e. cc) is refl in
        let t = taken_of here (λ s. s ≡ is) (λ e. cc) (λ e. cc) (λ e. cc) (λ e. cc) status ended e in
        (t.0, t.2.command_is, of_taken t.0 t.1 status (OutsideProfile atom kind) e input.text t.3);
    frames = λ e.
        let is = Core (Limit Frames) in
        let input = is_of_input Core (λ s. s ≡ is) (λ e. cc) (λ e. cc) (λ e. cc) is refl in
        let t = taken_of here (λ s. s ≡ is) (λ e. cc) (λ e. cc) (λ e. cc) (λ e. cc) status ended e in
        (t.0, t.2.command_is, of_taken t.0 t.1 status (Limit Frames) e input.text t.3);
    states = λ e. limit_of States (λ e. cc) (λ e. cc) (λ e. cc) (λ e. cc) (λ e. cc) (λ e. cc) (λ command is. is) e;
    steps = λ e. limit_of Steps (λ e. cc) (λ e. cc) (λ e. cc) (λ e. cc) (λ e. cc) (λ e. cc) (λ command is. is) e;
  }

  pub ends_of : ReadsToEnd new status
  ends_of = λ after.
      let t = taken_of here IsAfterReading (λ a. a) (λ a. a) (λ a. a) (λ a. a) status ended after in
      t.2.gave.ended

  pub field_of : IsField words done status
  field_of = record {
    other_command = λ other. still_of
        (λ text a. still_text a.command a.answer.test a.answer.parts done text (other a.command a.took.command_is)
        a.answer.right)
        (λ out. absurd (still_ran out.command out.ran.test done (other out.command out.took.command_is) out.ran.ran))
        status ended;
    other_status = other_status_of status ended;
  }

  pub whole_of : WritesWhole words old done out_old out_new status
  whole_of = λ command input before told told_out e.
      let a = text_whole here status ended before told_out e in
      record { text = a.0; answer = answer_to_told words old new done command input a.0 told a.1; is_on = a.2 }

  pub part_of : WritesPart words old done out_old out_new status
  part_of = λ command input before told told_out e.
      let a = text_part here status ended before told_out e in
      let answer = answer_to_told words old new done command input a.0 told a.1 in
      record { text = a.0; answer = answer; is_on = (a.2, a.3, a.4) }

  pub fits_of : RunFits words old done status
  fits_of = λ command options input test told runs has reading.
      let a = answer_of here status ended has in
      fits_by command options input a.0 test done runs reading (answer_to_told words old new done command input a.0 told a.1)
