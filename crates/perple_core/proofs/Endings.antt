-- What the endings of the program rest on, and what its clauses say of them.
use Rattle.std.proofs.Common.{◌≡◌, ◌⊎◌, ℕ, ◌<◌, Bool, true, false, if◌then◌else◌, List, ◌++◌, length, take, Some, None, MatchOption, inl, inr, sym, ap, subst, ◌∙◌}
use Rattle.std.specs.declared.option.Option.{Option}
use Rattle.report_text.specs.declared.status.Status.{Status}
use Rattle.report_text.specs.declared.status.Status.TheVariants.{Whole, Memory, Usage, ReadFault, WriteFault, NotLitmus, OutsideProfile, Limit}
use Rattle.report_text.specs.declared.status.Over.TheVariants.{Input, Frames}
use Rattle.perp_base.specs.Bytes.{GaveAll}
use Rattle.x86_subset.specs.Test.{LitmusTest}
use Rattle.tso_words.specs.Seats.{Ended as Closed}
use Rattle.litmus_reader.specs.Answer.{Answer, Accepted, Refused as Unread, Over as TooLarge, kind_number}
use Rattle.litmus_reader.specs.Reading.{Reads}
use Rattle.litmus_reader.proofs.ReadingLaws.{same_reading}
use Rattle.profile_check.specs.Profile.{Profile, inside, outside, profile_of}
use Rattle.profile_check.specs.Kinds.{kind_number as profile_number}
use Rattle.command_words.specs.Words.{command_of}
use Rattle.demo_text.specs.Demo.{demo_text_of}
use Rattle.perp_base.specs.View.{View}
use Rattle.program_edge.proofs.Bytes.{given_bytes}
use Rattle.program_edge.proofs.Endings.{IsLawful, is_of_input, other_status_of, still_of, taken_of, whole_of as text_whole, part_of as text_part}
use Rattle.program_edge.specs.Form.{over_of}
use Rattle.program_edge.specs.Field.{IsStill}
use Rattle.perple_core.specs.Due.{Took, Takes, IsDue, call_of, demo_number, has_too_many_frames, due_for_profile, due_for_reading}
use Rattle.perple_core.specs.Top.{Answers, Ended, IsText, HasAnswer, IsAfterReading, WritesWhole, WritesPart, ReadsToEnd, IsField, Told}
use Rattle.command_words.specs.declared.job.Command.{Command}
use Rattle.command_words.specs.declared.job.Command.TheVariants.{Run, Replay, Convert, Demo}
use Rattle.command_words.specs.Job.{Asked as Job}

taken_by : (demo : Option ℕ) (old new : View) (text taken : List ℕ)
    → MatchOption demo (old.bytes ≡ Some text) (λ k. text ≡ demo_text_of k)
    → MatchOption demo (GaveAll old.bytes new.bytes taken) (λ k. (new ≡ old) × (taken ≡ demo_text_of k)) → taken ≡ text
taken_by None old new text taken told takes = given_bytes old.bytes new.bytes text taken told takes
taken_by (Some k) old new text taken told takes = takes.1 ∙ sym told

-- what a command took is the text that it was to take
taken_text : (command : Command) (old new : View) (text taken : List ℕ) → Told command old text
    → Takes command old new taken → taken ≡ text
taken_text command old new text taken told takes = taken_by (demo_number command) old new text taken told takes

-- two commands of the same words are one
same_command : (words : List (List ℕ)) (old new : View) (command taking : Command) (taken : List ℕ)
    → command_of words ≡ Some command
    → Took words old new taking taken → taking ≡ command
same_command words old new command taking taken is took =
    let both : Some taking ≡ Some command = sym took.command_is ∙ is in
    cc

-- one text has one refusal that is due, or none
pub one_due : (command : Command) (bytes : List ℕ) (a b : Option Status) → IsDue command bytes a → IsDue command bytes b
    → a ≡ b
one_due command bytes a b p q =
    sym p.is ∙ ap (due_for_reading command) (same_reading bytes p.answer q.answer p.reads q.reads) ∙ q.is

-- the statuses of a text that is refused
abbrev pub IsOfText : Status → Type 0
IsOfText Whole = ⊥
IsOfText Memory = ⊥
IsOfText Usage = ⊥
IsOfText ReadFault = ⊥
IsOfText WriteFault = ⊥
IsOfText (NotLitmus kind line) = Unit {0}
IsOfText (OutsideProfile atom kind) = Unit {0}
IsOfText (Limit over) = Unit {0}

some_of : (s t : Status) → Some s ≡ Some t → IsOfText s → IsOfText t
some_of s t e of_text = let same : s ≡ t = cc in subst IsOfText same of_text

of_frames : (b : Bool) (s : Status) → (if b then Some (Limit Frames) else None) ≡ Some s → IsOfText s
of_frames true s e = some_of (Limit Frames) s e tt
of_frames false s e = absurd (cc)

of_profile : (command : Command) (test : LitmusTest) (profile : Profile) (s : Status)
    → due_for_profile command test profile ≡ Some s → IsOfText s
of_profile command test inside s e = of_frames (has_too_many_frames command test) s e
of_profile command test (outside atom kind) s e = some_of (OutsideProfile atom (profile_number kind)) s e tt

of_reading : (command : Command) (answer : Answer) (s : Status) → due_for_reading command answer ≡ Some s → IsOfText s
of_reading command (Unread refusal) s e = some_of (NotLitmus (kind_number refusal.kind) refusal.line) s e tt
of_reading command (TooLarge limit) s e = some_of (Limit (over_of limit)) s e tt
of_reading command (Accepted test) s e = of_profile command test (profile_of test) s e

-- the words are this command's, and this is the text that it is to take
abbrev pub IsTold : List (List ℕ) → View → Command → List ℕ → Type 0
IsTold words old command text = (command_of words ≡ Some command) × Told command old text

pub laws : (words : List (List ℕ)) (old new : View) (done : Closed)
    → IsLawful (call_of words old new) (Answers words old new done) (IsTold words old)
laws words old new done = record {
  core_one = λ _ _ e. e;
  long_input = is_of_input (λ s. s) IsOfText (λ a. a) (λ a. a) (λ a. a) (Limit Input) tt;
  due_input = λ command text s due.
      is_of_input (λ s. s) IsOfText (λ a. a) (λ a. a) (λ a. a) s (of_reading command due.answer s due.is);
  stop_input = λ command text s stops. absurd stops;
  due_one = one_due;
  accepted = λ text a. record {
    command = a.command;
    input = a.accepts.bytes;
    took = a.accepts.took;
    none_due = record { answer = Accepted a.test; reads = a.accepts.reading; is = a.accepts.none_due };
  };
  took_is = λ command text took. took.command_is;
  took_all = λ command text took none. (rw none at took.takes, took.short none);
  told_is = λ command text told. told.0;
  told_left = λ command text told none. rw none at told.1;
  told_one = λ command text taken told took. taken_text command old new text taken told.1 took.takes;
}

-- no work of this program stops at a limit
pub without_stops : {A B : Type 0} → A ⊎ (B ⊎ ⊥) → A ⊎ B
without_stops (inl a) = inl a
without_stops (inr (inl b)) = inr b
without_stops (inr (inr none)) = absurd none

-- the text of another command than a run leaves the field still
still_text : (words : List (List ℕ)) (command : Command) (test : LitmusTest) (done : Closed) (text : List ℕ)
    → command_of words ≡ Some command
    → ((job : Job) → command_of words ≡ Some (Run job) → ⊥) → IsText command test done text → IsStill done
still_text words (Run job) test done text is other right = absurd (other job is)
still_text words (Replay job) test done text is other right = right.0
still_text words Convert test done text is other right = right.0
still_text words (Demo k) test done text is other right = right.0

-- what was accepted is what the text reads as
pub accepts_text : (words : List (List ℕ)) (old new : View) (done : Closed) (command : Command) (text answer : List ℕ)
    (IsOn : List ℕ → Type 0)
    → command_of words ≡ Some command → Told command old text → Answers words old new done answer → IsOn answer
    → HasAnswer command text done IsOn
accepts_text words old new done command text answer IsOn is told answers on =
    let same : answers.command ≡ command = same_command words old new command answers.command answers.accepts.bytes is
    answers.accepts.took in
    let right : IsText command answers.test done answer = subst (λ (c : Command). IsText c answers.test done answer)
    same answers.right in
    let takes : Takes command old new answers.accepts.bytes = subst (λ (c : Command). Takes c old new
    answers.accepts.bytes) same answers.accepts.took.takes in
    let taken : answers.accepts.bytes ≡ text = taken_text command old new text answers.accepts.bytes told takes in
    record {
      test = answers.test;
      reading = subst (λ (xs : List ℕ). Reads xs (Accepted answers.test)) taken answers.accepts.reading;
      none_due = ap (λ c. due_for_reading c (Accepted answers.test)) (sym same) ∙ answers.accepts.none_due;
      answer = answer;
      right = right;
      is_on = on;
    }

-- ---- what the clauses say

module _ {words : List (List ℕ)} {old new : View} {done : Closed} {out_old out_new : View} {untouched : Type 0}
    {status : Status} (ended : Ended words old new done out_old out_new untouched status) where
  here : IsLawful (call_of words old new) (Answers words old new done) (IsTold words old)
  here = laws words old new done

  pub ends_of : ReadsToEnd words new status
  ends_of = λ command is none after.
      let t = taken_of here IsAfterReading (λ a. a) (λ a. a) (λ a. a) (λ a. a) status ended after in
      let same : t.0 ≡ command = same_command words old new command t.0 t.1 is t.2 in
      let all = here.took_all t.0 t.1 t.2 (ap demo_number same ∙ none) in
      all.0.ended

  pub field_of : IsField words done status
  field_of = record {
    other_command = λ other. still_of
        (λ text a. still_text words a.command a.test done text a.accepts.took.command_is other a.right)
        (λ ran. absurd (other ran.job ran.accepts.took.command_is)) status ended;
    other_status = other_status_of status ended;
  }

  pub whole_of : WritesWhole words old done out_old out_new status
  whole_of = λ command text before is told told_out e.
      let a = text_whole here status ended before told_out e in
      accepts_text words old new done command text a.0 (λ t. out_new.bytes ≡ Some (before ++ t)) is told a.1 a.2

  pub part_of : WritesPart words old done out_old out_new status
  part_of = λ command text before is told told_out e.
      let a = text_part here status ended before told_out e in
      accepts_text words old new done command text a.0 (λ t. (n : ℕ) × (n < length t)
      × (out_new.bytes ≡ Some (before ++ take n t))) is told a.1 (a.2, a.3, a.4)
