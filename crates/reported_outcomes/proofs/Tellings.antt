-- The bytes that show and verdict write tell which answer they gave, and so what holds of the test.
use Rattle.std.proofs.Common.{◌≡◌, ℕ, ◌<◌, List, [], ◌∷◌, ◌++◌, Some, codes, inl, inr, refl, sym, ap, ◌∙◌, subst, arith}
use Rattle.std.proofs.lemmas.List.{append_cancel_left}
use Rattle.x86_subset.specs.Test.{LitmusTest}
use Rattle.profile_check.specs.Kinds.{AreKinds}
use Rattle.profile_check.specs.Profile.{CheckedTest, IsChecked}
use Rattle.profile_check.specs.declared.kind.AtomKind.{AtomKind}
use Rattle.tso_words.specs.Seats.{Ended as Closed}
use Rattle.run_text.specs.Sections.{Split}
use Rattle.litmus_reader.specs.Answer.{Accepted}
use Rattle.litmus_reader.specs.Reading.{Reads}
use Rattle.litmus_reader.proofs.TestLaws.{reads_tests}
use Rattle.report_text.specs.Words.{number_line}
use Rattle.run_judge.specs.declared.event.RunEvent.{RunEvent}
use Rattle.run_text.specs.Runs.{run_text_of}
use Rattle.tool_core.specs.Due.{all_litmus}
use Rattle.tool_core.specs.RuledOut.{IsRuledOut}
use Rattle.tool_core.specs.Showing.{IsShowingOn, reasons_text}
use Rattle.tool_core.specs.Showing.IsShowingOn.{run, forbidden, undecided}
use Rattle.tool_core.specs.Texts.{IsVerdictOn}
use Rattle.tool_core.specs.Texts.IsVerdictOn.{forbidden as all_cycles, opened}
use Rattle.tool_core.specs.Top.{HasAnswer, IsText}
use Rattle.tool_core.specs.declared.reasons.Reason.{Reason}
use Rattle.tool_core.specs.declared.words.Command.{Command}
use Rattle.tool_core.specs.declared.words.Command.TheVariants.{Show, Verdict}
use Rattle.tool_core.proofs.Endings.{whole_test}
use Rattle.perple_core.proofs.Accepting.{kinds_are}
use Rattle.forbidden_runs.specs.Forbidden.{IsForbidden}
use Rattle.forbidden_runs.specs.Laws.{read_test}
use Rattle.litmus_outcomes.specs.Laws.{SomeRunHits}
use Rattle.litmus_outcomes.specs.Outcome.{IsAllowed}
use Rattle.litmus_outcomes.proofs.Possible.{outcomes_are_countable_lem}
use Rattle.reported_outcomes.specs.Told.{ForbiddenIsImpossible, HasTold, ShownIsAllowed}

-- ---- the first byte of an answer

first : List ℕ → ℕ
first [] = 0
first (byte ∷ bytes) = byte

run_first : (events : List RunEvent) → first (run_text_of 1 events) ≡ 37
unfolding first run_text_of number_line
run_first events = refl

reasons_first : (reasons : List Reason) → first (reasons_text reasons) ≡ 70
unfolding first reasons_text
reasons_first reasons = refl

undecided_first : (c : ℕ) → first (number_line (codes "Undecided") c) ≡ 85
unfolding first number_line
undecided_first c = refl

open_first : (c : ℕ) → first (number_line (codes "Open") c) ≡ 79
unfolding first number_line
open_first c = refl

events_first : (rest : List ℕ) → first (codes "%events 1\n" ++ rest) ≡ 37
unfolding first
events_first rest = refl

forbidden_first : (rest : List ℕ) → first (codes "Forbidden\n" ++ rest) ≡ 70
unfolding first
forbidden_first rest = refl

-- texts that begin differently are not the same
apart : (a b : ℕ) (xs ys : List ℕ) → a < b → xs ≡ ys → first xs ≡ a → first ys ≡ b → ⊥
apart a b xs ys l e f g = let same : a ≡ b = sym f ∙ ap first e ∙ g in omega arith

-- ---- what was told is the right text for the test

record Right (command : Command) (test : LitmusTest) (told : List ℕ) : Type 0 where
  parts : Split
  done : Closed
  right : IsText command test parts done told

-- without a section
right_of : (command : Command) (test : LitmusTest) (told : List ℕ) (h : HasTold command test told)
    (a : HasAnswer command h.text h.done (λ text. h.out_new.bytes ≡ Some (h.before ++ text)))
    → Some (all_litmus h.text) ≡ Some a.answer.parts → Right command test told
right_of command test told h a e =
    let both : Some (h.before ++ a.text) ≡ Some (h.before ++ told) = sym a.is_on ∙ h.added in
    let whole : h.before ++ a.text ≡ h.before ++ told = cc in
    let bytes : a.text ≡ told = append_cancel_left h.before a.text told whole in
    let same : a.answer.test ≡ test =
    whole_test h.text a.answer.parts a.answer.test test e a.answer.accepts.reading h.reading in
    record {
      parts = a.answer.parts;
      done = h.done;
      right =
          subst (λ (t : LitmusTest). IsText command t a.answer.parts h.done told) same
          (subst (λ (text : List ℕ). IsText command a.answer.test a.answer.parts h.done text) bytes a.answer.right);
    }

answer_of : (command : Command) (test : LitmusTest) (told : List ℕ) (h : HasTold command test told)
    → HasAnswer command h.text h.done (λ text. h.out_new.bytes ≡ Some (h.before ++ text))
answer_of command test told h = h.whole command h.text h.before h.call h.told_out refl

show_right : (test : LitmusTest) (told : List ℕ) → HasTold Show test told → Right Show test told
show_right test told h =
    let a = answer_of Show test told h in right_of Show test told h a a.answer.accepts.parts_are

verdict_right : (test : LitmusTest) (told : List ℕ) → HasTold Verdict test told → Right Verdict test told
verdict_right test told h =
    let a = answer_of Verdict test told h in right_of Verdict test told h a a.answer.accepts.parts_are

checked_of : (test : LitmusTest) (kinds : List AtomKind) (text : List ℕ) → Reads text (Accepted test)
    → AreKinds test kinds → IsChecked (record { test = test; kinds = kinds })
checked_of test kinds text reading are = record { kinds = are; test = reads_tests text test reading }

-- ---- a run that is shown

shown_on : (checked : CheckedTest) (rest : List ℕ) → IsShowingOn checked (codes "%events 1\n" ++ rest)
    → IsAllowed checked.test
shown_on checked rest (run events f e) = (f.c, f.there, f.shown.possible)
shown_on checked rest (forbidden reasons are out e) =
    absurd (apart 37 70 (codes "%events 1\n" ++ rest) (reasons_text reasons) (omega arith) e (events_first rest)
    (reasons_first reasons))
shown_on checked rest (undecided c open_at none e) =
    absurd (apart 37 85 (codes "%events 1\n" ++ rest) (number_line (codes "Undecided") c) (omega arith) e
    (events_first rest) (undecided_first c))

pub shown_is_allowed_lem : ShownIsAllowed
shown_is_allowed_lem test rest h =
    let r = show_right test (codes "%events 1\n" ++ rest) h in
    let said = r.right.1 in
    let checked : CheckedTest = record { test = test; kinds = said.kinds } in
    let allowed = shown_on checked rest said.is in (
      allowed,
      λ n some. subst (λ (kinds : List AtomKind). SomeRunHits (record { test = test; kinds = kinds }) n)
          (sym (kinds_are test said.kinds said.are))
          (outcomes_are_countable_lem checked n allowed.0 (checked_of test said.kinds h.text h.reading said.are)
          allowed.1 allowed.2 some),
    )

-- ---- a condition that is forbidden

forbidden_for : (test : LitmusTest) (kinds : List AtomKind) → AreKinds test kinds
    → IsRuledOut (record { test = test; kinds = kinds })
    → IsForbidden (read_test test) × (IsAllowed test → ⊥)
forbidden_for test kinds are out = (
  subst (λ (ks : List AtomKind). IsForbidden (record { test = test; kinds = ks })) (sym (kinds_are test kinds are))
      out.never,
  out.impossible,
)

forbidden_shown : (checked : CheckedTest) (rest : List ℕ) → IsShowingOn checked (codes "Forbidden\n" ++ rest)
    → IsRuledOut checked
forbidden_shown checked rest (run events f e) =
    absurd (apart 37 70 (run_text_of 1 events) (codes "Forbidden\n" ++ rest) (omega arith) (sym e) (run_first events)
    (forbidden_first rest))
forbidden_shown checked rest (forbidden reasons are out e) = out
forbidden_shown checked rest (undecided c open_at none e) =
    absurd (apart 70 85 (codes "Forbidden\n" ++ rest) (number_line (codes "Undecided") c) (omega arith) e
    (forbidden_first rest) (undecided_first c))

forbidden_judged : (checked : CheckedTest) (rest : List ℕ) → IsVerdictOn checked (codes "Forbidden\n" ++ rest)
    → IsRuledOut checked
forbidden_judged checked rest (all_cycles cycles are out e) = out
forbidden_judged checked rest (opened c first_open e) =
    absurd (apart 70 79 (codes "Forbidden\n" ++ rest) (number_line (codes "Open") c) (omega arith) e
    (forbidden_first rest) (open_first c))

by_show : (test : LitmusTest) (rest : List ℕ) → HasTold Show test (codes "Forbidden\n" ++ rest)
    → IsForbidden (read_test test) × (IsAllowed test → ⊥)
by_show test rest h =
    let said = (show_right test (codes "Forbidden\n" ++ rest) h).right.1 in
    forbidden_for test said.kinds said.are (forbidden_shown (record { test = test; kinds = said.kinds }) rest said.is)

by_verdict : (test : LitmusTest) (rest : List ℕ) → HasTold Verdict test (codes "Forbidden\n" ++ rest)
    → IsForbidden (read_test test) × (IsAllowed test → ⊥)
by_verdict test rest h =
    let said = (verdict_right test (codes "Forbidden\n" ++ rest) h).right.1 in
    forbidden_for test said.kinds said.are (forbidden_judged (record { test = test; kinds = said.kinds }) rest said.is)

pub forbidden_is_impossible_lem : ForbiddenIsImpossible
forbidden_is_impossible_lem command test rest (inl show) h =
    by_show test rest (subst (λ (c : Command). HasTold c test (codes "Forbidden\n" ++ rest)) show h)
forbidden_is_impossible_lem command test rest (inr verdict) h =
    by_verdict test rest (subst (λ (c : Command). HasTold c test (codes "Forbidden\n" ++ rest)) verdict h)
