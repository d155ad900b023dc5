-- What a command says of an input it says again.
use Rattle.std.proofs.Common.{◌≡◌, ◌⊎◌, ◌∙◌, ℕ, zero, suc, ◌+◌, ◌<◌, ◌≤◌, true, Some, Ok, List, [], ◌∷◌, ◌++◌, codes, length, map, inl, inr, refl, sym, ap, subst, arith}
use Rattle.std.proofs.lemmas.List.{append_cancel_left}
use Rattle.std.specs.List.{AllZip, range_with_len}
use Rattle.x86_subset.specs.Conjunctions.{conjunction_of}
use Rattle.x86_subset.specs.Test.{LitmusTest}
use Rattle.x86_subset.specs.declared.test.Atom.{Atom}
use Rattle.litmus_reader.specs.Answer.{Accepted}
use Rattle.litmus_reader.specs.Reading.{Reads}
use Rattle.litmus_reader.proofs.ReadingLaws.{same_test}
use Rattle.profile_check.specs.Kinds.{kind_of}
use Rattle.profile_check.specs.Profile.{CheckedTest}
use Rattle.profile_check.specs.declared.kind.AtomKind.{AtomKind}
use Rattle.report_text.specs.Words.{number_line}
use Rattle.run_judge.specs.Judgement.{event_of, judgement_of}
use Rattle.run_text.specs.Sections.{Split}
use Rattle.verdict.specs.Edges.{edge_in, edge_of, is_cycle_of}
use Rattle.verdict.specs.Verdicts.{AreCycles, HasCycle, IsFirstOpen}
use Rattle.verdict.specs.declared.node.Node.{Node}
use Rattle.tool_core.specs.Laws.{AreVerdictsOfOne, CallOf, JudgementsAreRepeated, VerdictsAreRepeated}
use Rattle.tool_core.specs.Texts.{IsJudged, IsVerdictOn, IsVerdictText, judgement_line}
use Rattle.tool_core.specs.Texts.IsVerdictOn.{forbidden, opened}
use Rattle.tool_core.specs.Top.{Accepts, IsAnswer}
use Rattle.tool_core.specs.Words.{command_of}
use Rattle.tool_core.specs.declared.words.Command.{Command}
use Rattle.tool_core.specs.declared.words.Command.TheVariants.{Judge, Verdict}

-- ---- one input

same_parts : (command : Command) (input : List ℕ) (p q : Split) (s t : LitmusTest) → Accepts command input p s
    → Accepts command input q t → p ≡ q
same_parts command input p q s t a b = let both : Some p ≡ Some q = sym a.parts_are ∙ b.parts_are in cc

same_tests : (command : Command) (input : List ℕ) (p q : Split) (s t : LitmusTest) → Accepts command input p s
    → Accepts command input q t → s ≡ t
same_tests command input p q s t a b =
    same_test q.litmus s t
    (subst (λ (x : Split). Reads x.litmus (Accepted s)) (same_parts command input p q s t a b) a.reading) b.reading

-- ---- judgements

judged_once : (test : LitmusTest) (parts : Split) (a b : List ℕ) → IsJudged test parts a → IsJudged test parts b → a ≡ b
judged_once test parts a b p q =
    let same : p.events ≡ q.events = (let e : Ok p.events ≡ Ok q.events = sym p.are ∙ q.are in cc) in
    p.is
    ∙ ap (λ es. judgement_line (length es) (judgement_of test parts.iterations (map event_of es))) same
    ∙ sym q.is

-- ---- verdicts

same_kinds : (test : LitmusTest) (atoms : List Atom) (a b : List AtomKind)
    → AllZip (λ atom kind. kind_of test atom ≡ Ok kind) atoms a
    → AllZip (λ atom kind. kind_of test atom ≡ Ok kind) atoms b → a ≡ b
same_kinds test [] [] [] p q = refl
same_kinds test [] [] (l ∷ ls) p q = absurd q
same_kinds test [] (k ∷ ks) b p q = absurd p
same_kinds test (atom ∷ atoms) [] b p q = absurd p
same_kinds test (atom ∷ atoms) (k ∷ ks) [] p q = absurd q
same_kinds test (atom ∷ atoms) (k ∷ ks) (l ∷ ls) p q =
    let here : k ≡ l = (let e : Ok k ≡ Ok l = sym p.0 ∙ q.0 in cc) in
    let rest : ks ≡ ls = same_kinds test atoms ks ls p.1 q.1 in
    cc

-- cycles for the conjunctions from one on have one for each of these
cycle_among : (checked : CheckedTest) (from count : ℕ) (cycles : List (List Node)) (c : ℕ)
    → AllZip (λ kinds cycle. is_cycle_of (edge_of checked.test kinds) cycle ≡ true)
    (map (conjunction_of checked.test.ends checked.kinds) (range_with_len from count)) cycles
    → from ≤ c → c < from + count → HasCycle checked c
cycle_among checked from zero cycles c are low high = absurd (omega arith)
cycle_among checked from (suc count) [] c are low high = absurd are
cycle_among checked from (suc count) (cycle ∷ cycles) c are low high =
    let split : (from ≡ c) ⊎ (from + 1 ≤ c) = grind (arith) in
    go split (λ later. cycle_among checked (from + 1) count cycles c are.1 later (omega arith))
  where
    go : (from ≡ c) ⊎ (from + 1 ≤ c) → (from + 1 ≤ c → HasCycle checked c) → HasCycle checked c
    go (inl here) _ = (cycle, subst (λ k. is_cycle_of (edge_in checked k) cycle ≡ true) here are.0)
    go (inr later) rest = rest later

cycle_of : (checked : CheckedTest) (cycles : List (List Node)) (c : ℕ) → AreCycles checked cycles
    → c < length checked.test.ends → HasCycle checked c
cycle_of checked cycles c are there =
    cycle_among checked 0 (length checked.test.ends) cycles c are (omega arith) (omega arith)

has_cycle : (checked : CheckedTest) (c : ℕ) → IsFirstOpen checked c → HasCycle checked c → ⊥
has_cycle checked c first cycle = let no = first.none cycle.0 in let yes = cycle.1 in cc

same_open : (checked : CheckedTest) (c d : ℕ) → IsFirstOpen checked c → IsFirstOpen checked d
    → (c < d) ⊎ ((d < c) ⊎ (c ≡ d)) → c ≡ d
same_open checked c d p q (inl before) = absurd (has_cycle checked c p (q.earlier c before))
same_open checked c d p q (inr (inl after)) = absurd (has_cycle checked d q (p.earlier d after))
same_open checked c d p q (inr (inr same)) = same

verdict_once : (checked : CheckedTest) (a b : List ℕ) → IsVerdictOn checked a → IsVerdictOn checked b
    → AreVerdictsOfOne a b
verdict_once checked a b (forbidden one are ruled e) (forbidden other also too f) =
    inr (record { cycles = one; is = e }, record { cycles = other; is = f })
verdict_once checked a b (forbidden cycles are ruled e) (opened c first f) =
    absurd (has_cycle checked c first (cycle_of checked cycles c are first.there))
verdict_once checked a b (opened c first e) (forbidden cycles are ruled f) =
    absurd (has_cycle checked c first (cycle_of checked cycles c are first.there))
verdict_once checked a b (opened c one e) (opened d other f) =
    let order : (c < d) ⊎ ((d < c) ⊎ (c ≡ d)) = grind (arith) in
    inl (e ∙ ap (number_line (codes "Open")) (same_open checked c d one other order) ∙ sym f)

verdict_text_once : (test : LitmusTest) (a b : List ℕ) → IsVerdictText test a → IsVerdictText test b
    → AreVerdictsOfOne a b
verdict_text_once test a b p q =
    let kinds = same_kinds test test.atoms p.kinds q.kinds p.are q.are in
    verdict_once (record { test = test; kinds = q.kinds }) a b
    (subst (λ (ks : List AtomKind). IsVerdictOn (record { test = test; kinds = ks }) a) kinds p.is) q.is

-- ---- two calls

-- what a call wrote is an answer to its input
pub answer_in : (words : List (List ℕ)) (command : Command) (input text : List ℕ) → command_of words ≡ Some command
    → (call : CallOf words input text) → IsAnswer command input call.done text
answer_in words command input text is call =
    let has = call.whole command input call.before (record { command_is = is; told = call.told }) call.held refl in
    let whole : call.before ++ has.text ≡ call.before ++ text =
    (let e : Some (call.before ++ has.text) ≡ Some (call.before ++ text) = sym has.is_on ∙ call.got in cc) in
    subst (IsAnswer command input call.done) (append_cancel_left call.before has.text text whole) has.answer

pub judgements_are_repeated_lem : JudgementsAreRepeated
judgements_are_repeated_lem words input a b is one other =
    let p = answer_in words Judge input a is one in
    let q = answer_in words Judge input b is other in
    let parts = same_parts Judge input p.parts q.parts p.test q.test p.accepts q.accepts in
    let tests = same_tests Judge input p.parts q.parts p.test q.test p.accepts q.accepts in
    let judged : IsJudged q.test q.parts a = subst (λ (s : Split). IsJudged q.test s a) parts
    (subst (λ (t : LitmusTest). IsJudged t p.parts a) tests p.right.1) in
    judged_once q.test q.parts a b judged q.right.1

pub verdicts_are_repeated_lem : VerdictsAreRepeated
verdicts_are_repeated_lem words input a b is one other =
    let p = answer_in words Verdict input a is one in
    let q = answer_in words Verdict input b is other in
    let tests = same_tests Verdict input p.parts q.parts p.test q.test p.accepts q.accepts in
    verdict_text_once q.test a b (subst (λ (t : LitmusTest). IsVerdictText t a) tests p.right.1) q.right.1
