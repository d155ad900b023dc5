-- Each text has one reading, and it is that of the function.
use Rattle.std.proofs.Common.{◌≡◌, ℕ, false, List, [], Option, Some, None, Result, Ok, Err, refl, sym, ap, subst, ◌∙◌}
use Rattle.x86_subset.specs.declared.test.Shape.{Shape}
use Rattle.x86_subset.specs.Test.{LitmusTest}
use Rattle.x86_subset.specs.Token.{Lexeme, lex}
use Rattle.x86_subset.proofs.TokenLaws.{lexes_only, lexes_made}
use Rattle.litmus_reader.specs.Answer.{Refusal, Answer, Accepted, ◌>>=◌, Then, stops, goes_on, last_line}
use Rattle.litmus_reader.specs.Front.{Rest}
use Rattle.litmus_reader.specs.Condition.{Term, none_read, Told, Joined, in_a_row}
use Rattle.litmus_reader.specs.Expression.{outermost, expression_at, AtTerm}
use Rattle.x86_subset.specs.Shape.{limit_of}
use Rattle.litmus_reader.specs.Reading.{test_of, Tokens, Cut, cut, Sections, Reads, refused, over, accepted, tokens_at, sections_at, limited, answer_of, read_text, OneReading}
use Rattle.litmus_reader.proofs.FrontLaws.{first_only, first_made, head_only, head_made}
use Rattle.litmus_reader.proofs.InitialLaws.{items_only, items_made}
use Rattle.litmus_reader.proofs.RowsLaws.{columns_only, columns_made, rows_only, rows_made}
use Rattle.litmus_reader.proofs.ConditionLaws.{section_only, section_made, quantifier_only, quantifier_made, expression_only, some_expression}
use Rattle.litmus_reader.proofs.Fronts.{told}

-- the relation holds of this, and of nothing else
record Exactly {A : Type 0} (R : A → Type 0) (x : A) : Type 0 where
  holds : R x
  only : (y : A) → R y → x ≡ y

abbrev done : {A : Type 0} → A → Result A Refusal
done x = Ok x

ok_is : {A : Type 0} (x y : A) → done x ≡ done y → x ≡ y
ok_is x y e = cc

err_is : {A : Type 0} (d e : Refusal) → ◌≡◌ {A = Result A Refusal} (Err d) (Err e) → d ≡ e
err_is d e h = cc

-- sections that have one answer each have one together
then_exactly : {A B : Type 0} (R : Result A Refusal → Type 0) (S : A → Result B Refusal → Type 0) (x : Result A Refusal)
    (f : A → Result B Refusal)
    → Exactly R x → ((a : A) → Exactly (S a) (f a)) → Exactly (Then R S) (x >>= f)
then_exactly R S (Ok a) f h k = record {
  holds = goes_on a h.holds (k a).holds;
  only = go;
}
  where
    go : (y : Result _ Refusal) → Then R S y → f a ≡ y
    go y (stops e r) = let d = h.only (Err e) r in absurd cc
    go y (goes_on b r s) = (k a).only y (subst (λ c. S c y) (sym (ok_is a b (h.only (Ok b) r))) s)
then_exactly R S (Err e) f h k = record {
  holds = stops e h.holds;
  only = go;
}
  where
    go : (y : Result _ Refusal) → Then R S y → Err e ≡ y
    go y (stops d r) = ap (λ c. Err c) (err_is e d (h.only (Err d) r))
    go y (goes_on b r s) = let d = h.only (Ok b) r in absurd cc

exactly : {A : Type 0} (R : A → Type 0) (x : A) → R x → ((y : A) → R y → x ≡ y) → Exactly R x
exactly R x h k = record { holds = h; only = k }

-- the test of the condition's conjunctions
expression_exactly : (last : ℕ) (ts : List Lexeme) (f : Joined → LitmusTest)
    → Exactly (Then (Term last false [] none_read ts) (λ cs test. test ≡ Ok (f (in_a_row cs))))
    (expression_at last (AtTerm false) outermost ts >>= λ j. Ok (f j))
expression_exactly last ts f = let s = some_expression last ts in record {
  holds =
      subst (Then (Term last false [] none_read ts) _) (sym (ap (λ r. r >>= λ j. Ok (f j)) (expression_only s.1)))
      (made s.0 s.1);
  only = go;
}
  where
    made : (r : Told) → Term last false [] none_read ts r
        → Then (Term last false [] none_read ts) (λ cs test. test ≡ Ok (f (in_a_row cs))) (told r >>= λ j. Ok (f j))
    made (Ok cs) h = goes_on cs h refl
    made (Err e) h = stops e h

    go : (y : Result LitmusTest Refusal)
        → Then (Term last false [] none_read ts) (λ cs test. test ≡ Ok (f (in_a_row cs))) y
        → (expression_at last (AtTerm false) outermost ts >>= λ j. Ok (f j)) ≡ y
    go y (stops e h) = ap (λ r. r >>= λ j. Ok (f j)) (expression_only h)
    go y (goes_on cs h k) = ap (λ r. r >>= λ j. Ok (f j)) (expression_only h) ∙ sym k

tokens_exactly : (last : ℕ) (name : List ℕ) (ts : List Lexeme) → Exactly (Tokens last name ts) (tokens_at last name ts)
unfolding tokens_at
tokens_exactly last name ts =
    then_exactly _ _ _ _ (exactly _ _ (items_made last ts) (λ r h. items_only h)) (λ ts.
    then_exactly _ _ _ _ (exactly _ _ (columns_made last ts) (λ r h. columns_only h)) (λ c.
    then_exactly _ _ _ _ (exactly _ _ (rows_made last c.0 c.1) (λ r h. rows_only h)) (λ s.
    then_exactly _ _ _ _ (exactly _ _ (section_made last s.1) (λ r h. section_only h)) (λ ts.
    then_exactly _ _ _ _ (exactly _ _ (quantifier_made last ts) (λ r h. quantifier_only h)) (λ q.
    expression_exactly last q.1 (λ j. test_of name s.0 q.0 j))))))

cut_exactly : (last : ℕ) (name : List ℕ) (rest : Rest)
    → Exactly (Cut last name rest) (tokens_at last name (lex 0 rest.at rest.text))
cut_exactly last name rest = record {
  holds =
      cut (lex 0 rest.at rest.text) (lexes_made rest.at rest.text)
      (tokens_exactly last name (lex 0 rest.at rest.text)).holds;
  only = go;
}
  where
    go : (r : Result LitmusTest Refusal) → Cut last name rest r → tokens_at last name (lex 0 rest.at rest.text) ≡ r
    go r (cut ts h k) = ap (tokens_at last name) (lexes_only h) ∙ (tokens_exactly last name ts).only r k

sections_exactly : (text : List ℕ) → Exactly (Sections text) (sections_at text)
unfolding sections_at
sections_exactly text =
    then_exactly _ _ _ _ (exactly _ _ (first_made text) (λ r h. first_only text h)) (λ first.
    then_exactly _ _ _ _ (exactly _ _ (head_made (last_line text) first.1.at first.1.text) (λ r h. head_only h))
    (λ rest.
    cut_exactly (last_line text) first.0 rest))

answer_made : (text : List ℕ) (r : Result LitmusTest Refusal) → Sections text r → Reads text (answer_of r)
answer_made text (Err e) h = refused e h
answer_made text (Ok test) h = go (limit_of test) refl
  where
    go : (o : Option Shape) → limit_of test ≡ o → Reads text (limited test o)
    go None e = accepted test h e
    go (Some limit) e = over test limit h e

answer_only : (text : List ℕ) (answer : Answer) → Reads text answer → answer_of (sections_at text) ≡ answer
answer_only text answer (refused e h) = ap answer_of ((sections_exactly text).only (Err e) h)
answer_only text answer (over test limit h e) =
    ap answer_of ((sections_exactly text).only (Ok test) h) ∙ ap (limited test) e
answer_only text answer (accepted test h e) =
    ap answer_of ((sections_exactly text).only (Ok test) h) ∙ ap (limited test) e

pub one_reading : OneReading
unfolding read_text
one_reading text = (answer_made text (sections_at text) (sections_exactly text).holds, answer_only text)

-- an accepted test is what the sections say, and passes no limit
pub accepted_is : (r : Result LitmusTest Refusal) (test : LitmusTest) → answer_of r ≡ Accepted test
    → (r ≡ Ok test) × (limit_of test ≡ None)
accepted_is (Err e) test h = absurd cc
accepted_is (Ok made) test h = go (limit_of made) refl h
  where
    go : (o : Option Shape) → limit_of made ≡ o → limited made o ≡ Accepted test
        → ◌≡◌ {A = Result LitmusTest Refusal} (Ok made) (Ok test) × (limit_of test ≡ None)
    go None e h = let same : made ≡ test = cc in (ap Ok same, subst (λ (t : LitmusTest). limit_of t ≡ None) same e)
    go (Some limit) e h = absurd cc

-- two readings of a text are one
pub same_reading : (text : List ℕ) (a b : Answer) → Reads text a → Reads text b → a ≡ b
same_reading text a b p q = sym ((one_reading text).1 a p) ∙ (one_reading text).1 b q

-- and two tests that it reads as
pub same_test : (text : List ℕ) (a b : LitmusTest) → Reads text (Accepted a) → Reads text (Accepted b) → a ≡ b
same_test text a b p q = let same : Accepted a ≡ Accepted b = same_reading text (Accepted a) (Accepted b) p q in cc
