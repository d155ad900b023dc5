-- The whole reading, section by section.
use Rattle.std.proofs.Common.{◌≡◌, ℕ, ◌≤◌, List, length, take, drop, Option, Some, None, Result, Ok, Err, refl, sym, ap, subst, ◌∙◌}
use Rattle.std.specs.Prelude.{IfOk, IfErr}
use Rattle.x86_subset.specs.declared.test.Shape.{Shape}
use Rattle.x86_subset.specs.Token.{spot, start, after_bytes, lex, tokens_of}
use Rattle.x86_subset.specs.Form.{lexemes}
use Rattle.x86_subset.specs.Test.{LitmusTest}
use Rattle.x86_subset.specs.Shape as shape
use Rattle.x86_subset.proofs.SpellingLaws.{tokens_spell}
use Rattle.litmus_reader.specs.declared.kind.LitmusError.{LitmusError}
use Rattle.litmus_reader.specs.declared.kind.LitmusError.TheVariants as errors
use Rattle.litmus_reader.specs.declared.reader.Draft.{Draft}
use Rattle.litmus_reader.specs.Answer.{Answer, Accepted, Over, ◌>>=◌, last_line}
use Rattle.litmus_reader.specs.Front.{rest_at, first_line, head}
use Rattle.litmus_reader.specs.Outcome.{Refuses, Answers}
use Rattle.x86_subset.specs.Shape.{limit_of}
use Rattle.litmus_reader.specs.Reading.{Reads, tokens_at, sections_at, limited, answer_of, read_text}
use Rattle.litmus_reader.specs.Draft.{draft_of, IsMade}
use Rattle.litmus_reader.specs.Answered.{IfAnswered, RefusesText}
use Rattle.litmus_reader.proofs.ReadingLaws.{one_reading}

module _ (text name : List ℕ) (from line : ℕ)
    (h : first_line text ≡ Ok (name, rest_at (after_bytes start (take from text)) (drop from text)))
    (k : spot from line ≡ after_bytes start (take from text)) where
  first_step : sections_at text ≡ (head (last_line text) 0 (spot from line) (drop from text) >>= λ rest. tokens_at
      (last_line text) name (lex 0 rest.at rest.text))
  unfolding sections_at
  first_step = rw (h, k) refl

  pub head_refused : (e : LitmusError) → Refuses e (head (last_line text) 0 (spot from line) (drop from text))
      → Refuses e (sections_at text)
  head_refused errors.Memory r = tt
  head_refused (errors.Bad kind l) r =
      first_step ∙ ap (λ x. x >>= λ rest. tokens_at (last_line text) name (lex 0 rest.at rest.text)) r
  head_refused (errors.Over limit) r = r

  pub sections_answer : (at l : ℕ) → head (last_line text) 0 (spot from line) (drop from text)
      ≡ Ok (rest_at (spot at l) (drop at text)) → spot at l ≡ after_bytes start (take at text) → at ≤ length text
      → (r : Result Draft LitmusError) → Answers (draft_of text) r
      (tokens_at (last_line text) name (lexemes text (tokens_of text at)))
      → Answers (draft_of text) r (sections_at text)
  sections_answer at l e m b r a =
      let one : sections_at text ≡ tokens_at (last_line text) name (lex 0 (spot at l) (drop at text)) = first_step
      ∙ ap (λ x. x >>= λ rest. tokens_at (last_line text) name (lex 0 rest.at rest.text)) e in
      let two : lexemes text (tokens_of text at) ≡ lex 0 (spot at l) (drop at text) = tokens_spell text at b
      ∙ ap (λ s. lex 0 s (drop at text)) (sym m) in
      subst (Answers (draft_of text) r) (ap (tokens_at (last_line text) name) two ∙ sym one) a

-- ---- the answer

some_test : (x y : LitmusTest) → ◌≡◌ {A = Result LitmusTest Shape} (Ok x) (Ok y) → x ≡ y
some_test x y e = cc

some_limit : (x y : Shape) → ◌≡◌ {A = Result LitmusTest Shape} (Err x) (Err y) → x ≡ y
some_limit x y e = cc

pub answered_err : (text : List ℕ) (e : LitmusError) → Refuses e (sections_at text)
    → IfAnswered (Err e) (λ answer. read_text text ≡ answer)
unfolding read_text
answered_err text errors.Memory r = tt
answered_err text (errors.Bad kind line) r = ap answer_of r
answered_err text (errors.Over limit) r = absurd r

-- a test that was read, by its limits
pub answered_made : (text : List ℕ) (test : LitmusTest) → sections_at text ≡ Ok test
    → (r : Result LitmusTest LitmusError) → IsMade r (shape.if_within_limits test)
    → IfAnswered r (λ answer. read_text text ≡ answer)
unfolding read_text
answered_made text test h r m = go (limit_of test) refl r m
  where
    read : (o : Option Shape) → limit_of test ≡ o → read_text text ≡ limited test o
    read o e = ap answer_of h ∙ ap (limited test) e

    go : (o : Option Shape) → limit_of test ≡ o → (r : Result LitmusTest LitmusError)
        → IsMade r (shape.limited_by o test) → IfAnswered r (λ answer. read_text text ≡ answer)
    go o e (Err errors.Memory) m = tt
    go o e (Err (errors.Bad kind line)) m = absurd m
    go None e (Ok t) m = read None e ∙ ap Accepted (some_test test t m)
    go (Some limit) e (Ok t) m = absurd cc
    go None e (Err (errors.Over limit)) m = absurd cc
    go (Some l) e (Err (errors.Over limit)) m = read (Some l) e ∙ ap Over (some_limit l limit m)

-- the text is read as the test
pub answered_reads : (text : List ℕ) (r : Result LitmusTest LitmusError)
    → IfAnswered r (λ answer. read_text text ≡ answer) → IfOk r (λ test. Reads text (Accepted test))
answered_reads text (Ok test) h = subst (Reads text) h (one_reading text).0
answered_reads text (Err e) h = tt

-- the error is right for the text
pub answered_refuses : (text : List ℕ) (r : Result LitmusTest LitmusError)
    → IfAnswered r (λ answer. read_text text ≡ answer) → IfErr r (RefusesText text)
answered_refuses text (Ok test) h = tt
answered_refuses text (Err errors.Memory) h = tt
answered_refuses text (Err (errors.Bad kind line)) h = subst (Reads text) h (one_reading text).0
answered_refuses text (Err (errors.Over limit)) h = subst (Reads text) h (one_reading text).0

only : (text : List ℕ) (answer : Answer) → read_text text ≡ answer → (other : Answer) → Reads text other
    → other ≡ answer
only text answer h other r = sym ((one_reading text).1 other r) ∙ h

pub answered_only : (text : List ℕ) (r : Result LitmusTest LitmusError)
    → IfAnswered r (λ answer. read_text text ≡ answer)
    → IfAnswered r (λ answer. (other : Answer) → Reads text other → other ≡ answer)
answered_only text (Ok test) h = only text _ h
answered_only text (Err errors.Memory) h = tt
answered_only text (Err (errors.Bad kind line)) h = only text _ h
answered_only text (Err (errors.Over limit)) h = only text _ h
