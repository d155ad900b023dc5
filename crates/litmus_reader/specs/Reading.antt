-- The reading of a whole text of herdtools' X86 litmus format, in the profile that this project takes.
use Rattle.std.specs.Prelude.{◌≡◌, ℕ, false, List, [], Option, Some, None, Result, Ok, Err}
use Rattle.x86_subset.specs.declared.test.Shape.{Shape}
use Rattle.x86_subset.specs.declared.test.Quantifier.{Quantifier}
use Rattle.x86_subset.specs.Test.{LitmusTest}
use Rattle.x86_subset.specs.Shape.{limit_of}
use Rattle.x86_subset.specs.Token.{Lexeme, Lexes, lex}
use Rattle.x86_subset.specs.Cell as cell
use Rattle.litmus_reader.specs.Answer.{Refusal, Answer, Accepted, Refused, Over, ◌>>=◌, Then, last_line}
use Rattle.litmus_reader.specs.Front.{Rest, FirstLine, first_line, Head, head}
use Rattle.litmus_reader.specs.Initial.{Items, items}
use Rattle.litmus_reader.specs.Rows.{Columns, columns_at, Rows, rows_at}
use Rattle.litmus_reader.specs.Condition.{Section, section_at, Quantified, quantifier_at, Term, none_read, Joined, in_a_row}
use Rattle.litmus_reader.specs.Expression.{outermost, expression_at, AtTerm}

-- the test of these sections
abbrev pub test_of : List ℕ → cell.Threads → Quantifier → Joined → LitmusTest
test_of name threads quantifier j = record {
  name = name;
  locations = threads.locations;
  bodies = threads.bodies;
  quantifier = quantifier;
  atoms = j.atoms;
  ends = j.ends;
}

-- the sections of the tokens after the first brace
abbrev pub Tokens : ℕ → List ℕ → List Lexeme → Result LitmusTest Refusal → Type 0
Tokens last name ts =
    Then (Items last ts) (λ ts.
    Then (Columns last ts) (λ c.
    Then (Rows last c.0 c.1) (λ s.
    Then (Section last s.1) (λ ts.
    Then (Quantified last ts) (λ q.
    Then (Term last false [] none_read q.1) (λ cs test. test ≡ Ok (test_of name s.0 q.0 (in_a_row cs))))))))

-- the tokens after the first brace
pub data Cut (last : ℕ) (name : List ℕ) (rest : Rest) (r : Result LitmusTest Refusal) : Type 0 where
  cut : (ts : List Lexeme) → Lexes rest.at rest.text ts → Tokens last name ts r → Cut last name rest r

-- the whole text: the first line, the header, and the tokens
abbrev pub Sections : List ℕ → Result LitmusTest Refusal → Type 0
Sections text =
    let last = last_line text in
    Then (FirstLine text) (λ first.
    Then (Head last first.1.at first.1.text) (λ rest.
    Cut last first.0 rest))

-- what a text is read as
pub data Reads (text : List ℕ) : Answer → Type 0 where
  -- a section met a kind
  refused : (e : Refusal) → Sections text (Err e) → Reads text (Refused e)
  -- a whole test that passes a limit, the first one
  over : (test : LitmusTest) (limit : Shape) → Sections text (Ok test) → limit_of test ≡ Some limit
      → Reads text (Over limit)
  -- a test
  accepted : (test : LitmusTest) → Sections text (Ok test) → limit_of test ≡ None → Reads text (Accepted test)

-- ---- the same as functions

-- the test of the tokens after the first brace
unfoldable pub tokens_at : ℕ → List ℕ → List Lexeme → Result LitmusTest Refusal
tokens_at last name ts = do
  ts ← items last [] ts
  c ← columns_at last [] ts
  s ← rows_at last c.0 [] c.1
  ts ← section_at last s.1
  q ← quantifier_at last ts
  j ← expression_at last (AtTerm false) outermost q.1
  Ok (test_of name s.0 q.0 j)

-- the test of a text
unfoldable pub sections_at : List ℕ → Result LitmusTest Refusal
sections_at text = do
  first ← first_line text
  rest ← head (last_line text) 0 first.1.at first.1.text
  tokens_at (last_line text) first.0 (lex 0 rest.at rest.text)

-- a whole test, or the limit that it passes
abbrev pub limited : LitmusTest → Option Shape → Answer
limited test None = Accepted test
limited test (Some limit) = Over limit

-- what the sections are read as
abbrev pub answer_of : Result LitmusTest Refusal → Answer
answer_of (Ok test) = limited test (limit_of test)
answer_of (Err e) = Refused e

-- what a text is read as
unfoldable pub read_text : List ℕ → Answer
read_text text = answer_of (sections_at text)

-- each text is read as one answer, and as no other
abbrev pub OneReading : Type 0
OneReading =
    (text : List ℕ) → Reads text (read_text text) × ((answer : Answer) → Reads text answer → read_text text ≡ answer)
