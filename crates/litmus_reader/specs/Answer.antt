-- What a text is read as, and how sections follow one another. This project's own.
use Rattle.std.specs.Prelude.{ℕ, suc, List, [], ◌∷◌, Result, Ok, Err, ◌==◌, if◌then◌else◌}
use Prim.Native.Char.{code}
use Rattle.x86_subset.specs.declared.test.Shape.{Shape}
use Rattle.x86_subset.specs.Test.{LitmusTest}
use Rattle.x86_subset.specs.Token.{Lexeme}
use Rattle.litmus_reader.specs.declared.kind.LitmusKind.{LitmusKind}
use Rattle.litmus_reader.specs.declared.kind.LitmusKind.TheVariants.{NotX86, Header, Initial, NonZeroInitial, Column, Instruction, NotConstant, Condition, Forall, MemoryCondition, Disjunction, Trailing}

-- the number by which a kind is told
abbrev pub kind_number : LitmusKind → ℕ
kind_number NotX86 = 1
kind_number Header = 2
kind_number Initial = 3
kind_number NonZeroInitial = 4
kind_number Column = 5
kind_number Instruction = 6
kind_number NotConstant = 7
kind_number Condition = 8
kind_number Forall = 9
kind_number MemoryCondition = 10
kind_number Disjunction = 11
kind_number Trailing = 12

-- a kind, and the line where it was met
pub record Refusal : Type 0 where
  pub kind : LitmusKind
  pub line : ℕ

-- what a text is read as: a test, a kind with its line, or a limit that a whole test passes
pub data Answer : Type 0 where
  Accepted : LitmusTest → Answer
  Refused : Refusal → Answer
  Over : Shape → Answer

-- the reading stops: a kind and its line
abbrev pub refuse : {A : Type 0} → LitmusKind → ℕ → Result A Refusal
refuse kind line = Err (record { kind = kind; line = line })

infixl 10 ◌>>=◌
abbrev pub ◌>>=◌ : {A B : Type 0} → Result A Refusal → (A → Result B Refusal) → Result B Refusal
(Ok x) >>= f = f x
(Err e) >>= f = Err e

-- One section and then the next. After a kind no reading goes on.
pub data Then {A B : Type 0} (first : Result A Refusal → Type 0) (next : A → Result B Refusal → Type 0)
    : Result B Refusal → Type 0 where
  -- a kind ends the reading
  stops : (e : Refusal) → first (Err e) → Then first next (Err e)
  -- the next section goes on from what this one gave
  goes_on : {r : Result B Refusal} (a : A) → first (Ok a) → next a r → Then first next r

-- The number of the last line. A line feed at the end of the text begins no line.
abbrev pub last_line : List ℕ → ℕ
last_line [] = 1
last_line (b ∷ []) = 1
last_line (b ∷ c ∷ bs) = if b == code "\n" then suc (last_line (c ∷ bs)) else last_line (c ∷ bs)

-- the line of the first of the tokens; the line given where there is none
abbrev pub line_at : ℕ → List Lexeme → ℕ
line_at last [] = last
line_at last (t ∷ ts) = t.line
