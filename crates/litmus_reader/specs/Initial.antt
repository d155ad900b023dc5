-- The initial state of herdtools' X86 litmus format, in the profile that this project takes.
use Rattle.std.specs.Prelude.{ℕ, zero, suc, Bool, not, ◌||◌, IsTrue, List, [], ◌∷◌, ◌++◌, Option, Some, None, Result, Ok, Err, if◌then◌else◌}
use Rattle.std.specs.List.{list_all}
use Rattle.x86_subset.specs.declared.token.TokenKind.TheVariants.{Name, Number, LeftSquare, RightSquare, RightBrace, Semi, Colon, Equal, Dollar}
use Rattle.x86_subset.specs.Token.{Lexeme}
use Rattle.x86_subset.specs.declared.form.Slot.{Slot}
use Rattle.x86_subset.specs.declared.form.Slot.TheVariants.{Mark, Maybe, Location, Register, Any}
use Rattle.x86_subset.specs.Form.{is, Row, Means, meaning}
use Rattle.litmus_reader.specs.declared.kind.LitmusKind.TheVariants.{Initial, NonZeroInitial}
use Rattle.litmus_reader.specs.Answer.{Refusal, refuse, ◌>>=◌, line_at}

-- a number, with or without `$`
abbrev numeral : List Slot
numeral = Maybe Dollar ∷ Any ∷ []

-- the items' forms: each means its numeral, or 0 where it has none
abbrev row : List Slot → Row ℕ
row slots = record { slots = slots; means = λ f. f.number }

-- the forms of items
abbrev pub item_rows : List (Row ℕ)
item_rows =
    row [] ∷
    row (Location ∷ Mark Equal ∷ numeral) ∷
    row (Mark LeftSquare ∷ Location ∷ Mark RightSquare ∷ Mark Equal ∷ numeral) ∷
    row (Mark Name ∷ Location ∷ Mark Equal ∷ numeral) ∷
    row (Mark Name ∷ Location ∷ []) ∷
    row (Mark Number ∷ Mark Colon ∷ Register ∷ Mark Equal ∷ numeral) ∷ []

-- what an item's tokens are judged as
pub data Item (ts : List Lexeme) : Result (Unit {0}) Refusal → Type 0 where
  -- a form whose numeral is 0, or without one
  fits : Means item_rows ts (Some 0) → Item ts (Ok tt)
  -- a form with another numeral: the line where the item begins
  not_zero : (n : ℕ) → Means item_rows ts (Some (suc n)) → Item ts (refuse NonZeroInitial (line_at 0 ts))
  -- none of the forms: the line where the item begins
  no_form : Means item_rows ts None → Item ts (refuse Initial (line_at 0 ts))

-- `;` or `}`
abbrev pub ends_item : Lexeme → Bool
ends_item t = is Semi t || is RightBrace t

-- neither of them
abbrev pub is_inside : Lexeme → Bool
is_inside t = not (ends_item t)

-- `Items last tokens answer`: the items that begin here are read, and the answer is the tokens after the closing brace
pub data Items (last : ℕ) : List Lexeme → Result (List Lexeme) Refusal → Type 0 where
  -- no item ends any more
  unended : {ts : List Lexeme} → IsTrue (list_all is_inside ts) → Items last ts (refuse Initial last)
  -- an item with a kind, judged at its end
  refused : (item : List Lexeme) (t : Lexeme) (rest : List Lexeme) (e : Refusal) → IsTrue (list_all is_inside item)
      → IsTrue (ends_item t) → Item item (Err e) → Items last (item ++ t ∷ rest) (Err e)
  -- the last item, before the closing brace
  closed : (item : List Lexeme) (t : Lexeme) (rest : List Lexeme) → IsTrue (list_all is_inside item)
      → IsTrue (is RightBrace t) → Item item (Ok tt) → Items last (item ++ t ∷ rest) (Ok rest)
  -- an item before a `;`
  another : (item : List Lexeme) (t : Lexeme) (rest : List Lexeme) {r : Result (List Lexeme) Refusal}
      → IsTrue (list_all is_inside item) → IsTrue (is Semi t) → Item item (Ok tt)
      → Items last rest r → Items last (item ++ t ∷ rest) r

-- ---- the same as functions

-- an item with this numeral, if it has a form
abbrev pub judge_at : ℕ → Option ℕ → Result (Unit {0}) Refusal
judge_at line None = refuse Initial line
judge_at line (Some zero) = Ok tt
judge_at line (Some (suc n)) = refuse NonZeroInitial line

-- an item by its form
unfoldable pub judge : List Lexeme → Result (Unit {0}) Refusal
judge item = judge_at (line_at 0 item) (meaning item_rows item)

-- the tokens of an item so far, and then the others
unfoldable pub items : ℕ → List Lexeme → List Lexeme → Result (List Lexeme) Refusal
items last item [] = refuse Initial last
items last item (t ∷ ts) =
    let next = items last [] ts in
    let longer = items last (item ++ t ∷ []) ts in
    if ends_item t then judge item >>= (λ _. if is RightBrace t then Ok ts else next) else longer
