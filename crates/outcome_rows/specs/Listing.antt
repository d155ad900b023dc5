-- All rows of a test, register by register: the front parts of rows that are possible are gone on with each value that
-- can come in the next register. This project's own.
use Rattle.std.specs.Prelude.{◌≡◌, ◌↔◌, ℕ, ◌≤◌, ◌==◌, ◌&&◌, ◌||◌, Bool, true, false, nat_lt, Contains, Option, Some, List, [], ◌∷◌, ◌++◌, filter, length, map, take, if◌then◌else◌}
use Rattle.std.specs.List.{AllByRecursion as Each}
use Rattle.x86_subset.specs.Test.{HoldsReads, LitmusTest}
use Rattle.seq_conv.specs.Sequence.{Site, stores_of}
use Rattle.verdict.specs.Edges.{node}
use Rattle.outcome_rows.specs.Rows.{HoldReads, IsRow, Register, location_of_read, text_value}

-- ---- values that can come

-- a value put into values that rise, once
abbrev pub put_value : ℕ → List ℕ → List ℕ
put_value v [] = v ∷ []
put_value v (w ∷ ws) =
    if nat_lt v w then (v ∷ w ∷ ws) else if v == w then (w ∷ ws) else (w ∷ put_value v ws)

abbrev pub risen : List ℕ → List ℕ
risen [] = []
risen (v ∷ vs) = put_value v (risen vs)

-- 0 and the values of the stores of the location that a register's read is of
abbrev pub values_stored : LitmusTest → Register → List ℕ
values_stored test register =
    0 ∷ map (λ (s : Site). text_value test (Some (node s))) (stores_of test (location_of_read test register))

-- ---- the list

-- of a front part with each value, those that are possible
abbrev pub front_with : (List ℕ → Bool) → List ℕ → List ℕ → List (List ℕ)
front_with possible front values = filter possible (map (λ v. front ++ v ∷ []) values)

-- of the front parts, each gone on with each value, those that are possible
abbrev pub gone_on : (List ℕ → Bool) → List ℕ → List (List ℕ) → List (List ℕ)
gone_on possible values [] = []
gone_on possible values (front ∷ fronts) = front_with possible front values ++ gone_on possible values fronts

-- so through all registers' values
abbrev pub rows_from : (List ℕ → Bool) → List (List ℕ) → List (List ℕ) → List (List ℕ)
rows_from possible [] fronts = fronts
rows_from possible (values ∷ columns) fronts = rows_from possible columns (gone_on possible values fronts)

-- the values that can come in each register, in order
abbrev pub columns_of_values : LitmusTest → List Register → List (List ℕ)
columns_of_values test registers = map (λ register. risen (values_stored test register)) registers

abbrev pub rows_of : LitmusTest → List Register → (List ℕ → Bool) → List (List ℕ)
rows_of test registers possible =
    rows_from possible (columns_of_values test registers) ([] ∷ [])

-- it answers of each front part of a row whether some execution ends with it
abbrev pub Decides : LitmusTest → List Register → (List ℕ → Bool) → Type 0
Decides test registers possible =
    (values : List ℕ) → length values ≤ length registers
    → (possible values ≡ true) ↔ IsRow test (take (length values) registers) values

-- a call answers so of each front part, where it answers r of row as `answers row r` says: it may give no answer
abbrev pub AnswersFronts : (List ℕ → Option Bool → Type 0) → LitmusTest → List Register → Type 0
AnswersFronts answers test registers =
    (row : List ℕ) (r : Bool) → length row ≤ length registers → answers row (Some r)
    → (r ≡ true) ↔ IsRow test (take (length row) registers) row

-- a call answers of each row of at most n values what p says
abbrev pub AnswersBy : (List ℕ → Option Bool → Type 0) → ℕ → (List ℕ → Bool) → Type 0
AnswersBy answers n p = (row : List ℕ) (r : Bool) → length row ≤ n → answers row (Some r) → r ≡ p row

-- ---- in order

-- a row stands before another of its length: where they first differ its number is less
abbrev pub is_before : List ℕ → List ℕ → Bool
is_before [] ys = false
is_before (x ∷ xs) [] = false
is_before (x ∷ xs) (y ∷ ys) = nat_lt x y || ((x == y) && is_before xs ys)

-- each row stands before all that follow it
abbrev pub AreRising : List (List ℕ) → Type 0
AreRising [] = Unit {0}
AreRising (row ∷ rows) = Each (λ later. is_before row later ≡ true) rows × AreRising rows

-- the rows of a test, each once and no others, in order
pub record AreAllRows (test : LitmusTest) (registers : List Register) (rows : List (List ℕ)) : Type 0 where
  pub exact : (values : List ℕ) → Contains rows values ↔ IsRow test registers values
  pub rising : AreRising rows

-- so they are for each test whose registers can have these values, of whose front parts a call answers so
abbrev pub ListsRows : (List ℕ → Option Bool → Type 0) → List (List ℕ) → List (List ℕ) → Type 0
ListsRows answers columns rows =
    (test : LitmusTest) (registers : List Register)
    → HoldsReads test
    → HoldReads test registers
    → columns ≡ columns_of_values test registers
    → AnswersFronts answers test registers
    → AreAllRows test registers rows
