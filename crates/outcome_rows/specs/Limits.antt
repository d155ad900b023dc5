-- Rows up to a limit, by answers that may not be given. This project's own.
use Rattle.std.specs.Prelude.{◌≡◌, ℕ, ◌+◌, ◌<◌, ◌≤◌, ◌++◌, Bool, Option, None, List, [], ◌∷◌, length}
use Rattle.std.specs.List.{AllByRecursion as Each}
use Rattle.x86_subset.specs.Test.{HoldsReads, LitmusTest}
use Rattle.outcome_rows.specs.declared.rows.Stop.{Stop}
use Rattle.outcome_rows.specs.declared.rows.Stop.TheVariants.{GaveUp, TooMany}
use Rattle.outcome_rows.specs.Listing.{AnswersBy, AnswersFronts, AreAllRows, ListsRows, columns_of_values, front_with, gone_on}
use Rattle.outcome_rows.specs.Rows.{HoldReads, Register}

-- what is said where there are too many, and where an answer was not given
abbrev pub IsStop : Type 0 → Type 0 → Stop → Type 0
IsStop many gave_up TooMany = many
IsStop many gave_up GaveUp = gave_up

-- no answer was given of some row of at most n values
abbrev pub GivesUp : (List ℕ → Option Bool → Type 0) → ℕ → Type 0
GivesUp answers n = (row : List ℕ) × (length row ≤ n) × answers row None

-- so of some row that goes on with one of these front parts
abbrev pub GiveUp : (List ℕ → Option Bool → Type 0) → List (List ℕ) → Type 0
GiveUp answers fronts = (n : ℕ) → Each (λ row. length row + 1 ≤ n) fronts → GivesUp answers n

-- ---- a front part

-- to the old rows come those that go on with this front part, and the limit is kept
abbrev pub KeepsFront : (List ℕ → Option Bool → Type 0) → ℕ → List ℕ → List ℕ → List (List ℕ) → List (List ℕ) → Type 0
KeepsFront answers limit front values old new =
    ((n : ℕ) (p : List ℕ → Bool) → length front + 1 ≤ n → AnswersBy answers n p
    → new ≡ old ++ front_with p front values)
    × (length old ≤ limit → length new ≤ limit)

-- with those that go on with this front part there are more rows than the limit
abbrev pub IsManyFront : (List ℕ → Option Bool → Type 0) → ℕ → List ℕ → List ℕ → List (List ℕ) → Type 0
IsManyFront answers limit front values old =
    (n : ℕ) (p : List ℕ → Bool) → length front + 1 ≤ n → AnswersBy answers n p
    → limit < length (old ++ front_with p front values)

-- ---- all front parts

-- the new rows are those that go on with these front parts, and the limit is kept
abbrev pub KeepsFronts : (List ℕ → Option Bool → Type 0) → ℕ → List (List ℕ) → List ℕ → List (List ℕ) → Type 0
KeepsFronts answers limit fronts values new =
    ((n : ℕ) (p : List ℕ → Bool) → Each (λ row. length row + 1 ≤ n) fronts → AnswersBy answers n p
    → new ≡ gone_on p values fronts)
    × (length new ≤ limit)

-- more rows than the limit go on with these front parts
abbrev pub IsManyFronts : (List ℕ → Option Bool → Type 0) → ℕ → List (List ℕ) → List ℕ → Type 0
IsManyFronts answers limit fronts values =
    (n : ℕ) (p : List ℕ → Bool) → Each (λ row. length row + 1 ≤ n) fronts → AnswersBy answers n p
    → limit < length (gone_on p values fronts)

-- ---- all rows

-- each test whose registers can have these values, of whose front parts a call answers so, has more rows than the limit
abbrev pub HasMany : (List ℕ → Option Bool → Type 0) → ℕ → List (List ℕ) → Type 0
HasMany answers limit columns =
    (test : LitmusTest) (registers : List Register) (rows : List (List ℕ))
    → HoldsReads test
    → HoldReads test registers
    → columns ≡ columns_of_values test registers
    → AnswersFronts answers test registers
    → AreAllRows test registers rows
    → limit < length rows
