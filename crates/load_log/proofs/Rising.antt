-- The flags of the columns that rise, as one value more is appended.
use Rattle.std.proofs.Common.{◌≡◌, ◌≢◌, ⊎_elim, ℕ, ◌+◌, ◌-◌, ◌*◌, ◌<◌, ◌≤◌, ◌↔◌, Bool, true, false, ◌&&◌, IsTrue, List, [], ◌∷◌, ◌++◌, length, get_or, replicate, refl, subst, sym, ap, ◌∙◌, arith}
use Rattle.std.proofs.Math.ListN.{set}
use Rattle.std.proofs.Math.Nat.{add-mul, one-mul, zero-mul, mul-le-mul_right}
use Rattle.std.proofs.lemmas.Bool.{cases_eq, cases_lt}
use Rattle.std.proofs.lemmas.List.{get_or-replicate, get_or-set_other, get_or-set_same, get_or_append_left, get_or_push, length_push}
use Rattle.std.proofs.lemmas.Nat.{same_from_place}
use Rattle.std.specs.Bool.{MatchBool}
use Rattle.perp_base.specs.declared.limits.TheConstants.{MOST_ACTIONS}
use Rattle.load_log.specs.Values.{AreMarked, Falls, Rises, Values, by_iteration, words_seen}
use Rattle.load_log.proofs.Columns.{by_iteration_more, get_or-by_iteration, length-by_iteration}

-- values, so many in an iteration
abbrev log_of : ℕ → List ℕ → Values
log_of columns xs = record { columns = columns; values = xs; spare = 0 }

-- an earlier iteration's value of a column stands no further on
earlier : (columns column i j : ℕ) → i ≤ j → i * columns + column ≤ j * columns + column
earlier columns column i j le = omega (arith, mul-le-mul_right columns le)

-- the value of an iteration is before that of the next
before : (columns column n row : ℕ) → 0 < columns → n < row → n * columns + column < row * columns + column
before columns column n row some less =
    let le : n + 1 ≤ row = omega arith in
    omega (arith, mul-le-mul_right columns le, add-mul n 1 columns, one-mul columns)

-- a value more in another column takes nothing from one that rises
rises_other : (columns column row at : ℕ) (xs : List ℕ) (value : ℕ) → column < columns → at < columns
    → column ≢ at → length xs ≡ row * columns + at → Rises (log_of columns xs) column
    → Rises (log_of columns (xs ++ value ∷ [])) column
rises_other columns column row at xs value c a other long up i j le there =
    let apart : j * columns + column ≡ row * columns + at → ⊥ = λ e. other
    (same_from_place j column row at columns c a e).1 in
    let below : j * columns + column < length xs = ⊎_elim (λ same. absurd (apart same))
    (λ differs. omega (arith, length_push xs value, differs)) (cases_eq (j * columns + column) (row * columns + at))
    in
    let first : get_or (xs ++ value ∷ []) (i * columns + column) 0
    ≡ get_or xs (i * columns + column) 0 = get_or_append_left xs (value ∷ []) 0 (i * columns + column)
    (omega (arith, earlier columns column i j le)) in
    let second : get_or (xs ++ value ∷ []) (j * columns + column) 0
    ≡ get_or xs (j * columns + column) 0 = get_or_append_left xs (value ∷ []) 0 (j * columns + column) below in
    omega (arith, up i j le below, first, second)

-- a fall stays one
falls_still : (columns column : ℕ) (xs : List ℕ) (value : ℕ) → Falls (log_of columns xs) column
    → Falls (log_of columns (xs ++ value ∷ [])) column
falls_still columns column xs value (n, there, down) =
    let next : n ≤ n + 1 = omega arith in
    let first : get_or (xs ++ value ∷ []) (n * columns + column) 0
    ≡ get_or xs (n * columns + column) 0 = get_or_append_left xs (value ∷ []) 0 (n * columns + column)
    (omega (arith, earlier columns column n (n + 1) next)) in
    let second : get_or (xs ++ value ∷ []) ((n + 1) * columns + column) 0
    ≡ get_or xs ((n + 1) * columns + column) 0 = get_or_append_left xs (value ∷ []) 0
    ((n + 1) * columns + column) there in
    (n, omega (arith, length_push xs value), omega (arith, first, second))

-- a value that is not below the one before keeps its column rising
rises_here : (columns row at : ℕ) (xs : List ℕ) (value : ℕ) → at < columns
    → length xs ≡ row * columns + at → (0 < row → get_or xs ((row - 1) * columns + at) 0 ≤ value)
    → Rises (log_of columns xs) at → Rises (log_of columns (xs ++ value ∷ [])) at
rises_here columns row at xs value a long kept up i j le there =
    let old : (k : ℕ) → k * columns + at < length xs
    → get_or (xs ++ value ∷ []) (k * columns + at) 0
    ≡ get_or xs (k * columns + at) 0 = λ k h. get_or_append_left xs (value ∷ []) 0 (k * columns + at) h in
    let new : (k : ℕ) → length xs ≡ k * columns + at → get_or (xs ++ value ∷ []) (k * columns + at) 0
    ≡ value = λ k h. get_or_push xs value 0 (k * columns + at) h in
    ⊎_elim
    (λ below. omega (arith, up i j le below, old j below, old i (omega (arith, earlier columns at i j le))))
    (λ last.
    let same : length xs ≡ j * columns + at = omega (arith, length_push xs value) in
    let row_is : (j ≡ row) × (at ≡ at) = same_from_place j at row at columns a a (omega arith) in
    ⊎_elim
    (λ less.
    let some : 0 < row = omega (arith, row_is.0) in
    let one : row - 1 < row = omega arith in
    let to : i ≤ row - 1 = omega (arith, row_is.0) in
    let within : (row - 1) * columns + at < length xs = omega (arith, before columns at (row - 1) row (omega arith) one)
    in
    omega (
      arith,
      new j same,
      old i (omega (arith, earlier columns at i (row - 1) to)),
      up i (row - 1) to within,
      kept some,
    ))
    (λ not_less.
    let is : i ≡ j = omega arith in
    omega (arith, ap (λ k. get_or (xs ++ value ∷ []) (k * columns + at) 0) is))
    (cases_lt i j))
    (cases_lt (j * columns + at) (length xs))

-- a value below the one before is a fall
falls_here : (columns row at : ℕ) (xs : List ℕ) (value : ℕ) → at < columns → length xs ≡ row * columns + at → 0 < row
    → value < get_or xs ((row - 1) * columns + at) 0 → Falls (log_of columns (xs ++ value ∷ [])) at
falls_here columns row at xs value a long some less =
    let one : row - 1 < row = omega arith in
    let next : row - 1 + 1 ≡ row = omega arith in
    let within : (row - 1) * columns + at < length xs = omega (arith, before columns at (row - 1) row (omega arith) one)
    in
    let first : get_or (xs ++ value ∷ []) ((row - 1) * columns + at) 0
    ≡ get_or xs ((row - 1) * columns + at) 0 = get_or_append_left xs (value ∷ []) 0
    ((row - 1) * columns + at) within in
    let second : get_or (xs ++ value ∷ []) (row * columns + at) 0
    ≡ value = get_or_push xs value 0 (row * columns + at) long in
    (row - 1, rw next (omega (arith, length_push xs value)), rw next (omega (arith, first, second)))

-- the flag of another column than the one with a value more
marked_other : (flag : Bool) (columns column row at : ℕ) (xs : List ℕ) (value : ℕ) → column < columns → at < columns
    → column ≢ at → length xs ≡ row * columns + at → MatchBool flag (Rises (log_of columns xs) column)
    (Falls (log_of columns xs) column) → MatchBool flag (Rises (log_of columns (xs ++ value ∷ [])) column)
    (Falls (log_of columns (xs ++ value ∷ [])) column)
marked_other true columns column row at xs value c a other long up =
    rises_other columns column row at xs value c a other long up
marked_other false columns column row at xs value c a other long down = falls_still columns column xs value down

-- the flag of the column with a value more
marked_here : (flag kept : Bool) (columns row at : ℕ) (xs : List ℕ) (value : ℕ) → at < columns
    → length xs ≡ row * columns + at → (IsTrue kept ↔ (0 < row → get_or xs ((row - 1) * columns + at) 0 ≤ value))
    → MatchBool flag (Rises (log_of columns xs) at) (Falls (log_of columns xs) at)
    → MatchBool (flag && kept) (Rises (log_of columns (xs ++ value ∷ [])) at)
    (Falls (log_of columns (xs ++ value ∷ [])) at)
marked_here true true columns row at xs value a long says up =
    rises_here columns row at xs value a long (says.0 refl) up
marked_here true false columns row at xs value a long says up =
    let no : (0 < row → get_or xs ((row - 1) * columns + at) 0 ≤ value) → ⊥ = λ h. let e : false ≡ true = says.1 h in
    cc in
    ⊎_elim
    (λ some. ⊎_elim (λ less. falls_here columns row at xs value a long some less)
    (λ not_less. absurd (no (λ _. not_less))) (cases_lt value (get_or xs ((row - 1) * columns + at) 0)))
    (λ none. absurd (no (λ some. absurd (omega arith))))
    (cases_lt 0 row)
marked_here false kept columns row at xs value a long says down = falls_still columns at xs value down

-- the flags after one value more, at the list that contracts see
marked_push : (flags : List Bool) (kept : Bool) (columns row at : ℕ) (xs : List ℕ) (value : ℕ) → at < columns
    → at < length flags → length xs ≡ row * columns + at → (IsTrue kept
    ↔ (0 < row → get_or xs ((row - 1) * columns + at) 0 ≤ value)) → AreMarked flags (log_of columns xs)
    → AreMarked (set flags at (get_or flags at false && kept)) (log_of columns (xs ++ value ∷ []))
marked_push flags kept columns row at xs value a within long says marked column c =
    let flag = get_or flags at false && kept in
    let After : Bool → ℕ → Type 0 = λ b k. MatchBool b (Rises (log_of columns (xs ++ value ∷ [])) k)
    (Falls (log_of columns (xs ++ value ∷ [])) k) in
    ⊎_elim
    (λ same.
    let here : After flag at = marked_here (get_or flags at false) kept columns row at xs value a long says
    (marked at a) in
    let written : After (get_or (set flags at flag) at false) at = subst (λ b. After b at)
    (sym (get_or-set_same flags at flag false within)) here in
    subst (λ k. After (get_or (set flags at flag) k false) k) (sym same) written)
    (λ other. subst (λ b. After b column) (sym (get_or-set_other flags at column flag false other))
    (marked_other (get_or flags column false) columns column row at xs value c a other long (marked column c)))
    (cases_eq column at)

-- the flags after a word written at the next place
pub marked_more : (flags : List Bool) (kept : Bool) (columns rows : ℕ) (words : List ℕ) (row at value next : ℕ)
    → length words ≡ columns * rows → at < columns → row < rows → at < length flags → next ≡ row * columns + at + 1
    → (IsTrue kept ↔ (0 < row → get_or words (at * rows + row - 1) 0 ≤ value))
    → AreMarked flags (words_seen columns rows words (row * columns + at))
    → AreMarked (set flags at (get_or flags at false && kept)) (words_seen columns rows
    (set words (at * rows + row) value) next)
marked_more flags kept columns rows words row at value next whole a r within is says marked =
    let xs = by_iteration columns rows words (row * columns + at) in
    let values : by_iteration columns rows (set words (at * rows + row) value) next ≡ xs ++ value
    ∷ [] = rw is (by_iteration_more columns rows words row at value whole a r) in
    let same : 0 < row → get_or xs ((row - 1) * columns + at) 0 ≡ get_or words (at * rows + row - 1) 0 = λ some.
    let one : row - 1 < row = omega arith in
    let place : at * rows + (row - 1) ≡ at * rows + row - 1 = omega arith in
    get_or-by_iteration columns rows words (row * columns + at) (row - 1) at a
    (before columns at (row - 1) row (omega arith) one) ∙ ap (λ k. get_or words k 0) place in
    let told : IsTrue kept ↔ (0 < row → get_or xs ((row - 1) * columns + at) 0 ≤ value) =
    (λ t some. omega (arith, same some, says.0 t some), λ h. says.1 (λ some. omega (arith, same some, h some))) in
    subst (λ ys. AreMarked (set flags at (get_or flags at false && kept)) (log_of columns ys)) (sym values)
    (marked_push flags kept columns row at xs value a within (length-by_iteration columns rows words
    (row * columns + at)) told marked)

-- with no value yet, each column rises
pub marked_none : (columns rows : ℕ) (words : List ℕ) → columns ≤ MOST_ACTIONS
    → AreMarked (replicate MOST_ACTIONS true) (words_seen columns rows words (0 * columns + 0))
marked_none columns rows words few column c =
    let flag : get_or (replicate MOST_ACTIONS true) column false
    ≡ true = get_or-replicate MOST_ACTIONS column true false (omega arith) in
    let log = words_seen columns rows words (0 * columns + 0) in
    let none : length log.values ≡ 0 = length-by_iteration columns rows words (0 * columns + 0)
    ∙ (omega (arith, zero-mul columns)) in
    let up : Rises log column = λ i j le there. absurd (omega arith) in
    subst (λ b. MatchBool b (Rises log column) (Falls log column)) (sym flag) up
