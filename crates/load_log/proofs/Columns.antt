-- The list that contracts see, against the columns that stand apart in memory.
use Rattle.std.proofs.Common.{◌≡◌, ◌≢◌, ⊎_elim, ℕ, zero, suc, ◌+◌, ◌-◌, ◌*◌, ◌/◌, ◌%◌, ◌<◌, ◌≤◌, List, [], ◌∷◌, ◌++◌, length, map, get_or, refl, ap, ap₂, ◌∙◌, arith}
use Rattle.std.proofs.Math.ListN.{set}
use Rattle.std.proofs.Math.Nat.{add-mul, div-add-mod, mul_comm, mul-le-mul_right, one-mul, zero-mul}
use Rattle.std.proofs.lemmas.Bool.{cases_lt}
use Rattle.std.proofs.lemmas.Grind.{get_or-set_at}
use Rattle.std.specs.List.{range_with_len}
use Rattle.std.proofs.lemmas.List.{get_or-set_other}
use Rattle.std.proofs.lemmas.List.FromFn.{length-map-range_with_len, get_or-map-range_with_len, map-range_with_len_more}
use Rattle.std.proofs.lemmas.Nat.{div-mul-add, mod-mul-add, mul-add-lt, row_fits, same_from_place, div_below, mod_below}
use Rattle.load_log.specs.Values.{Values, by_iteration, words_seen}

-- the word of the value at index i
abbrev place : ℕ → ℕ → ℕ → ℕ
place columns rows i = i % columns * rows + i / columns

-- two functions that agree below a bound make one list
same_range : (f g : ℕ → ℕ) (a n : ℕ) → ((i : ℕ) → i < a + n → f i ≡ g i)
    → map f (range_with_len a n) ≡ map g (range_with_len a n)
same_range f g a zero same = refl
same_range f g a (suc n) same =
    let first : f a ≡ g a = same a (omega arith) in
    let rest : map f (range_with_len (a + 1) n) ≡ map g (range_with_len (a + 1) n) =
    same_range f g (a + 1) n (λ i h. same i (omega (arith, h))) in
    cc

pub length-by_iteration : (columns rows : ℕ) (words : List ℕ) (count : ℕ)
    → length (by_iteration columns rows words count) ≡ count
unfolding by_iteration
length-by_iteration columns rows words count =
    length-map-range_with_len (λ i. get_or words (place columns rows i) 0) 0 count

-- the next value is in a row that there is
pub row_within : (columns rows row at : ℕ) → row * columns + at < columns * rows → row < rows
row_within columns rows row at h =
    ⊎_elim (λ within. within) (λ past. absurd (omega (arith, mul-le-mul_right columns past, mul_comm columns rows)))
    (cases_lt row rows)

-- an earlier value stands in another word than the next one
apart : (columns rows row at i : ℕ) → at < columns → row < rows
    → i < row * columns + at → place columns rows i ≢ at * rows + row
apart columns rows row at i c r h e =
    let whole : columns * (i / columns) + i % columns ≡ i = div-add-mod i columns in
    let mul : columns * (i / columns) ≡ i / columns * columns = mul_comm columns (i / columns) in
    let rest : i % columns < columns = mod_below i columns (omega arith) in
    let above : i < rows * columns = omega (arith, mul-add-lt row columns at rows r c, mul_comm columns rows) in
    let below : i / columns < rows = div_below i columns rows (omega arith) above in
    let same : (i % columns ≡ at) × (i / columns ≡ row) = same_from_place (i % columns)
    (i / columns) at row rows below r e in
    let product : i / columns * columns ≡ row * columns = ap (λ k. k * columns) same.1 in
    omega arith

-- the value of a column in an iteration
pub get_or-by_iteration : (columns rows : ℕ) (words : List ℕ) (count m column : ℕ) → column < columns
    → m * columns + column < count → get_or (by_iteration columns rows words count) (m * columns + column) 0
    ≡ get_or words (column * rows + m) 0
unfolding by_iteration
get_or-by_iteration columns rows words count m column c h =
    let d : (m * columns + column) / columns ≡ m = div-mul-add m columns column c in
    let r : (m * columns + column) % columns ≡ column = mod-mul-add m columns column c in
    let at : get_or (map (λ i. get_or words (place columns rows i) 0) (range_with_len 0 count)) (m * columns + column) 0
    ≡ get_or words (place columns rows (m * columns + column)) 0 =
    get_or-map-range_with_len (λ i. get_or words (place columns rows i) 0) 0 count (m * columns + column)
    (m * columns + column) 0 h (omega arith) in
    at ∙ (rw (d, r) refl)

-- a word written at the next place appends one value
pub by_iteration_more : (columns rows : ℕ) (words : List ℕ) (row at value : ℕ) → length words ≡ columns * rows
    → at < columns → row < rows → by_iteration columns rows (set words (at * rows + row) value) (row * columns + at + 1)
    ≡ by_iteration columns rows words (row * columns + at) ++ value ∷ []
unfolding by_iteration
by_iteration_more columns rows words row at value whole c r =
    let n = row * columns + at in
    let p = at * rows + row in
    let f = λ (i : ℕ). get_or (set words p value) (place columns rows i) 0 in
    let g = λ (i : ℕ). get_or words (place columns rows i) 0 in
    let more : map f (range_with_len 0 (n + 1)) ≡ map f (range_with_len 0 n) ++ f n
    ∷ [] = map-range_with_len_more f 0 n n (omega arith) in
    let before : map f (range_with_len 0 n) ≡ map g (range_with_len 0 n) =
    same_range f g 0 n (λ i h. get_or-set_other words p (place columns rows i) value 0
    (apart columns rows row at i c r (omega (arith, h)))) in
    let d : n / columns ≡ row = div-mul-add row columns at c in
    let m : n % columns ≡ at = mod-mul-add row columns at c in
    let here : place columns rows n ≡ p = rw (d, m) refl in
    let written : f n ≡ value = get_or-set_at words p (place columns rows n) value 0 here
    (omega (arith, mul-add-lt at rows row columns c r, mul_comm columns rows)) in
    more ∙ ap₂ (λ xs x. xs ++ x ∷ []) before written

-- where there is room, the next value has a column and a row
pub next_within : (columns rows row at : ℕ) → (0 < columns → at < columns) → 1 ≤ columns * rows - (row * columns + at)
    → (at < columns) × (row < rows)
next_within columns rows row at turn room =
    let some : 0 < columns = ⊎_elim (λ h. h) (λ none. absurd (omega (arith, mul-le-mul_right rows none, zero-mul rows)))
    (cases_lt 0 columns) in
    (turn some, row_within columns rows row at (omega arith))

-- the word of a column in a row is within the words
pub place_within : (columns rows row column : ℕ) → column < columns → row < rows → column * rows + row < columns * rows
place_within columns rows row column c r = omega (arith, mul-add-lt column rows row columns c r, mul_comm columns rows)

-- a value that is there stands in a word that there is
pub value_within : (columns rows count m column : ℕ) → column < columns → m * columns + column < count
    → count ≤ columns * rows → column * rows + m < columns * rows
value_within columns rows count m column c there within =
    place_within columns rows m column c (row_within columns rows m column (omega arith))

-- the words of a column are within the words
pub column_within : (columns rows column : ℕ) → column < columns → column * rows + rows ≤ columns * rows
column_within columns rows column c = row_fits column rows columns rows c (omega arith)

-- the next value's row and column, counted as one place
pub next_row : (columns row at : ℕ) → at + 1 ≡ columns → (row + 1) * columns + 0 ≡ row * columns + at + 1
next_row columns row at full = omega (arith, add-mul row 1 columns, one-mul columns)

-- a value written at the next place is appended, and takes one place of what is spare
pub seen_more : (columns rows : ℕ) (words : List ℕ) (row at value next : ℕ) → length words ≡ columns * rows
    → (0 < columns → at < columns) → 1 ≤ columns * rows - (row * columns + at) → next ≡ row * columns + at + 1
    → words_seen columns rows (set words (at * rows + row) value) next
    ≡ record (words_seen columns rows words (row * columns + at)) {
      values = by_iteration columns rows words (row * columns + at) ++ value ∷ [];
      spare = columns * rows - (row * columns + at) - 1;
    }
seen_more columns rows words row at value next whole turn room is =
    let within : (at < columns) × (row < rows) = next_within columns rows row at turn room in
    let values : by_iteration columns rows (set words (at * rows + row) value) next
    ≡ by_iteration columns rows words (row * columns + at) ++ value
    ∷ [] = rw is (by_iteration_more columns rows words row at value whole within.0 within.1) in
    let spare : columns * rows - next ≡ columns * rows - (row * columns + at) - 1 = omega arith in
    ap₂ (λ (xs : List ℕ) (n : ℕ). let v : Values = record { columns = columns; values = xs; spare = n } in v) values
    spare

-- with no value yet, all room is spare
pub seen_none : (columns rows : ℕ) (words : List ℕ) → words_seen columns rows words (0 * columns + 0) ≡ record {
  columns = columns;
  values = [];
  spare = columns * rows;
}
unfolding by_iteration
seen_none columns rows words = let none : 0 * columns + 0 ≡ 0 = omega (arith, zero-mul columns) in
    let all : columns * rows - 0 ≡ columns * rows = omega arith in rw (none, all) refl
