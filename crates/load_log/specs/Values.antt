-- What contracts see of a log and of the logs of a run: this project's own layout. In contracts an iteration's values
-- stand together, one for each column; in memory the columns stand apart.
use Rattle.std.specs.Prelude.{◌≡◌, ℕ, ◌+◌, ◌-◌, ◌*◌, ◌/◌, ◌%◌, ◌<◌, ◌≤◌, All, Bool, List, MatchBool, [], false, length, map, slice_index, slice_index_or}
use Rattle.std.specs.List.{range_with_len}

-- the number of columns, the values in order, and how many more there is room for
pub record Values : Type 0 where
  pub columns : ℕ
  pub values : List ℕ
  pub spare : ℕ

-- logs in order of their threads, and how many more there is room for
pub record Lists : Type 0 where
  pub logs : List Values
  pub spare : ℕ

-- the first `count` values by iteration and then by column, where each column stands apart in the words and has `rows`
-- of them
unfoldable pub by_iteration : ℕ → ℕ → List ℕ → ℕ → List ℕ
by_iteration columns rows words count =
    map (λ i. slice_index words (i % columns * rows + i / columns)) (range_with_len 0 count)

-- what contracts see of such words
abbrev pub words_seen : ℕ → ℕ → List ℕ → ℕ → Values
words_seen columns rows words count = record {
  columns = columns;
  values = by_iteration columns rows words count;
  spare = columns * rows - count;
}

-- no value of a column is below that of an earlier iteration
abbrev pub Rises : Values → ℕ → Type 0
Rises log column =
    (i j : ℕ) → i ≤ j → j * log.columns + column < length log.values
    → slice_index log.values (i * log.columns + column) ≤ slice_index log.values (j * log.columns + column)

-- some value of a column is below that of the iteration before
abbrev pub Falls : Values → ℕ → Type 0
Falls log column =
    (n : ℕ) × ((n + 1) * log.columns + column < length log.values)
    × (slice_index log.values ((n + 1) * log.columns + column) < slice_index log.values (n * log.columns + column))

-- each column has a flag, which says whether it rises
abbrev pub AreMarked : List Bool → Values → Type 0
AreMarked flags log =
    (column : ℕ) → column < log.columns → MatchBool (slice_index_or flags column false) (Rises log column)
    (Falls log column)

-- the log of a thread; an empty one past the last
abbrev pub log_at : List Values → ℕ → Values
log_at logs t = slice_index_or logs t (record { columns = 0; values = []; spare = 0 })

-- the value of a column that a thread logged in iteration n
abbrev pub value_at : List Values → ℕ → ℕ → ℕ → ℕ
value_at logs t column n = slice_index (log_at logs t).values (n * (log_at logs t).columns + column)

-- the logs are whole for n: each has n values of each of its columns
abbrev pub AreWhole : ℕ → List Values → Type 0
AreWhole n logs = All (λ log. length log.values ≡ n * log.columns) logs
