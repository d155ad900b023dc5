-- The rows of the code of herdtools' X86 litmus format, in the profile that this project takes.
use Rattle.std.specs.Prelude.{◌≡◌, ℕ, suc, Bool, true, false, not, ◌&&◌, ◌||◌, IsTrue, IsFalse, List, [], ◌∷◌, ◌++◌, length, replicate, slice_index_or, slice_set, Option, Some, None, Result, Ok, Err, if◌then◌else◌, ◌==◌, codes, decimal}
use Rattle.std.specs.List.{list_all, slice_split}
use Rattle.x86_subset.specs.declared.token.TokenKind.TheVariants.{Semi, Bar, Tilde}
use Rattle.x86_subset.specs.Test.{Code}
use Rattle.x86_subset.specs.Token.{Lexeme}
use Rattle.x86_subset.specs.Form.{is, is_word}
use Rattle.x86_subset.specs.Cell.{Form, Parses, parse, Threads, empty_code, code_after, locations_after}
use Rattle.x86_subset.specs.declared.cell.InstrError.{InstrError}
use Rattle.litmus_reader.specs.declared.kind.LitmusKind.TheVariants.{Column, Instruction, NotConstant, Condition}
use Rattle.litmus_reader.specs.Answer.{Refusal, refuse, ◌>>=◌, line_at}

-- ---- rows and cells

-- the token is no `;`
abbrev pub is_no_semi : Lexeme → Bool
is_no_semi t = not (is Semi t)

-- the parts between bars
abbrev pub cells : List Lexeme → List (List Lexeme)
cells row = slice_split (is Bar) row

-- ---- the row of columns

-- the cell names the column
abbrev pub is_column : ℕ → List Lexeme → Bool
is_column i (t ∷ []) = is_word (codes "P" ++ decimal i) t
is_column i _ = false

-- the cells name the columns from this one on
abbrev pub are_columns : ℕ → List (List Lexeme) → Bool
are_columns i [] = true
are_columns i (cell ∷ cells) = is_column i cell && are_columns (suc i) cells

-- so many threads without code
abbrev pub no_code : ℕ → Threads
no_code threads = record { locations = []; bodies = replicate threads empty_code }

-- `Columns last tokens answer`: the threads of the first row, and the tokens after it
pub data Columns (last : ℕ) : List Lexeme → Result (Threads × List Lexeme) Refusal → Type 0 where
  -- the row of columns has no end
  unended : {ts : List Lexeme} → IsTrue (list_all is_no_semi ts) → Columns last ts (refuse Column last)
  -- a cell is not its column's name: the line of the `;`
  wrong : (row : List Lexeme) (t : Lexeme) (rest : List Lexeme) → IsTrue (list_all is_no_semi row) → IsTrue (is Semi t)
      → IsFalse (are_columns 0 (cells row))
      → Columns last (row ++ t ∷ rest) (refuse Column t.line)
  -- as many threads as cells
  columns : (row : List Lexeme) (t : Lexeme) (rest : List Lexeme) → IsTrue (list_all is_no_semi row)
      → IsTrue (is Semi t) → IsTrue (are_columns 0 (cells row))
      → Columns last (row ++ t ∷ rest) (Ok (no_code (length (cells row)), rest))

-- ---- one cell

-- the code of column i so far
abbrev pub column_code : ℕ → Threads → Code
column_code i s = slice_index_or s.bodies i empty_code

-- the threads after a form in the column i
abbrev pub threads_after : ℕ → Form → Threads → Code → Threads
threads_after i form s code =
    record { locations = locations_after s.locations form; bodies = slice_set s.bodies i code }

-- the threads after a cell of the column i
pub data Cell (i : ℕ) (s : Threads) (ts : List Lexeme) : Result Threads Refusal → Type 0 where
  -- nothing, for whatever cause: the line where the cell begins
  no_form : (e : InstrError) → Parses ts (Err e) → Cell i s ts (refuse Instruction (line_at 0 ts))
  -- a store or exchange of a register that holds a read, likewise
  not_constant : (form : Form) → Parses ts (Ok form) → code_after s.locations form (column_code i s) ≡ None
      → Cell i s ts (refuse NotConstant (line_at 0 ts))
  -- the form acts on its thread
  acts : (form : Form) (code : Code) → Parses ts (Ok form) → code_after s.locations form (column_code i s) ≡ Some code
      → Cell i s ts (Ok (threads_after i form s code))

-- the cells of a row, from the column i on
pub data Cells : ℕ → Threads → List (List Lexeme) → Result Threads Refusal → Type 0 where
  -- all cells are read
  none : {i : ℕ} {s : Threads} → Cells i s [] (Ok s)
  -- the first cell with a kind
  refused : {i : ℕ} {s : Threads} {cell : List Lexeme} {more : List (List Lexeme)} (e : Refusal) → Cell i s cell (Err e)
      → Cells i s (cell ∷ more) (Err e)
  -- a cell, and then those right of it
  one : {i : ℕ} {s : Threads} {cell : List Lexeme} {more : List (List Lexeme)} {r : Result Threads Refusal}
      (next : Threads)
      → Cell i s cell (Ok next) → Cells (suc i) next more r → Cells i s (cell ∷ more) r

-- ---- the rows of code

-- the code has ended
abbrev pub ends_code : Lexeme → Bool
ends_code t = is Tilde t || is_word (codes "exists") t || is_word (codes "forall") t || is_word (codes "locations") t

-- the next token ends the code
abbrev pub at_end : List Lexeme → Bool
at_end [] = false
at_end (t ∷ ts) = ends_code t

-- what a row with a `;` in this line does
pub data RowOf (line : ℕ) (s : Threads) (row : List Lexeme) : Result Threads Refusal → Type 0 where
  -- more or fewer cells than threads: the line of the `;`
  other_number : IsFalse (length (cells row) == length s.bodies) → RowOf line s row (refuse Column line)
  -- the cells in their order
  read : {r : Result Threads Refusal} → IsTrue (length (cells row) == length s.bodies) → Cells 0 s (cells row) r
      → RowOf line s row r

-- `Rows last threads tokens answer`: a row begins here
pub data Rows (last : ℕ) : Threads → List Lexeme → Result (Threads × List Lexeme) Refusal → Type 0 where
  -- the text is over where a row would begin
  text_ended : {s : Threads} → Rows last s [] (refuse Condition last)
  -- a token that ends the code; it stays
  ended : {s : Threads} {t : Lexeme} {ts : List Lexeme} → IsTrue (ends_code t) → Rows last s (t ∷ ts) (Ok (s, t ∷ ts))
  -- a row without an end
  unended : {s : Threads} {t : Lexeme} {ts : List Lexeme} → IsFalse (ends_code t)
      → IsTrue (list_all is_no_semi (t ∷ ts)) → Rows last s (t ∷ ts) (refuse Column last)
  -- a row with a kind
  refused : {s : Threads} (row : List Lexeme) (t : Lexeme) (rest : List Lexeme) (e : Refusal) → IsFalse (at_end row)
      → IsTrue (list_all is_no_semi row) → IsTrue (is Semi t)
      → RowOf t.line s row (Err e) → Rows last s (row ++ t ∷ rest) (Err e)
  -- a row, and then the next
  another : {s : Threads} (row : List Lexeme) (t : Lexeme) (rest : List Lexeme) (next : Threads)
      {r : Result (Threads × List Lexeme) Refusal}
      → IsFalse (at_end row) → IsTrue (list_all is_no_semi row) → IsTrue (is Semi t)
      → RowOf t.line s row (Ok next) → Rows last next rest r → Rows last s (row ++ t ∷ rest) r

-- ---- the same as functions

-- the threads of a first row
abbrev pub columns_in : List Lexeme → Lexeme → List Lexeme → Result (Threads × List Lexeme) Refusal
columns_in row t rest =
    if are_columns 0 (cells row) then Ok (no_code (length (cells row)), rest) else refuse Column t.line

-- the tokens of the first row so far, and then the others
unfoldable pub columns_at : ℕ → List Lexeme → List Lexeme → Result (Threads × List Lexeme) Refusal
columns_at last row [] = refuse Column last
columns_at last row (t ∷ ts) =
    let longer = columns_at last (row ++ t ∷ []) ts in
    if is Semi t then columns_in row t ts else longer

-- the threads after a form, if it may stand there
abbrev pub acted : ℕ → Form → Threads → Option Code → ℕ → Result Threads Refusal
acted i form s None line = refuse NotConstant line
acted i form s (Some code) line = Ok (threads_after i form s code)

-- the threads after what a cell says
abbrev pub act : ℕ → Threads → Result Form InstrError → ℕ → Result Threads Refusal
act i s (Err e) line = refuse Instruction line
act i s (Ok form) line = acted i form s (code_after s.locations form (column_code i s)) line

-- the threads after a cell
unfoldable pub cell_at : ℕ → Threads → List Lexeme → Result Threads Refusal
cell_at i s cell = act i s (parse cell) (line_at 0 cell)

-- the threads after the cells from a column on
unfoldable pub cells_at : ℕ → Threads → List (List Lexeme) → Result Threads Refusal
cells_at i s [] = Ok s
cells_at i s (cell ∷ more) = cell_at i s cell >>= λ next. cells_at (suc i) next more

-- the threads after a row
unfoldable pub row_of : ℕ → Threads → List Lexeme → Result Threads Refusal
row_of line s row =
    let r = cells_at 0 s (cells row) in if length (cells row) == length s.bodies then r else refuse Column line

-- the tokens of a row so far, and then the others
unfoldable pub rows_at : ℕ → Threads → List Lexeme → List Lexeme → Result (Threads × List Lexeme) Refusal
rows_at last s [] [] = refuse Condition last
rows_at last s (x ∷ row) [] = refuse Column last
rows_at last s [] (t ∷ ts) =
    let longer = rows_at last s (t ∷ []) ts in
    if ends_code t then Ok (s, t ∷ ts) else
    if is Semi t then row_of t.line s [] >>= (λ next. rows_at last next [] ts) else longer
rows_at last s (x ∷ row) (t ∷ ts) =
    let longer = rows_at last s (x ∷ (row ++ t ∷ [])) ts in
    if is Semi t then row_of t.line s (x ∷ row) >>= (λ next. rows_at last next [] ts) else longer
