-- The lines of a demo text as sections of a litmus text. What a line is read as is computed at each list of the bits
-- that it looks at; the place in the text, what stands after, and what the lines before have made are left open.
use Rattle.std.proofs.Common.{◌≡◌, ◌∙◌, ℕ, ◌+◌, ◌%◌, ◌++◌, Bool, false, List, [], ◌∷◌, length, refl, ap, ap₂, Result, Ok}
use Rattle.std.specs.Prelude.{codes, decimal, unwrap_or, if◌then◌else◌}
use Rattle.std.specs.Fmt.{digits}
use Rattle.x86_subset.specs.declared.instr.Reg.TheVariants.{Eax}
use Rattle.x86_subset.specs.declared.test.Atom.{Atom}
use Rattle.x86_subset.specs.declared.test.Quantifier.TheVariants.{Exists}
use Rattle.x86_subset.specs.Test.{Code, LitmusTest}
use Rattle.x86_subset.specs.Token.{Spot, Lexeme, after_bytes, is_blank, is_head, is_tail, sign, is_pair, is_single, close_end, pair_cut, cut_at, lex}
use Rattle.x86_subset.specs.Cell.{Form, Blank, Fence, StoreNumber, Load, Threads, empty_code, code_after, parse}
use Rattle.x86_subset.specs.Form.{register_of, fill, fit, meaning}
use Rattle.litmus_reader.specs.Answer.{Refusal, ◌>>=◌}
use Rattle.litmus_reader.specs.Initial.{judge, items}
use Rattle.litmus_reader.specs.Rows.{no_code, column_code, threads_after, columns_at, cell_at, cells_at, row_of, rows_at}
use Rattle.litmus_reader.specs.Condition.{Joined, after_close, section_at, quantifier_at}
use Rattle.litmus_reader.specs.Expression.{AtTerm, outermost, in_atom, at_term, after_term, expression_at}
use Rattle.litmus_reader.specs.Reading.{test_of, tokens_at}
use Rattle.demo_text.specs.declared.draw.Draw.{Draw}
use Rattle.demo_text.specs.declared.line.Line.{Line}
use Rattle.demo_text.specs.declared.line.Line.TheVariants.{Columns, First, Middle, Last, Condition}
use Rattle.demo_text.specs.Demo.{line_text}
use Rattle.demo_text.proofs.Table.{every, same_at}
use Rattle.demo_text.proofs.Lines.{plains, bits_of, line-plain}

reading : ℕ
unfolding is_blank is_head is_tail sign is_pair is_single close_end pair_cut cut_at lex register_of fill fit meaning
    parse judge items columns_at cell_at cells_at row_of rows_at after_close section_at quantifier_at in_atom at_term
    after_term expression_at tokens_at digits
reading = 0

-- ---- what the lines make

abbrev location : ℕ → List ℕ
location t = codes "v" ++ decimal t

-- what a cell of a line says, by the bit that the line looks at
abbrev form_by : Line → ℕ → ℕ → Bool → Form
form_by Columns t u b = Blank
form_by First t u b = if b then Load Eax (location u) else StoreNumber (location t) 1
form_by Middle t u b = if b then Fence else Blank
form_by Last t u b = if b then StoreNumber (location t) 1 else Load Eax (location u)
form_by Condition t u b = Blank

abbrev acted : ℕ → Threads → Form → Threads
acted t s form = threads_after t form s (unwrap_or (code_after s.locations form (column_code t s)) empty_code)

-- the threads after a row, of which the cells from t on are left
abbrev pub threads_by : Line → ℕ → ℕ → List Bool → Threads → Threads
threads_by line n t [] s = s
threads_by line n t (b ∷ bs) s = threads_by line n (t + 1) bs (acted t s (form_by line t ((t + 1) % n) b))

abbrev pub atom_by : ℕ → Bool → Atom
atom_by t b = record { thread = t; reg = Eax; value = if b then 1 else 0 }

abbrev pub atoms_by : ℕ → List Bool → List Atom
atoms_by t [] = []
atoms_by t (b ∷ bs) = atom_by t b ∷ atoms_by (t + 1) bs

abbrev joined_by : List Bool → Joined
joined_by bs = record { atoms = atoms_by 0 bs; ends = length bs ∷ [] }

-- the threads by the draws' bits
abbrev pub threads_for : ℕ → List Bool → List Bool → Threads
threads_for n ls fs = threads_by Last n 0 ls (threads_by Middle n 0 fs (threads_by First n 0 ls (no_code n)))

abbrev pub test_by : List ℕ → ℕ → List Bool → List Bool → List Bool → LitmusTest
test_by name n ls fs os = test_of name (threads_for n ls fs) Exists (joined_by os)

abbrev pub test_for : List ℕ → List Draw → LitmusTest
test_for name ds = test_by name (length ds) (bits_of First ds) (bits_of Middle ds) (bits_of Condition ds)

-- ---- the sections

-- all after the first brace
abbrev pub rest_text : List Draw → List ℕ
rest_text ds =
    codes " }\n" ++ (line_text Columns ds ++ (line_text First ds
    ++ (line_text Middle ds ++ (line_text Last ds ++ line_text Condition ds))))

-- what stands after the rows
abbrev after : ℕ → List ℕ → Result (Threads × List Lexeme) Refusal → Result LitmusTest Refusal
after last name r = do
  s ← r
  ts ← section_at last s.1
  q ← quantifier_at last ts
  j ← expression_at last (AtTerm false) outermost q.1
  Ok (test_of name s.0 q.0 j)

after_brace : (last : ℕ) (name : List ℕ) (at : Spot) (rest : List ℕ)
    → tokens_at last name (lex 0 at (codes " }\n" ++ rest))
    ≡ (columns_at last [] (lex 0 (after_bytes at (codes " }\n")) rest) >>= λ c. after last name
    (rows_at last c.0 [] c.1))
unfolding reading
after_brace last name at rest = refl

abbrev before_row : Line → ℕ → Threads → Spot → List ℕ → List Bool → Result (Threads × List Lexeme) Refusal
before_row line last s at rest bs = rows_at last s [] (lex 0 at (line_text line (plains bs) ++ rest))

abbrev after_row : Line → ℕ → ℕ → Threads → Spot → List ℕ → List Bool → Result (Threads × List Lexeme) Refusal
after_row line n last s at rest bs =
    rows_at last (threads_by line n 0 bs s) [] (lex 0 (after_bytes at (line_text line (plains bs))) rest)

-- a row is read from these threads
abbrev RowReads : Line → ℕ → Threads → List Bool → Type 0
RowReads line n s bs =
    (last : ℕ) (at : Spot) (rest : List ℕ) → every bs (before_row line last s at rest)
    ≡ every bs (after_row line n last s at rest)

-- the columns are read
abbrev ColumnsRead : List Draw → Type 0
ColumnsRead ds = (last : ℕ) (at : Spot) (rest : List ℕ)
    → columns_at last [] (lex 0 at (line_text Columns ds ++ rest))
    ≡ Ok (no_code (length ds), lex 0 (after_bytes at (line_text Columns ds)) rest)

-- the condition is read
abbrev ConditionReads : List Bool → Type 0
ConditionReads bs = (last : ℕ) (name : List ℕ) (s : Threads) (at : Spot)
    → every bs (λ bs. after last name (rows_at last s [] (lex 0 at (line_text Condition (plains bs)))))
    ≡ every bs (λ bs. Ok (test_of name s Exists (joined_by bs)))

-- the sections, one after another
module _ (ds : List Draw) (columns : ColumnsRead ds)
    (first : RowReads First (length ds) (no_code (length ds)) (bits_of First ds))
    (middle : RowReads Middle (length ds) (threads_by First (length ds) 0 (bits_of First ds) (no_code (length ds)))
    (bits_of Middle ds))
    (last_row : RowReads Last (length ds) (threads_by Middle (length ds) 0 (bits_of Middle ds)
    (threads_by First (length ds) 0 (bits_of First ds) (no_code (length ds)))) (bits_of Last ds))
    (condition : ConditionReads (bits_of Condition ds)) where
  n : ℕ
  n = length ds

  ls : List Bool
  ls = bits_of First ds

  fs : List Bool
  fs = bits_of Middle ds

  os : List Bool
  os = bits_of Condition ds

  row_read : (line : Line) (s : Threads) (bs : List Bool) → RowReads line (length ds) s bs
      → (last : ℕ) (at : Spot) (rest : List ℕ)
      → before_row line last s at rest bs ≡ after_row line (length ds) last s at rest bs
  row_read line s bs reads last at rest =
      same_at bs (before_row line last s at rest) (after_row line (length ds) last s at rest) (reads last at rest)

  rows_read : (last : ℕ) (name : List ℕ) (at : Spot)
      → after last name (rows_at last (no_code (length ds)) [] (lex 0
      at (line_text First (plains (bits_of First ds))
      ++ (line_text Middle (plains (bits_of Middle ds))
      ++ (line_text Last (plains (bits_of Last ds)) ++ line_text Condition (plains (bits_of Condition ds)))))))
      ≡ Ok (test_for name ds)
  rows_read last name at =
      ap (after last name) (
      row_read First _ (bits_of First ds) first last at _
      ∙ row_read Middle _ (bits_of Middle ds) middle last _ _
      ∙ row_read Last _ (bits_of Last ds) last_row last _ _)
      ∙ same_at (bits_of Condition ds) _ _ (condition last name _ _)

  pub all_read : (last : ℕ) (name : List ℕ) (at : Spot)
      → tokens_at last name (lex 0 at (rest_text ds)) ≡ Ok (test_for name ds)
  all_read last name at =
      after_brace last name at _
      ∙ ap (λ c. c >>= λ c. after last name (rows_at last c.0 [] c.1)) (columns last (after_bytes at (codes " }\n")) _)
      ∙ ap (λ text. after last name (rows_at last (no_code (length ds)) []
      (lex 0 (after_bytes (after_bytes at (codes " }\n")) (line_text Columns ds)) text)))
      (ap₂ (λ a b. a ++ b) (line-plain First ds) (ap₂ (λ a b. a ++ b) (line-plain Middle ds)
      (ap₂ (λ a b. a ++ b) (line-plain Last ds) (line-plain Condition ds))))
      ∙ rows_read last name (after_bytes (after_bytes at (codes " }\n")) (line_text Columns ds))

-- ---- two, three and four threads

abbrev two : List (List ℕ) → Code → Code → Threads
two xs a b = record { locations = xs; bodies = a ∷ b ∷ [] }

abbrev three : List (List ℕ) → Code → Code → Code → Threads
three xs a b c = record { locations = xs; bodies = a ∷ b ∷ c ∷ [] }

abbrev four : List (List ℕ) → Code → Code → Code → Code → Threads
four xs a b c d = record { locations = xs; bodies = a ∷ b ∷ c ∷ d ∷ [] }

columns_2 : (d e : Draw) → ColumnsRead (d ∷ e ∷ [])
unfolding reading
columns_2 d e last at rest = refl

columns_3 : (d e f : Draw) → ColumnsRead (d ∷ e ∷ f ∷ [])
unfolding reading
columns_3 d e f last at rest = refl

columns_4 : (d e f g : Draw) → ColumnsRead (d ∷ e ∷ f ∷ g ∷ [])
unfolding reading
columns_4 d e f g last at rest = refl

first_2 : (xs : List (List ℕ)) (a b : Code) (p q : Bool) → RowReads First 2 (two xs a b) (p ∷ q ∷ [])
unfolding reading
first_2 xs a b p q last at rest = refl

middle_2 : (xs : List (List ℕ)) (a b : Code) (p q : Bool) → RowReads Middle 2 (two xs a b) (p ∷ q ∷ [])
unfolding reading
middle_2 xs a b p q last at rest = refl

last_2 : (xs : List (List ℕ)) (a b : Code) (p q : Bool) → RowReads Last 2 (two xs a b) (p ∷ q ∷ [])
unfolding reading
last_2 xs a b p q last at rest = refl

condition_2 : (p q : Bool) → ConditionReads (p ∷ q ∷ [])
unfolding reading
condition_2 p q last name s at = refl

first_3 : (xs : List (List ℕ)) (a b c : Code) (p q r : Bool) → RowReads First 3 (three xs a b c) (p ∷ q ∷ r ∷ [])
unfolding reading
first_3 xs a b c p q r last at rest = refl

middle_3 : (xs : List (List ℕ)) (a b c : Code) (p q r : Bool) → RowReads Middle 3 (three xs a b c) (p ∷ q ∷ r ∷ [])
unfolding reading
middle_3 xs a b c p q r last at rest = refl

last_3 : (xs : List (List ℕ)) (a b c : Code) (p q r : Bool) → RowReads Last 3 (three xs a b c) (p ∷ q ∷ r ∷ [])
unfolding reading
last_3 xs a b c p q r last at rest = refl

condition_3 : (p q r : Bool) → ConditionReads (p ∷ q ∷ r ∷ [])
unfolding reading
condition_3 p q r last name s at = refl

first_4 : (xs : List (List ℕ)) (a b c d : Code) (p q r w : Bool)
    → RowReads First 4 (four xs a b c d) (p ∷ q ∷ r ∷ w ∷ [])
unfolding reading
first_4 xs a b c d p q r w last at rest = refl

middle_4 : (xs : List (List ℕ)) (a b c d : Code) (p q r w : Bool)
    → RowReads Middle 4 (four xs a b c d) (p ∷ q ∷ r ∷ w ∷ [])
unfolding reading
middle_4 xs a b c d p q r w last at rest = refl

last_4 : (xs : List (List ℕ)) (a b c d : Code) (p q r w : Bool) → RowReads Last 4 (four xs a b c d) (p ∷ q ∷ r ∷ w ∷ [])
unfolding reading
last_4 xs a b c d p q r w last at rest = refl

condition_4 : (p q r w : Bool) → ConditionReads (p ∷ q ∷ r ∷ w ∷ [])
unfolding reading
condition_4 p q r w last name s at = refl

pub reads_2 : (d e : Draw) (last : ℕ) (name : List ℕ) (at : Spot)
    → tokens_at last name (lex 0 at (rest_text (d ∷ e ∷ []))) ≡ Ok (test_for name (d ∷ e ∷ []))
reads_2 d e =
    let one : Threads = (threads_by First 2 0 (d.loads_first ∷ e.loads_first ∷ []) (no_code 2)) in
    let both : Threads = (threads_by Middle 2 0 (d.fenced ∷ e.fenced ∷ [])
    (threads_by First 2 0 (d.loads_first ∷ e.loads_first ∷ []) (no_code 2))) in
    all_read (d ∷ e ∷ []) (columns_2 d e)
    (first_2 [] empty_code empty_code d.loads_first e.loads_first)
    (middle_2 one.locations (column_code 0 one) (column_code 1 one) d.fenced e.fenced)
    (last_2 both.locations (column_code 0 both) (column_code 1 both) d.loads_first e.loads_first)
    (condition_2 d.wants_one e.wants_one)

pub reads_3 : (d e f : Draw) (last : ℕ) (name : List ℕ) (at : Spot)
    → tokens_at last name (lex 0 at (rest_text (d ∷ e ∷ f ∷ []))) ≡ Ok (test_for name (d ∷ e ∷ f ∷ []))
reads_3 d e f =
    let one : Threads = (threads_by First 3 0 (d.loads_first ∷ e.loads_first ∷ f.loads_first ∷ []) (no_code 3)) in
    let both : Threads = (threads_by Middle 3 0 (d.fenced ∷ e.fenced ∷ f.fenced ∷ [])
    (threads_by First 3 0 (d.loads_first ∷ e.loads_first ∷ f.loads_first ∷ []) (no_code 3))) in
    all_read (d ∷ e ∷ f ∷ []) (columns_3 d e f)
    (first_3 [] empty_code empty_code empty_code d.loads_first e.loads_first f.loads_first)
    (middle_3 one.locations (column_code 0 one) (column_code 1 one) (column_code 2 one) d.fenced e.fenced f.fenced)
    (last_3 both.locations (column_code 0 both) (column_code 1 both)
    (column_code 2 both) d.loads_first e.loads_first f.loads_first)
    (condition_3 d.wants_one e.wants_one f.wants_one)

pub reads_4 : (d e f g : Draw) (last : ℕ) (name : List ℕ) (at : Spot)
    → tokens_at last name (lex 0 at (rest_text (d ∷ e ∷ f ∷ g ∷ []))) ≡ Ok (test_for name (d ∷ e ∷ f ∷ g ∷ []))
reads_4 d e f g =
    let one : Threads = (threads_by First 4 0 (d.loads_first ∷ e.loads_first ∷ f.loads_first ∷ g.loads_first ∷ [])
    (no_code 4)) in
    let both : Threads = (threads_by Middle 4 0 (d.fenced ∷ e.fenced ∷ f.fenced ∷ g.fenced ∷ [])
    (threads_by First 4 0 (d.loads_first ∷ e.loads_first ∷ f.loads_first ∷ g.loads_first ∷ []) (no_code 4))) in
    all_read (d ∷ e ∷ f ∷ g ∷ []) (columns_4 d e f g)
    (first_4 [] empty_code empty_code empty_code empty_code d.loads_first e.loads_first f.loads_first g.loads_first)
    (middle_4 one.locations (column_code 0 one) (column_code 1 one) (column_code 2 one)
    (column_code 3 one) d.fenced e.fenced f.fenced g.fenced)
    (last_4 both.locations (column_code 0 both) (column_code 1 both) (column_code 2 both)
    (column_code 3 both) d.loads_first e.loads_first f.loads_first g.loads_first)
    (condition_4 d.wants_one e.wants_one f.wants_one g.wants_one)
