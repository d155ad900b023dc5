-- What each cell keeps, a whole text keeps: what holds of the threads before the first row holds of those that are
-- read.
use Rattle.std.proofs.Common.{◌≡◌, ℕ, zero, suc, Bool, true, false, cond, All, List, [], ◌∷◌, ◌++◌, length, Option, Some, None, Result, Ok, Err, refl, subst, arith}
use Rattle.std.specs.Prelude.{◌==◌, slice_index_or}
use Rattle.std.specs.List.{onto_first, slice_split}
use Rattle.x86_subset.specs.declared.cell.InstrError.{InstrError}
use Rattle.x86_subset.specs.declared.test.Quantifier.{Quantifier}
use Rattle.x86_subset.specs.declared.token.TokenKind.TheVariants.{Semi, Bar, RightBrace}
use Rattle.x86_subset.specs.Test.{Code, LitmusTest}
use Rattle.x86_subset.specs.Token.{Spot, Lexeme, lex}
use Rattle.x86_subset.specs.Form.{is}
use Rattle.x86_subset.specs.Cell.{Form, Threads, empty_code, code_after, parse}
use Rattle.litmus_reader.specs.declared.kind.LitmusKind.TheVariants.{Column}
use Rattle.litmus_reader.specs.Answer.{refuse, ◌>>=◌, line_at, last_line}
use Rattle.litmus_reader.specs.Front.{Rest, first_line, head}
use Rattle.litmus_reader.specs.Initial.{ends_item, judge, items}
use Rattle.litmus_reader.specs.Rows.{cells, are_columns, no_code, columns_at, column_code, threads_after, ends_code, acted, act, cell_at, cells_at, row_of, rows_at}
use Rattle.litmus_reader.specs.Condition.{Joined, quantifier_at, section_at}
use Rattle.litmus_reader.specs.Expression.{AtTerm, expression_at, outermost}
use Rattle.litmus_reader.specs.Reading.{test_of, tokens_at, sections_at}
use Rattle.litmus_reader.proofs.Bound.{bound, ok_is}

-- what each body has and the empty one has, the body of each thread has
pub body_has : (P : Code → Type 0) → P empty_code → (i : ℕ) (s : Threads) → All P s.bodies → P (column_code i s)
body_has P none i s h = go s.bodies i h
  where
    go : (bodies : List Code) (i : ℕ) → All P bodies → P (slice_index_or bodies i empty_code)
    go [] i k = none
    go (b ∷ bs) zero k = k 0 empty_code (omega arith)
    go (b ∷ bs) (suc i) k = go bs i (λ j d w. k (suc j) d (omega arith))

-- ---- tokens of which something holds

-- it holds of each token
abbrev pub Are : (Lexeme → Type 0) → List Lexeme → Type 0
Are Plain [] = Unit {0}
Are Plain (t ∷ ts) = Plain t × Are Plain ts

abbrev AllAre : (Lexeme → Type 0) → List (List Lexeme) → Type 0
AllAre Plain [] = Unit {0}
AllAre Plain (ts ∷ more) = Are Plain ts × AllAre Plain more

-- what is asked of no token
abbrev pub Anything : Lexeme → Type 0
Anything t = Unit {0}

anything : (ts : List Lexeme) → Are Anything ts
anything [] = tt
anything (t ∷ ts) = (tt, anything ts)

-- a test, by the threads and the condition that were read, where something holds of the threads
pub record Kept (Good : Threads → Type 0) (name : List ℕ) (test : LitmusTest) : Type 0 where
  pub threads : Threads
  pub good : Good threads
  pub quantifier : Quantifier
  pub joined : Joined
  pub last : ℕ
  pub rest : List Lexeme
  pub condition : expression_at last (AtTerm false) outermost rest ≡ Ok joined
  pub is : test_of name threads quantifier joined ≡ test

-- the same, after a first line
pub record KeptBehind (Good : Threads → Type 0) (text : List ℕ) (test : LitmusTest) : Type 0 where
  pub first : List ℕ × Rest
  pub is_first : first_line text ≡ Ok first
  pub kept : Kept Good first.0 test

module _ (Plain : Lexeme → Type 0) (Good : Threads → Type 0)
    (start : (row : List Lexeme) → Good (no_code (length (cells row))))
    (keeps : (i : ℕ) (s : Threads) (cell : List Lexeme) (form : Form) (code : Code) → Are Plain cell
    → parse cell ≡ Ok form
    → code_after s.locations form (column_code i s) ≡ Some code → Good s → Good (threads_after i form s code)) where
  are_append : (a b : List Lexeme) → Are Plain a → Are Plain b → Are Plain (a ++ b)
  are_append [] b h k = k
  are_append (t ∷ a) b h k = (h.0, are_append a b h.1 k)

  are_split : (ts : List Lexeme) → Are Plain ts → AllAre Plain (slice_split (is Bar) ts)
  are_split [] h = (tt, tt)
  are_split (t ∷ ts) h = go (is Bar t) (slice_split (is Bar) ts) (are_split ts h.1)
    where
      go : (v : Bool) (parts : List (List Lexeme)) → AllAre Plain parts
          → AllAre Plain (cond v ([] ∷ parts) (onto_first t parts))
      go true parts k = (tt, k)
      go false [] k = ((h.0, tt), tt)
      go false (p ∷ ps) k = ((h.0, k.0), k.1)

  -- ---- cells and rows

  acted_keeps : (i : ℕ) (s : Threads) (cell : List Lexeme) (form : Form) (o : Option Code) (line : ℕ) (next : Threads)
      → Are Plain cell → parse cell ≡ Ok form
      → code_after s.locations form (column_code i s) ≡ o → acted i form s o line ≡ Ok next → Good s → Good next
  acted_keeps i s cell form None line next p m k e h = absurd cc
  acted_keeps i s cell form (Some code) line next p m k e h =
      subst Good (ok_is (threads_after i form s code) next e) (keeps i s cell form code p m k h)

  act_keeps : (i : ℕ) (s : Threads) (cell : List Lexeme) (r : Result Form InstrError) (line : ℕ) (next : Threads)
      → Are Plain cell → parse cell ≡ r
      → act i s r line ≡ Ok next → Good s → Good next
  act_keeps i s cell (Err d) line next p m e h = absurd cc
  act_keeps i s cell (Ok form) line next p m e h =
      acted_keeps i s cell form (code_after s.locations form (column_code i s)) line next p m refl e h

  cell_keeps : (i : ℕ) (s : Threads) (cell : List Lexeme) (next : Threads) → Are Plain cell → cell_at i s cell ≡ Ok next
      → Good s → Good next
  unfolding cell_at
  cell_keeps i s cell next p e h = act_keeps i s cell (parse cell) (line_at 0 cell) next p refl e h

  cells_keep : (i : ℕ) (s : Threads) (cs : List (List Lexeme)) (next : Threads) → AllAre Plain cs
      → cells_at i s cs ≡ Ok next → Good s → Good next
  unfolding cells_at
  cells_keep i s [] next p e h = subst Good (ok_is s next e) h
  cells_keep i s (c ∷ cs) next p e h =
      let b = bound (cell_at i s c) (λ next. cells_at (suc i) next cs) next e in
      cells_keep (suc i) b.0 cs next p.1 b.2 (cell_keeps i s c b.0 p.0 b.1 h)

  row_keeps : (line : ℕ) (s : Threads) (row : List Lexeme) (next : Threads) → Are Plain row
      → row_of line s row ≡ Ok next → Good s → Good next
  unfolding row_of
  row_keeps line s row next p e h = go (length (cells row) == length s.bodies) e
    where
      go : (v : Bool) → cond v (cells_at 0 s (cells row)) (refuse Column line) ≡ Ok next → Good next
      go true k = cells_keep 0 s (cells row) next (are_split row p) k h
      go false k = absurd cc

  rows_keep : (last : ℕ) (s : Threads) (row ts : List Lexeme) (x : Threads × List Lexeme) → Are Plain row → Are Plain ts
      → rows_at last s row ts ≡ Ok x → Good s → Good x.0
  unfolding rows_at
  rows_keep last s [] [] x m n e h = absurd cc
  rows_keep last s (y ∷ row) [] x m n e h = absurd cc
  rows_keep last s [] (t ∷ ts) x m n e h =
      go (λ next k. rows_keep last next [] ts x tt n.1 k) (rows_keep last s (t ∷ []) ts x (n.0, tt) n.1) (ends_code t)
      (is Semi t) e
    where
      go : ((next : Threads) → rows_at last next [] ts ≡ Ok x → Good next → Good x.0)
          → (rows_at last s (t ∷ []) ts ≡ Ok x → Good s → Good x.0) → (v w : Bool)
          → cond v (Ok (s, t ∷ ts)) (cond w (row_of t.line s [] >>= (λ next. rows_at last next [] ts))
          (rows_at last s (t ∷ []) ts)) ≡ Ok x
          → Good x.0
      go again longer true w k = subst (λ (x : Threads × List Lexeme). Good x.0) (ok_is (s, t ∷ ts) x k) h
      go again longer false true k =
          let b = bound (row_of t.line s []) (λ next. rows_at last next [] ts) x k in
          again b.0 b.2 (row_keeps t.line s [] b.0 tt b.1 h)
      go again longer false false k = longer k h
  rows_keep last s (y ∷ row) (t ∷ ts) x m n e h =
      go (λ next k. rows_keep last next [] ts x tt n.1 k)
      (rows_keep last s (y ∷ (row ++ t ∷ [])) ts x (m.0, are_append row (t ∷ []) m.1 (n.0, tt)) n.1) (is Semi t) e
    where
      go : ((next : Threads) → rows_at last next [] ts ≡ Ok x → Good next → Good x.0)
          → (rows_at last s (y ∷ (row ++ t ∷ [])) ts ≡ Ok x → Good s → Good x.0) → (w : Bool)
          → cond w (row_of t.line s (y ∷ row) >>= (λ next. rows_at last next [] ts))
          (rows_at last s (y ∷ (row ++ t ∷ [])) ts) ≡ Ok x
          → Good x.0
      go again longer true k =
          let b = bound (row_of t.line s (y ∷ row)) (λ next. rows_at last next [] ts) x k in
          again b.0 b.2 (row_keeps t.line s (y ∷ row) b.0 m b.1 h)
      go again longer false k = longer k h

  columns_keep : (last : ℕ) (row ts : List Lexeme) (x : Threads × List Lexeme) → Are Plain ts
      → columns_at last row ts ≡ Ok x → Good x.0 × Are Plain x.1
  unfolding columns_at
  columns_keep last row [] x h e = absurd cc
  columns_keep last row (t ∷ ts) x h e =
      go (columns_keep last (row ++ t ∷ []) ts x h.1) (is Semi t) (are_columns 0 (cells row)) e
    where
      go : (columns_at last (row ++ t ∷ []) ts ≡ Ok x → Good x.0 × Are Plain x.1) → (v w : Bool)
          → cond v (cond w (Ok (no_code (length (cells row)), ts)) (refuse Column t.line))
          (columns_at last (row ++ t ∷ []) ts) ≡ Ok x
          → Good x.0 × Are Plain x.1
      go longer true true k =
          subst (λ (x : Threads × List Lexeme). Good x.0 × Are Plain x.1) (ok_is (no_code (length (cells row)), ts) x k)
          (start row, h.1)
      go longer true false k = absurd cc
      go longer false w k = longer k

  -- the tokens after the initial state
  items_keep : (last : ℕ) (item ts rest : List Lexeme) → Are Plain ts → items last item ts ≡ Ok rest → Are Plain rest
  unfolding items
  items_keep last item [] rest h e = absurd cc
  items_keep last item (t ∷ ts) rest h e =
      go (items_keep last [] ts rest h.1) (items_keep last (item ++ t ∷ []) ts rest h.1) (ends_item t)
      (is RightBrace t) e
    where
      ends : (items last [] ts ≡ Ok rest → Are Plain rest) → (w : Bool) → cond w (Ok ts) (items last [] ts) ≡ Ok rest
          → Are Plain rest
      ends next true k = subst (Are Plain) (ok_is ts rest k) h.1
      ends next false k = next k

      go : (items last [] ts ≡ Ok rest → Are Plain rest) → (items last (item ++ t ∷ []) ts ≡ Ok rest → Are Plain rest)
          → (v w : Bool)
          → cond v (judge item >>= (λ _. cond w (Ok ts) (items last [] ts))) (items last (item ++ t ∷ []) ts) ≡ Ok rest
          → Are Plain rest
      go next longer true w k =
          let b = bound (judge item) (λ _. cond w (Ok ts) (items last [] ts)) rest k in ends next w b.2
      go next longer false w k = longer k

  -- ---- the whole text

  tokens_keep : (last : ℕ) (name : List ℕ) (ts : List Lexeme) (test : LitmusTest) → Are Plain ts
      → tokens_at last name ts ≡ Ok test → Kept Good name test
  unfolding tokens_at
  tokens_keep last name ts test h e =
      let i = bound (items last [] ts) _ test e in
      let c = bound (columns_at last [] i.0) _ test i.2 in
      let s = bound (rows_at last c.0.0 [] c.0.1) _ test c.2 in
      let l = bound (section_at last s.0.1) _ test s.2 in
      let q = bound (quantifier_at last l.0) _ test l.2 in
      let j = bound (expression_at last (AtTerm false) outermost q.0.1) _ test q.2 in
      let p = columns_keep last [] i.0 c.0 (items_keep last [] ts i.0 h i.1) c.1 in record {
        threads = s.0.0;
        good = rows_keep last c.0.0 [] c.0.1 s.0 tt p.1 s.1 p.0;
        quantifier = q.0.0;
        joined = j.0;
        last = last;
        rest = q.0.1;
        condition = j.1;
        is = ok_is (test_of name s.0.0 q.0.0 j.0) test j.2;
      }

  pub sections_keep : (text : List ℕ) (test : LitmusTest) → ((at : Spot) (text : List ℕ) → Are Plain (lex 0 at text))
      → sections_at text ≡ Ok test → KeptBehind Good text test
  unfolding sections_at
  sections_keep text test all e =
      let f = bound (first_line text) _ test e in
      let h = bound (head (last_line text) 0 f.0.1.at f.0.1.text) _ test f.2 in record {
        first = f.0;
        is_first = f.1;
        kept = tokens_keep (last_line text) f.0.0 (lex 0 h.0.at h.0.text) test (all h.0.at h.0.text) h.2;
      }

-- where nothing is asked of the tokens
pub threads_keep : (Good : Threads → Type 0) → ((row : List Lexeme) → Good (no_code (length (cells row))))
    → ((i : ℕ) (s : Threads) (form : Form) (code : Code) → code_after s.locations form (column_code i s) ≡ Some code
    → Good s → Good (threads_after i form s code))
    → (text : List ℕ) (test : LitmusTest) → sections_at text ≡ Ok test → KeptBehind Good text test
threads_keep Good start keeps text test e =
    sections_keep Anything Good start (λ i s cell form code p m k h. keeps i s form code k h) text test
    (λ at text. anything (lex 0 at text)) e
