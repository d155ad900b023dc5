-- What a conversion says of a test: the sequence of each store, the column of each reading action, and what each atom
-- asks of a logged value, after PerpLE's conversion of a test (Melissaris, Markakis, Shaw and Martonosi, MICRO 2020).
-- Which rows stand in it, and their order, are this project's own.
use Rattle.std.specs.Prelude.{ℕ, ◌+◌, Option, None, Some, List, [], ◌∷◌, ◌++◌, length, map, slice_get, unwrap_or}
use Rattle.x86_subset.specs.Test.{Code, LitmusTest, column_of}
use Rattle.x86_subset.specs.declared.instr.Instr.{Instr}
use Rattle.x86_subset.specs.declared.instr.Instr.TheVariants.{Store, Load, Fence, Exchange}
use Rattle.seq_conv.specs.Sequence.{rank_of, store_count}
use Rattle.seq_conv.specs.declared.site.Site.{Site}
use Rattle.profile_check.specs.declared.kind.AtomKind.{AtomKind}
use Rattle.outcome_conv.specs.Conds.{conds_of}
use Rattle.outcome_conv.specs.declared.cond.Cond.{Cond}
use Rattle.outcome_conv.specs.declared.cond.CondKind.{CondKind}
use Rattle.outcome_conv.specs.declared.cond.CondKind.TheVariants.{AtLeast, Below}
use Rattle.outcome_conv.specs.declared.cond.CondKind.TheVariants as cond_kind
use Rattle.report_text.specs.Conversion.{ConversionRows}
use Rattle.report_text.specs.declared.conversion.AtomForm.TheVariants.{Rf, Fr, Exact}
use Rattle.report_text.specs.declared.conversion.AtomRow.{AtomRow}
use Rattle.report_text.specs.declared.conversion.ReadRow.{ReadRow}
use Rattle.report_text.specs.declared.conversion.StoreRow.{StoreRow}

-- the location that an action writes, and the one that it reads; an exchange does both
abbrev pub location_written : Instr → Option ℕ
location_written (Store loc written) = Some loc
location_written (Load reg loc) = None
location_written Fence = None
location_written (Exchange loc written reg) = Some loc

abbrev pub location_taken : Instr → Option ℕ
location_taken (Store loc written) = None
location_taken (Load reg loc) = Some loc
location_taken Fence = None
location_taken (Exchange loc written reg) = Some loc

-- the name of a location
abbrev pub name_of : LitmusTest → ℕ → List ℕ
name_of test x = unwrap_or (slice_get test.locations x) []

-- the row of a store to x
abbrev pub store_row : LitmusTest → Site → ℕ → StoreRow
store_row test s x =
    record { thread = s.thread; place = s.place; loc = name_of test x; k = store_count test x; a = rank_of test x s }

-- the row of a reading action of x
abbrev pub read_row : LitmusTest → Site → ℕ → ReadRow
read_row test s x =
    record { thread = s.thread; place = s.place; loc = name_of test x; column = column_of test s.thread s.place }

-- one row where there is a location, and else none
abbrev pub row_by : {X : Type 0} → (ℕ → X) → Option ℕ → List X
row_by row None = []
row_by row (Some x) = row x ∷ []

abbrev pub store_rows_at : LitmusTest → Site → Instr → List StoreRow
store_rows_at test s action = row_by (store_row test s) (location_written action)

abbrev pub read_rows_at : LitmusTest → Site → Instr → List ReadRow
read_rows_at test s action = row_by (read_row test s) (location_taken action)

-- the rows of the actions of thread t, where the first action has place p
abbrev pub rows_in_body : {X : Type 0} → (Site → Instr → List X) → ℕ → ℕ → List Instr → List X
rows_in_body rows t p [] = []
rows_in_body rows t p (action ∷ actions) =
    rows (record { thread = t; place = p }) action ++ rows_in_body rows t (p + 1) actions

-- the rows of bodies of which the first is thread t, by thread and then by place
abbrev pub rows_in_bodies : {X : Type 0} → (Site → Instr → List X) → ℕ → List Code → List X
rows_in_bodies rows t [] = []
rows_in_bodies rows t (code ∷ codes) = rows_in_body rows t 0 code.actions ++ rows_in_bodies rows (t + 1) codes

-- the row of a condition in numbers. The text of a from-read atom has no rank; its row has that of the location's
-- first store
abbrev pub atom_row_by : CondKind → Cond → AtomRow
atom_row_by (AtLeast k a) c =
    record { form = Rf; reader = c.reader; column = c.column; writer = c.writer; k = k; a = a }
atom_row_by (Below k) c = record { form = Fr; reader = c.reader; column = c.column; writer = c.writer; k = k; a = 1 }
atom_row_by (cond_kind.Exact k a) c =
    record { form = Exact; reader = c.reader; column = c.column; writer = c.writer; k = k; a = a }

abbrev pub atom_row : Cond → AtomRow
atom_row c = atom_row_by c.kind c

-- the rows of a test whose atoms have these kinds
abbrev pub conversion_rows_of : LitmusTest → List AtomKind → ConversionRows
conversion_rows_of test kinds = record {
  name = test.name;
  threads = length test.bodies;
  stores = rows_in_bodies (store_rows_at test) 0 test.bodies;
  reads = rows_in_bodies (read_rows_at test) 0 test.bodies;
  atoms = map atom_row (conds_of test kinds);
}
