-- The text of a conversion: how a test's stores are numbered and what its atoms demand of a logged value. The format
-- is this project's own; the sequences `k*n+a` and the conversion of a condition to them are made after PerpLE
-- (Melissaris, Markakis, Shaw, Martonosi, MICRO 2020).
use Rattle.std.specs.Prelude.{ℕ, ◌+◌, ◌%◌, List, [], ◌∷◌, ◌++◌, codes, decimal}
use Rattle.std.specs.List.{flat_map}
use Rattle.report_text.specs.Words.{newline, number_line, test_line}
use Rattle.report_text.specs.declared.conversion.AtomForm.{AtomForm}
use Rattle.report_text.specs.declared.conversion.AtomForm.TheVariants.{Rf, Fr, Exact}
use Rattle.report_text.specs.declared.conversion.AtomRow.{AtomRow}
use Rattle.report_text.specs.declared.conversion.ReadRow.{ReadRow}
use Rattle.report_text.specs.declared.conversion.StoreRow.{StoreRow}
use Rattle.report_text.specs.declared.conversion.Conversion.{Conversion}

-- what a conversion says, with lists in the place of its vectors
pub record ConversionRows : Type 0 where
  pub name : List ℕ
  pub threads : ℕ
  pub stores : List StoreRow
  pub reads : List ReadRow
  pub atoms : List AtomRow

-- the rows of a `Conversion`
abbrev pub rows_of : Conversion → ConversionRows
rows_of r = record {
  name = r.name;
  threads = r.threads;
  stores = r.stores.items;
  reads = r.reads.items;
  atoms = r.atoms.items;
}

-- the line of a store, with the value that it writes in iteration n
unfoldable pub store_line : StoreRow → List ℕ
store_line s =
    codes "Store P" ++ decimal s.thread ++ codes " " ++ decimal s.place ++ codes " " ++ s.loc
    ++ codes " value " ++ decimal s.k ++ codes "*n+" ++ decimal s.a ++ newline

-- the line of a reading instruction, with its column in its thread's log
unfoldable pub read_line : ReadRow → List ℕ
read_line r =
    codes "Read P" ++ decimal r.thread ++ codes " " ++ decimal r.place ++ codes " " ++ r.loc
    ++ codes " column " ++ decimal r.column ++ newline

-- the word of an atom's form
abbrev pub form_word : AtomForm → List ℕ
form_word Rf = codes "rf"
form_word Fr = codes "fr"
form_word Exact = codes "exact"

-- the value is at least the one that the store writes in iteration m
unfoldable pub least_text : ℕ → ℕ → List ℕ
least_text k a = codes "value >= " ++ decimal k ++ codes "*m+" ++ decimal a

-- the value is one of the store's
unfoldable pub residue_text : ℕ → ℕ → List ℕ
residue_text k a = codes "value mod " ++ decimal k ++ codes " = " ++ decimal (a % k)

-- what an atom demands of the logged value, m being the writer's iteration
unfoldable pub demand_text : AtomForm → ℕ → ℕ → List ℕ
demand_text Rf k a = least_text k a ++ codes ", " ++ residue_text k a
demand_text Fr k a = codes "value < " ++ decimal k ++ codes "*m+1"
demand_text Exact k a = codes "value = " ++ decimal k ++ codes "*m+" ++ decimal a

-- the line of the atom with this number
unfoldable pub atom_line : ℕ → AtomRow → List ℕ
atom_line i r =
    codes "Atom " ++ decimal i ++ codes " " ++ form_word r.form ++ codes " P" ++ decimal r.reader
    ++ codes " column " ++ decimal r.column ++ codes " from P" ++ decimal r.writer ++ codes ": "
    ++ demand_text r.form r.k r.a ++ newline

-- the lines of the atoms, which are numbered from i on
abbrev pub atom_lines : ℕ → List AtomRow → List ℕ
atom_lines i [] = []
atom_lines i (row ∷ rows) = atom_line i row ++ atom_lines (i + 1) rows

-- the whole conversion
unfoldable pub conversion_of : ConversionRows → List ℕ
conversion_of r =
    test_line r.name ++ number_line (codes "Threads") r.threads ++ flat_map store_line r.stores
    ++ flat_map read_line r.reads ++ atom_lines 1 r.atoms
