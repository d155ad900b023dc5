-- Which states satisfy what a condition asks for, as herd7 counts them: the expression behind the quantifier, which is
-- conjunctions of atoms (Alglave, Maranget and Tautschnig, "Herding cats", TOPLAS 2014).
use Rattle.std.specs.Prelude.{ℕ, ◌==◌, Bool, false, not, Option, None, Some, List}
use Rattle.std.specs.List.{count_by}
use Rattle.x86_subset.specs.Conjunctions.{some_conjunction}
use Rattle.x86_subset.specs.Test.{LitmusTest}
use Rattle.x86_subset.specs.declared.test.Atom.{Atom}
use Rattle.outcome_rows.specs.Conditions.{value_in}
use Rattle.outcome_rows.specs.Rows.{Register}

-- whether there is a value, and it is this one
abbrev pub is_value : ℕ → Option ℕ → Bool
is_value v None = false
is_value v (Some w) = w == v

-- whether a row has the value of an atom
abbrev pub holds_in : List Register → List ℕ → Atom → Bool
holds_in registers values atom = is_value atom.value (value_in registers values atom.thread atom.reg)

-- whether it has the values of all atoms of some conjunction
abbrev pub is_met : LitmusTest → List Register → List ℕ → Bool
is_met test registers values = some_conjunction (holds_in registers values) test.ends test.atoms

-- how many rows have, and how many have not
abbrev pub count_met : LitmusTest → List Register → List (List ℕ) → ℕ
count_met test registers rows = count_by (is_met test registers) rows

abbrev pub count_unmet : LitmusTest → List Register → List (List ℕ) → ℕ
count_unmet test registers rows = count_by (λ row. not (is_met test registers row)) rows
