-- What a row says of the condition of a test, as herdtools' litmus format has it. This project's own.
use Rattle.std.specs.Prelude.{◌≡◌, ℕ, ◌==◌, ◌&&◌, Bool, true, Option, None, Some, List, [], ◌∷◌, All, if◌then◌else◌}
use Rattle.std.specs.List.{list_any}
use Rattle.x86_subset.specs.Conjunctions.{conjunction_of}
use Rattle.x86_subset.specs.Registers.{register_number}
use Rattle.x86_subset.specs.Test.{LitmusTest}
use Rattle.x86_subset.specs.declared.instr.Reg.{Reg}
use Rattle.x86_subset.specs.declared.test.Atom.{Atom}
use Rattle.outcome_rows.specs.Rows.{Register}

abbrev pub is_register : ℕ → Reg → Register → Bool
is_register t reg register = (register.thread == t) && (register_number register.reg == register_number reg)

-- the value of a register in a row
abbrev pub value_in : List Register → List ℕ → ℕ → Reg → Option ℕ
value_in [] values t reg = None
value_in (register ∷ registers) [] t reg = None
value_in (register ∷ registers) (v ∷ values) t reg =
    if is_register t reg register then Some v else value_in registers values t reg

-- the row has the values that conjunction c of the condition names
abbrev pub Satisfies : LitmusTest → ℕ → List Register → List ℕ → Type 0
Satisfies test c registers values =
    All (λ (atom : Atom). value_in registers values atom.thread atom.reg ≡ Some atom.value)
    (conjunction_of test.ends test.atoms c)

-- the registers that it names are among these
abbrev pub NamesAmong : LitmusTest → ℕ → List Register → Type 0
NamesAmong test c registers =
    All (λ (atom : Atom). list_any (is_register atom.thread atom.reg) registers ≡ true)
    (conjunction_of test.ends test.atoms c)
