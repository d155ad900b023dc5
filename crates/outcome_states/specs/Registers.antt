-- The registers whose final values herdtools' litmus format asks for: those that the condition names (Alglave, Maranget
-- and Tautschnig, "Herding cats", TOPLAS 2014). Which tests are answered is this project's own rule.
use Rattle.std.specs.Prelude.{ℕ, ◌+◌, Bool, not, Option, None, Some, List, [], ◌∷◌, filter, length, map, nat_lt, if◌then◌else◌}
use Rattle.std.specs.List.{flat_map, list_any, range_with_len}
use Rattle.std.specs.Option.{is_some}
use Rattle.x86_subset.specs.Test.{LitmusTest, last_writer_of}
use Rattle.x86_subset.specs.declared.instr.Reg.{Reg}
use Rattle.x86_subset.specs.declared.instr.Reg.TheVariants.{Eax, Ebx, Ecx, Edx, Esi, Edi}
use Rattle.x86_subset.specs.declared.test.Atom.{Atom}
use Rattle.profile_check.specs.declared.kind.ProfileKind.{ProfileKind}
use Rattle.profile_check.specs.declared.kind.ProfileKind.TheVariants.{NoSuchThread, NotLoaded}
use Rattle.outcome_rows.specs.Conditions.{is_register}
use Rattle.outcome_rows.specs.Rows.{Register}
use Rattle.outcome_states.specs.declared.registers.Refused.{Refused}
use Rattle.outcome_states.specs.declared.registers.Refused.TheVariants.{Unread}

-- ---- the registers

abbrev pub register_of : ℕ → Reg → Register
register_of t reg = record { thread = t; reg = reg }

-- the registers of a thread, in order
abbrev pub all_registers : List Reg
all_registers = Eax ∷ Ebx ∷ Ecx ∷ Edx ∷ Esi ∷ Edi ∷ []

abbrev pub registers_of_thread : ℕ → List Register
registers_of_thread t = map (register_of t) all_registers

-- whether an atom of the condition names the register
abbrev pub is_named : LitmusTest → Register → Bool
is_named test register = list_any (λ (atom : Atom). is_register atom.thread atom.reg register) test.atoms

-- the registers that the condition names, each once, by thread and then from EAX to EDI
abbrev pub registers_of : LitmusTest → List Register
registers_of test = filter (is_named test) (flat_map registers_of_thread (range_with_len 0 (length test.bodies)))

-- ---- registers that cannot be asked for

-- why the register of an atom holds no read at the end: the test has no such thread, or the register holds a constant
abbrev pub unread_kind : LitmusTest → Atom → Option ProfileKind
unread_kind test atom =
    if not (nat_lt atom.thread (length test.bodies)) then Some NoSuchThread
    else if is_some (last_writer_of test atom.thread atom.reg) then None
    else Some NotLoaded

-- what an atom says, in front of what the rest says
abbrev pub unread_by : Option ProfileKind → ℕ → Option Refused → Option Refused
unread_by None n rest = rest
unread_by (Some kind) n rest = Some (Unread n kind)

-- the first of these atoms whose register holds no read at the end, where they are numbered from n
abbrev pub unread_from : LitmusTest → ℕ → List Atom → Option Refused
unread_from test n [] = None
unread_from test n (atom ∷ atoms) = unread_by (unread_kind test atom) n (unread_from test (n + 1) atoms)

-- the first of the condition, counted from 1
abbrev pub first_unread : LitmusTest → Option Refused
first_unread test = unread_from test 1 test.atoms
