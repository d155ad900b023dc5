-- What the six registers of a litmus test hold after a body. This project's own.
use Rattle.std.specs.Prelude.{ℕ, Option, None, Some, List, All, IsTrue, MatchOption, slice_get}
use Rattle.x86_subset.specs.declared.body.Held.{Held}
use Rattle.x86_subset.specs.declared.body.Held.TheVariants as held
use Rattle.x86_subset.specs.declared.instr.Instr.{Instr}
use Rattle.x86_subset.specs.declared.instr.Reg.{Reg}
use Rattle.x86_subset.specs.declared.instr.Reg.TheVariants.{Eax, Ebx, Ecx, Edx, Esi, Edi}
use Rattle.x86_subset.specs.Instr.{is_reading}

-- where a register stands in the list of what the registers hold
abbrev pub register_number : Reg → ℕ
register_number Eax = 0
register_number Ebx = 1
register_number Ecx = 2
register_number Edx = 3
register_number Esi = 4
register_number Edi = 5

-- the place of the action that a register was read by
abbrev pub place_held : Held → Option ℕ
place_held (held.Constant value) = None
place_held (held.Read place) = Some place

-- what is read was read by a load or an exchange of the body
abbrev pub IsHeld : List Instr → Held → Type 0
IsHeld actions (held.Constant value) = Unit {0}
IsHeld actions (held.Read place) = MatchOption (slice_get actions place) ⊥ (λ action. IsTrue (is_reading action))

-- the registers hold constants and what the body reads
abbrev pub AreHeld : List Instr → List Held → Type 0
AreHeld actions registers = All (IsHeld actions) registers
