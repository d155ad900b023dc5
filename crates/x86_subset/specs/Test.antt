-- A litmus test as plain data, after herdtools' X86 format.
use Rattle.std.specs.Prelude.{ℕ, Option, Some, None, List, [], All, count_by, slice_get, take, if◌then◌else◌}
use Rattle.std.specs.Option.{option_and_then, option_map_or}
use Rattle.x86_subset.specs.declared.instr.Instr.{Instr}
use Rattle.x86_subset.specs.declared.instr.Reg.{Reg}
use Rattle.x86_subset.specs.declared.body.Held.{Held}
use Rattle.x86_subset.specs.declared.test.Atom.{Atom}
use Rattle.x86_subset.specs.declared.test.Quantifier.{Quantifier}
use Rattle.x86_subset.specs.Instr.{is_reading}
use Rattle.x86_subset.specs.Registers.{AreHeld, place_held, register_number}

-- the body of a thread: its actions in order, and what each register holds after them
pub record Code : Type 0 where
  pub actions : List Instr
  pub registers : List Held

-- the threads' bodies, the names of the locations, and the condition: its atoms, cut into conjunctions at these ends
pub record LitmusTest : Type 0 where
  pub name : List ℕ
  pub locations : List (List ℕ)
  pub bodies : List Code
  pub quantifier : Quantifier
  pub atoms : List Atom
  pub ends : List ℕ

-- the actions of a thread; none past the last thread
abbrev pub body_of : LitmusTest → ℕ → List Instr
body_of test t = option_map_or (λ code. code.actions) (slice_get test.bodies t) []

-- how many actions of a thread read
abbrev pub columns_of : LitmusTest → ℕ → ℕ
columns_of test t = count_by is_reading (body_of test t)

-- how many actions of a thread read before a place: the column of a reading action there
abbrev pub column_of : LitmusTest → ℕ → ℕ → ℕ
column_of test t place = count_by is_reading (take place (body_of test t))

-- the column of the action at a place; None where it reads nothing
abbrev pub column_at : LitmusTest → ℕ → ℕ → Option ℕ
column_at test t place =
    option_and_then (λ i. if is_reading i then Some (column_of test t place) else None)
    (slice_get (body_of test t) place)

-- the place of the action that a register holds after thread t's body
abbrev pub last_writer_of : LitmusTest → ℕ → Reg → Option ℕ
last_writer_of test t reg =
    option_and_then (λ (code : Code). option_and_then place_held (slice_get code.registers (register_number reg)))
    (slice_get test.bodies t)

-- each body's registers hold constants and what it reads
abbrev pub HoldsReads : LitmusTest → Type 0
HoldsReads test = All (λ (code : Code). AreHeld code.actions code.registers) test.bodies
