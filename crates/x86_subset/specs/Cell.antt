-- The cells of the code, and what they do: of the X86 instructions that herdtools' litmus format has, the forms of MOV,
-- MFENCE and XCHG that this project takes.
use Rattle.std.specs.Prelude.{ℕ, ◌^◌, Bool, true, false, ◌||◌, IsTrue, IsFalse, if◌then◌else◌, Result, Ok, Err, List, [], ◌∷◌, ◌++◌, length, Option, Some, None, slice_index_or, slice_set, nat_lt, bytes_eq, position}
use Rattle.x86_subset.specs.declared.instr.Reg.{Reg}
use Rattle.x86_subset.specs.declared.instr.Instr.{Instr}
use Rattle.x86_subset.specs.declared.instr.Instr.TheVariants as instr
use Rattle.x86_subset.specs.declared.body.Held.{Held}
use Rattle.x86_subset.specs.declared.body.Held.TheVariants as held
use Rattle.x86_subset.specs.declared.token.TokenKind.TheVariants.{LeftSquare, RightSquare, Comma, Dollar}
use Rattle.x86_subset.specs.Registers.{register_number}
use Rattle.x86_subset.specs.Test.{Code}
use Rattle.x86_subset.specs.declared.form.Keyword.TheVariants.{Mov, Mfence, Xchg}
use Rattle.x86_subset.specs.declared.form.Slot.{Slot}
use Rattle.x86_subset.specs.declared.form.Slot.TheVariants.{Mark, Maybe, Word, Location, Register, Any}
use Rattle.x86_subset.specs.Token.{Lexeme}
use Rattle.x86_subset.specs.declared.cell.InstrError.{InstrError}
use Rattle.x86_subset.specs.declared.cell.InstrError.TheVariants.{Unknown, Operand, Number}
use Rattle.x86_subset.specs.Form.{is_keyword, Found, Row, Means, meaning}

-- what a cell says
pub data Form : Type 0 where
  Blank : Form
  Fence : Form
  StoreNumber : (location : List ℕ) (number : ℕ) → Form
  StoreRegister : (location : List ℕ) (register : Reg) → Form
  Load : (register : Reg) (location : List ℕ) → Form
  Constant : (register : Reg) (number : ℕ) → Form
  Exchange : (location : List ℕ) (register : Reg) → Form

-- `[`, a location and `]`
abbrev bracketed : List Slot
bracketed = Mark LeftSquare ∷ Location ∷ Mark RightSquare ∷ []

-- a number, with or without `$`
abbrev numeral : List Slot
numeral = Maybe Dollar ∷ Any ∷ []

-- `,`
abbrev comma : List Slot
comma = Mark Comma ∷ []

-- a form's slots, and what it says
abbrev row : List Slot → (Found → Form) → Row Form
row slots means = record { slots = slots; means = means }

-- the forms of an exchange, whose operands may stand in either order
abbrev pub exchange_rows : List (Row Form)
exchange_rows =
    row (Word Xchg ∷ bracketed ++ comma ++ Register ∷ []) (λ f. Exchange f.location f.register) ∷
    row (Word Xchg ∷ Register ∷ comma ++ bracketed) (λ f. Exchange f.location f.register) ∷ []

-- the forms of cells
abbrev pub cell_rows : List (Row Form)
cell_rows =
    row [] (λ f. Blank) ∷
    row (Word Mov ∷ bracketed ++ comma ++ numeral) (λ f. StoreNumber f.location f.number) ∷
    row (Word Mov ∷ bracketed ++ comma ++ Register ∷ []) (λ f. StoreRegister f.location f.register) ∷
    row (Word Mov ∷ Register ∷ comma ++ bracketed) (λ f. Load f.register f.location) ∷
    row (Word Mov ∷ Register ∷ comma ++ numeral) (λ f. Constant f.register f.number) ∷
    row (Word Mfence ∷ []) (λ f. Fence) ∷
    exchange_rows

-- the numeral fits 32 bits
abbrev pub is_small : Form → Bool
is_small (StoreNumber x n) = nat_lt n (2 ^ 32)
is_small (Constant r n) = nat_lt n (2 ^ 32)
is_small _ = true

-- the first token is MOV, MFENCE or XCHG
abbrev pub begins_instr : List Lexeme → Bool
begins_instr [] = false
begins_instr (t ∷ ts) = is_keyword Mov t || is_keyword Mfence t || is_keyword Xchg t

-- `Parses cell answer`: what a cell says, or why it says nothing
pub data Parses (ts : List Lexeme) : Result Form InstrError → Type 0 where
  -- one of the forms
  parsed : (form : Form) → Means cell_rows ts (Some form) → IsTrue (is_small form) → Parses ts (Ok form)
  -- one of the forms, and a numeral past 32 bits
  too_large : (form : Form) → Means cell_rows ts (Some form) → IsFalse (is_small form) → Parses ts (Err Number)
  -- another word in front
  unknown : Means cell_rows ts None → IsFalse (begins_instr ts) → Parses ts (Err Unknown)
  -- one of the words, and none of its forms
  no_operand : Means cell_rows ts None → IsTrue (begins_instr ts) → Parses ts (Err Operand)

-- the same as a function
abbrev pub judged : List Lexeme → Option Form → Result Form InstrError
judged ts None = Err (if begins_instr ts then Operand else Unknown)
judged ts (Some form) = if is_small form then Ok form else Err Number

-- what a cell says
unfoldable pub parse : List Lexeme → Result Form InstrError
parse ts = judged ts (meaning cell_rows ts)

-- ---- what cells do

-- the locations so far, in the order of their numbers, and the bodies
pub record Threads : Type 0 where
  pub locations : List (List ℕ)
  pub bodies : List Code

-- no actions, and each register holds 0
abbrev pub empty_code : Code
empty_code = record {
  actions = [];
  registers =
      held.Constant 0 ∷ held.Constant 0 ∷ held.Constant 0 ∷ held.Constant 0 ∷ held.Constant 0 ∷ held.Constant 0 ∷ [];
}

-- what a register holds
abbrev pub held_by : Code → Reg → Held
held_by code r = slice_index_or code.registers (register_number r) (held.Constant 0)

-- the register holds this from now on
abbrev pub holding : Code → Reg → Held → Code
holding code r h = record code { registers = slice_set code.registers (register_number r) h }

-- one more action
abbrev pub adding : Code → Instr → Code
adding code i = record code { actions = code.actions ++ i ∷ [] }

-- one more action that makes its register hold what it reads
abbrev pub reading : Code → Reg → Instr → Code
reading code r i = holding (adding code i) r (held.Read (length code.actions))

-- the action after the others, with what its register holds then
abbrev pub added : Code → Instr → Code
added code (instr.Store x n) = adding code (instr.Store x n)
added code instr.Fence = adding code instr.Fence
added code (instr.Load r x) = reading code r (instr.Load r x)
added code (instr.Exchange x n r) = reading code r (instr.Exchange x n r)

-- the constant that is held; None for a read
abbrev pub constant_of : Held → Option ℕ
constant_of (held.Constant n) = Some n
constant_of (held.Read place) = None

-- the place where a location stands; n where it does not
abbrev pub number_by : Option ℕ → ℕ → ℕ
number_by (Some i) n = i
number_by None n = n

-- the locations with this one after them, unless it stands there
abbrev pub having_by : Option ℕ → List (List ℕ) → List ℕ → List (List ℕ)
having_by (Some i) xs x = xs
having_by None xs x = xs ++ x ∷ []

-- where a location stands among the others, byte by byte
abbrev pub place_in : List (List ℕ) → List ℕ → Option ℕ
place_in xs x = position (λ y. bytes_eq y x) xs

-- a location's number, and the locations with it: a new one comes last
abbrev pub location_number : List (List ℕ) → List ℕ → ℕ
location_number xs x = number_by (place_in xs x) (length xs)

-- the locations with this one
abbrev pub having : List (List ℕ) → List ℕ → List (List ℕ)
having xs x = having_by (place_in xs x) xs x

-- the constant that a register holds, put into an action
abbrev pub with_constant : Held → (ℕ → Code) → Option Code
with_constant (held.Constant n) f = Some (f n)
with_constant (held.Read place) f = None

-- what a form makes of its thread's body; None where a register that holds a read is written to memory
abbrev pub code_after : List (List ℕ) → Form → Code → Option Code
code_after xs Blank code = Some code
code_after xs Fence code = Some (adding code instr.Fence)
code_after xs (StoreNumber x n) code = Some (adding code (instr.Store (location_number xs x) n))
code_after xs (StoreRegister x r) code =
    with_constant (held_by code r) (λ n. adding code (instr.Store (location_number xs x) n))
code_after xs (Load r x) code = Some (reading code r (instr.Load r (location_number xs x)))
code_after xs (Constant r n) code = Some (holding code r (held.Constant n))
code_after xs (Exchange x r) code =
    with_constant (held_by code r) (λ n. reading code r (instr.Exchange (location_number xs x) n r))

-- the locations with the one that a form names
abbrev pub locations_after : List (List ℕ) → Form → List (List ℕ)
locations_after xs Blank = xs
locations_after xs Fence = xs
locations_after xs (StoreNumber x n) = having xs x
locations_after xs (StoreRegister x r) = having xs x
locations_after xs (Load r x) = having xs x
locations_after xs (Constant r n) = xs
locations_after xs (Exchange x r) = having xs x
