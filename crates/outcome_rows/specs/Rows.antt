-- The rows of a litmus test: the final values of registers in one execution of the test as it is written, as herdtools
-- lists them under `States`. That they are told by the sources of the reads is axiomatic memory models' way (Alglave,
-- Maranget and Tautschnig, "Herding cats", TOPLAS 2014).
use Rattle.std.specs.Prelude.{◌≡◌, ℕ, true, Option, None, Some, List, map, unwrap_or}
use Rattle.std.specs.List.{AllByRecursion as Each, AllZip}
use Rattle.std.specs.Option.{is_some, option_and_then}
use Rattle.x86_subset.specs.Test.{LitmusTest, last_writer_of}
use Rattle.x86_subset.specs.declared.instr.Reg.{Reg}
use Rattle.seq_conv.specs.Sequence.{action_at, site_location}
use Rattle.profile_check.specs.Kinds.{written_of}
use Rattle.verdict.specs.declared.node.Node.{Node}
use Rattle.verdict.specs.Edges.{site}
use Rattle.litmus_outcomes.specs.Machine.{Step}
use Rattle.litmus_outcomes.specs.Outcome.{IsExecution, final_value}
use Rattle.once.specs.Edges.{Reading}
use Rattle.once.specs.Sources.{is_source_to}

-- a register of a thread
pub record Register : Type 0 where
  pub thread : ℕ
  pub reg : Reg

-- the register holds a read at the end of its thread's body
abbrev pub HoldsRead : LitmusTest → Register → Type 0
HoldsRead test register = is_some (last_writer_of test register.thread register.reg) ≡ true

abbrev pub HoldReads : LitmusTest → List Register → Type 0
HoldReads test registers = Each (HoldsRead test) registers

-- ---- rows

abbrev pub EndsWith : LitmusTest → List Step → Register → ℕ → Type 0
EndsWith test steps register v = final_value test steps register.thread register.reg ≡ Some v

-- an execution of the test as it is written ends with these values of the registers
abbrev pub IsRow : LitmusTest → List Register → List ℕ → Type 0
IsRow test registers values =
    (steps : List Step) × IsExecution test steps × AllZip (EndsWith test steps) registers values

-- ---- sources

-- the read that a register holds, and the location that it reads
abbrev pub read_of : LitmusTest → Register → Node
read_of test register = record {
  thread = register.thread;
  place = unwrap_or (last_writer_of test register.thread register.reg) 0;
}

abbrev pub location_of_read : LitmusTest → Register → ℕ
location_of_read test register = site_location test (site (read_of test register))

abbrev pub reading_from : LitmusTest → Register → Option Node → Reading
reading_from test register source = record {
  reader = read_of test register;
  location = location_of_read test register;
  source = source;
}

-- the value of a source, as it stands in the text; the initial value is 0
abbrev pub text_value : LitmusTest → Option Node → ℕ
text_value test None = 0
text_value test (Some s) = unwrap_or (option_and_then written_of (action_at test (site s))) 0

-- a reading of what the register holds, from a store of its location or the initial value
abbrev pub IsReadingOf : LitmusTest → Register → Reading → Type 0
IsReadingOf test register r =
    (r ≡ reading_from test register r.source) × (is_source_to test r.location r.source ≡ true)

abbrev pub values_read : LitmusTest → List Reading → List ℕ
values_read test readings = map (λ (r : Reading). text_value test r.source) readings

-- readings, one of each register, whose sources have these values
abbrev pub ReadValues : LitmusTest → List Register → List ℕ → List Reading → Type 0
ReadValues test registers values readings =
    AllZip (IsReadingOf test) registers readings × (values_read test readings ≡ values)
