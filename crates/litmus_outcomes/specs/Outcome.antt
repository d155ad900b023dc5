-- The executions of a litmus test as it is written, and their outcomes. An execution runs each thread once, with the
-- values of the text, on x86-TSO (Sewell, Sarkar, Owens, Zappa Nardelli and Myreen, CACM 2010). Its outcome is what the
-- registers hold at the end, for which the conditions of herdtools' litmus format ask (Alglave, Maranget and Tautschnig,
-- "Herding cats", TOPLAS 2014). The conditions here ask for no memory.
use Rattle.std.specs.Prelude.{◌≡◌, ℕ, ◌<◌, ◌==◌, ◌&&◌, Bool, true, false, not, Option, None, Some, List, [], All, filter, length, map, slice_get}
use Rattle.std.specs.List.{AllZip}
use Rattle.std.specs.Option.{option_and_then}
use Rattle.x86_subset.specs.Conjunctions.{conjunction_of}
use Rattle.x86_subset.specs.Registers.{register_number}
use Rattle.x86_subset.specs.Test.{Code, LitmusTest, body_of}
use Rattle.x86_subset.specs.declared.body.Held.{Held}
use Rattle.x86_subset.specs.declared.body.Held.TheVariants as held
use Rattle.x86_subset.specs.declared.instr.Instr.{Instr}
use Rattle.x86_subset.specs.declared.instr.Instr.TheVariants.{Store, Load, Fence, Exchange}
use Rattle.x86_subset.specs.declared.instr.Reg.{Reg}
use Rattle.x86_subset.specs.declared.test.Atom.{Atom}
use Rattle.litmus_outcomes.specs.Machine.{Action, Writes, Drains, Reads, Fences, Exchanges, AllowsAll, Step, end_of, start}

-- The action is what the instruction does: at its location, and where it writes, with the value of the text. Which value
-- it reads is left to the machine. (A store of a register has the register's constant as its value, put there when the
-- text was read.)
abbrev pub Does : Instr → Action → Type 0
Does (Store x v) (Writes y w) = (y ≡ x) × (w ≡ v)
Does (Load reg x) (Reads y v) = y ≡ x
Does Fence Fences = Unit {0}
Does (Exchange x w reg) (Exchanges y v z) = (y ≡ x) × (z ≡ w)
Does _ _ = ⊥

-- whether the action is a drain, which comes of no instruction
abbrev pub is_draining : Action → Bool
is_draining (Writes x v) = false
is_draining (Drains x v) = true
is_draining (Reads x v) = false
is_draining Fences = false
is_draining (Exchanges x v w) = false

-- the actions of thread t in order, without its drains
abbrev pub done_by : ℕ → List Step → List Action
done_by t steps =
    map (λ (e : Step). e.action) (filter (λ (e : Step). (e.thread == t) && not (is_draining e.action)) steps)

-- The steps run the test once: they lead from memory of zeros and empty store buffers to empty store buffers, and each
-- thread does its instructions once, in program order. A thread that the test does not have does nothing. (That the
-- writes which still wait drain in the end changes no register.)
pub record IsExecution (test : LitmusTest) (steps : List Step) : Type 0 where
  pub allowed : AllowsAll start steps
  pub drained : (t : ℕ) → (end_of start steps).buffer t ≡ []
  pub in_order : (t : ℕ) → AllZip Does (body_of test t) (done_by t steps)

-- the value that is read by an action; None where it reads nothing
abbrev pub value_read_by : Action → Option ℕ
value_read_by (Writes x v) = None
value_read_by (Drains x v) = None
value_read_by (Reads x v) = Some v
value_read_by Fences = None
value_read_by (Exchanges x v w) = Some v

-- the value of what a register of thread t holds: a constant, or what the instruction at a place of the body has read.
-- (Its action stands at the same place of what the thread has done, since an execution has one for each instruction.)
abbrev pub held_value : List Step → ℕ → Held → Option ℕ
held_value steps t (held.Constant v) = Some v
held_value steps t (held.Read place) = option_and_then value_read_by (slice_get (done_by t steps) place)

-- the value of a register of thread t at the end: the text tells what filled it last
abbrev pub final_value : LitmusTest → List Step → ℕ → Reg → Option ℕ
final_value test steps t reg =
    option_and_then (λ (code : Code). option_and_then (held_value steps t)
    (slice_get code.registers (register_number reg))) (slice_get test.bodies t)

-- conjunction c of the condition is the outcome of the steps: each of its registers has its value at the end
abbrev pub HasOutcome : LitmusTest → ℕ → List Step → Type 0
HasOutcome test c steps =
    All (λ (atom : Atom). final_value test steps atom.thread atom.reg ≡ Some atom.value)
    (conjunction_of test.ends test.atoms c)

-- some execution of the test has conjunction c as its outcome
abbrev pub IsPossible : LitmusTest → ℕ → Type 0
IsPossible test c = (steps : List Step) × IsExecution test steps × HasOutcome test c steps

-- x86-TSO allows what the condition asks for: some conjunction is the outcome of an execution. Of a condition `~exists`
-- too it is asked whether what stands after the word can be.
abbrev pub IsAllowed : LitmusTest → Type 0
IsAllowed test = (c : ℕ) × (c < length test.ends) × IsPossible test c
