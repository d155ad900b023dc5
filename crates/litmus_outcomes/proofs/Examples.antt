-- The definitions at small tests: an execution has the values of the text, a read finds the newest own write that waits,
-- fences and exchanges forbid what store buffering allows, and a register can hold a constant.
use Rattle.std.proofs.Common.{◌≡◌, ℕ, zero, suc, true, false, Some, List, [], ◌∷◌, ◌++◌, refl}
use Rattle.std.proofs.lemmas.List.Elements.{All-from_recursion}
use Rattle.x86_subset.specs.Test.{Code, LitmusTest}
use Rattle.x86_subset.specs.declared.body.Held.{Held}
use Rattle.x86_subset.specs.declared.body.Held.TheVariants as held
use Rattle.x86_subset.specs.declared.instr.Instr.{Instr}
use Rattle.x86_subset.specs.declared.instr.Instr.TheVariants as instr
use Rattle.x86_subset.specs.declared.instr.Reg.TheVariants.{Eax, Ebx}
use Rattle.x86_subset.specs.declared.test.Atom.{Atom}
use Rattle.x86_subset.specs.declared.test.Quantifier.TheVariants.{Exists}
use Rattle.tso_machine.specs.Event.{Event, Push, Drain, Read}
use Rattle.tso_machine.specs.Run.{IsRunOf}
use Rattle.tso_machine.proofs.Worked.{at, run_by}
use Rattle.litmus_outcomes.specs.Machine.{Action, AllowsAll, Drains, Exchanges, Fences, Reads, Step, Writes, end_of, found, start}
use Rattle.litmus_outcomes.specs.Outcome.{IsExecution, IsPossible, final_value}
use Rattle.litmus_outcomes.proofs.Exploring.{may_end}
use Rattle.litmus_outcomes.proofs.Images.{is_execution, steps_of}

-- a body of which register EAX holds this
abbrev code : List Instr → Held → Code
code actions a = record {
  actions = actions;
  registers =
      a ∷ held.Constant 0 ∷ held.Constant 0 ∷ held.Constant 0 ∷ held.Constant 0 ∷ held.Constant 0 ∷ [];
}

abbrev test_of : List Code → List Atom → LitmusTest
test_of bodies atoms = record {
  name = [];
  locations = [] ∷ [] ∷ [];
  bodies = bodies;
  quantifier = Exists;
  atoms = atoms;
  ends = 2 ∷ [];
}

abbrev atom : ℕ → ℕ → Atom
atom t v = record { thread = t; reg = Eax; value = v }

-- Store buffering, where the threads store 7 and 9.

abbrev body : ℕ → ℕ → ℕ → Code
body x v y = code (instr.Store x v ∷ instr.Load Eax y ∷ []) (held.Read 1)

abbrev sb : ℕ → ℕ → LitmusTest
sb a b = test_of (body 0 7 1 ∷ body 1 9 0 ∷ []) (atom 0 a ∷ atom 1 b ∷ [])

-- in the run of one iteration both stores are of rank 1; in the execution they write 7 and 9
abbrev run : List Event
run = at 0 0 0 Push ∷ at 1 0 0 Push ∷ at 1 0 0 Drain ∷ at 0 0 1 (Read 1) ∷ at 1 0 1 (Read 0) ∷ at 0 0 0 Drain ∷ []

run_is : IsRunOf (sb 9 0) 1 run
run_is = run_by (sb 9 0) 1 run assumption

abbrev step : ℕ → Action → Step
step t action = record { thread = t; action = action }

abbrev execution : List Step
execution =
    step 0 (Writes 0 7) ∷ step 1 (Writes 1 9) ∷ step 1 (Drains 1 9) ∷ step 0 (Reads 1 9) ∷ step 1 (Reads 0 0)
    ∷ step 0 (Drains 0 7) ∷ []

execution_is : (steps_of (sb 9 0) run ≡ execution) × IsExecution (sb 9 0) execution
execution_is = (refl, is_execution (sb 9 0) run run_is)

sb_possible : IsPossible (sb 9 0) 0
sb_possible = (
  execution,
  is_execution (sb 9 0) run run_is,
  All-from_recursion (λ (a : Atom). final_value (sb 9 0) execution a.thread a.reg ≡ Some a.value)
      (atom 0 9 ∷ atom 1 0 ∷ []) (refl, (refl, tt)),
)

-- That both threads read 0 can come to an end, but not with a fence between store and load.

abbrev stores_then : List Action → ℕ → List Action
stores_then fence zero = Writes 0 7 ∷ fence ++ Reads 1 0 ∷ []
stores_then fence (suc zero) = Writes 1 9 ∷ fence ++ Reads 0 0 ∷ []
stores_then fence (suc (suc t)) = []

fences_forbid : (may_end 2 7 start (stores_then []) ≡ true) × (may_end 2 9 start (stores_then (Fences ∷ [])) ≡ false)
fences_forbid = (refl, refl)

-- A thread that stores 7 reads it while it waits: it cannot read 0.

abbrev reads_own : ℕ → ℕ → List Action
reads_own v zero = Writes 0 7 ∷ Reads 0 v ∷ []
reads_own v (suc t) = []

own_is_read : (may_end 1 4 start (reads_own 7) ≡ true) × (may_end 1 4 start (reads_own 0) ≡ false)
own_is_read = (refl, refl)

-- Of two own writes that wait the newer one is read. Another thread finds memory's 0 until the older one drains.

abbrev stored_twice : List Step
stored_twice = step 0 (Writes 0 7) ∷ step 0 (Writes 0 8) ∷ []

newer_is_found : (found (end_of start stored_twice) 0 0 ≡ 8) × (found (end_of start stored_twice) 1 0 ≡ 0)
newer_is_found = (refl, refl)

older_drains : found (end_of start (stored_twice ++ step 0 (Drains 0 7) ∷ [])) 1 0 ≡ 7
older_drains = refl

-- So MOV [x],$7; MOV [x],$8; MOV EAX,[x] ends with EAX=8 while both writes wait.

abbrev forwards : LitmusTest
forwards =
    test_of (code (instr.Store 0 7 ∷ instr.Store 0 8 ∷ instr.Load Eax 0 ∷ []) (held.Read 2) ∷ []) (atom 0 8 ∷ [])

abbrev forwarding : List Step
forwarding = stored_twice ++ step 0 (Reads 0 8) ∷ step 0 (Drains 0 7) ∷ step 0 (Drains 0 8) ∷ []

forwarding_ends : AllowsAll start forwarding × (final_value forwards forwarding 0 Eax ≡ Some 8)
forwarding_ends = ((tt, (tt, (refl, (refl, (refl, tt))))), refl)

-- An exchange of 5 reads memory's 0, and 5 is in memory at once. XCHG [x],EAX leaves in EAX what it read.

abbrev exchanges : LitmusTest
exchanges = test_of (code (instr.Exchange 0 5 Eax ∷ []) (held.Read 0) ∷ []) (atom 0 0 ∷ [])

abbrev exchanging : List Step
exchanging = step 0 (Exchanges 0 0 5) ∷ []

exchanging_ends : AllowsAll start exchanging × ((end_of start exchanging).memory 0 ≡ 5)
    × (final_value exchanges exchanging 0 Eax ≡ Some 0)
exchanging_ends = (((refl, refl), tt), refl, refl)

-- Of two threads that exchange x both cannot read 0. Exchanges in place of the stores forbid what store buffering allows.

abbrev both_exchange : ℕ → ℕ → List Action
both_exchange v zero = Exchanges 0 0 5 ∷ []
both_exchange v (suc zero) = Exchanges 0 v 6 ∷ []
both_exchange v (suc (suc t)) = []

one_is_first : (may_end 2 3 start (both_exchange 5) ≡ true) × (may_end 2 3 start (both_exchange 0) ≡ false)
one_is_first = (refl, refl)

abbrev exchange_and_read : ℕ → List Action
exchange_and_read zero = Exchanges 0 0 7 ∷ Reads 1 0 ∷ []
exchange_and_read (suc zero) = Exchanges 1 0 9 ∷ Reads 0 0 ∷ []
exchange_and_read (suc (suc t)) = []

exchanges_forbid : may_end 2 5 start exchange_and_read ≡ false
exchanges_forbid = refl

-- An exchange waits until the own writes have drained: who reads its 5 reads the 7 that was written before it.

abbrev write_and_exchange : ℕ → ℕ → List Action
write_and_exchange v zero = Writes 1 7 ∷ Exchanges 0 0 5 ∷ []
write_and_exchange v (suc zero) = Reads 0 5 ∷ Reads 1 v ∷ []
write_and_exchange v (suc (suc t)) = []

exchange_waits : (may_end 2 6 start (write_and_exchange 7) ≡ true)
    × (may_end 2 6 start (write_and_exchange 0) ≡ false)
exchange_waits = (refl, refl)

-- After MOV EAX,$5; MOV [x],EAX the register EAX holds 5 still, and EBX what it held at the start.

abbrev keeps : LitmusTest
keeps = test_of (code (instr.Store 0 5 ∷ []) (held.Constant 5) ∷ []) (atom 0 5 ∷ [])

abbrev keeping : List Step
keeping = step 0 (Writes 0 5) ∷ step 0 (Drains 0 5) ∷ []

constant_is_held : (final_value keeps keeping 0 Eax ≡ Some 5) × (final_value keeps keeping 0 Ebx ≡ Some 0)
constant_is_held = (refl, refl)
