-- Worked runs of the machine. The expected logs and sources come from the project's worked rows.
use Rattle.std.proofs.Common.{◌≡◌, ℕ, None, Some, List, [], ◌∷◌, arith, refl, take}
use Rattle.x86_subset.specs.Test.{LitmusTest}
use Rattle.x86_subset.specs.declared.instr.Instr.TheVariants as instr
use Rattle.x86_subset.specs.declared.instr.Reg.TheVariants.{Eax}
use Rattle.tso_machine.specs.Event.{Event, Push, Drain, Read, Fenced, Exchanged}
use Rattle.tso_machine.specs.Log.{log_of}
use Rattle.tso_machine.specs.Machine.{IsLegal, Write, after_all, initial, readable}
use Rattle.tso_machine.specs.Part.{KeepsBuffer, part_of}
use Rattle.tso_machine.specs.Run.{IsRunOf}
use Rattle.seq_conv.specs.Sequence.{Site, rank_of, store_count, value_of, in_iteration}
use Rattle.tso_machine.specs.Source.{source_of}
use Rattle.tso_machine.proofs.Worked.{at, in_order, relaxed, run_by, sb, test_of}

abbrev site : ℕ → ℕ → Site
site t p = record { thread = t; place = p }

-- Two stores to x in one thread.

abbrev twice : LitmusTest
twice = test_of ((instr.Store 0 1 ∷ instr.Store 0 2 ∷ []) ∷ [])

numbers_of_twice : (store_count twice 0 ≡ 2) × (rank_of twice 0 (site 0 1) ≡ 2) × (value_of twice 0 (site 0 1) 1 ≡ 4)
    × (value_of twice 0 (site 0 1) 99999 ≡ 200000)
numbers_of_twice = (refl, refl, refl, refl)

-- Store buffering.

relaxed_is : IsRunOf sb 1 relaxed
relaxed_is = run_by sb 1 relaxed assumption

relaxed_logs : (log_of 0 relaxed ≡ 0 ∷ []) × (log_of 1 relaxed ≡ 0 ∷ [])
    × (source_of sb (at 0 0 1 (Read 0)) (take 2 relaxed) ≡ None)
relaxed_logs = (refl, refl, refl)

in_order_is : IsRunOf sb 2 in_order
in_order_is = run_by sb 2 in_order assumption

in_order_logs : (log_of 0 in_order ≡ 0 ∷ 1 ∷ []) × (log_of 1 in_order ≡ 1 ∷ 2 ∷ [])
    × (source_of sb (at 1 1 1 (Read 2)) (take 11 in_order) ≡ Some (in_iteration (site 0 0) 1))
in_order_logs = (refl, refl, refl)

-- Each thread reads what it stores: the value is forwarded from its own buffer.

abbrev own : LitmusTest
own = test_of ((instr.Store 0 1 ∷ instr.Load Eax 0 ∷ []) ∷ (instr.Store 1 1 ∷ instr.Load Eax 1 ∷ []) ∷ [])

abbrev forwarded : List Event
forwarded = at 0 0 0 Push ∷ at 1 0 0 Push ∷ at 0 0 1 (Read 1) ∷ at 1 0 1 (Read 1) ∷ at 0 0 0 Drain ∷ at 1 0 0 Drain ∷ []

forwarded_is : IsRunOf own 1 forwarded
forwarded_is = run_by own 1 forwarded assumption

forwarded_logs : (log_of 0 forwarded ≡ 1 ∷ [])
    × (source_of own (at 0 0 1 (Read 1)) (take 2 forwarded) ≡ Some (in_iteration (site 0 0) 0))
forwarded_logs = (refl, refl)

-- Two own writes to x wait when the thread reads x: the newest is forwarded, and a run in which the load takes the
-- oldest is refused.

abbrev own_twice : LitmusTest
own_twice = test_of ((instr.Store 0 1 ∷ instr.Store 0 2 ∷ instr.Load Eax 0 ∷ []) ∷ [])

abbrev both_wait : ℕ → List Event
both_wait v = at 0 0 0 Push ∷ at 0 0 1 Push ∷ at 0 0 2 (Read v) ∷ at 0 0 0 Drain ∷ at 0 0 1 Drain ∷ []

newest_found : readable (after_all own_twice initial (take 2 (both_wait 2))) 0 0 ≡ 2
newest_found = refl

newest_is : IsRunOf own_twice 1 (both_wait 2)
newest_is = run_by own_twice 1 (both_wait 2) assumption

newest_keeps : KeepsBuffer own_twice [] (part_of 0 (both_wait 2))
newest_keeps = assumption

newest_logs : (log_of 0 (both_wait 2) ≡ 2 ∷ [])
    × (source_of own_twice (at 0 0 2 (Read 2)) (take 2 (both_wait 2)) ≡ Some (in_iteration (site 0 1) 0))
newest_logs = (refl, refl)

one_is_not_two : ◌≡◌ {A = ℕ} 1 2 → ⊥
one_is_not_two e = omega arith

oldest_refused : IsLegal own_twice (both_wait 1) → ⊥
oldest_refused legal = one_is_not_two legal.steps.1.1.0

-- A Drain empties the own buffer, as a fence and an exchange need it: a fence before the Drain is refused.

abbrev emptied : LitmusTest
emptied = test_of ((instr.Store 0 1 ∷ instr.Fence ∷ instr.Store 0 2 ∷ instr.Exchange 0 3 Eax ∷ []) ∷ [])

abbrev fenced : List Event
fenced = at 0 0 0 Push ∷ at 0 0 0 Drain ∷ at 0 0 1 Fenced ∷ at 0 0 2 Push ∷ at 0 0 2 Drain ∷ at 0 0 3 (Exchanged 2) ∷ []

fenced_is : IsRunOf emptied 1 fenced
fenced_is = run_by emptied 1 fenced assumption

fenced_keeps : KeepsBuffer emptied [] (part_of 0 fenced)
fenced_keeps = assumption

abbrev fenced_early : List Event
fenced_early =
    at 0 0 0 Push ∷ at 0 0 1 Fenced ∷ at 0 0 0 Drain ∷ at 0 0 2 Push ∷ at 0 0 2 Drain ∷ at 0 0 3 (Exchanged 2) ∷ []

one_waits : (w : Write) → w ∷ [] ≡ [] → ⊥
one_waits w e = absurd cc

early_refused : (IsLegal emptied fenced_early → ⊥) × (KeepsBuffer emptied [] (part_of 0 fenced_early) → ⊥)
early_refused = ((λ legal. one_waits _ legal.steps.1.0), (λ keeps. one_waits _ keeps.1.0))

-- A load after the Drain of the own write takes what another thread wrote since: nothing is left to forward.

abbrev overwritten : LitmusTest
overwritten = test_of ((instr.Store 0 1 ∷ instr.Load Eax 0 ∷ []) ∷ (instr.Store 0 2 ∷ []) ∷ [])

abbrev other_read : List Event
other_read = at 0 0 0 Push ∷ at 0 0 0 Drain ∷ at 1 0 0 Push ∷ at 1 0 0 Drain ∷ at 0 0 1 (Read 2) ∷ []

other_is : IsRunOf overwritten 1 other_read
other_is = run_by overwritten 1 other_read assumption

other_keeps : KeepsBuffer overwritten [] (part_of 0 other_read) × KeepsBuffer overwritten [] (part_of 1 other_read)
other_keeps = assumption

other_source : source_of overwritten (at 0 0 1 (Read 2)) (take 4 other_read) ≡ Some (in_iteration (site 1 0) 0)
other_source = refl
