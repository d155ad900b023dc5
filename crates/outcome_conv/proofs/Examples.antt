-- The definitions at worked runs and numbers. The expected values come from the project's worked rows.
use Rattle.std.proofs.Common.{◌≡◌, ℕ, zero, suc, true, false, None, Some, List, [], ◌∷◌, length, map, refl, slice_index}
use Rattle.std.proofs.lemmas.List.Elements.{All-from_recursion}
use Rattle.std.specs.Prelude.{Err, Ok}
use Rattle.x86_subset.specs.Conjunctions.{conjunctions_of}
use Rattle.x86_subset.specs.Registers.{AreHeld, IsHeld}
use Rattle.x86_subset.specs.Test.{Code, HoldsReads, LitmusTest}
use Rattle.x86_subset.specs.declared.body.Held.{Held}
use Rattle.x86_subset.specs.declared.body.Held.TheVariants as held
use Rattle.x86_subset.specs.declared.instr.Reg.{Reg}
use Rattle.x86_subset.specs.declared.instr.Reg.TheVariants.{Eax, Ebx}
use Rattle.x86_subset.specs.declared.instr.Instr.{Instr}
use Rattle.x86_subset.specs.declared.instr.Instr.TheVariants as instr
use Rattle.x86_subset.specs.declared.test.Atom.{Atom}
use Rattle.x86_subset.specs.declared.test.Quantifier.TheVariants.{Exists}
use Rattle.tso_machine.specs.Event.{Event, Push, Drain, Read}
use Rattle.tso_machine.specs.Frame.{frame_number, frame_of}
use Rattle.tso_machine.specs.Log.{log_of}
use Rattle.tso_machine.specs.Run.{IsRunOf}
use Rattle.tso_machine.proofs.Worked.{at, drained_twice, relaxed, run_by}
use Rattle.seq_conv.specs.Sequence.{value_of}
use Rattle.profile_check.specs.Kinds.{AreKinds, kind_of}
use Rattle.profile_check.specs.declared.kind.AtomKind.{AtomKind}
use Rattle.profile_check.specs.declared.kind.AtomKind.TheVariants.{Rf, Fr, Exact}
use Rattle.profile_check.specs.declared.kind.ProfileKind.TheVariants.{NoSuchThread, NotLoaded, NoStore, Ambiguous, ZeroStored, NoWriter, SeveralWriters, OwnWriter}
use Rattle.outcome_conv.specs.declared.cond.CondKind.TheVariants.{AtLeast, Below}
use Rattle.outcome_conv.specs.declared.cond.CondKind.TheVariants as cond_kind
use Rattle.outcome_conv.specs.Conds.{Logged, cond_holds, cond_of, conds_of, count_of, kind_holds, logged_in}
use Rattle.outcome_conv.specs.Hits.{hits_of}
use Rattle.outcome_conv.specs.Holds.{holds_in}
use Rattle.outcome_conv.specs.Picks.{link_by, picked_hits_by, picked_hits, picked_frame}

-- Tests.

-- a body whose registers EAX and EBX hold these
abbrev code : List Instr → Held → Held → Code
code actions a b = record {
  actions = actions;
  registers = a ∷ b ∷ held.Constant 0 ∷ held.Constant 0 ∷ held.Constant 0 ∷ held.Constant 0 ∷ [];
}

abbrev atom : ℕ → Reg → ℕ → Atom
atom t reg v = record { thread = t; reg = reg; value = v }

abbrev test_of : List Code → List Atom → List ℕ → LitmusTest
test_of bodies atoms ends = record {
  name = [];
  locations = [];
  bodies = bodies;
  quantifier = Exists;
  atoms = atoms;
  ends = ends;
}

abbrev body : ℕ → ℕ → Code
body stored loaded = code (instr.Store stored 1 ∷ instr.Load Eax loaded ∷ []) (held.Read 1) (held.Constant 0)

-- store buffering
abbrev sb_with : List Atom → List ℕ → LitmusTest
sb_with atoms ends = test_of (body 0 1 ∷ body 1 0 ∷ []) atoms ends

abbrev sb : LitmusTest
sb = sb_with (atom 0 Eax 0 ∷ atom 1 Eax 0 ∷ []) (2 ∷ [])

abbrev sb_kinds : List AtomKind
sb_kinds = Fr 0 0 1 ∷ Fr 1 0 0 ∷ []

are_sb_kinds : AreKinds sb sb_kinds
are_sb_kinds = (refl, (refl, tt))

-- message passing
abbrev mp : LitmusTest
mp = test_of
    (code (instr.Store 0 1 ∷ instr.Store 1 1 ∷ []) (held.Constant 0) (held.Constant 0)
    ∷ code (instr.Load Eax 1 ∷ instr.Load Ebx 0 ∷ []) (held.Read 0) (held.Read 1) ∷ [])
    (atom 1 Eax 1 ∷ atom 1 Ebx 0 ∷ []) (2 ∷ [])

abbrev mp_kinds : List AtomKind
mp_kinds = Exact 1 0 0 1 ∷ Fr 1 1 0 ∷ []

are_mp_kinds : AreKinds mp mp_kinds
are_mp_kinds = (refl, (refl, tt))

-- the exact atom asks for 1*m + 1
exact_of_mp : (cond_of mp (Exact 1 0 0 1)).kind ≡ cond_kind.Exact 1 1
exact_of_mp = refl

-- each thread reads what it stores
abbrev own : LitmusTest
own = test_of (body 0 0 ∷ body 1 1 ∷ []) (atom 0 Eax 1 ∷ atom 1 Eax 1 ∷ []) (2 ∷ [])

rf_of_own : kind_of own (atom 0 Eax 1) ≡ Ok (Rf 0 0 0 0)
rf_of_own = refl

at_least_of_own : (cond_of own (Rf 0 0 0 0)).kind ≡ AtLeast 1 1
at_least_of_own = refl

-- Kinds that no atom has.

abbrev one_thread : LitmusTest
one_thread = test_of (body 0 0 ∷ []) [] []

own_writer : kind_of one_thread (atom 0 Eax 0) ≡ Err OwnWriter
own_writer = refl

abbrev writers : ℕ → ℕ → LitmusTest
writers v w =
    test_of (code (instr.Store 0 v ∷ []) (held.Constant 0) (held.Constant 0)
    ∷ code (instr.Store 0 w ∷ []) (held.Constant 0) (held.Constant 0)
    ∷ code (instr.Load Eax 0 ∷ []) (held.Read 0) (held.Constant 0) ∷ []) [] []

several_writers : kind_of (writers 1 2) (atom 2 Eax 0) ≡ Err SeveralWriters
several_writers = refl

rf_of_several : kind_of (writers 1 2) (atom 2 Eax 2) ≡ Ok (Rf 2 0 1 0)
rf_of_several = refl

no_store : kind_of (writers 1 2) (atom 2 Eax 3) ≡ Err NoStore
no_store = refl

no_such_thread : kind_of (writers 1 2) (atom 3 Eax 1) ≡ Err NoSuchThread
no_such_thread = refl

not_loaded : kind_of (writers 1 2) (atom 2 Ebx 0) ≡ Err NotLoaded
not_loaded = refl

ambiguous : kind_of (writers 1 1) (atom 2 Eax 1) ≡ Err Ambiguous
ambiguous = refl

abbrev reads_only : LitmusTest
reads_only = test_of (code (instr.Load Eax 2 ∷ []) (held.Read 0) (held.Constant 0) ∷ []) [] []

no_writer : kind_of reads_only (atom 0 Eax 0) ≡ Err NoWriter
no_writer = refl

abbrev stores_zero : LitmusTest
stores_zero =
    test_of (code (instr.Store 0 0 ∷ []) (held.Constant 0) (held.Constant 0)
    ∷ code (instr.Load Eax 0 ∷ []) (held.Read 0) (held.Constant 0) ∷ []) [] []

zero_stored : kind_of stores_zero (atom 1 Eax 0) ≡ Err ZeroStored
zero_stored = refl

-- Numbers.

at_least : (map (λ v. kind_holds (AtLeast 2 1) v 0) (0 ∷ 1 ∷ 2 ∷ 3 ∷ 4 ∷ []) ≡ false ∷ true ∷ false ∷ true ∷ false ∷ [])
    × (map (λ v. kind_holds (AtLeast 2 1) v 1) (0 ∷ 1 ∷ 2 ∷ 3 ∷ 4 ∷ []) ≡ false ∷ false ∷ false ∷ true ∷ false ∷ [])
at_least = (refl, refl)

equal : (map (λ v. kind_holds (cond_kind.Exact 2 1) v 0) (0 ∷ 1 ∷ 2 ∷ 3 ∷ 4 ∷ []) ≡ false ∷ true ∷ false ∷ false ∷ false
    ∷ []) × (map (λ v. kind_holds (cond_kind.Exact 2 1) v 1) (0 ∷ 1 ∷ 2 ∷ 3 ∷ 4 ∷ []) ≡ false ∷ false ∷ false ∷ true
    ∷ false ∷ [])
equal = (refl, refl)

below_two : (kind_holds (Below 2) 2 0 ≡ false) × (kind_holds (Below 2) 2 1 ≡ true) × (kind_holds (Below 2) 3 1 ≡ false)
    × (kind_holds (Below 2) 0 0 ≡ true)
below_two = (refl, refl, refl, refl)

abbrev twice : LitmusTest
twice = test_of (code (instr.Store 0 1 ∷ instr.Store 0 2 ∷ []) (held.Constant 0) (held.Constant 0) ∷ []) [] []

value : value_of twice 0 (record { thread = 0; place = 1 }) 99999 ≡ 200000
value = refl

frame : (frame_of 3 2 5 ≡ 1 ∷ 2 ∷ []) × (frame_number 3 (1 ∷ 2 ∷ []) ≡ 5)
frame = (refl, refl)

-- Runs of store buffering.

-- two iterations, in the same way
abbrev relaxed_twice : List Event
relaxed_twice =
    at 0 0 0 Push ∷ at 1 0 0 Push ∷ at 0 0 1 (Read 0) ∷ at 1 0 1 (Read 0) ∷ at 0 1 0 Push ∷ at 1 1 0 Push
    ∷ at 0 1 1 (Read 0) ∷ at 1 1 1 (Read 0)
    ∷ at 0 0 0 Drain ∷ at 1 0 0 Drain ∷ at 0 1 0 Drain ∷ at 1 1 0 Drain ∷ []

seen : (hits_of sb sb_kinds 1 relaxed ≡ (0 ∷ 0 ∷ []) ∷ []) × (picked_hits sb 1 relaxed sb_kinds ≡ (0 ∷ 0 ∷ []) ∷ [])
seen = (refl, refl)

logs_twice : (log_of 0 relaxed_twice ≡ 0 ∷ 0 ∷ []) × (log_of 1 relaxed_twice ≡ 0 ∷ 0 ∷ [])
    × (log_of 0 drained_twice ≡ 0 ∷ 1 ∷ []) × (log_of 1 drained_twice ≡ 1 ∷ 2 ∷ [])
logs_twice = (refl, refl, refl, refl)

seen_twice : (length (hits_of sb sb_kinds 2 relaxed_twice) ≡ 4)
    × (picked_hits sb 2 relaxed_twice sb_kinds ≡ (0 ∷ 0 ∷ []) ∷ (1 ∷ 0 ∷ []) ∷ [])
seen_twice = (refl, refl)

not_seen : (hits_of sb sb_kinds 2 drained_twice ≡ []) × (picked_hits sb 2 drained_twice sb_kinds ≡ [])
not_seen = (refl, refl)

-- and by numbers
counted : (count_of (logged_in sb relaxed_twice) sb.ends (conds_of sb sb_kinds) 2 2 ≡ 4)
    × (picked_hits_by (logged_in sb relaxed_twice) 2 2 sb.ends (conds_of sb sb_kinds) ≡ (0 ∷ 0 ∷ []) ∷ (1 ∷ 0 ∷ [])
    ∷ [])
counted = (refl, refl)

-- Disjunctions.

-- 0:EAX=1 \/ 1:EAX=1
abbrev either : LitmusTest
either = sb_with (atom 0 Eax 1 ∷ atom 1 Eax 1 ∷ []) (1 ∷ 2 ∷ [])

abbrev either_kinds : List AtomKind
either_kinds = Exact 0 0 1 0 ∷ Exact 1 0 0 0 ∷ []

are_either_kinds : AreKinds either either_kinds
are_either_kinds = (refl, (refl, tt))

either_seen : (length (hits_of either either_kinds 2 drained_twice) ≡ 3)
    × (picked_hits either 2 drained_twice either_kinds ≡ (1 ∷ 0 ∷ []) ∷ (0 ∷ 0 ∷ []) ∷ (1 ∷ 1 ∷ []) ∷ [])
either_seen = (refl, refl)

either_counted : (count_of (logged_in either drained_twice) either.ends (conds_of either either_kinds) 2 2 ≡ 3)
    × (picked_hits_by (logged_in either drained_twice) 2 2 either.ends (conds_of either either_kinds) ≡ (1 ∷ 0 ∷ [])
    ∷ (0 ∷ 0 ∷ []) ∷ (1 ∷ 1 ∷ []) ∷ [])
either_counted = (refl, refl)

-- 0:EAX=0 /\ 1:EAX=0 \/ 0:EAX=1
abbrev two_and_one : LitmusTest
two_and_one = sb_with (atom 0 Eax 0 ∷ atom 1 Eax 0 ∷ atom 0 Eax 1 ∷ []) (2 ∷ 3 ∷ [])

abbrev two_and_one_kinds : List AtomKind
two_and_one_kinds = Fr 0 0 1 ∷ Fr 1 0 0 ∷ Exact 0 0 1 0 ∷ []

two_and_one_seen : (length (hits_of two_and_one two_and_one_kinds 2 relaxed_twice) ≡ 4)
    × (picked_hits two_and_one 2 relaxed_twice two_and_one_kinds ≡ (0 ∷ 0 ∷ []) ∷ (1 ∷ 0 ∷ []) ∷ [])
two_and_one_seen = (refl, refl)

-- 0:EAX=0 /\ 1:EAX=0 \/ 1:EAX=0 /\ 0:EAX=0 finds its hit once
abbrev same_twice : LitmusTest
same_twice = sb_with (atom 0 Eax 0 ∷ atom 1 Eax 0 ∷ atom 1 Eax 0 ∷ atom 0 Eax 0 ∷ []) (2 ∷ 4 ∷ [])

abbrev same_twice_kinds : List AtomKind
same_twice_kinds = Fr 0 0 1 ∷ Fr 1 0 0 ∷ Fr 1 0 0 ∷ Fr 0 0 1 ∷ []

same_twice_seen : (length (hits_of same_twice same_twice_kinds 1 relaxed) ≡ 1)
    × (picked_hits same_twice 1 relaxed same_twice_kinds ≡ (0 ∷ 0 ∷ []) ∷ [])
same_twice_seen = (refl, refl)

cut : conjunctions_of {A = ℕ} (2 ∷ 3 ∷ []) (7 ∷ 8 ∷ 9 ∷ []) ≡ (7 ∷ 8 ∷ []) ∷ (9 ∷ []) ∷ []
cut = refl

-- Exact atoms in a run of message passing: the second iteration's store is read, so an rf atom would hold of the first
-- one too.

abbrev passed : List Event
passed =
    at 0 0 0 Push ∷ at 0 0 1 Push ∷ at 0 1 0 Push ∷ at 0 1 1 Push ∷ at 0 0 0 Drain ∷ at 0 0 1 Drain ∷ at 1 0 0 (Read 1)
    ∷ at 0 1 0 Drain ∷ at 1 0 1 (Read 2)
    ∷ at 0 1 1 Drain ∷ at 1 1 0 (Read 2) ∷ at 1 1 1 (Read 2) ∷ []

first_read : (holds_in mp passed (0 ∷ 0 ∷ []) (Exact 1 0 0 1) ≡ true)
    × (holds_in mp passed (1 ∷ 0 ∷ []) (Exact 1 0 0 1) ≡ false)
first_read = (refl, refl)

second_read : (holds_in mp passed (0 ∷ 1 ∷ []) (Exact 1 0 0 1) ≡ false)
    × (holds_in mp passed (1 ∷ 1 ∷ []) (Exact 1 0 0 1) ≡ true) × (holds_in mp passed (0 ∷ 1 ∷ []) (Rf 1 0 0 1) ≡ true)
second_read = (refl, refl, refl)

-- Picks by numbers.

-- thread 1 has logged these of y and x
abbrev mp_logged : Logged
mp_logged t zero i = slice_index (0 ∷ 2 ∷ 3 ∷ []) i
mp_logged t (suc c) i = slice_index (1 ∷ 3 ∷ 3 ∷ []) i

mp_picks : (map (picked_frame 2 (map (link_by mp_logged 3) (conds_of mp mp_kinds))) (0 ∷ 1 ∷ 2 ∷ []) ≡ None
    ∷ Some (1 ∷ 1 ∷ []) ∷ Some (2 ∷ 2 ∷ []) ∷ []) × (picked_hits_by mp_logged 2 3 mp.ends (conds_of mp mp_kinds) ≡ [])
mp_picks = (refl, refl)

-- thread 0 has logged 1 and 2
abbrev sb_logged : Logged
sb_logged t c i = slice_index (1 ∷ 2 ∷ []) i

sb_picks : map (picked_frame 2 (map (link_by sb_logged 2) (conds_of sb sb_kinds))) (0 ∷ 1 ∷ []) ≡ Some (0 ∷ 1 ∷ [])
    ∷ None ∷ []
sb_picks = refl

-- The laws' premises are met.

relaxed_runs : IsRunOf sb 1 relaxed
relaxed_runs = run_by sb 1 relaxed assumption

sb_holds_reads : HoldsReads sb
sb_holds_reads =
    All-from_recursion (λ (c : Code). AreHeld c.actions c.registers) sb.bodies (held_in 0 1, (held_in 1 0, tt))
  where
    held_in : (stored loaded : ℕ) → AreHeld (body stored loaded).actions (body stored loaded).registers
    held_in stored loaded =
        All-from_recursion (IsHeld (body stored loaded).actions) (body stored loaded).registers
        (refl, (tt, (tt, (tt, (tt, (tt, tt))))))

-- Runs and numbers agree where a value is next to a condition's bound, and where another store's value lies above it.

-- one iteration in order: thread 1 reads x after the write of 1, and 1 is the bound 1*0 + 1
abbrev in_order : List Event
in_order = at 0 0 0 Push ∷ at 0 0 0 Drain ∷ at 0 0 1 (Read 0) ∷ at 1 0 0 Push ∷ at 1 0 0 Drain ∷ at 1 0 1 (Read 1) ∷ []

at_the_bound : (holds_in sb in_order (0 ∷ 0 ∷ []) (Fr 1 0 0) ≡ false)
    × (cond_holds (logged_in sb in_order) (0 ∷ 0 ∷ []) (cond_of sb (Fr 1 0 0)) ≡ false)
at_the_bound = (refl, refl)

none_in_order : (hits_of sb sb_kinds 1 in_order ≡ [])
    × (count_of (logged_in sb in_order) sb.ends (conds_of sb sb_kinds) 1 2 ≡ 0)
none_in_order = (refl, refl)

-- threads 0 and 1 write 1 and 2 to x, and thread 2 reads 2: it reads from thread 1 and not from thread 0, though 2 is
-- above 1
abbrev of_the_second : List Event
of_the_second = at 0 0 0 Push ∷ at 0 0 0 Drain ∷ at 1 0 0 Push ∷ at 1 0 0 Drain ∷ at 2 0 0 (Read 2) ∷ []

not_of_the_first : (holds_in (writers 1 2) of_the_second (0 ∷ 0 ∷ 0 ∷ []) (Rf 2 0 0 0) ≡ false)
    × (cond_holds (logged_in (writers 1 2) of_the_second) (0 ∷ 0 ∷ 0 ∷ []) (cond_of (writers 1 2) (Rf 2 0 0 0)) ≡ false)
not_of_the_first = (refl, refl)

but_of_the_second : (holds_in (writers 1 2) of_the_second (0 ∷ 0 ∷ 0 ∷ []) (Rf 2 0 1 0) ≡ true)
    × (cond_holds (logged_in (writers 1 2) of_the_second) (0 ∷ 0 ∷ 0 ∷ []) (cond_of (writers 1 2) (Rf 2 0 1 0)) ≡ true)
but_of_the_second = (refl, refl)
