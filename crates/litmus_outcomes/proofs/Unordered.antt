-- Two threads store to x, and two others read it twice. That one reads 1 and then 2 and the other 2 and then 1 is no
-- outcome of the test: memory takes one of the two last. But over two iterations there is a hit: an rf atom takes the
-- store of a later iteration too.
use Rattle.std.proofs.Common.{◌≡◌, ℕ, zero, suc, ◌<◌, ◌≤◌, true, false, IfSome, Some, List, [], ◌∷◌, length, refl, slice_get, option_and_then, arith}
use Rattle.std.proofs.lemmas.List.Elements.{All-from_recursion}
use Rattle.std.specs.List.{AllZip}
use Rattle.x86_subset.specs.Instr.{location_of}
use Rattle.x86_subset.specs.Registers.{AreHeld, IsHeld}
use Rattle.x86_subset.specs.Shape.{IsLocated}
use Rattle.x86_subset.specs.Test.{Code, HoldsReads, LitmusTest}
use Rattle.x86_subset.specs.declared.body.Held.{Held}
use Rattle.x86_subset.specs.declared.body.Held.TheVariants as held
use Rattle.x86_subset.specs.declared.instr.Instr.{Instr}
use Rattle.x86_subset.specs.declared.instr.Instr.TheVariants as instr
use Rattle.x86_subset.specs.declared.instr.Reg.{Reg}
use Rattle.x86_subset.specs.declared.instr.Reg.TheVariants.{Eax, Ebx}
use Rattle.x86_subset.specs.declared.test.Atom.{Atom}
use Rattle.x86_subset.specs.declared.test.Quantifier.TheVariants.{Exists}
use Rattle.tso_machine.specs.Event.{Event, Push, Drain, Read}
use Rattle.tso_machine.specs.Run.{IsRunOf}
use Rattle.tso_machine.proofs.Worked.{at, run_by}
use Rattle.profile_check.specs.Kinds.{AreKinds}
use Rattle.profile_check.specs.Profile.{IsChecked}
use Rattle.profile_check.specs.declared.kind.AtomKind.{AtomKind}
use Rattle.profile_check.specs.declared.kind.AtomKind.TheVariants.{Rf}
use Rattle.outcome_conv.specs.Hits.{is_hit}
use Rattle.litmus_outcomes.specs.Laws.{OrderIsNeeded}
use Rattle.litmus_outcomes.specs.Machine.{Action, Writes, Drains, Reads, Fences, Exchanges, Step, start}
use Rattle.litmus_outcomes.specs.Outcome.{Does, HasOutcome, IsExecution, IsPossible, done_by, value_read_by}
use Rattle.litmus_outcomes.proofs.Exploring.{may_end, no_end_from}

abbrev pub code : List Instr → Held → Held → Code
code actions a b = record {
  actions = actions;
  registers = a ∷ b ∷ held.Constant 0 ∷ held.Constant 0 ∷ held.Constant 0 ∷ held.Constant 0 ∷ [];
}

abbrev pub writer : ℕ → Code
writer v = code (instr.Store 0 v ∷ []) (held.Constant 0) (held.Constant 0)

abbrev pub reader : Code
reader = code (instr.Load Eax 0 ∷ instr.Load Ebx 0 ∷ []) (held.Read 0) (held.Read 1)

abbrev pub atom : ℕ → Reg → ℕ → Atom
atom t reg v = record { thread = t; reg = reg; value = v }

abbrev pub readers : LitmusTest
readers = record {
  name = [];
  locations = [] ∷ [];
  bodies = writer 1 ∷ writer 2 ∷ reader ∷ reader ∷ [];
  quantifier = Exists;
  atoms = atom 2 Eax 1 ∷ atom 2 Ebx 2 ∷ atom 3 Eax 2 ∷ atom 3 Ebx 1 ∷ [];
  ends = 4 ∷ [];
}

abbrev pub readers_kinds : List AtomKind
readers_kinds = Rf 2 0 0 0 ∷ Rf 2 1 1 0 ∷ Rf 3 0 1 0 ∷ Rf 3 1 0 0 ∷ []

are_kinds : AreKinds readers readers_kinds
are_kinds = (refl, (refl, (refl, (refl, tt))))

-- P3's second read takes what P0 stores in its second iteration
abbrev pub twice : List Event
twice =
    at 0 0 0 Push ∷ at 0 0 0 Drain ∷ at 2 0 0 (Read 1) ∷ at 1 0 0 Push ∷ at 1 0 0 Drain ∷ at 2 0 1 (Read 2)
    ∷ at 3 0 0 (Read 2) ∷ at 0 1 0 Push ∷ at 0 1 0 Drain ∷ at 3 0 1 (Read 3) ∷ at 1 1 0 Push ∷ at 1 1 0 Drain
    ∷ at 2 1 0 (Read 4) ∷ at 2 1 1 (Read 4) ∷ at 3 1 0 (Read 4) ∷ at 3 1 1 (Read 4) ∷ []

pub twice_is : IsRunOf readers 2 twice
twice_is = run_by readers 2 twice assumption

pub twice_hits : is_hit readers readers_kinds twice (0 ∷ 0 ∷ 0 ∷ 0 ∷ []) ≡ true
twice_hits = refl

-- what each thread does where the outcome is had
abbrev wanted : ℕ → List Action
wanted zero = Writes 0 1 ∷ []
wanted (suc zero) = Writes 0 2 ∷ []
wanted (suc (suc zero)) = Reads 0 1 ∷ Reads 0 2 ∷ []
wanted (suc (suc (suc zero))) = Reads 0 2 ∷ Reads 0 1 ∷ []
wanted (suc (suc (suc (suc t)))) = []

no_end : may_end 4 9 start wanted ≡ false
no_end = refl

-- so no execution has the outcome

reads_first : (x y v : ℕ) (r q : Reg) (done : List Action) (i : ℕ)
    → AllZip Does (instr.Load r x ∷ instr.Load q y ∷ []) done → option_and_then value_read_by (slice_get done 0) ≡ Some v
    → option_and_then value_read_by (slice_get done 1) ≡ Some i → done ≡ Reads x v ∷ Reads y i ∷ []
reads_first x y v r q [] i z e f = absurd z
reads_first x y v r q (a ∷ []) i z e f = absurd (z.1)
reads_first x y v r q (a ∷ b ∷ []) i z e f = λ j. read_is r x v a z.0 e j ∷ read_is q y i b z.1.0 f j ∷ []
  where
    read_is : (r : Reg) (x v : ℕ) (a : Action) → Does (instr.Load r x) a → value_read_by a ≡ Some v → a ≡ Reads x v
    read_is r x v (Writes y w) d e = absurd d
    read_is r x v (Drains y w) d e = absurd d
    read_is r x v (Reads y w) d e = let k : w ≡ v = cc in λ j. Reads (d j) (k j)
    read_is r x v Fences d e = absurd d
    read_is r x v (Exchanges y w z) d e = absurd d
reads_first x y v r q (a ∷ b ∷ c ∷ done) i z e f = absurd (z.1.1)

writes_first : (x v : ℕ) (done : List Action) → AllZip Does (instr.Store x v ∷ []) done → done ≡ Writes x v ∷ []
writes_first x v [] z = absurd z
writes_first x v (a ∷ []) z = λ j. write_is a z.0 j ∷ []
  where
    write_is : (a : Action) → Does (instr.Store x v) a → a ≡ Writes x v
    write_is (Writes y w) d = λ j. Writes (d.0 j) (d.1 j)
    write_is (Drains y w) d = absurd d
    write_is (Reads y w) d = absurd d
    write_is Fences d = absurd d
    write_is (Exchanges y w z) d = absurd d
writes_first x v (a ∷ b ∷ done) z = absurd (z.1)

does_nothing : (done : List Action) → AllZip Does [] done → done ≡ []
does_nothing [] z = refl
does_nothing (a ∷ done) z = absurd z

does_wanted : (steps : List Step) → IsExecution readers steps → HasOutcome readers 0 steps → (t : ℕ)
    → done_by t steps ≡ wanted t
does_wanted steps x o zero = writes_first 0 1 (done_by 0 steps) (x.in_order 0)
does_wanted steps x o (suc zero) = writes_first 0 2 (done_by 1 steps) (x.in_order 1)
does_wanted steps x o (suc (suc zero)) =
    reads_first 0 0 1 Eax Ebx (done_by 2 steps) 2 (x.in_order 2) (o 0 (atom 0 Eax 0) (omega arith))
    (o 1 (atom 0 Eax 0) (omega arith))
does_wanted steps x o (suc (suc (suc zero))) =
    reads_first 0 0 2 Eax Ebx (done_by 3 steps) 1 (x.in_order 3) (o 2 (atom 0 Eax 0) (omega arith))
    (o 3 (atom 0 Eax 0) (omega arith))
does_wanted steps x o (suc (suc (suc (suc t)))) =
    does_nothing (done_by (suc (suc (suc (suc t)))) steps) (x.in_order (suc (suc (suc (suc t)))))

readers_impossible : IsPossible readers 0 → ⊥
readers_impossible p = no_end_from 4 9 p.0 wanted p.1 (does_wanted p.0 p.1 p.2) none_past no_end
  where
    none_past : (t : ℕ) → 4 ≤ t → wanted t ≡ []
    none_past zero l = absurd (omega arith)
    none_past (suc zero) l = absurd (omega arith)
    none_past (suc (suc zero)) l = absurd (omega arith)
    none_past (suc (suc (suc zero))) l = absurd (omega arith)
    none_past (suc (suc (suc (suc t)))) l = refl

-- It is a test that can be counted.

are_held : HoldsReads readers
are_held =
    All-from_recursion (λ (c : Code). AreHeld c.actions c.registers) readers.bodies
    (held_in 0 1, (held_in 0 2, (reads_held, (reads_held, tt))))
  where
    held_in : (x v : ℕ) → AreHeld (instr.Store x v ∷ []) (writer v).registers
    held_in x v =
        All-from_recursion (IsHeld (instr.Store x v ∷ [])) (writer v).registers (tt, (tt, (tt, (tt, (tt, (tt, tt))))))

    reads_held : AreHeld reader.actions reader.registers
    reads_held =
        All-from_recursion (IsHeld reader.actions) reader.registers (refl, (refl, (tt, (tt, (tt, (tt, tt))))))

pub readers_checked : IsChecked (record { test = readers; kinds = readers_kinds })
readers_checked = record {
  kinds = are_kinds;
  test =
      record {
        some_threads = omega arith;
        few_threads = omega arith;
        few_locations = omega arith;
        few_actions =
            All-from_recursion (λ (c : Code). length c.actions ≤ 16) readers.bodies
            (omega arith, (omega arith, (omega arith, (omega arith, tt))));
        some_atoms = omega arith;
        few_atoms = omega arith;
        located =
            All-from_recursion (λ (c : Code). IsLocated 1 c.actions) readers.bodies
            (stored 1, (stored 2, (loaded, (loaded, tt))));
        holds_reads = are_held;
        ends =
            record {
              some = omega arith;
              few = omega arith;
              first = omega arith;
              rising = λ k l. absurd (omega arith);
              last = refl;
            };
      };
}
  where
    stored : (v : ℕ) → IsLocated 1 (instr.Store 0 v ∷ [])
    stored v =
        All-from_recursion (λ i. IfSome (location_of i) (λ x. x < 1)) (instr.Store 0 v ∷ []) (omega arith, tt)

    loaded : IsLocated 1 reader.actions
    loaded =
        All-from_recursion (λ i. IfSome (location_of i) (λ x. x < 1)) reader.actions (omega arith, (omega arith, tt))

pub order_is_needed_lem : OrderIsNeeded
order_is_needed_lem = (
  record { test = readers; kinds = readers_kinds },
  twice,
  0 ∷ 0 ∷ 0 ∷ 0 ∷ [],
  readers_checked,
  refl,
  twice_is,
  record {
    one_each = refl;
    below = All-from_recursion (λ i. i < 2) (0 ∷ 0 ∷ 0 ∷ 0 ∷ [])
        (omega arith, (omega arith, (omega arith, (omega arith, tt))));
  },
  twice_hits,
  readers_impossible,
)
