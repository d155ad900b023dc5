-- Worked tests and runs: tests and events in short, runs of store buffering, and a lemma by which computing shows that
-- a run is one of a test.
use Rattle.std.proofs.Common.{◌≡◌, ℕ, zero, suc, ◌<◌, ◌≤◌, ◌==◌, true, false, inl, inr, List, [], ◌∷◌, arith, length, ltb, ne_eqb, sym}
use Rattle.std.specs.List.{AllByRecursion as Each}
use Rattle.std.proofs.lemmas.Bool.{cases_lt, ltb-true}
use Rattle.std.proofs.lemmas.List.Elements.{All-from_recursion}
use Rattle.x86_subset.specs.Test.{Code, LitmusTest}
use Rattle.x86_subset.specs.declared.instr.Instr.{Instr}
use Rattle.x86_subset.specs.declared.instr.Instr.TheVariants as instr
use Rattle.x86_subset.specs.declared.instr.Reg.TheVariants.{Eax}
use Rattle.x86_subset.specs.declared.test.Quantifier.TheVariants.{Exists}
use Rattle.perp_base.proofs.Lists.{each_weaker, filter_none}
use Rattle.tso_machine.specs.Event.{Event, Kind, Push, Drain, Read}
use Rattle.tso_machine.specs.Machine.{Steps, after_all, initial}
use Rattle.tso_machine.specs.Part.{Performs, part_of}
use Rattle.tso_machine.specs.Run.{IsRunOf}
use Rattle.tso_machine.proofs.Runs.{queue_after}

abbrev codes : List (List Instr) → List Code
codes [] = []
codes (actions ∷ rest) = record { actions = actions; registers = [] } ∷ codes rest

-- a test of these bodies, without a condition
abbrev pub test_of : List (List Instr) → LitmusTest
test_of bodies = record { name = []; locations = []; bodies = codes bodies; quantifier = Exists; atoms = []; ends = [] }

-- an event of a thread in an iteration at a place
abbrev pub at : ℕ → ℕ → ℕ → Kind → Event
at t n p k = record { thread = t; iteration = n; place = p; kind = k }

-- store buffering
abbrev pub sb : LitmusTest
sb = test_of ((instr.Store 0 1 ∷ instr.Load Eax 1 ∷ []) ∷ (instr.Store 1 1 ∷ instr.Load Eax 0 ∷ []) ∷ [])

-- its run of one iteration in which no buffer drains before the end, so both threads read the initial value
abbrev pub relaxed : List Event
relaxed = at 0 0 0 Push ∷ at 1 0 0 Push ∷ at 0 0 1 (Read 0) ∷ at 1 0 1 (Read 0) ∷ at 0 0 0 Drain ∷ at 1 0 0 Drain ∷ []

-- its run of two iterations in order, where each store drains before the next action
abbrev pub in_order : List Event
in_order =
    at 0 0 0 Push ∷ at 0 0 0 Drain ∷ at 0 0 1 (Read 0) ∷ at 1 0 0 Push ∷ at 1 0 0 Drain ∷ at 1 0 1 (Read 1)
    ∷ at 0 1 0 Push ∷ at 0 1 0 Drain ∷ at 0 1 1 (Read 1) ∷ at 1 1 0 Push ∷ at 1 1 0 Drain ∷ at 1 1 1 (Read 2) ∷ []

-- its run of two iterations whose threads take turns, where each store drains before its thread's next action
abbrev pub drained_twice : List Event
drained_twice =
    at 0 0 0 Push ∷ at 1 0 0 Push ∷ at 0 0 0 Drain ∷ at 0 0 1 (Read 0) ∷ at 1 0 0 Drain ∷ at 1 0 1 (Read 1)
    ∷ at 0 1 0 Push ∷ at 1 1 0 Push ∷ at 0 1 0 Drain ∷ at 0 1 1 (Read 1) ∷ at 1 1 0 Drain ∷ at 1 1 1 (Read 2) ∷ []

-- it holds of each number below this one
abbrev pub EachBelow : (ℕ → Type 0) → ℕ → Type 0
EachBelow P zero = Unit {0}
EachBelow P (suc n) = EachBelow P n × P n

each_below : (P : ℕ → Type 0) (n t : ℕ) → EachBelow P n → t < n → P t
each_below P zero t h l = absurd (omega arith)
each_below P (suc n) t h l = elim (cases_lt t n) [
  | inl k ↦ each_below P n t h.0 k
  | inr k ↦ let e : t ≡ n = omega arith in rw e (h.1)
]

no_part : (n t : ℕ) (run : List Event) → Each (λ e. ltb e.thread n ≡ true) run → n ≤ t → part_of t run ≡ []
no_part n t run h l =
    filter_none (λ e. e.thread == t) run
    (each_weaker (λ e. ltb e.thread n ≡ true) (λ e. (e.thread == t) ≡ false)
    (λ e k. let b : e.thread < n = ltb-true e.thread n k in ne_eqb e.thread t (λ q. omega arith)) run h)

-- what computing shows of a run
pub record IsWorked (test : LitmusTest) (n : ℕ) (run : List Event) : Type 0 where
  pub steps : Steps test initial run
  pub threads : Each (λ e. ltb e.thread (length test.bodies) ≡ true) run
  pub drained : EachBelow (λ t. (after_all test initial run).buffer t ≡ []) (length test.bodies)
  pub performs : EachBelow (λ t. Performs test n t (part_of t run)) (length test.bodies)

others_drained : (test : LitmusTest) (n : ℕ) (run : List Event) → IsWorked test n run
    → (t : ℕ) → length test.bodies ≤ t → (after_all test initial run).buffer t ≡ []
others_drained test n run w t l =
    let q = queue_after test true t initial run w.steps in
    sym (rw (no_part (length test.bodies) t run w.threads l) at q)

pub run_by : (test : LitmusTest) (n : ℕ) (run : List Event) → IsWorked test n run → IsRunOf test n run
run_by test n run w = record {
  legal =
      record {
        steps = w.steps;
        drained = λ t. elim (cases_lt t (length test.bodies)) [
          | inl k ↦ each_below (λ u. (after_all test initial run).buffer u ≡ []) (length test.bodies) t w.drained k
          | inr k ↦ others_drained test n run w t k
        ];
      };
  performs = λ t. each_below (λ u. Performs test n u (part_of u run)) (length test.bodies) t w.performs;
  threads = All-from_recursion (λ (e : Event). e.thread < length test.bodies) run
      (each_weaker (λ e. ltb e.thread (length test.bodies) ≡ true) (λ e. e.thread < length test.bodies)
      (λ e. ltb-true e.thread (length test.bodies)) run w.threads);
}
