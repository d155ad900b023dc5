-- Laws: what a frame of perpetual loops (PerpLE: Melissaris, Markakis, Shaw and Martonosi, MICRO 2020) says of the
-- litmus test as it is written, run once on x86-TSO (Sewell, Sarkar, Owens, Zappa Nardelli and Myreen, CACM 2010). The
-- laws themselves are this project's own.
use Rattle.std.specs.Prelude.{◌≡◌, ◌↔◌, ◌⊎◌, ℕ, ◌<◌, ◌≤◌, true, List, Ok, [], length}
use Rattle.x86_subset.specs.Test.{LitmusTest, HoldsReads}
use Rattle.x86_subset.specs.declared.test.Atom.{Atom}
use Rattle.tso_machine.specs.Event.{Event}
use Rattle.tso_machine.specs.Run.{IsRunOf}
use Rattle.profile_check.specs.Kinds.{kind_of}
use Rattle.profile_check.specs.Profile.{CheckedTest, IsChecked}
use Rattle.profile_check.specs.declared.kind.AtomKind.{AtomKind}
use Rattle.outcome_conv.specs.Conds.{cond_holds, logged_in}
use Rattle.outcome_conv.specs.Hits.{IsFrame, hits_of, is_hit}
use Rattle.outcome_conv.specs.Holds.{holds_in}
use Rattle.decision.specs.Decisions.{NeverHolds}
use Rattle.decision.specs.Shown.{IsOrdered, Shows}
use Rattle.litmus_outcomes.specs.Outcome.{IsAllowed, IsPossible}
use Rattle.litmus_outcomes.specs.Within.{AllHoldAt, AllHoldWithin, IsSteady, cond_within, holds_within, is_steady}

-- ---- runs of one iteration

-- law: some run of one iteration, whose stores write k*n + a, shows a conjunction exactly where it is the outcome of an
-- execution of the test, whose stores write the values of the text
abbrev pub OnceIsTheTest : Type 0
OnceIsTheTest =
    (checked : CheckedTest) (c : ℕ)
    → IsChecked checked
    → ((run : List Event) × Shows checked c run) ↔ IsPossible checked.test c

-- ---- what holds within a frame

-- law: where all atoms of a conjunction hold within a frame of a run, of however many iterations, the conjunction is the
-- outcome of an execution of the test. That is so of every conjunction.
abbrev pub FramesWithinAreOutcomes : Type 0
FramesWithinAreOutcomes =
    (checked : CheckedTest) (n c : ℕ) (run : List Event) (frame : List ℕ)
    → IsChecked checked
    → IsRunOf checked.test n run
    → IsFrame checked.test n frame
    → AllHoldWithin checked run frame c
    → IsPossible checked.test c

-- law: whatever the number of iterations, a conjunction is the outcome of an execution exactly where in some run of so
-- many iterations all of its atoms hold within some frame
abbrev pub OutcomesAreFramesWithin : Type 0
OutcomesAreFramesWithin =
    (checked : CheckedTest) (n c : ℕ)
    → IsChecked checked
    → 1 ≤ n
    → IsPossible checked.test c
    ↔ ((run : List Event) × (frame : List ℕ) × IsRunOf checked.test n run × IsFrame checked.test n frame
    × AllHoldWithin checked run frame c)

-- law: the condition in numbers, asked of the logs of a run, tells whether an atom holds within a frame
abbrev pub ConditionsAgreeWithin : Type 0
ConditionsAgreeWithin =
    (test : LitmusTest) (n : ℕ) (run : List Event) (frame : List ℕ) (atom : Atom) (kind : AtomKind)
    → HoldsReads test
    → IsRunOf test n run
    → IsFrame test n frame
    → kind_of test atom ≡ Ok kind
    → cond_holds (logged_in test run) frame (cond_within test kind) ≡ holds_within test run frame kind

-- ---- what holds at a frame

-- law: a steady atom holds at a frame exactly where it holds within it
abbrev pub SteadyHoldsWithin : Type 0
SteadyHoldsWithin =
    (test : LitmusTest) (n : ℕ) (run : List Event) (frame : List ℕ) (atom : Atom) (kind : AtomKind)
    → HoldsReads test
    → IsRunOf test n run
    → IsFrame test n frame
    → kind_of test atom ≡ Ok kind
    → is_steady kind ≡ true
    → holds_in test run frame kind ≡ holds_within test run frame kind

-- law: where all atoms of a steady conjunction hold at a frame of a run, of however many iterations, the conjunction is
-- the outcome of an execution of the test
abbrev pub SteadyHitsAreOutcomes : Type 0
SteadyHitsAreOutcomes =
    (checked : CheckedTest) (n c : ℕ) (run : List Event) (frame : List ℕ)
    → IsChecked checked
    → IsSteady checked c
    → IsRunOf checked.test n run
    → IsFrame checked.test n frame
    → AllHoldAt checked run frame c
    → IsPossible checked.test c

-- law: an ordered conjunction is steady
abbrev pub OrderedIsSteady : Type 0
OrderedIsSteady = (checked : CheckedTest) (c : ℕ) → IsChecked checked → IsOrdered checked c → IsSteady checked c

-- law: where all atoms of an ordered conjunction hold at a frame of a run, of however many iterations, the conjunction
-- is the outcome of an execution of the test
abbrev pub HitsAreOutcomes : Type 0
HitsAreOutcomes =
    (checked : CheckedTest) (n c : ℕ) (run : List Event) (frame : List ℕ)
    → IsChecked checked
    → IsOrdered checked c
    → IsRunOf checked.test n run
    → IsFrame checked.test n frame
    → AllHoldAt checked run frame c
    → IsPossible checked.test c

-- law: of other conjunctions this can be false. There are a test with one conjunction, and a run of two iterations with
-- a hit at a frame, but no execution of the test has the conjunction as its outcome.
abbrev pub OrderIsNeeded : Type 0
OrderIsNeeded =
    (checked : CheckedTest)
    × (run : List Event)
    × (frame : List ℕ)
    × IsChecked checked
    × (length checked.test.ends ≡ 1)
    × IsRunOf checked.test 2 run
    × IsFrame checked.test 2 frame
    × (is_hit checked.test checked.kinds run frame ≡ true)
    × (IsPossible checked.test 0 → ⊥)

-- ---- the whole condition

-- each conjunction of the test is steady, or never holds
abbrev pub AreSteadyOrNever : CheckedTest → Type 0
AreSteadyOrNever checked = (c : ℕ) → c < length checked.test.ends → IsSteady checked c ⊎ NeverHolds checked c

-- law: where each conjunction is steady or never holds, and a run, of however many iterations, has a hit, x86-TSO allows
-- what the condition asks for
abbrev pub SeenIsAllowed : Type 0
SeenIsAllowed =
    (checked : CheckedTest) (n : ℕ) (run : List Event)
    → IsChecked checked
    → AreSteadyOrNever checked
    → IsRunOf checked.test n run
    → (hits_of checked.test checked.kinds n run ≡ [] → ⊥)
    → IsAllowed checked.test

-- some run of n iterations has a hit
abbrev pub SomeRunHits : CheckedTest → ℕ → Type 0
SomeRunHits checked n =
    (run : List Event) × IsRunOf checked.test n run × (hits_of checked.test checked.kinds n run ≡ [] → ⊥)

-- law: where a conjunction is the outcome of an execution, some run of any given number of iterations has a hit
abbrev pub OutcomesAreCountable : Type 0
OutcomesAreCountable =
    (checked : CheckedTest) (n c : ℕ)
    → IsChecked checked
    → c < length checked.test.ends
    → IsPossible checked.test c
    → 1 ≤ n
    → SomeRunHits checked n

-- law: a conjunction that holds at no frame of any run is the outcome of no execution
abbrev pub NeverIsImpossible : Type 0
NeverIsImpossible =
    (checked : CheckedTest) (c : ℕ)
    → IsChecked checked
    → NeverHolds checked c
    → IsPossible checked.test c
    → ⊥
