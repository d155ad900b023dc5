-- Laws: a conjunction that names no hidden store is shown by a run of one iteration, or a tree of cases refutes it, and
-- not both. This project's own; for conjunctions that fix the order of all stores of a location it is in Alglave,
-- Maranget and Tautschnig ("Herding cats", TOPLAS 2014) and, for the machine, in Sewell, Sarkar, Owens, Zappa Nardelli
-- and Myreen ("x86-TSO", CACM 2010).
use Rattle.std.specs.Prelude.{◌≡◌, ◌↔◌, ◌⊎◌, ℕ, false, List, [], true}
use Rattle.std.specs.List.{AllZip, list_any}
use Rattle.x86_subset.specs.Test.{LitmusTest}
use Rattle.tso_machine.specs.Event.{Event}
use Rattle.tso_machine.specs.Run.{IsRunOf}
use Rattle.profile_check.specs.Profile.{CheckedTest, IsChecked}
use Rattle.outcome_conv.specs.Hits.{IsFrame}
use Rattle.verdict.specs.declared.node.Node.{Node}
use Rattle.verdict.specs.Edges.{edge_in, is_cycle_of, kinds_in}
use Rattle.decision.specs.Hidden.{is_hidden}
use Rattle.decision.specs.Shown.{IsOrdered, Shows}
use Rattle.litmus_outcomes.specs.Outcome.{IsPossible}
use Rattle.litmus_outcomes.specs.Within.{AllHoldAt, AllHoldWithin}
use Rattle.once.specs.Edges.{IsSideOf, Pair, Reading, choices_among, choices_in, edge_among, edge_once}
use Rattle.once.specs.Sources.{AreReadings, HasSources, HidesNone, is_hidden_source}
use Rattle.once.specs.Trees.{Refutes, RefutesAmong, Tree, cycle}

-- no atom of conjunction c names a hidden store
abbrev pub HidesNothing : CheckedTest → ℕ → Type 0
HidesNothing checked c = list_any (is_hidden checked.test) (kinds_in checked c) ≡ false

-- law: a conjunction that a tree refutes is shown by no run of one iteration
abbrev pub TreesForbid : Type 0
TreesForbid =
    (checked : CheckedTest) (c : ℕ) (run : List Event) (tree : Tree)
    → IsChecked checked
    → Refutes checked c [] tree
    → Shows checked c run
    → ⊥

-- law: nor does it hold within any frame of any run, of however many iterations
abbrev pub TreesForbidWithin : Type 0
TreesForbidWithin =
    (checked : CheckedTest) (n c : ℕ) (run : List Event) (frame : List ℕ) (tree : Tree)
    → IsChecked checked
    → IsRunOf checked.test n run
    → IsFrame checked.test n frame
    → Refutes checked c [] tree
    → AllHoldWithin checked run frame c
    → ⊥

-- law: where a side of each choice can be taken so that the edges have no cycle, and no hidden store is named, a run of
-- one iteration shows the conjunction
abbrev pub NoCycleIsShownOnce : Type 0
NoCycleIsShownOnce =
    (checked : CheckedTest) (c : ℕ) (taken : List Pair)
    → IsChecked checked
    → HidesNothing checked c
    → AllZip IsSideOf (choices_in checked c) taken
    → ((cycle : List Node) → is_cycle_of (edge_once checked c taken) cycle ≡ false)
    → (run : List Event) × Shows checked c run

-- law: so where no hidden store is named, a tree refutes the conjunction or a run of one iteration shows it
abbrev pub TreeOrRun : Type 0
TreeOrRun =
    (checked : CheckedTest) (c : ℕ)
    → IsChecked checked
    → HidesNothing checked c
    → ((tree : Tree) × Refutes checked c [] tree) ⊎ ((run : List Event) × Shows checked c run)

-- law: so where no hidden store is named, a tree refutes the conjunction exactly where no execution of the test, whose
-- stores write the values of the text, has it as its outcome
abbrev pub TreesDecide : Type 0
TreesDecide =
    (checked : CheckedTest) (c : ℕ)
    → IsChecked checked
    → HidesNothing checked c
    → ((tree : Tree) × Refutes checked c [] tree) ↔ (IsPossible checked.test c → ⊥)

-- law: and where one is, none has
abbrev pub HiddenIsImpossible : Type 0
HiddenIsImpossible =
    (checked : CheckedTest) (c : ℕ)
    → IsChecked checked
    → list_any (is_hidden checked.test) (kinds_in checked c) ≡ true
    → IsPossible checked.test c
    → ⊥

-- law: a cycle of the edges of verdicts is a tree without choices
abbrev pub CyclesAreTrees : Type 0
CyclesAreTrees =
    (checked : CheckedTest) (c : ℕ) (nodes : List Node)
    → IsChecked checked
    → is_cycle_of (edge_in checked c) nodes ≡ true
    → Refutes checked c [] (cycle nodes)

-- law: an ordered conjunction names no hidden store and has no choices; so `NoCycleIsShown` of decision is a case of
-- `NoCycleIsShownOnce`
abbrev pub OrderedHasNoChoice : Type 0
OrderedHasNoChoice =
    (checked : CheckedTest) (c : ℕ)
    → IsChecked checked
    → IsOrdered checked c
    → HidesNothing checked c × (choices_in checked c ≡ [])

-- law: there is a conjunction that a tree refutes, though all of its atoms hold at a frame of a run of two iterations,
-- so that no cycle of the edges of verdicts forbids it
abbrev pub TreesAreNeeded : Type 0
TreesAreNeeded =
    (checked : CheckedTest)
    × (tree : Tree)
    × (run : List Event)
    × (frame : List ℕ)
    × IsChecked checked
    × Refutes checked 0 [] tree
    × IsRunOf checked.test 2 run
    × IsFrame checked.test 2 frame
    × AllHoldAt checked run frame 0

-- ---- any reads and sources

-- law: where a tree refutes readings, no run of one iteration has all of their sources
abbrev pub TreesForbidSources : Type 0
TreesForbidSources =
    (test : LitmusTest) (readings : List Reading) (tree : Tree) (run : List Event)
    → AreReadings test readings
    → RefutesAmong test readings [] tree
    → HasSources test readings run
    → ⊥

-- law: nor where a source is hidden
abbrev pub HiddenSourcesAreNotRead : Type 0
HiddenSourcesAreNotRead =
    (test : LitmusTest) (readings : List Reading) (run : List Event)
    → AreReadings test readings
    → list_any (is_hidden_source test) readings ≡ true
    → HasSources test readings run
    → ⊥

-- law: where no source is hidden and a side of each choice can be taken so that the edges have no cycle, a run of one
-- iteration has all sources
abbrev pub NoCycleHasSources : Type 0
NoCycleHasSources =
    (test : LitmusTest) (readings : List Reading) (taken : List Pair)
    → AreReadings test readings
    → HidesNone test readings
    → AllZip IsSideOf (choices_among test readings) taken
    → ((cycle : List Node) → is_cycle_of (edge_among test readings taken) cycle ≡ false)
    → (run : List Event) × HasSources test readings run

-- law: where no source is hidden, a tree refutes the readings or a run of one iteration has all sources
abbrev pub SourcesTreeOrRun : Type 0
SourcesTreeOrRun =
    (test : LitmusTest) (readings : List Reading)
    → AreReadings test readings
    → HidesNone test readings
    → ((tree : Tree) × RefutesAmong test readings [] tree) ⊎ ((run : List Event) × HasSources test readings run)

-- law: so where no source is hidden, a tree refutes the readings exactly where no run of one iteration has all sources
abbrev pub TreesDecideSources : Type 0
TreesDecideSources =
    (test : LitmusTest) (readings : List Reading)
    → AreReadings test readings
    → HidesNone test readings
    → ((tree : Tree) × RefutesAmong test readings [] tree)
    ↔ (((run : List Event) × HasSources test readings run) → ⊥)

-- law: and a run of one iteration has all sources exactly where none is hidden and no tree refutes the readings
abbrev pub SourcesAreDecided : Type 0
SourcesAreDecided =
    (test : LitmusTest) (readings : List Reading)
    → AreReadings test readings
    → ((run : List Event) × HasSources test readings run)
    ↔ (HidesNone test readings × (((tree : Tree) × RefutesAmong test readings [] tree) → ⊥))
