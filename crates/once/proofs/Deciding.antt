-- A side of each choice, taken at once or in a tree of cases.
use Rattle.std.proofs.Common.{◌≡◌, false, Contains, List, [], ◌∷◌, subst, inl, inr, ◌⊎◌}
use Rattle.std.proofs.lemmas.Bool.{both_ways}
use Rattle.std.specs.List.{AllByRecursion as Each, AllZip}
use Rattle.x86_subset.specs.Test.{LitmusTest}
use Rattle.perp_base.proofs.Lists.{Among, contains_from_among, each_among, each_from_among}
use Rattle.verdict.specs.declared.node.Node.{Node}
use Rattle.verdict.specs.Edges.{is_cycle_of}
use Rattle.run_orders.proofs.Least.{further, here}
use Rattle.once.specs.Edges.{Choice, IsSideOf, Pair, Reading, after_reader, before_source, choices_among, edge_among}
use Rattle.once.specs.Sources.{AreReadings, HidesNone}
use Rattle.once.specs.Trees.{RefutesAmong, Tree, cycle, split}
use Rattle.once.proofs.Drawing.{IsTaken}
use Rattle.once.proofs.Making.{Closed, Made}
use Rattle.once.proofs.Showing.{run_or_cycle}

-- Sides in a list.

pub sides_taken : (cs : List Choice) (ps all : List Pair) → AllZip IsSideOf cs ps → ((p : Pair) → Among p ps → Among p all)
    → Each (IsTaken all) cs
sides_taken [] ps all z f = tt
sides_taken (c ∷ cs) [] all z f = absurd z
sides_taken (c ∷ cs) (p ∷ ps) all z f = (go z.0, sides_taken cs ps all z.1 (λ q a. f q (further q p ps a)))
  where
    go : IsSideOf c p → IsTaken all c
    go (inl e) = let P : Pair → Type 0 = λ q. Among q all in inl (subst P e (f p (here p ps)))
    go (inr e) = let P : Pair → Type 0 = λ q. Among q all in inr (subst P e (f p (here p ps)))

pub no_cycle_made : (test : LitmusTest) (readings : List Reading) (taken : List Pair) → AreReadings test readings
    → HidesNone test readings → AllZip IsSideOf (choices_among test readings) taken
    → ((cycle : List Node) → is_cycle_of (edge_among test readings taken) cycle ≡ false) → Made test readings
no_cycle_made test readings taken are hides zip none =
    let choices = choices_among test readings in
    go (run_or_cycle test readings taken are hides
    (λ choice a. each_among (IsTaken taken) choice choices a (sides_taken choices taken taken zip (λ p b. b))))
  where
    go : Closed (edge_among test readings taken) ⊎ Made test readings → Made test readings
    go (inl l) = absurd (both_ways (is_cycle_of (edge_among test readings taken) l.0) (none l.0) l.1)
    go (inr r) = r

-- Sides in a tree.

abbrev pub Decided : LitmusTest → List Reading → List Pair → Type 0
Decided test readings taken = ((tree : Tree) × RefutesAmong test readings taken tree) ⊎ Made test readings

abbrev IsOf : LitmusTest → List Reading → Choice → Type 0
IsOf test readings choice = Contains (choices_among test readings) choice

-- what takes these sides, and a side of each choice that is left, takes a side of each
abbrev Leaves : LitmusTest → List Reading → List Pair → List Choice → Type 0
Leaves test readings taken rest =
    (all : List Pair) → ((p : Pair) → Among p taken → Among p all) → Each (IsTaken all) rest
    → Each (IsTaken all) (choices_among test readings)

by_cases : (test : LitmusTest) (readings : List Reading) (rest : List Choice) (taken : List Pair)
    → AreReadings test readings → HidesNone test readings → Each (IsOf test readings) rest
    → Leaves test readings taken rest → Decided test readings taken
by_cases test readings [] taken are hides of leaves =
    go (run_or_cycle test readings taken are hides
    (λ choice a. each_among (IsTaken taken) choice (choices_among test readings) a (leaves taken (λ p b. b) tt)))
  where
    go : Closed (edge_among test readings taken) ⊎ Made test readings → Decided test readings taken
    go (inl l) = inl (cycle l.0, l.1)
    go (inr r) = inr r
by_cases test readings (choice ∷ rest) taken are hides of leaves =
    go (by_cases test readings rest (before_source choice ∷ taken) are hides of.1
    (λ all f e. leaves all (λ p a. f p (further p (before_source choice) taken a))
    (inl (f (before_source choice) (here (before_source choice) taken)), e)))
    (by_cases test readings rest (after_reader choice ∷ taken) are hides of.1
    (λ all f e. leaves all (λ p a. f p (further p (after_reader choice) taken a))
    (inr (f (after_reader choice) (here (after_reader choice) taken)), e)))
  where
    go : Decided test readings (before_source choice ∷ taken) → Decided test readings (after_reader choice ∷ taken)
        → Decided test readings taken
    go (inr r) b = inr r
    go (inl t) (inr r) = inr r
    go (inl t) (inl u) = inl (split choice t.0 u.0, (of.0, t.1, u.1))

pub tree_or_made : (test : LitmusTest) (readings : List Reading) → AreReadings test readings → HidesNone test readings
    → Decided test readings []
tree_or_made test readings are hides =
    let choices = choices_among test readings in
    by_cases test readings choices [] are hides
    (each_from_among (IsOf test readings) choices (λ choice a. contains_from_among choices choice a))
    (λ all f e. e)
