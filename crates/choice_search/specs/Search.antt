-- The search: the sides that are taken so far, what a refutation uses of them, and the nodes that are left when those
-- with no edge to one that is left are left out. This project's own.
use Rattle.std.specs.Prelude.{◌≡◌, ℕ, ◌≤◌, ◌==◌, ◌&&◌, ◌||◌, Bool, true, false, Option, None, Some, List, [], ◌∷◌, All, slice_get}
use Rattle.std.specs.List.{AllZip, list_any}
use Rattle.choice_search.specs.declared.graph.Pair.{Pair}
use Rattle.choice_search.specs.declared.graph.Choice.{Choice}
use Rattle.choice_search.specs.declared.graph.Side.{Side}
use Rattle.choice_search.specs.declared.graph.Side.TheVariants.{Before, After}
use Rattle.choice_search.specs.declared.found.Refutation.{Refutation}
use Rattle.choice_search.specs.declared.found.Found.{Found}
use Rattle.choice_search.specs.declared.found.Found.TheVariants.{Sides, Refuted, GaveUp}
use Rattle.choice_search.specs.Graph.{HasNoCycle, IsSideOf, after_reader, before_source, has_pair, is_cycle_of}
use Rattle.choice_search.specs.Trees.{Refutes}

-- ---- nodes

-- whether a node is among the nodes
abbrev pub is_among : ℕ → List ℕ → Bool
is_among n nodes = list_any (λ x. x == n) nodes

-- whether one of the edges leads from a node to one of the nodes
abbrev pub leads : List Pair → List ℕ → ℕ → Bool
leads edges nodes a = list_any (λ p. (p.first == a) && is_among p.second nodes) edges

abbrev pub has_next : List Pair → List Pair → List ℕ → ℕ → Bool
has_next edges more nodes a = leads edges nodes a || leads more nodes a

-- each cycle among the first nodes stands among the second
abbrev pub KeepsCycles : (ℕ → ℕ → Bool) → List ℕ → List ℕ → Type 0
KeepsCycles edge before after =
    (cycle : List ℕ)
    → is_cycle_of edge cycle ≡ true
    → All (λ n. is_among n before ≡ true) cycle
    → All (λ n. is_among n after ≡ true) cycle

-- a node alone twice
abbrev pub closed : List ℕ → List ℕ
closed [] = []
closed (a ∷ []) = a ∷ a ∷ []
closed (a ∷ b ∷ rest) = a ∷ b ∷ rest

-- ---- sides

abbrev pub opposite_of : Side → Side
opposite_of Before = After
opposite_of After = Before

-- the edge of a side
abbrev pub side_of : Choice → Side → Pair
side_of c Before = before_source c
side_of c After = after_reader c

-- the edge of a choice, where one is taken, and others
abbrev pub with_side : Choice → Option Side → List Pair → List Pair
with_side c None more = more
with_side c (Some side) more = side_of c side ∷ more

-- the edges of the sides that are taken
abbrev pub taken_of : List Choice → List (Option Side) → List Pair
taken_of [] sides = []
taken_of (c ∷ choices) [] = []
taken_of (c ∷ choices) (side ∷ sides) = with_side c side (taken_of choices sides)

abbrev pub is_open : Option Side → Bool
is_open None = true
is_open (Some side) = false

-- a choice that is open
pub record IsOpenAt (choices : List Choice) (sides : List (Option Side)) (index : ℕ) (choice : Choice) : Type 0 where
  pub here : slice_get choices index ≡ Some choice
  pub free : slice_get sides index ≡ Some None

-- ---- refutations

-- each of the edges is one of the others
abbrev pub Within : List Pair → List Pair → Type 0
Within used taken = (a b : ℕ) → has_pair used a b ≡ true → has_pair taken a b ≡ true

-- the tree refutes with what it uses, and this is taken
pub record IsRefutation (edges : List Pair) (choices : List Choice) (taken : List Pair) (r : Refutation) : Type 0 where
  pub refutes : Refutes edges choices r.used.items r.tree
  pub within : Within r.used.items taken

abbrev pub IsFound : List Pair → List Choice → List Pair → Found → Type 0
IsFound edges choices taken (Sides sides) = AllZip IsSideOf choices sides.items × HasNoCycle edges sides.items
IsFound edges choices taken (Refuted r) = IsRefutation edges choices taken r
IsFound edges choices taken GaveUp = Unit {0}

-- the search gives up only where all the steps were taken
abbrev pub IsCounted : ℕ → ℕ → Found → Type 0
IsCounted most steps (Sides sides) = steps ≤ most
IsCounted most steps (Refuted r) = steps ≤ most
IsCounted most steps GaveUp = steps ≡ most

-- a refutation leaves open what was open
abbrev pub IsKept : List (Option Side) → List (Option Side) → Found → Type 0
IsKept old new (Sides sides) = Unit {0}
IsKept old new (Refuted r) = new ≡ old
IsKept old new GaveUp = Unit {0}
