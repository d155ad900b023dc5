-- Edges between numbered nodes, choices of two edges, and cycles. Edges and cycles are those of directed graphs; the
-- choices are this project's own.
use Rattle.std.specs.Prelude.{◌≡◌, ℕ, ◌==◌, ◌&&◌, ◌||◌, ◌⊎◌, Bool, false, List, [], ◌∷◌}
use Rattle.std.specs.List.{list_any}
use Rattle.choice_search.specs.declared.graph.Pair.{Pair}
use Rattle.choice_search.specs.declared.graph.Choice.{Choice}

-- ---- edges

abbrev pub is_pair : ℕ → ℕ → Pair → Bool
is_pair a b p = (p.first == a) && (p.second == b)

-- whether an edge leads from a to b
abbrev pub has_pair : List Pair → ℕ → ℕ → Bool
has_pair pairs a b = list_any (is_pair a b) pairs

-- whether an edge leads from a to b: one of the edges, or the edge of a side that is taken
abbrev pub edge_among : List Pair → List Pair → ℕ → ℕ → Bool
edge_among edges taken a b = has_pair edges a b || has_pair taken a b

-- ---- choices

-- one side of a choice: the other node stands before the source
abbrev pub before_source : Choice → Pair
before_source c = record { first = c.other; second = c.source }

-- and the other: it stands after the reader
abbrev pub after_reader : Choice → Pair
after_reader c = record { first = c.reader; second = c.other }

-- an edge that is a side of the choice
abbrev pub IsSideOf : Choice → Pair → Type 0
IsSideOf choice side = (side ≡ before_source choice) ⊎ (side ≡ after_reader choice)

-- ---- cycles

-- whether an edge leads from the first node to the next, and so on to the last
abbrev pub is_path : {X : Type 0} → (X → X → Bool) → X → List X → X → Bool
is_path edge a [] last = edge a last
is_path edge a (b ∷ between) last = edge a b && is_path edge b between last

-- at least two nodes, an edge from each to the next and from the last to the first; where an edge leads from a node to
-- itself, that node twice
abbrev pub is_cycle_of : {X : Type 0} → (X → X → Bool) → List X → Bool
is_cycle_of edge [] = false
is_cycle_of edge (a ∷ []) = false
is_cycle_of edge (a ∷ b ∷ rest) = is_path edge a (b ∷ rest) a

-- the edges, with those of the sides that are taken, have no cycle
abbrev pub HasNoCycle : List Pair → List Pair → Type 0
HasNoCycle edges taken = (cycle : List ℕ) → is_cycle_of (edge_among edges taken) cycle ≡ false
