-- A tree of cases that refutes all sides of some choices. This project's own.
use Rattle.std.specs.Prelude.{◌≡◌, true, List, ◌∷◌, Contains}
use Rattle.choice_search.specs.declared.graph.Pair.{Pair}
use Rattle.choice_search.specs.declared.graph.Choice.{Choice}
use Rattle.choice_search.specs.declared.graph.Tree.{Tree}
use Rattle.choice_search.specs.declared.graph.Tree.TheVariants.{Cycle, Split'}
use Rattle.choice_search.specs.Graph.{after_reader, before_source, edge_among, is_cycle_of}

-- A cycle of the edges and of the sides that are taken above it; or a choice, a tree that refutes where its other node
-- stands before the source, and one that does where it stands after the reader.
abbrev pub Refutes : List Pair → List Choice → List Pair → Tree → Type 0
Refutes edges choices taken (Cycle nodes) = is_cycle_of (edge_among edges taken) nodes.items ≡ true
Refutes edges choices taken (Split' choice p before q after) =
    Contains choices choice
    × Refutes edges choices (before_source choice ∷ taken) before
    × Refutes edges choices (after_reader choice ∷ taken) after
