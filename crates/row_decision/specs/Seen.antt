-- The nodes of a test as numbers, and the graph of readings: its edges and choices, over these numbers. This project's
-- own.
use Rattle.std.specs.Prelude.{◌≡◌, ℕ, ◌+◌, ◌*◌, ◌/◌, ◌%◌, List, [], map}
use Rattle.x86_subset.specs.Test.{LitmusTest}
use Rattle.verdict.specs.declared.node.Node.{Node}
use Rattle.choice_search.specs.declared.graph.Pair.{Pair as PairOf}
use Rattle.choice_search.specs.declared.graph.Choice.{Choice as ChoiceOf}
use Rattle.choice_search.specs.declared.graph.Tree.{Tree as TreeOf}
use Rattle.choice_search.specs.declared.graph.Tree.TheVariants.{Cycle, Split'}
use Rattle.choice_search.specs.Graph.{has_pair}
use Rattle.once.specs.Edges.{Choice, Pair, Reading, choices_among, edge_among}
use Rattle.once.specs.Trees.{Tree, cycle, split}
use Rattle.row_decision.specs.declared.reading.Reading.{Reading as ReadingOf}

-- what the code calls a reading
abbrev pub seen : ReadingOf → Reading
seen r = record { reader = r.reader; location = r.location; source = r.source }

-- the number of a node: 16 times its thread, and its place
abbrev pub number_of : Node → ℕ
number_of n = n.thread * 16 + n.place

-- the node of a number
abbrev pub node_at : ℕ → Node
node_at k = record { thread = k / 16; place = k % 16 }

abbrev pub pair_seen : PairOf → Pair
pair_seen p = record { first = node_at p.first; second = node_at p.second }

abbrev pub choice_seen : ChoiceOf → Choice
choice_seen c = record { reader = node_at c.reader; source = node_at c.source; other = node_at c.other }

abbrev pub tree_seen : TreeOf → Tree
tree_seen (Cycle nodes) = cycle (map node_at nodes.items)
tree_seen (Split' choice p before q after) = split (choice_seen choice) (tree_seen before) (tree_seen after)

-- ---- the graph

-- an edge stands in the list exactly where it leads between these nodes
abbrev pub AreEdges : LitmusTest → List Reading → List PairOf → Type 0
AreEdges test readings edges =
    (a b : ℕ) → has_pair edges a b ≡ edge_among test readings [] (node_at a) (node_at b)

-- the choices, in order
abbrev pub AreChoices : LitmusTest → List Reading → List ChoiceOf → Type 0
AreChoices test readings choices = map choice_seen choices ≡ choices_among test readings
