-- Law: a tree or sides, and not both. This project's own.
use Rattle.std.specs.Prelude.{List, []}
use Rattle.std.specs.List.{AllZip}
use Rattle.choice_search.specs.declared.graph.Pair.{Pair}
use Rattle.choice_search.specs.declared.graph.Choice.{Choice}
use Rattle.choice_search.specs.declared.graph.Tree.{Tree}
use Rattle.choice_search.specs.Graph.{HasNoCycle, IsSideOf}
use Rattle.choice_search.specs.Trees.{Refutes}

-- law: where a tree refutes, the edges have a cycle with any sides
abbrev pub TreesRefute : Type 0
TreesRefute =
    (edges : List Pair) (choices : List Choice) (sides : List Pair) (tree : Tree)
    → Refutes edges choices [] tree
    → AllZip IsSideOf choices sides
    → HasNoCycle edges sides
    → ⊥
