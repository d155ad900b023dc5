use Rattle.std.proofs.Common.{◌≡◌, ◌++◌, string_bytes, take}
use Rattle.std.specs.List.{flat_map}
use Rattle.tool_core.specs.Texts.{node_text}
use Rattle.tool_core.proofs.verdicts.push_nodes.Given as goal

abbrev pub invariant-loop-node : goal.invariant-loop-node
invariant-loop-node l =
    string_bytes l.out ≡ string_bytes l.initial.out ++ flat_map node_text (take l.node-index l.nodes)
