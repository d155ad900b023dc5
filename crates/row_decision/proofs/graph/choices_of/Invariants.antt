use Rattle.std.proofs.Common.{◌≡◌, map, take}
use Rattle.once.specs.Edges.{choices_among}
use Rattle.row_decision.specs.Seen.{choice_seen, seen}
use Rattle.row_decision.proofs.graph.choices_of.Given as goal

abbrev pub invariant-loop-reading : goal.invariant-loop-reading
invariant-loop-reading l =
    map choice_seen l.choices.items ≡ choices_among l.fn.test (map seen (take l.reading-index l.fn.readings))
