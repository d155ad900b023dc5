use Rattle.std.proofs.Common.{◌≡◌, ◌++◌, map, take}
use Rattle.seq_conv.specs.Sequence.{stores_of}
use Rattle.row_decision.specs.Seen.{choice_seen}
use Rattle.row_decision.proofs.Adding.{third_sites}
use Rattle.row_decision.proofs.graph.add_choices.Given as goal

abbrev pub invariant-loop-site : goal.invariant-loop-site
invariant-loop-site l =
    map choice_seen l.choices.items
    ≡ map choice_seen l.initial.choices.items
    ++ third_sites l.fn.reading.reader l.source (take l.site-index (stores_of l.fn.test l.fn.reading.location))
