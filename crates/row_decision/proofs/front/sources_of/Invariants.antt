use Rattle.std.proofs.Common.{◌≡◌, ◌++◌, filter, map, take}
use Rattle.seq_conv.specs.Sequence.{stores_of}
use Rattle.row_decision.specs.Fronts.{initial_source, store_source, writes_value}
use Rattle.row_decision.proofs.front.sources_of.Given as goal

abbrev pub invariant-loop-site : goal.invariant-loop-site
invariant-loop-site l =
    l.sources.items
    ≡ initial_source l.fn.value
    ++ map store_source
    (filter (writes_value l.fn.test l.fn.value) (take l.site-index (stores_of l.fn.test l.fn.location)))
