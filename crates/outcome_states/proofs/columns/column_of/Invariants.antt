use Rattle.std.proofs.Common.{◌≡◌, Some, drop, map}
use Rattle.seq_conv.specs.Sequence.{Site}
use Rattle.verdict.specs.Edges.{node}
use Rattle.outcome_rows.specs.Listing.{risen}
use Rattle.outcome_rows.specs.Rows.{text_value}
use Rattle.outcome_states.proofs.columns.column_of.Given as goal

abbrev pub invariant-loop-k : goal.invariant-loop-k
invariant-loop-k l =
    l.column.items ≡ risen (map (λ (s : Site). text_value l.fn.test (Some (node s))) (drop l.k l.sites))
