use Rattle.std.proofs.Common.{◌≡◌, map}
use Rattle.std.specs.List.{range_with_len}
use Rattle.seq_conv.specs.Sequence.{stores_of}
use Rattle.seq_conv.proofs.sequences.all_stores.Given as goal

abbrev pub invariant-loop-loc : goal.invariant-loop-loc
invariant-loop-loc l = map (λ row. row.items) l.all.items ≡ map (stores_of l.test) (range_with_len 0 l.loc)
