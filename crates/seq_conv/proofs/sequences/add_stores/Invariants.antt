use Rattle.std.proofs.Common.{◌≡◌, ◌++◌, drop}
use Rattle.seq_conv.specs.Sequence.{stores_in_body}
use Rattle.seq_conv.proofs.sequences.add_stores.Given as goal

abbrev pub invariant-loop-place : goal.invariant-loop-place
invariant-loop-place l =
    l.stores.items ++ stores_in_body l.loc l.thread l.place (drop l.place l.body) ≡ l.fn.stores.items
    ++ stores_in_body l.loc l.thread 0 l.body
