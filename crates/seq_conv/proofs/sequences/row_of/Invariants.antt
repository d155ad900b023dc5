use Rattle.std.proofs.Common.{◌≡◌, ◌++◌, drop, All}
use Rattle.seq_conv.specs.Numbers.{IsSmall, numbers_in_body}
use Rattle.seq_conv.proofs.sequences.row_of.Given as goal

abbrev pub invariant-loop-place : goal.invariant-loop-place
invariant-loop-place l = record {
  told : l.row.items ++ numbers_in_body l.test l.thread l.place (drop l.place l.body)
      ≡ numbers_in_body l.test l.thread 0 l.body;
  small : All IsSmall l.row.items;
}
