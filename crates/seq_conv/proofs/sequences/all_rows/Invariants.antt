use Rattle.std.proofs.Common.{◌≡◌, ◌++◌, drop, map, All}
use Rattle.seq_conv.specs.Numbers.{IsSmall, numbers_in_bodies}
use Rattle.seq_conv.proofs.sequences.all_rows.Given as goal

abbrev pub invariant-loop-thread : goal.invariant-loop-thread
invariant-loop-thread l = record {
  told : map (λ row. row.items) l.rows.items ++ numbers_in_bodies l.test l.thread (drop l.thread l.test.bodies)
      ≡ numbers_in_bodies l.test 0 l.test.bodies;
  small : All (λ row. All IsSmall row.items) l.rows.items;
}
