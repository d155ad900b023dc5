use Rattle.std.proofs.Common.{◌≡◌, ◌++◌, drop}
use Rattle.seq_conv.specs.Sequence.{stores_in_bodies, stores_of}
use Rattle.seq_conv.proofs.sequences.stores_of.Given as goal

abbrev pub invariant-loop-thread : goal.invariant-loop-thread
invariant-loop-thread l =
    l.stores.items ++ stores_in_bodies l.loc l.thread (drop l.thread l.test.bodies) ≡ stores_of l.test l.loc
