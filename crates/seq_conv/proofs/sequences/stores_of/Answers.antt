use Rattle.seq_conv.specs.Sequence.{stores_of}
use Rattle.std.proofs.Common.{arith}
use Rattle.seq_conv.proofs.Numbering.{stores_goes}
use Rattle.seq_conv.proofs.sequences.stores_of.Goals as goal

pub loop-thread-preserved : goal.loop-thread-preserved
loop-thread-preserved c =
    stores_goes c.args.test.now c.args.loc c.loop-thread.thread c.loop-thread.stores.items c.add_stores.new.stores.items
    (stores_of c.args.test.now c.args.loc)
    c.body.result.now (omega arith) c.body.ensures c.in_ok-add_stores.ensures c.loop-thread.invariant
