use Rattle.seq_conv.proofs.Numbering.{table_is}
use Rattle.seq_conv.proofs.sequences.Sequences.of.Goals as goal

pub returns : goal.returns
returns c = table_is c.args.test.now _ c.in_ok-rows.ensures.is c.in_ok-stores.ensures
