use Rattle.std.proofs.Common.{◌∙◌, arith, length-set}
use Rattle.frame_count.proofs.Blocks.{kept_more}
use Rattle.frame_count.proofs.block.iterations.Goals as goal

pub loop-t-preserved : goal.loop-t-preserved
loop-t-preserved c =
    let long = c.loop-t.invariant.0 in
    let end = c.len-t-end.ensures in (
      length-set c.loop-t.iterations c.loop-t.t c.at.result ∙ long,
      kept_more c.loop-t.iterations c.args.frame.now c.loop-t.t c.at.result (omega arith) c.at.ensures
          c.loop-t.invariant.1,
    )
