use Rattle.std.proofs.Common.{◌∙◌, arith, length-set}
use Rattle.frame_count.proofs.Blocks.{settled_more}
use Rattle.frame_count.proofs.block.settled_by.Goals as goal

pub loop-c-preserved : goal.loop-c-preserved
loop-c-preserved c =
    let g = c.group.ensures.value in
    let long = c.loop-c.invariant.0 in
    let few = c.conjunctions-c-end.ensures.few in (
      length-set c.loop-c.by c.loop-c.c c.settles.result ∙ long,
      settled_more c.args.conds.now c.loop-c.by c.loop-c.c c.settles.result (omega arith) (rw g at c.settles.ensures)
          c.loop-c.invariant.1,
    )
