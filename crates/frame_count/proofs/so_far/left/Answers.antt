use Rattle.std.proofs.Common.{◌∙◌, arith, length-set}
use Rattle.frame_count.proofs.Blocks.{left_later, left_now}
use Rattle.frame_count.proofs.so_far.left.Goals as goal

pub loop-c-preserved : goal.loop-c-preserved
loop-c-preserved c =
    let g = c.group.ensures.value in
    let x = c.loop-c.invariant in
    let long = x.long in
    let end = c.conjunctions-c-end.ensures in
    let logs = c.args.logs.now.logs in
    let frame = c.args.frame.now in
    record {
      long = length-set c.loop-c.alive c.loop-c.c c.stays.result ∙ long;
      tested =
          left_now logs c.args.p frame c.args.conds.now c.loop-c.alive c.loop-c.c c.stays.result _ (omega arith)
          (rw g at c.stays.ensures) (x.others c.loop-c.c _ (omega arith) (omega arith)) x.tested;
      others = left_later logs c.args.p frame c.args.conds.now c.loop-c.alive c.loop-c.c c.stays.result x.others;
    }
