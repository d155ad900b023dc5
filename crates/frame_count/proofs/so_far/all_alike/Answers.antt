use Rattle.std.proofs.Common.{arith}
use Rattle.frame_count.proofs.Blocks.{alike_more}
use Rattle.frame_count.proofs.so_far.all_alike.Goals as goal

pub loop-c-preserved : goal.loop-c-preserved
loop-c-preserved c =
    let g = c.group.ensures.value in
    let count = c.conjunctions-c-end.ensures.value in
    alike_more c.args.conds.now c.args.p c.args.left.now c.args.alive.now c.args.before.now c.args.frame.now
    c.loop-c.c _ _ (omega arith) (omega arith) (rw g at (c.is_alike.ensures c.if-not-is_alike.false)) c.loop-c.invariant
