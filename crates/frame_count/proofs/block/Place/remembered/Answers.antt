use Rattle.std.proofs.Common.{arith}
use Rattle.frame_count.proofs.BlockCounts.{frame_size, tells_here}
use Rattle.frame_count.proofs.block.Place.remembered.Goals as goal

pub returns-then-all_alike : goal.returns-then-all_alike
returns-then-all_alike c =
    let b = c.requires.block in
    let s = frame_size c.args.task.now c.args.self.now c.args.alive.now c.args.p c.args.size c.requires.task b in
    let p = c.if-p-eq0.false in
    let low = c.if-slot-blocks.false in
    tells_here c.args.task.now.conds.now c.args.task.now.logs.now.logs c.args.task.now.n c.args.p c.args.size _
    c.args.self.now.frame c.args.alive.now (c.requires.blocks c.slot-slot.result _ (omega arith))
    c.if-block-p.true (omega arith) s.0
    b.kept.frame b.alive_is (c.all_alike.ensures c.if-all_alike.true) s.1
