use Rattle.std.proofs.Common.{arith}
use Rattle.frame_count.proofs.BlockCounts.{dead_count, frame_size, whole_count}
use Rattle.frame_count.proofs.block.Place.told.Goals as goal

pub none-requires : goal.none-requires
none-requires c = let few = c.requires.task.conjunctions in let long = c.told-alive in omega arith

pub is_whole-requires : goal.is_whole-requires
is_whole-requires c = let few = c.requires.task.conjunctions in let long = c.told-alive in omega arith

pub returns-then-none : goal.returns-then-none
returns-then-none c =
    let b = c.requires.block in
    let s = frame_size c.args.task.now c.args.self.now c.args.alive.now c.args.p c.args.size c.requires.task b in
    dead_count c.args.task.now.conds.now c.args.task.now.logs.now.logs c.args.task.now.n c.args.p c.args.self.now.frame
    c.args.alive.now c.args.from c.args.to s.0 b.alive_is (c.none.ensures c.if-none.true)

pub returns-then-is_whole : goal.returns-then-is_whole
returns-then-is_whole c =
    let b = c.requires.block in
    let s = frame_size c.args.task.now c.args.self.now c.args.alive.now c.args.p c.args.size c.requires.task b in
    let w = c.is_whole.ensures c.if-is_whole.true in
    whole_count c.args.task.now.conds.now c.args.task.now.logs.now.logs c.args.task.now.n c.args.p
    c.args.self.now.frame c.args.alive.now c.args.task.now.settled_by w.0 c.args.from c.args.to s.0 b.alive_is
    c.requires.task.settled w.1 w.2 w.3
