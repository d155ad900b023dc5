use Rattle.frame_count.proofs.BlockCounts.{place_remembers}
use Rattle.frame_count.proofs.block.Place.remember.Goals as goal

pub returns-then-slot-blocks : goal.returns-then-slot-blocks
returns-then-slot-blocks c =
    place_remembers c.args.task.now c.args.self.now c.args.alive.now c.args.p c.args.size c.args.from c.args.to
    c.args.hits c.slot-slot.result c.iterations.result c.args.blocks.now c.requires.task c.requires.block
    c.requires.numbers.0 c.requires.numbers.1 c.if-to-from.true c.requires.hits c.iterations.ensures.long
    c.told-alive c.iterations.ensures.same c.requires.blocks
