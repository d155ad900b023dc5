use Rattle.std.proofs.lemmas.List.Elements.{All-replicate}
use Rattle.frame_count.specs.Block.{IsRemembered}
use Rattle.frame_count.proofs.pieces.count_remembering.Goals as goal

pub count-requires-clause-blocks : goal.count-requires-clause-blocks
count-requires-clause-blocks c =
    let task = c.args.task.now in
    All-replicate (IsRemembered task.conds.now task.logs.now.logs task.n) 2048 c.nothing-blocks.result
    (c.nothing-blocks.ensures task.conds.now task.logs.now.logs task.n)
