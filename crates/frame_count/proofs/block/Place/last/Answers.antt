use Rattle.std.proofs.Common.{◌∙◌, arith}
use Rattle.frame_count.proofs.BlockCounts.{last_count, others_fail}
use Rattle.frame_count.proofs.block.Place.last.Goals as goal

pub next-requires-clause-others : goal.next-requires-clause-others
next-requires-clause-others c =
    let task = c.args.task.now in
    let one = c.requires.place.frame.one_each in
    let threads = c.requires.task.threads in
    let last = c.requires.last in
    others_fail task.conds.now task.logs.now.logs task.n c.args.p c.args.to c.args.self.now.frame c.args.alive.now
    (omega arith) c.requires.numbers.1 c.requires.alive

pub returns-clause-hits : goal.returns-clause-hits
returns-clause-hits c =
    let task = c.args.task.now in
    let one = c.requires.place.frame.one_each in
    let threads = c.requires.task.threads in
    let last = c.requires.last in
    c.next.ensures.hits
    ∙ last_count task.conds.now task.logs.now.logs task.n c.args.p c.args.from c.args.to c.args.self.now.frame
    (omega arith) c.requires.numbers.1
