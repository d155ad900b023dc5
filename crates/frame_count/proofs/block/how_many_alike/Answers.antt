use Rattle.std.proofs.Common.{◌+◌, arith}
use Rattle.frame_count.proofs.block.how_many_alike.Goals as goal

pub all_until-until-requires-clause-frame : goal.all_until-until-requires-clause-frame
all_until-until-requires-clause-frame c = (c.args.task.now.n, omega arith, c.requires.frame)

pub all_until-until-requires-clause-thread : goal.all_until-until-requires-clause-thread
all_until-until-requires-clause-thread c =
    let one = c.requires.frame.one_each in
    let t = c.requires.task.threads in
    let most = c.requires.task.most in
    let lt = c.requires.thread in
    (omega arith, omega arith)

pub all_until-until-requires-clause-long : goal.all_until-until-requires-clause-long
all_until-until-requires-clause-long c =
    let few = c.requires.task.conjunctions in
    let a = c.told-before in
    let b = c.told-now in
    (omega arith, omega arith)

pub returns-clause-alike : goal.returns-clause-alike
returns-clause-alike c m more less early j d l =
    let min = c.min.ensures in
    let later = c.all_until-until.ensures.more in
    c.all_until-until.ensures.alike (c.args.i + m) (omega arith) (omega arith) early j d l
