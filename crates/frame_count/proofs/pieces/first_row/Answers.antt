use Rattle.std.proofs.Common.{ap, ◌∙◌, arith}
use Rattle.tso_machine.specs.Frame.{frame_of}
use Rattle.frame_count.proofs.BlockCounts.{none_fail}
use Rattle.frame_count.proofs.Cuts.{frame_is}
use Rattle.frame_count.proofs.pieces.first_row.Goals as goal

pub next-requires : goal.next-requires
next-requires c =
    let n = c.args.n in
    let logs = c.args.logs.now.logs in
    let frame = c.frame_of-frame.ensures.frame ∙ ap (λ t. frame_of n t 0) c.len.ensures in
    record {
      frame = (
        n,
        omega arith,
        omega arith,
        frame_is n 0 logs c.frame_of-frame.result c.requires.iterations.0 c.requires.threads.0 c.requires.whole frame,
      );
      few = c.requires.iterations.1;
      names = c.requires.names;
      others = none_fail c.args.conds.now logs n c.frame_of-frame.result;
      known = c.requires.known;
      counts = c.nothing-counted.ensures c.args.conds.now c.args.logs.now.logs;
    }
