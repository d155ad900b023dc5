use Rattle.std.proofs.Common.{replicate, ap, ◌∙◌}
use Rattle.frame_count.proofs.BlockCounts.{first_frame}
use Rattle.frame_count.proofs.block.Place.new.Goals as goal

pub returns : goal.returns
returns c =
    let task = c.args.task.now in
    record {
      frame =
          first_frame task.logs.now.logs task.n c.filled.result c.requires.some c.requires.threads.0 c.requires.whole
          (c.filled.ensures ∙ ap (λ k. replicate k 0) c.len.ensures);
      row = c.requires.row;
    }
