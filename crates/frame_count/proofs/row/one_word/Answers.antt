use Rattle.std.proofs.Common.{sym, ◌∙◌}
use Rattle.frame_count.proofs.Along.{along_same, along_all}
use Rattle.frame_count.proofs.row.one_word.Goals as goal

pub returns-then-is_left : goal.returns-then-is_left
returns-then-is_left c =
    c.cond_word.ensures
    ∙ along_same _ _ c.args.at 64 (λ m. sym (c.is_left.ensures.left c.if-is_left.true c.args.logs.now.logs m))

pub returns-else-is_left : goal.returns-else-is_left
returns-else-is_left c =
    along_all _ c.args.at (λ m. c.is_left.ensures.passed c.if-is_left.false c.args.logs.now.logs m)
