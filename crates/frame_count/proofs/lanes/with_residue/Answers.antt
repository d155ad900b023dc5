use Rattle.std.proofs.Common.{◌%◌, ◌==◌, bit_and, slice_index, sym, ap, ◌∙◌}
use Rattle.frame_count.specs.Row.{mask_along}
use Rattle.frame_count.proofs.Along.{along_and, along_zero}
use Rattle.frame_count.proofs.lanes.with_residue.Goals as goal

pub returns-then-word-eq0 : goal.returns-then-word-eq0
returns-then-word-eq0 c p e = sym (along_zero p _ c.args.at 64 (sym e ∙ c.if-word-eq0.true))

pub returns-else-word-eq0 : goal.returns-else-word-eq0
returns-else-word-eq0 c p e =
    ap (λ w. bit_and w c.residue_word.result) e ∙ ap (bit_and (mask_along p c.args.at 64)) c.residue_word.ensures
    ∙ along_and p (λ m. slice_index c.args.values.now m % c.args.k == c.args.a % c.args.k) c.args.at 64
