use Rattle.std.proofs.Common.{◌≡◌, ℕ, ◌+◌, ◌<◌, slice_index, ap, ◌∙◌, arith}
use Rattle.load_log.specs.Values.{value_at}
use Rattle.frame_count.specs.Row.{residue_fits}
use Rattle.frame_count.proofs.Reaches.{column_is}
use Rattle.frame_count.proofs.Thresholds.{along_within}
use Rattle.frame_count.proofs.known.Word.of.Goals as goal

pub returns : goal.returns
returns c =
    let cond = c.args.cond.now in
    let names = c.requires.names.names in
    let there = c.requires.iterations.1 in
    let value : (m : ℕ) → m < c.args.n → slice_index c.column-values.result.now m
    ≡ value_at c.args.logs.now.logs cond.reader cond.column m = λ m lt.
    column_is c.args.n c.args.logs.now.logs c.at.result.now c.column-values.result.now cond.reader cond.column m
    c.requires.whole names.reader names.column c.at.ensures.log c.column-values.ensures.values lt in
    record {
      least =
          λ m low lt. (let e = value m (omega arith) in let h = (c.least_and_most-least.ensures m low lt).0 in
          omega arith);
      most =
          λ m low lt. (let e = value m (omega arith) in let h = (c.least_and_most-least.ensures m low lt).1 in
          omega arith);
      fits =
          c.fitting_word-fits.ensures ∙ along_within _ _ c.args.at 64
          (λ i lt. ap (residue_fits cond.kind) (value (c.args.at + i) (omega arith)));
    }
