use Rattle.std.proofs.Common.{◌≡◌, ◌+◌, ◌-◌, count_by, ap, ◌∙◌, arith}
use Rattle.std.specs.Int.RustNames.{count_ones}
use Rattle.std.specs.List.{range_with_len}
use Rattle.frame_count.specs.Rows.{row_holds}
use Rattle.frame_count.proofs.Along.{along_ones}
use Rattle.frame_count.proofs.Counts.{counted_fits, counted_more}
use Rattle.frame_count.proofs.row.Row.count_between.Goals as goal

-- the hits of this word
word : (c : goal.After-some_word) → count_ones c.some_word.result
    ≡ count_by (row_holds c.args.self.now) (range_with_len c.loop-at.at 64)
word c = ap count_ones c.some_word.ensures ∙ along_ones (row_holds c.args.self.now) c.loop-at.at 64

pub overflow_add-total : goal.overflow_add-total
overflow_add-total c =
    let few = counted_fits (row_holds c.args.self.now) c.args.from c.loop-at.at 64 _ _ c.loop-at.invariant.1 (word c) in
    record { fits = omega arith }

pub loop-at-preserved : goal.loop-at-preserved
loop-at-preserved c =
    let p = row_holds c.args.self.now in
    (omega arith, counted_more p c.args.from c.loop-at.at 64 _ _ c.loop-at.invariant.1 (word c))

pub overflow_add-result : goal.overflow_add-result
overflow_add-result c =
    let few = counted_fits (row_holds c.args.self.now) c.args.from c.loop-at.at (c.args.to - c.loop-at.at) _ _
    c.loop-at.invariant.1 c.count_singly.ensures in
    record { fits = omega arith }

pub returns : goal.returns
returns c =
    let high = c.loop-at.invariant.0 in
    let end : c.loop-at.at + (c.args.to - c.loop-at.at) - c.args.from ≡ c.args.to - c.args.from = omega arith in
    (counted_more (row_holds c.args.self.now) c.args.from c.loop-at.at (c.args.to - c.loop-at.at) _ _
    c.loop-at.invariant.1 c.count_singly.ensures).total
    ∙ ap (λ n. count_by (row_holds c.args.self.now) (range_with_len c.args.from n)) end
