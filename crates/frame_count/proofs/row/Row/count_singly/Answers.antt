use Rattle.std.proofs.Common.{◌≡◌, count_by, ap, ◌∙◌, arith}
use mir.Val.{bool_byte}
use Rattle.std.specs.List.{range_with_len}
use Rattle.frame_count.specs.Rows.{row_holds}
use Rattle.frame_count.proofs.Counts.{byte_one, counted_fits, counted_more}
use Rattle.frame_count.proofs.row.Row.count_singly.Goals as goal

-- this iteration counts 1 or 0
one : (c : goal.After-holds_in) → bool_byte c.holds_in.result
    ≡ count_by (row_holds c.args.self.now) (range_with_len c.loop-at.at 1)
one c = ap bool_byte c.holds_in.ensures ∙ byte_one (row_holds c.args.self.now) c.loop-at.at

pub overflow_add-total : goal.overflow_add-total
overflow_add-total c =
    let few = counted_fits (row_holds c.args.self.now) c.args.from c.loop-at.at 1 _ _ c.loop-at.invariant.1 (one c) in
    record { fits = omega arith }

pub loop-at-preserved : goal.loop-at-preserved
loop-at-preserved c =
    (omega arith, counted_more (row_holds c.args.self.now) c.args.from c.loop-at.at 1 _ _ c.loop-at.invariant.1 (one c))
