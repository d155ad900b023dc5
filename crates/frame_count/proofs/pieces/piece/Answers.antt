use Rattle.std.proofs.Common.{◌-◌, ◌^◌, count_by, ap, ◌∙◌}
use Rattle.std.specs.List.{range_with_len}
use Rattle.frame_count.specs.Count.{number_holds}
use Rattle.frame_count.proofs.BlockCounts.{all_count, first_block}
use Rattle.frame_count.proofs.pieces.piece.Goals as goal

pub new-place-requires-clause-row : goal.new-place-requires-clause-row
new-place-requires-clause-row c = rw (c.new-task.ensures.conds, c.new-task.ensures.logs) c.requires.first

pub count_in-requires-clause-block : goal.count_in-requires-clause-block
count_in-requires-clause-block c =
    let task = c.new-task.ensures in
    first_block c.new-task.result c.new-place.result c.args.logs.now.logs c.args.n c.power-size.result task.task
    c.new-place.ensures task.logs task.n c.requires.threads.0
    (c.power-size.ensures ∙ ap (λ t. c.args.n ^ t) c.len.ensures)

pub returns : goal.returns
returns c =
    let task = c.new-task.result in
    let same = c.new-task.ensures in
    let long = c.args.to - c.args.from in
    c.count_in.ensures
    ∙ all_count task.conds.now task.logs.now.logs task.n c.args.from long c.new-place.result.frame
    c.new-place.ensures.frame.one_each
    ∙ ap (λ x. count_by (number_holds x task.logs.now.logs task.n) (range_with_len c.args.from long)) same.conds
    ∙ ap (λ x. count_by (number_holds c.args.conds.now x task.n) (range_with_len c.args.from long)) same.logs
    ∙ ap (λ x. count_by (number_holds c.args.conds.now c.args.logs.now.logs x) (range_with_len c.args.from long)) same.n
