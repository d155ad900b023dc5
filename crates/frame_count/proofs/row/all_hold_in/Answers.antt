use Rattle.std.proofs.Common.{◌&&◌, sym, ap, ◌∙◌}
use Rattle.std.specs.List.{list_all}
use Rattle.frame_count.specs.Row.{left_along}
use Rattle.frame_count.proofs.Reaches.{left_settled}
use Rattle.frame_count.proofs.row.all_hold_in.Goals as goal

pub returns-then-not-has : goal.returns-then-not-has
returns-then-not-has c =
    let s = c.args.stretch in
    let m = c.args.m in
    sym (c.requires.stretch.2 m c.requires.stretch.1
    ∙ ap (λ b. b && list_all (left_along c.args.logs.now.logs c.args.frame.now s m) c.args.conds.now)
    (sym c.has.ensures ∙ c.if-not-has.true))

pub returns-then-is_settled : goal.returns-then-is_settled
returns-then-is_settled c =
    let s = c.args.stretch in
    let m = c.args.m in
    let settled = c.is_settled.ensures c.if-is_settled.true in
    sym (c.requires.stretch.2 m c.requires.stretch.1
    ∙ ap (λ b. b && list_all (left_along c.args.logs.now.logs c.args.frame.now s m) c.args.conds.now)
    (sym c.has.ensures ∙ c.if-not-has.false)
    ∙ left_settled c.args.logs.now.logs c.args.frame.now s m c.args.conds.now settled.0 settled.1)
