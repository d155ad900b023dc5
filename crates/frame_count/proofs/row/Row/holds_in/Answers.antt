use Rattle.std.proofs.Common.{◌+◌, ◌||◌, ◌∷◌, sym, ap, ◌∙◌, arith}
use Rattle.std.specs.List.{list_all, list_any}
use Rattle.load_log.specs.Values.{value_at}
use Rattle.outcome_conv.specs.Conds.{cond_holds}
use Rattle.frame_count.specs.Count.{with_last}
use Rattle.frame_count.proofs.Conjoining.{any_next, rest_next, rest_of}
use Rattle.frame_count.proofs.row.Row.holds_in.Goals as goal

pub loop-c-preserved : goal.loop-c-preserved
loop-c-preserved c =
    let row = c.args.self.now in
    any_next (list_all (cond_holds (value_at row.logs.now.logs) (with_last row.frame.now c.args.m)))
    row.conds.now.ends row.conds.now.conds c.loop-c.c _ _
    (omega arith) c.group-conds.ensures.value (sym c.all_hold_in.ensures ∙ c.if-all_hold_in.false) c.loop-c.invariant

pub returns-then-all_hold_in : goal.returns-then-all_hold_in
returns-then-all_hold_in c =
    let row = c.args.self.now in
    let ends = row.conds.now.ends in
    let conds = row.conds.now.conds in
    let k = c.loop-c.c in
    let holds = list_all (cond_holds (value_at row.logs.now.logs) (with_last row.frame.now c.args.m)) in
    let rest = rest_next ends conds k (omega arith)
    ∙ ap (λ g. g ∷ rest_of ends conds (k + 1)) (sym c.group-conds.ensures.value) in
    sym (sym c.loop-c.invariant ∙ ap (list_any holds) rest
    ∙ ap (λ b. b || list_any holds (rest_of ends conds (k + 1))) (sym c.all_hold_in.ensures ∙ c.if-all_hold_in.true))
