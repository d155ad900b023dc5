use Rattle.std.proofs.Common.{ℕ, ◌+◌, ◌*◌, nat_le, slice_index, sym, ap, ◌∙◌}
use Rattle.outcome_conv.specs.declared.cond.CondKind.{CondKind}
use Rattle.outcome_conv.specs.Conds.{kind_holds}
use Rattle.frame_count.specs.Row.{mask_along}
use Rattle.frame_count.proofs.lanes.own_word.Goals as goal

pub returns-in-AtLeast : goal.returns-in-AtLeast
returns-in-AtLeast c =
    let v = slice_index c.args.values.now in
    c.with_residue.ensures (λ (m : ℕ). nat_le (c.in-AtLeast.k * m + c.in-AtLeast.a) (v m)) c.own_at_least_word.ensures
    ∙ ap (λ (t : CondKind). mask_along (λ m. kind_holds t (v m) m) c.args.at 64) (sym c.in-AtLeast.is)
