use Rattle.std.proofs.Common.{ℕ, nat_le, slice_index, sym, ap, ◌∙◌}
use Rattle.outcome_conv.specs.declared.cond.CondKind.{CondKind}
use Rattle.frame_count.specs.Row.{kind_test, mask_along}
use Rattle.frame_count.proofs.lanes.values_word.Goals as goal

pub returns-in-AtLeast : goal.returns-in-AtLeast
returns-in-AtLeast c =
    let v = slice_index c.args.values.now in
    c.with_residue.ensures (λ (m : ℕ). nat_le c.args.bound (v m)) c.at_least_word.ensures
    ∙ ap (λ (t : CondKind). mask_along (λ m. kind_test t (v m) c.args.bound) c.args.at 64) (sym c.in-AtLeast.is)
