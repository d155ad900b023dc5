use Rattle.std.proofs.Common.{ap, subst, sym, ◌∙◌}
use Rattle.std.proofs.lemmas.Option.{IfSome_then}
use Rattle.outcome_conv.specs.declared.cond.CondKind.{CondKind}
use Rattle.frame_count.specs.Known.{Knows}
use Rattle.frame_count.specs.Row.{kind_test, mask_along}
use Rattle.frame_count.proofs.Knowing.{at_least_by_side, below_by_side, exact_by_side}
use Rattle.frame_count.proofs.known.Word.passing.Goals as goal

pub returns-in-AtLeast : goal.returns-in-AtLeast
returns-in-AtLeast c =
    IfSome_then c.by_side.result c.by_side.ensures
    (λ w side value at knows.
    at_least_by_side c.in-AtLeast.k c.in-AtLeast.a value at c.args.bound w c.args.self
    (subst (λ (t : CondKind). Knows t value at c.args.self) c.in-AtLeast.is knows) side
    ∙ ap (λ (t : CondKind). mask_along (λ m. kind_test t (value m) c.args.bound) at 64) (sym c.in-AtLeast.is))

pub returns-in-Below : goal.returns-in-Below
returns-in-Below c =
    IfSome_then c.by_side-in-Below.result c.by_side-in-Below.ensures
    (λ w side value at knows.
    below_by_side c.in-Below.k value at c.args.bound w c.args.self
    (subst (λ (t : CondKind). Knows t value at c.args.self) c.in-Below.is knows) side
    ∙ ap (λ (t : CondKind). mask_along (λ m. kind_test t (value m) c.args.bound) at 64) (sym c.in-Below.is))

pub returns-in-Exact : goal.returns-in-Exact
returns-in-Exact c =
    IfSome_then c.by_side-in-Exact.result c.by_side-in-Exact.ensures
    (λ w side value at knows.
    exact_by_side c.in-Exact.k c.in-Exact.a value at c.args.bound w c.args.self
    (subst (λ (t : CondKind). Knows t value at c.args.self) c.in-Exact.is knows) side
    ∙ ap (λ (t : CondKind). mask_along (λ m. kind_test t (value m) c.args.bound) at 64) (sym c.in-Exact.is))
