use Rattle.std.proofs.Common.{map, ap, ◌∙◌}
use Rattle.frames_within.specs.Counting.{narrowed}
use Rattle.frames_within.proofs.Narrowed.{conditions_narrowed, narrowed_are}
use Rattle.frames_within.proofs.conditions.conds_within.Goals as goal

pub new-requires : goal.new-requires
new-requires c =
    conditions_narrowed c.in_ok-conds.conds c.in_ok-narrow.narrow.items c.in_ok-ends.ends.items
    c.all.ensures.conditions (c.in_ok-narrow.ensures ∙ ap (map narrowed) c.all.ensures.value)
    (c.in_ok-ends.ensures.items_if_clones_equal (λ x y h. h) ∙ c.ends.ensures)

pub returns-clause-conds : goal.returns-clause-conds
returns-clause-conds c =
    ap (λ v. v.conds) c.new.ensures ∙ c.in_ok-narrow.ensures
    ∙ ap (map narrowed) (c.all.ensures.value ∙ c.in_ok-conds.ensures.conds)
    ∙ narrowed_are c.args.checked.now.test c.args.checked.now.kinds
