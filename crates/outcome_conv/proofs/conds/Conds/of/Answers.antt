use Rattle.std.proofs.Common.{ap, ◌∙◌}
use Rattle.outcome_conv.proofs.Converting.{conditions_of, names_of}
use Rattle.outcome_conv.proofs.conds.Conds.of.Goals as goal

pub new-requires : goal.new-requires
new-requires c =
    conditions_of c.args.checked.now.test c.args.checked.now.kinds c.in_ok-conds.conds.items c.in_ok-ends.ends.items
    c.test.ensures.checked.test c.test.ensures.checked.kinds
    c.in_ok-conds.ensures (c.in_ok-ends.ensures ∙ ap (λ t. t.ends) c.test.ensures.is)

pub returns-clause-names : goal.returns-clause-names
returns-clause-names c =
    names_of c.args.checked.now.test c.args.checked.now.kinds c.new.result.conds c.test.ensures.checked.test
    c.test.ensures.checked.kinds
    (ap (λ v. v.conds) c.new.ensures ∙ c.in_ok-conds.ensures)
