use Rattle.std.proofs.Common.{◌≡◌, ◌++◌, [], ◌∷◌, length, take, ap, ◌∙◌, arith}
use Rattle.outcome_conv.specs.Conds.{cond_of, conds_of}
use Rattle.outcome_conv.proofs.Converting.{cond_more, conds_whole}
use Rattle.outcome_conv.proofs.conds.all_conds.Goals as goal

pub loop-i-preserved : goal.loop-i-preserved
loop-i-preserved c =
    let test = c.args.checked.now.test in
    let kinds = c.args.checked.now.kinds in
    let made = c.cond_of.ensures ∙ ap (λ t. cond_of t c.kind.result) c.test-test.ensures.is in
    c.in_ok-push.ensures.items
    ∙ ap (λ l. l ++ c.cond_of.result ∷ []) c.loop-i.invariant
    ∙ ap (λ x. conds_of test (take c.loop-i.i kinds) ++ x ∷ []) made
    ∙ cond_more test kinds c.loop-i.i c.kind.result c.kind.ensures.kept

pub returns : goal.returns
returns c =
    let test = c.args.checked.now.test in
    let atoms : length c.atoms-i-end.result.now ≡ length test.atoms = ap length c.atoms-i-end.ensures
    ∙ ap (λ t. length t.atoms) c.test-test.ensures.is in
    c.loop-i.invariant ∙ conds_whole test c.args.checked.now.kinds c.loop-i.i c.test-test.ensures.checked.kinds
    (omega arith)
