use Rattle.std.proofs.Common.{◌≡◌, ◌<◌, ◌∙◌, ap, length, arith}
use Rattle.tool_core.proofs.ShowingSaid.{first_undecided, reasons_more}
use Rattle.tool_core.proofs.reasons.reasons_of.Goals as goal

pub returns-in-None : goal.returns-in-None
returns-in-None c =
    let checked = c.args.checked.now in
    let end : c.conjunctions-c-end.result ≡ length checked.test.ends = c.conjunctions-c-end.ensures
    ∙ ap (λ t. length t.ends) c.test.ensures.is in
    let there : c.loop-c.c < length checked.test.ends = omega (arith, c.loop-c-test.true, end) in
    first_undecided checked c.loop-c.c c.loop-c.reasons.items there c.loop-c.invariant
    (rw c.in-None.is at c.in_ok-reason.ensures)

pub loop-c-preserved : goal.loop-c-preserved
loop-c-preserved c =
    rw c.in_ok-push-in-Some.ensures.items (reasons_more c.args.checked.now c.loop-c.c c.loop-c.reasons.items
    c.in-Some.reason c.loop-c.invariant (rw c.in-Some.is at c.in_ok-reason.ensures))
