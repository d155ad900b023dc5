use Rattle.std.proofs.Common.{◌≡◌, ◌≤◌, sym, ◌∙◌, arith}
use Rattle.x86_subset.specs.Conjunctions.{from_of}
use Rattle.litmus_outcomes.specs.Within.{is_steady}
use Rattle.decision.proofs.Spans.{all_more}
use Rattle.frames_within.proofs.loose.first_in.Goals as goal

pub loop-i-preserved : goal.loop-i-preserved
loop-i-preserved c =
    let checked = c.args.checked.now in
    let a = from_of checked.test.ends c.args.conjunction in
    let from : c.conjunction-span.result.from ≡ a = rw c.test.ensures.is at c.conjunction-span.ensures.from in
    let start = c.loop-i.auto.i in
    let low : a ≤ c.loop-i.i = omega arith in
    all_more is_steady checked.kinds a c.loop-i.i c.kind.result low c.kind.ensures.kept
    (sym c.is_steady.ensures ∙ c.if-not-is_steady.false) c.loop-i.invariant
