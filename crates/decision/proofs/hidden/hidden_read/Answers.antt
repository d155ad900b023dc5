use Rattle.std.proofs.Common.{◌≡◌, ◌≤◌, ◌<◌, Some, sym, ap, ◌∙◌, arith}
use Rattle.x86_subset.specs.Conjunctions.{from_of, to_of}
use Rattle.decision.specs.Hidden.{hidden_by, hidden_in}
use Rattle.decision.proofs.HiddenReads.{found_never_holds}
use Rattle.decision.proofs.Spans.{found_first, found_none}
use Rattle.decision.proofs.hidden.hidden_read.Goals as goal

first : (c : goal.In-Some) → hidden_in c.args.checked.now c.args.conjunction ≡ Some c.in-Some.hidden
first c =
    let checked = c.args.checked.now in
    let a = from_of checked.test.ends c.args.conjunction in
    let b = to_of checked.test.ends c.args.conjunction in
    let from : c.conjunction-span.result.from ≡ a = rw c.test-test.ensures.is at c.conjunction-span.ensures.from in
    let to : c.conjunction-span.result.to ≡ b = rw c.test-test.ensures.is at c.conjunction-span.ensures.to in
    let start = c.loop-i.auto.i in
    let here = c.loop-i-test.true in
    let low : a ≤ c.loop-i.i = omega arith in
    let high : c.loop-i.i < b = omega arith in
    let is = sym (ap (λ t. hidden_by t c.kind.result) c.test-test.ensures.is) ∙ sym c.hidden_by.ensures
    ∙ c.in-Some.is in
    found_first (hidden_by checked.test) checked.kinds a b c.loop-i.i c.kind.result c.in-Some.hidden c.loop-i.invariant
    c.kind.ensures.kept is low high

pub returns-in-Some-clause-first : goal.returns-in-Some-clause-first
returns-in-Some-clause-first c = sym (first c)

pub returns-in-Some-clause-never : goal.returns-in-Some-clause-never
returns-in-Some-clause-never c =
    found_never_holds c.args.checked.now c.args.conjunction c.in-Some.hidden c.test-test.ensures.checked (first c)

pub loop-i-preserved : goal.loop-i-preserved
loop-i-preserved c =
    let checked = c.args.checked.now in
    let a = from_of checked.test.ends c.args.conjunction in
    let from : c.conjunction-span.result.from ≡ a = rw c.test-test.ensures.is at c.conjunction-span.ensures.from in
    let start = c.loop-i.auto.i in
    let low : a ≤ c.loop-i.i = omega arith in
    let is = sym (ap (λ t. hidden_by t c.kind.result) c.test-test.ensures.is) ∙ sym c.hidden_by.ensures
    ∙ c.in_default.is in
    found_none (hidden_by checked.test) checked.kinds a c.loop-i.i c.kind.result low c.kind.ensures.kept is
    c.loop-i.invariant
