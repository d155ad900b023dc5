use Rattle.std.proofs.Common.{◌≡◌, ◌≤◌, ap, ◌∙◌, arith, drop, map, sym, take, ◌-◌}
use Rattle.std.specs.List.{slice_range}
use Rattle.x86_subset.specs.Conjunctions.{from_of, to_of}
use Rattle.verdict.proofs.Finding.{from_before}
use Rattle.once.specs.Edges.{reading_of}
use Rattle.row_decision.specs.Seen.{seen}
use Rattle.row_decision.proofs.Conjoined.{readings_more}
use Rattle.row_decision.proofs.conjunction.readings_in.Goals as goal

pub loop-i-init : goal.loop-i-init
loop-i-init c =
    let checked = c.args.checked.now in
    let a = from_of checked.test.ends c.args.conjunction in
    let from : c.conjunction-span.result.from ≡ a = rw c.test-test.ensures.is at c.conjunction-span.ensures.from in
    let e : c.conjunction-span.result.from - a ≡ 0 = omega arith in
    ap (map seen) c.new-readings.ensures.items
    ∙ sym (ap (λ n. map (reading_of checked.test) (take n (drop a checked.kinds))) e)

pub loop-i-preserved : goal.loop-i-preserved
loop-i-preserved c =
    let checked = c.args.checked.now in
    let a = from_of checked.test.ends c.args.conjunction in
    let from : c.conjunction-span.result.from ≡ a = rw c.test-test.ensures.is at c.conjunction-span.ensures.from in
    let start = c.loop-i.auto.i in
    let after : a ≤ c.loop-i.i = omega arith in
    readings_more checked.test checked.kinds c.loop-i.readings.items c.push.new.self.items c.reading_of.result a
    c.loop-i.i c.kind.result after c.loop-i.invariant c.kind.ensures.kept
    (c.reading_of.ensures ∙ ap (λ t. reading_of t c.kind.result) c.test-test.ensures.is) c.in_ok-push.ensures.items

pub returns : goal.returns
returns c =
    let checked = c.args.checked.now in
    let a = from_of checked.test.ends c.args.conjunction in
    let b = to_of checked.test.ends c.args.conjunction in
    let from : c.conjunction-span.result.from ≡ a = rw c.test-test.ensures.is at c.conjunction-span.ensures.from in
    let to : c.conjunction-span.result.to ≡ b = rw c.test-test.ensures.is at c.conjunction-span.ensures.to in
    let rises = from_before checked.test.ends _ c.args.conjunction c.test-test.ensures.checked.test.ends c.requires in
    let end = c.loop-i.auto.i-end (omega arith) in
    let last = c.loop-i-test.false in
    let here : c.loop-i.i ≡ b = omega arith in
    c.loop-i.invariant ∙ ap (λ k. map (reading_of checked.test) (slice_range checked.kinds a k)) here
