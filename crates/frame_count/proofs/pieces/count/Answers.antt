use Rattle.std.proofs.Common.{◌≡◌, ℕ, ◌-◌, ◌<◌, ◌^◌, Bool, count_by, ap, sym, ◌∙◌, arith}
use Rattle.std.specs.List.{range_with_len}
use Rattle.rayon.specs.Numbers.{nat_range}
use Rattle.rayon.proofs.ToStd.{nat_range-All}
use Rattle.load_log.specs.Values.{value_at}
use Rattle.outcome_conv.specs.Conds.{count_of}
use Rattle.frame_count.specs.Count.{CanCount, number_holds}
use Rattle.frame_count.specs.Known.{Tells}
use Rattle.frame_count.specs.Counted.{Counts}
use Rattle.frame_count.proofs.Counts.{count_bound}
use Rattle.frame_count.proofs.Cuts.{sum_all}
use Rattle.frame_count.proofs.pieces.count.Goals as goal

pub sum-requires-clause-ready : goal.sum-requires-clause-ready
sum-requires-clause-ready g c κs within =
    let ends = c.into_par_iter.ensures in
    let all = c.power-all.ensures ∙ ap (λ t. c.args.n ^ t) c.requires.threads.0 in
    let can : CanCount c.args.conds.now c.args.logs.now.logs c.args.n c.power-all.result c.args.cut = record {
      iteration = omega arith;
      iterations = omega arith;
      thread = omega arith;
      threads = omega arith;
      all_is = all;
      few = omega arith;
      cut_some = omega arith;
      cut_few = omega arith;
      whole = c.requires.whole;
      names = c.requires.names;
    } in
    let inside = nat_range-All (λ j. (CanCount c.args.conds.now c.args.logs.now.logs c.args.n c.power-all.result
    c.args.cut) × (j < c.args.cut) × Tells c.args.conds.now c.args.logs.now.logs c.of-column.result
    × Counts c.args.conds.now c.args.logs.now.logs c.first_row-row.result) 0 c.args.cut
    (λ i low high. (can, high, c.of-column.ensures, c.first_row-row.ensures)) in
    rw (c.with_min_len.ensures.base, c.map.ensures.base, c.map.ensures.f, ends.0, ends.1)
    (λ k d lt. ((inside k d lt), λ y p. tt))

pub sum-requires-clause-fits : goal.sum-requires-clause-fits
sum-requires-clause-fits g c κs within xs h =
    let ends = c.into_par_iter.ensures in
    let p : ℕ → Bool = number_holds c.args.conds.now c.args.logs.now.logs c.args.n in
    let chain = rw (c.with_min_len.ensures.base, c.map.ensures.base, c.map.ensures.f) at h in
    let whole : c.args.cut - 0 ≡ c.args.cut = omega arith in
    let places = chain.1 ∙ (λ i. nat_range (ends.0 i) (ends.1 i)) ∙ ap (range_with_len 0) whole in
    let e = sum_all p c.power-all.result c.args.cut chain.0 xs (omega arith) places chain.2 in
    let b = count_bound p 0 c.power-all.result in
    let few = c.power-all.ensures in
    omega arith

pub returns : goal.returns
returns g c =
    let ends = c.into_par_iter.ensures in
    let p : ℕ → Bool = number_holds c.args.conds.now c.args.logs.now.logs c.args.n in
    let done = c.sum.ensures in
    let chain = rw (c.with_min_len.ensures.base, c.map.ensures.base, c.map.ensures.f) at done.1 in
    let whole : c.args.cut - 0 ≡ c.args.cut = omega arith in
    let places = chain.1 ∙ (λ i. nat_range (ends.0 i) (ends.1 i)) ∙ ap (range_with_len 0) whole in
    let e = sum_all p c.power-all.result c.args.cut chain.0 done.0 (omega arith) places chain.2 in
    done.2 ∙ e
    ∙ ap (λ k. count_by p (range_with_len 0 k)) (c.power-all.ensures ∙ ap (λ t. c.args.n ^ t) c.requires.threads.0)
    ∙ ap (count_of (value_at c.args.logs.now.logs) c.args.conds.now.ends c.args.conds.now.conds c.args.n)
    (sym c.requires.threads.0)
