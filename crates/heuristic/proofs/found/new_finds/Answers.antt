use Rattle.std.proofs.Common.{◌≡◌, ◌-◌, ◌<◌, length, map, ap, ◌∙◌, arith}
use Rattle.std.specs.List.{filter_map, range_with_len}
use Rattle.std.proofs.lemmas.Slice.Zip.{AllZip-map}
use Rattle.rayon.specs.Numbers.{nat_range}
use Rattle.rayon.proofs.ToStd.{nat_range-All}
use Rattle.heuristic.specs.Plan.{plan_of}
use Rattle.heuristic.specs.Steps.{CanPick, new_find_of}
use Rattle.heuristic.proofs.Finds.{filter_map-images}
use Rattle.heuristic.proofs.found.new_finds.Goals as goal

pub collect-requires-clause-ready : goal.collect-requires-clause-ready
collect-requires-clause-ready g c κs within =
    let ends = c.into_par_iter.ensures in
    let inside = nat_range-All (λ i. (CanPick c.args.conds.now c.args.logs.now.logs c.args.n)
    × (c.args.plan.now ≡ plan_of (length c.args.logs.now.logs) c.args.conds.now)
    × (c.args.c < length c.args.conds.now.ends) × (i < c.args.n)) 0 c.args.n
    (λ i low high. (c.requires.logs, c.requires.plan, c.requires.conjunction, high)) in
    rw (c.filter_map.ensures.base, c.filter_map.ensures.f, ends.0, ends.1) (λ k d lt. (inside k d lt, λ y p. tt))

pub returns : goal.returns
returns g c =
    let ends = c.into_par_iter.ensures in
    let whole : c.args.n - 0 ≡ c.args.n = omega arith in
    let h = new_find_of c.args.conds.now c.args.logs.now.logs c.args.n c.args.c in
    let made = c.in_ok-finds.ensures {u = tt} in
    let chain = rw (c.filter_map.ensures.base, c.filter_map.ensures.f) at made.1 in
    let places = chain.2 ∙ (λ i. nat_range (ends.0 i) (ends.1 i)) ∙ ap (range_with_len 0) whole in
    made.2 ∙ chain.4 ∙ ap (filter_map (λ o. o)) (AllZip-map h chain.0 chain.1 chain.3 ∙ ap (map h) places)
    ∙ filter_map-images h (range_with_len 0 c.args.n)
