use Rattle.std.proofs.Common.{◌≡◌, ℕ, ◌+◌, ◌-◌, ◌*◌, ◌/◌, ◌%◌, ◌^◌, ◌==◌, ◌≤◌, [], ◌∷◌, true, length, ltb, map, nat_lt, ap, ◌∙◌}
use Rattle.std.proofs.lemmas.Bool.{ltb-true}
use Rattle.std.proofs.lemmas.List.{length-map}
use Rattle.std.proofs.lemmas.Simd.{length-zip2, map-map, zip2_splat}
use lib.Lanes.{mask_l, zip2}
use Rattle.frame_count.proofs.Multiples.{mask_same_each, residue_by_product}
use Rattle.frame_count.proofs.lanes.multiple_bits.Goals as goal

-- one lane
one : (k a gap step v : ℕ) → 2 ≤ k → k ≤ 128 → gap ≡ k - a % k → step ≡ (2 ^ 64 - 1) / k + 1 → nat_lt v (2 ^ 48) ≡ true
    → ltb ((v + gap) % 2 ^ 64 * step % 2 ^ 64) step ≡ (v % k == a % k)
one k a gap step v some few e f short =
    ap (λ s. ltb ((v + gap) % 2 ^ 64 * s % 2 ^ 64) s) f
    ∙ ap (λ g. ltb ((v + g) % 2 ^ 64 * ((2 ^ 64 - 1) / k + 1) % 2 ^ 64) ((2 ^ 64 - 1) / k + 1)) e
    ∙ residue_by_product k v a some few (ltb-true v (2 ^ 48) short)

pub less_bits-requires-clause-value : goal.less_bits-requires-clause-value
less_bits-requires-clause-value c =
    let gap = c.args.gap in
    let step = c.args.step in
    let sums : length (zip2 (λ (x y : ℕ). (x + y) % 2 ^ 64) c.args.value
    (gap ∷ gap ∷ gap ∷ gap ∷ gap ∷ gap ∷ gap ∷ gap ∷ []))
    ≡ 8 = length-zip2 _ c.args.value (gap ∷ gap ∷ gap ∷ gap ∷ gap ∷ gap ∷ gap ∷ gap ∷ []) c.requires.lanes
    ∙ c.requires.lanes in
    length-zip2 _ (zip2 (λ (x y : ℕ). (x + y) % 2 ^ 64) c.args.value
    (gap ∷ gap ∷ gap ∷ gap ∷ gap ∷ gap ∷ gap ∷ gap ∷ [])) (step ∷ step ∷ step ∷ step ∷ step ∷ step ∷ step ∷ step
    ∷ []) sums ∙ sums

pub returns : goal.returns
returns c =
    let k = c.args.k in
    let a = c.args.a in
    let v = c.args.value in
    let gap = c.args.gap in
    let step = c.args.step in
    let add = λ (x y : ℕ). (x + y) % 2 ^ 64 in
    let times = λ (x y : ℕ). x * y % 2 ^ 64 in
    let sums = zip2_splat add v 8 gap c.requires.lanes in
    let long : length (map (λ x. add x gap) v) ≡ 8 = length-map v (λ x. add x gap) ∙ c.requires.lanes in
    let products = zip2_splat times (map (λ x. add x gap) v) 8 step long
    ∙ map-map (λ x. times x step) (λ x. add x gap) v in
    let long_products : length (map (λ x. times (add x gap) step) v) ≡ 8 = length-map v (λ x. times (add x gap) step)
    ∙ c.requires.lanes in
    let splat = step ∷ step ∷ step ∷ step ∷ step ∷ step ∷ step ∷ step ∷ [] in
    c.less_bits.ensures
    ∙ ap (λ l. mask_l (zip2 ltb (zip2 times l splat) splat)) sums
    ∙ ap (λ l. mask_l (zip2 ltb l splat)) products
    ∙ ap mask_l (zip2_splat ltb (map (λ x. times (add x gap) step) v) 8 step long_products
    ∙ map-map (λ x. ltb x step) (λ x. times (add x gap) step) v)
    ∙ mask_same_each _ (λ x. ltb (times (add x gap) step) step) (λ x. x % k == a % k)
    (λ x short. one k a gap step x c.requires.some.0 c.requires.some.1 c.requires.gap c.requires.step short) v
    c.requires.short
