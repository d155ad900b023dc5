use Rattle.std.proofs.Common.{◌≡◌, ℕ, ◌-◌, ◌%◌, ◌^◌, ◌==◌, bit_and, cond, eqb, [], ◌∷◌, length, map, ap, sym, ◌∙◌, arith, w64}
use Rattle.std.proofs.lemmas.List.{length-map}
use Rattle.std.proofs.lemmas.Nat.{and_mask}
use Rattle.std.proofs.lemmas.Simd.{zip2_splat, bitmask_splat, map-map}
use lib.Lanes.{mask_l, top, zip2}
use Rattle.frame_count.proofs.Masks.{mask_same}
use Rattle.frame_count.proofs.lanes.masked_bits.Goals as goal

-- the low digits are the residue for a power of two
low_is : (k j x : ℕ) → k ≡ 2 ^ j → bit_and x (k - 1) ≡ x % k
low_is k j x e = ap (λ k. bit_and x (k - 1)) e ∙ and_mask x j ∙ ap (λ k. x % k) (sym e)

pub returns : goal.returns
returns c =
    let k = c.args.k in
    let low = k - 1 in
    let r = bit_and c.args.a low in
    let v = c.args.value in
    let digits = c.requires.power.0 in
    let power : k ≡ 2 ^ digits = c.requires.power.2 in
    let long : length (map (λ x. bit_and x low) v) ≡ 8 = length-map v (λ x. bit_and x low) ∙ c.requires.lanes in
    ap (λ l. mask_l (map (top 63) (zip2 (λ a b. cond (eqb a b) (2 ^ 64 - 1) 0) l
    (r ∷ r ∷ r ∷ r ∷ r ∷ r ∷ r ∷ r ∷ []))) % 2 ^ 64) (zip2_splat bit_and v 8 low c.requires.lanes)
    ∙ bitmask_splat w64 eqb (map (λ x. bit_and x low) v) 8 r long (omega arith)
    ∙ ap mask_l (map-map (λ x. eqb x r) (λ x. bit_and x low) v)
    ∙ mask_same (λ x. bit_and x low == r) (λ x. x % k == c.args.a % k)
    (λ x. ap (λ y. y == r) (low_is k digits x power) ∙ ap (λ y. x % k == y) (low_is k digits c.args.a power)) v
