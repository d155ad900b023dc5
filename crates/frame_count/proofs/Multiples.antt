-- Residues by one product: where c is the least number of at least 2^64 / k, a number below 2^49 is a multiple of k
-- exactly where its product with c, taken modulo 2^64, is below c (after Lemire, Kaser and Kurz, Faster remainder by
-- direct computation, 2019).
use Rattle.std.proofs.Common.{◌≡◌, ℕ, ◌+◌, ◌-◌, ◌*◌, ◌/◌, ◌%◌, ◌^◌, ◌<◌, ◌≤◌, ◌==◌, ◌⊎◌, inl, inr, Bool, true, false, cond, List, [], ◌∷◌, length, map, nat_lt, ap, sym, ◌∙◌, arith, lt-ltb, le-ltb, eq-eqb, ne_eqb, mod-eq_of_lt, refl}
use Rattle.std.proofs.lemmas.Nat.{div-add-mod', mod-mul-add, mod_below, mul-le}
use Rattle.std.proofs.Math.Nat.{pow-suc}
use lib.Lanes.{Each1, mask_l}

-- the product by the parts of the number, where c * k is e more than 2^64
product_is : (k c e q r : ℕ) → c * k ≡ 2 ^ 64 + e → (q * k + r) * c ≡ q * 2 ^ 64 + (q * e + r * c)
product_is k c e q r h =
    let a : (q * k + r) * c ≡ q * (c * k) + r * c = grind arith in
    let b : q * (c * k) ≡ q * (2 ^ 64 + e) = ap (λ x. q * x) h in
    let d : q * (2 ^ 64 + e) ≡ q * 2 ^ 64 + q * e = grind arith in
    omega arith

product_low : (k c e q r : ℕ) → c * k ≡ 2 ^ 64 + e → e < k → k ≤ 128 → r < k → q * k + r < 2 ^ 49 → 2 ^ 57 ≤ c
    → (q * k + r) * c % 2 ^ 64 ≡ q * e + r * c
product_low k c e q r h small few low bound big =
    let x : q * e ≤ q * k = mul-le q e q k (omega arith) (omega arith) in
    let y : (r + 1) * c ≤ k * c = mul-le (r + 1) c k c (omega arith) (omega arith) in
    let swap : k * c ≡ c * k = grind arith in
    let more : (r + 1) * c ≡ r * c + c = grind arith in
    let fits : q * e + r * c < 2 ^ 64 = omega arith in
    ap (λ p. p % 2 ^ 64) (product_is k c e q r h) ∙ mod-mul-add q (2 ^ 64) (q * e + r * c) fits

-- a multiple
product_none : (k c e q : ℕ) → c * k ≡ 2 ^ 64 + e → e < k → 2 ≤ k → k ≤ 128 → q * k + 0 < 2 ^ 49 → 2 ^ 57 ≤ c
    → nat_lt ((q * k + 0) * c % 2 ^ 64) c ≡ true
product_none k c e q h small some few bound big =
    let low = product_low k c e q 0 h small few (omega arith) bound big in
    let x : q * e ≤ q * k = mul-le q e q k (omega arith) (omega arith) in
    let z : 0 * c ≡ 0 = grind arith in
    lt-ltb ((q * k + 0) * c % 2 ^ 64) c (omega arith)

-- no multiple
product_some : (k c e q r : ℕ) → c * k ≡ 2 ^ 64 + e → e < k → k ≤ 128 → 1 ≤ r → r < k → q * k + r < 2 ^ 49 → 2 ^ 57 ≤ c
    → nat_lt ((q * k + r) * c % 2 ^ 64) c ≡ false
product_some k c e q r h small few one low bound big =
    let p = product_low k c e q r h small few low bound big in
    let y : 1 * c ≤ r * c = mul-le 1 c r c one (omega arith) in
    let z : 1 * c ≡ c = grind arith in
    le-ltb ((q * k + r) * c % 2 ^ 64) c (omega arith)

-- by the order of the two residues
by_order : (k c e v a : ℕ) → c * k ≡ 2 ^ 64 + e → e < k → 2 ≤ k → k ≤ 128 → v < 2 ^ 48 → 2 ^ 57 ≤ c
    → (v % k < a % k) ⊎ ((v % k ≡ a % k) ⊎ (a % k < v % k))
    → nat_lt ((v + (k - a % k)) * c % 2 ^ 64) c ≡ (v % k == a % k)
by_order k c e v a h small some few bound big (inl lt) =
    let whole = div-add-mod' v k in
    let below = mod_below a k (omega arith) in
    let is : v + (k - a % k) ≡ v / k * k + (v % k + k - a % k) = omega arith in
    ap (λ x. nat_lt (x * c % 2 ^ 64) c) is
    ∙ product_some k c e (v / k) (v % k + k - a % k) h small few (omega arith) (omega arith) (omega arith) big
    ∙ sym (ne_eqb (v % k) (a % k) (λ same. omega arith))
by_order k c e v a h small some few bound big (inr (inl same)) =
    let whole = div-add-mod' v k in
    let below = mod_below a k (omega arith) in
    let next : (v / k + 1) * k ≡ v / k * k + k = grind arith in
    let is : v + (k - a % k) ≡ (v / k + 1) * k + 0 = omega arith in
    ap (λ x. nat_lt (x * c % 2 ^ 64) c) is
    ∙ product_none k c e (v / k + 1) h small some few (omega arith) big
    ∙ sym (eq-eqb (v % k) (a % k) same)
by_order k c e v a h small some few bound big (inr (inr lt)) =
    let whole = div-add-mod' v k in
    let below = mod_below v k (omega arith) in
    let next : (v / k + 1) * k ≡ v / k * k + k = grind arith in
    let is : v + (k - a % k) ≡ (v / k + 1) * k + (v % k - a % k) = omega arith in
    ap (λ x. nat_lt (x * c % 2 ^ 64) c) is
    ∙ product_some k c e (v / k + 1) (v % k - a % k) h small few (omega arith) (omega arith) (omega arith) big
    ∙ sym (ne_eqb (v % k) (a % k) (λ same. omega arith))

three : (x y : ℕ) → (x < y) ⊎ ((x ≡ y) ⊎ (y < x))
three x y = grind arith

-- c is (2^64 - 1) / k + 1
pub residue_by_product : (k v a : ℕ) → 2 ≤ k → k ≤ 128 → v < 2 ^ 48
    → nat_lt ((v + (k - a % k)) % 2 ^ 64 * ((2 ^ 64 - 1) / k + 1) % 2 ^ 64) ((2 ^ 64 - 1) / k + 1) ≡ (v % k == a % k)
residue_by_product k v a some few bound =
    let q = (2 ^ 64 - 1) / k in
    let r = (2 ^ 64 - 1) % k in
    let whole = div-add-mod' (2 ^ 64 - 1) k in
    let low = mod_below (2 ^ 64 - 1) k (omega arith) in
    let more : (q + 1) * k ≡ q * k + k = grind arith in
    let is : (q + 1) * k ≡ 2 ^ 64 + (k - 1 - r) = omega arith in
    let most : (q + 1) * k ≤ (q + 1) * 128 = mul-le (q + 1) k (q + 1) 128 (omega arith) few in
    let big : 2 ^ 57 ≤ q + 1 = omega arith in
    let fits : v + (k - a % k) < 2 ^ 64 = omega arith in
    ap (λ x. nat_lt (x * (q + 1) % 2 ^ 64) (q + 1)) (mod-eq_of_lt fits)
    ∙ by_order k (q + 1) (k - 1 - r) v a is (omega arith) some few bound big (three (v % k) (a % k))

-- two tests that agree on each of the lanes
pub mask_same_each : {X : Type 0} (P : X → Type 0) (p q : X → Bool) → ((x : X) → P x → p x ≡ q x) → (xs : List X)
    → Each1 P xs → mask_l (map p xs) ≡ mask_l (map q xs)
mask_same_each P p q h [] e = refl
mask_same_each P p q h (x ∷ xs) e =
    ap (λ b. cond b 1 0 + 2 * mask_l (map p xs)) (h x e.0)
    ∙ ap (λ m. cond (q x) 1 0 + 2 * m) (mask_same_each P p q h xs e.1)

first_of : (b : Bool) (m n : ℕ) → cond b 1 0 + 2 * m + 1 ≡ 2 * n → (b ≡ true) × (m + 1 ≡ n)
first_of true m n e = (refl, omega arith)
first_of false m n e = absurd (omega arith)

-- where all bits are set, all lanes pass
pub each_of_mask : {X : Type 0} (p : X → Bool) (xs : List X) → mask_l (map p xs) + 1 ≡ 2 ^ length xs
    → Each1 (λ x. p x ≡ true) xs
each_of_mask p [] e = tt
each_of_mask p (x ∷ xs) e =
    let s = pow-suc 2 (length xs) in
    let both = first_of (p x) (mask_l (map p xs)) (2 ^ length xs) (omega arith) in
    (both.0, each_of_mask p xs both.1)
