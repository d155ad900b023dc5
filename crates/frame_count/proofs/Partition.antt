-- Numbers that never fall, parted by a bound.
use Rattle.std.proofs.Common.{◌≡◌, ℕ, ◌<◌, ◌≤◌, Bool, List, true, false, length, nat_le, nat_lt, slice_index, sym, ◌∙◌, arith, lt-ltb, le-ltb, le-leb, ◌⊎◌, inl, inr}
use Rattle.std.proofs.lemmas.Bool.{cases_lt, leb-true, ltb-true}
use Rattle.std.specs.List.Sorted.{IsPartitionPoint}

side : (p : ℕ → Bool) (xs : List ℕ) (k m : ℕ) → IsPartitionPoint (λ y. p y ≡ true) (λ y. p y ≡ false) xs k
    → m < length xs → (m < k) ⊎ (k ≤ m) → p (slice_index xs m) ≡ nat_lt m k
side p xs k m h lt (inl l) = h.0 m 0 (omega arith) l ∙ sym (lt-ltb m k l)
side p xs k m h lt (inr l) = h.1 m 0 l lt ∙ sym (le-ltb m k l)

-- the test holds of those in front of the place
pub in_front : (p : ℕ → Bool) (xs : List ℕ) (k : ℕ) → IsPartitionPoint (λ y. p y ≡ true) (λ y. p y ≡ false) xs k
    → (m : ℕ) → m < length xs → p (slice_index xs m) ≡ nat_lt m k
in_front p xs k h m lt = side p xs k m h lt (cases_lt m k)

-- what is at most a number below the bound is below it, and so for at most the bound
pub also_below : (bound x y : ℕ) → x ≤ y → nat_lt y bound ≡ true → nat_lt x bound ≡ true
also_below bound x y le e = let h = ltb-true y bound e in lt-ltb x bound (omega arith)

pub also_up_to : (bound x y : ℕ) → x ≤ y → nat_le y bound ≡ true → nat_le x bound ≡ true
also_up_to bound x y le e = let h = leb-true y bound e in le-leb x bound (omega arith)
