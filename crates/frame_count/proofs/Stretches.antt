-- Numbers between two places.
use Rattle.std.proofs.Common.{◌≡◌, ℕ, ◌&&◌, Bool, true, false, not, nat_le, nat_lt, refl, sym, ap, ◌∙◌}
use Rattle.frame_count.proofs.Thresholds.{not_le}

not_not : (b : Bool) → not (not b) ≡ b
not_not true = refl
not_not false = refl

and_comm : (a b : Bool) → (a && b) ≡ (b && a)
and_comm true true = refl
and_comm true false = refl
and_comm false true = refl
and_comm false false = refl

not_lt : (m q : ℕ) → not (nat_lt m q) ≡ nat_le q m
not_lt m q = ap not (sym (not_le q m)) ∙ not_not (nat_le q m)

-- below the one, and not below the other
pub between_places : (from to m : ℕ) → (nat_lt m to && not (nat_lt m from)) ≡ (nat_le from m && nat_lt m to)
between_places from to m = ap (λ b. nat_lt m to && b) (not_lt m from) ∙ and_comm (nat_lt m to) (nat_le from m)
