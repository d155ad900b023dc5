-- What holds of each of the eight numbers of threads holds of every number below eight.
use Rattle.std.proofs.Common.{ℕ, zero, suc, ◌<◌, arith}

pub below_eight : (P : ℕ → Type 0) → P 0 × P 1 × P 2 × P 3 × P 4 × P 5 × P 6 × P 7 → (t : ℕ) → t < 8 → P t
below_eight P each zero low = each.0
below_eight P each (suc zero) low = each.1
below_eight P each (suc (suc zero)) low = each.2
below_eight P each (suc (suc (suc zero))) low = each.3
below_eight P each (suc (suc (suc (suc zero)))) low = each.4
below_eight P each (suc (suc (suc (suc (suc zero))))) low = each.5
below_eight P each (suc (suc (suc (suc (suc (suc zero)))))) low = each.6
below_eight P each (suc (suc (suc (suc (suc (suc (suc zero))))))) low = each.7
below_eight P each (suc (suc (suc (suc (suc (suc (suc (suc t)))))))) low = absurd (omega arith)
