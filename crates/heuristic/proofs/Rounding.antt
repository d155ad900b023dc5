-- A quotient that is rounded up, in the two ways that it is written.
use Rattle.std.proofs.Common.{◌≡◌, ℕ, ◌+◌, ◌-◌, ◌*◌, ◌/◌, ◌<◌, ◌≤◌, arith}
use Rattle.std.specs.Int.{div_ceil}
use Rattle.std.proofs.Math.Nat.{add-mul}
use Rattle.std.proofs.lemmas.Nat.{div_below, le-div}
use Rattle.std.proofs.lemmas.Grind.{div_ceil_times}

pub rounded_up : (v k : ℕ) → 1 ≤ k → div_ceil v k ≡ (v + k - 1) / k
rounded_up v k h =
    let d : ℕ = div_ceil v k in
    let times : (v ≤ d * k) × (d * k < v + k) = div_ceil_times v k h in
    let low : d ≤ (v + k - 1) / k = le-div d (v + k - 1) k h (omega (arith, times.1)) in
    let one_more : (d + 1) * k ≡ d * k + 1 * k = add-mul d 1 k in
    let high : (v + k - 1) / k < d + 1 = div_below (v + k - 1) k (d + 1) h (omega (arith, times.0, one_more)) in
    omega (arith, low, high)
