use Rattle.std.proofs.Common.{◌≡◌, ℕ, ◌%◌, ◌<◌, ◌==◌, w64, slice_index, sym, ◌∙◌, arith, eq-eqb}
use Rattle.std.proofs.lemmas.Nat.{mod_below, one_shl}
use Rattle.std.proofs.lemmas.Nat.Bits.{bit_at-trailing_zeros}
use lib.Count.{count_trailing_zeros}
use Rattle.frame_count.proofs.Along.{along_all}
use Rattle.frame_count.proofs.lanes.residue_word.Goals as goal

mod_one : (v k : ℕ) → k ≡ 1 → v % k ≡ 0
mod_one v k e = let h = mod_below v k (omega arith) in omega arith

pub returns-then-k-eq1 : goal.returns-then-k-eq1
returns-then-k-eq1 c =
    let k = c.args.k in
    let v = slice_index c.args.values.now in
    let one = c.if-k-eq1.true in
    along_all (λ m. v m % k == c.args.a % k) c.args.at
    (λ m. eq-eqb (v m % k) (c.args.a % k) (mod_one (v m) k one ∙ sym (mod_one c.args.a k one)))

pub masked_word-requires-clause-power : goal.masked_word-requires-clause-power
masked_word-requires-clause-power c =
    let k = c.args.k in
    let digits : ℕ = count_trailing_zeros 64 k in
    let few : digits < 64 = (bit_at-trailing_zeros w64 k (omega arith) c.ranges.k.fits).0 in
    (digits, few, c.if-k.true ∙ one_shl digits 64 few)
