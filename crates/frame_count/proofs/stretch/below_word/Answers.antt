use Rattle.std.proofs.Common.{◌≡◌, ◌-◌, ◌*◌, ◌%◌, ◌^◌, arith}
use Rattle.std.proofs.lemmas.Nat.{one_shl}
use Rattle.frame_count.proofs.Thresholds.{below_all, below_none, below_some}
use Rattle.frame_count.proofs.stretch.below_word.Goals as goal

pub returns-then-end-at : goal.returns-then-end-at
returns-then-end-at c = below_none c.args.end c.args.at c.if-end-at.true

pub returns-then-end-at-ge64 : goal.returns-then-end-at-ge64
returns-then-end-at-ge64 c = let h = below_all c.args.end c.args.at (omega arith) in omega arith

pub returns-else-end-at-ge64 : goal.returns-else-end-at-ge64
returns-else-end-at-ge64 c =
    let d = c.args.end - c.args.at in
    let h = below_some c.args.end c.args.at d (omega arith) (omega arith) in
    let s : 1 * 2 ^ d % 2 ^ 64 ≡ 2 ^ d = one_shl d 64 (omega arith) in
    omega arith
