use Rattle.std.proofs.Common.{◌≡◌, ◌+◌, ◌≤◌, All, length}
use Rattle.count_tests.proofs.skews.constant.Given as goal

abbrev pub invariant-loop : goal.invariant-loop
invariant-loop l = record {
  columns : l.log.columns ≡ 1;
  long : length l.log.values ≡ l.counter;
  room : l.log.spare + l.counter ≡ l.n;
  small : All (λ v. v ≤ l.n) l.log.values;
}
