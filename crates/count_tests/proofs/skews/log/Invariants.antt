use Rattle.std.proofs.Common.{◌≡◌, ◌+◌, take}
use Rattle.count_tests.proofs.skews.log.Given as goal

abbrev pub invariant-loop-value : goal.invariant-loop-value
invariant-loop-value l = record {
  columns : l.log.columns ≡ 1;
  values : l.log.values ≡ take l.value-index l.values;
  room : l.log.spare + l.value-index ≡ l.n;
}
