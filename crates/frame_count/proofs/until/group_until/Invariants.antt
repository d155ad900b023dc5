use Rattle.std.proofs.Common.{◌≡◌, ℕ, ◌<◌, ◌≤◌, drop, slice_set}
use Rattle.std.specs.List.{list_all}
use Rattle.frame_count.specs.Block.{test_now}
use Rattle.frame_count.proofs.until.group_until.Given as goal

abbrev pub invariant-loop-cond : goal.invariant-loop-cond
invariant-loop-cond l = record {
  more : l.i < l.least;
  passed : (m : ℕ) → l.i ≤ m → m < l.least → m < l.n
      → list_all (test_now l.logs.logs l.p (slice_set l.frame l.p m)) (drop l.cond-index l.conds)
      ≡ list_all (test_now l.logs.logs l.p (slice_set l.frame l.p m)) l.conds;
}
