use Rattle.std.proofs.Common.{◌-◌, ◌≤◌}
use Rattle.frame_count.specs.Rows.{row_holds}
use Rattle.frame_count.proofs.Counts.{IsCountedTo}
use Rattle.frame_count.proofs.row.Row.count_between.Given as goal

abbrev pub invariant-loop-at : goal.invariant-loop-at
invariant-loop-at l = (l.at ≤ l.to) × IsCountedTo (row_holds l.self) l.from l.at l.total

abbrev pub decreases-loop-at : goal.decreases-loop-at
decreases-loop-at l = l.to - l.at
