use Rattle.std.proofs.Common.{◌≡◌, ◌+◌, ◌-◌, ◌*◌, ◌<◌, ◌≤◌, All, take}
use Rattle.frame_count.specs.Block.{IsPlace, IsRemembered, block_holds}
use Rattle.frame_count.proofs.Counts.{IsCountedTo}
use Rattle.frame_count.proofs.block.Place.+count.Given as goal

abbrev pub invariant-loop-at : goal.invariant-loop-at
invariant-loop-at l = record {
  within : l.at ≤ l.to;
  here : l.at < l.to → (l.i * l.step + l.start ≡ l.at) × (l.start < l.step);
  kept : IsPlace l.task l.self;
  remembered : All (IsRemembered l.task.conds.now l.task.logs.now.logs l.task.n) l.blocks;
  front : take l.p l.self.frame ≡ take l.p l.fn.self.frame;
  counted : IsCountedTo (block_holds l.task.conds.now l.task.logs.now.logs l.task.n l.p l.fn.self.frame) l.from l.at
      l.total;
}

abbrev pub decreases-loop-at : goal.decreases-loop-at
decreases-loop-at l = l.to - l.at

abbrev pub decreases-count : goal.decreases-count
decreases-count l = l.task.now.threads - l.p
