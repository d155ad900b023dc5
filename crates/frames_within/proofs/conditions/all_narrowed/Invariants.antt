use Rattle.std.proofs.Common.{◌≡◌, map, take}
use Rattle.frames_within.specs.Counting.{narrowed}
use Rattle.frames_within.proofs.conditions.all_narrowed.Given as goal

abbrev pub invariant-loop-cond : goal.invariant-loop-cond
invariant-loop-cond l = l.all.items ≡ map narrowed (take l.cond-index l.conds)
