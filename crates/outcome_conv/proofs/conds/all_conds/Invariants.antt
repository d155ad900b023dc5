use Rattle.std.proofs.Common.{◌≡◌, take}
use Rattle.outcome_conv.specs.Conds.{conds_of}
use Rattle.outcome_conv.proofs.conds.all_conds.Given as goal

abbrev pub invariant-loop-i : goal.invariant-loop-i
invariant-loop-i l = l.conds.items ≡ conds_of l.checked.test (take l.i l.checked.kinds)
