use Rattle.std.proofs.Common.{◌≡◌, take}
use Rattle.outcome_conv.proofs.conds.all_ends.Given as goal

abbrev pub invariant-loop-c : goal.invariant-loop-c
invariant-loop-c l = l.ends.items ≡ take l.c l.test.ends
