use Rattle.std.proofs.Common.{ap, length, arith}
use Rattle.profile_check.proofs.KeptKinds.{are_kinds}
use Rattle.profile_check.proofs.checked.check.Goals as goal

pub invariant_of-result : goal.invariant_of-result
invariant_of-result c = record {
  kinds =
      are_kinds c.args.test c.loop-i.kinds.items c.loop-i.i (omega (arith, ap length c.atoms-i-end.ensures))
      c.loop-i.invariant.kinds;
  test = c.threads-threads.ensures.test;
}

pub returns-clause-checked : goal.returns-clause-checked
returns-clause-checked c = record {
  kinds =
      are_kinds c.args.test c.loop-i.kinds.items c.loop-i.i (omega (arith, ap length c.atoms-i-end.ensures))
      c.loop-i.invariant.kinds;
  test = c.threads-threads.ensures.test;
}
