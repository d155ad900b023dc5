use Rattle.std.proofs.Common.{arith, rules}
use Rattle.std.proofs.Math.Nat.{zero-mul}
use Rattle.load_log.proofs.Columns.{seen_none}
use Rattle.load_log.proofs.Rising.{marked_none}
use Rattle.load_log.proofs.log.Log.reserve.Goals as goal

pub returns : goal.returns
returns c = record { made = seen_none c.args.columns c.args.n c.in_ok-vec.field-0.items }

pub invariant_of-result : goal.invariant_of-result
invariant_of-result c = (
  search rules,
  λ some. some,
  omega (arith, zero-mul c.args.columns),
  c.requires.few,
  marked_none c.args.columns c.args.n c.in_ok-vec.field-0.items c.requires.few,
)
