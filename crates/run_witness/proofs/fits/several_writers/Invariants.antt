use Rattle.std.proofs.Common.{◌≡◌, ◌-◌, length}
use Rattle.run_witness.specs.Order.{several_from, several_writers}
use Rattle.run_witness.proofs.fits.several_writers.Given as goal

-- the locations that are left give the answer
abbrev pub invariant-loop-x : goal.invariant-loop-x
invariant-loop-x l = several_from l.test l.x (length l.test.locations - l.x) ≡ several_writers l.test
