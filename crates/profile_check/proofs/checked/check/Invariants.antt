use Rattle.std.proofs.Common.{◌≡◌, ◌+◌, Ok, map, take, drop}
use Rattle.profile_check.specs.Kinds.{kind_of}
use Rattle.profile_check.specs.Profile.{profile_from, profile_of}
use Rattle.profile_check.specs.declared.kind.AtomKind.{AtomKind}
use Rattle.profile_check.proofs.checked.check.Given as goal

abbrev pub invariant-loop-i : goal.invariant-loop-i
invariant-loop-i l = record {
  kinds : map (λ (kind : AtomKind). Ok kind) l.kinds.items ≡ map (kind_of l.fn.test) (take l.i l.fn.test.atoms);
  profile : profile_from l.fn.test (l.i + 1) (drop l.i l.fn.test.atoms) ≡ profile_of l.fn.test;
}
