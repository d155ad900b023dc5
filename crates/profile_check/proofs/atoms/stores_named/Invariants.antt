use Rattle.std.proofs.Common.{◌≡◌, filter, take}
use Rattle.profile_check.specs.Named.{named_of, writes}
use Rattle.profile_check.proofs.atoms.stores_named.Given as goal

abbrev pub invariant-loop-site : goal.invariant-loop-site
invariant-loop-site l = l.found ≡ named_of (filter (writes l.test l.value) (take l.site-index l.stores))
