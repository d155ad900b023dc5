-- Whether a condition asks that nothing of it is seen: the litmus format's `~exists`.
use Rattle.std.specs.Prelude.{Bool, true, false}
use Rattle.x86_subset.specs.declared.test.Quantifier.{Quantifier}
use Rattle.x86_subset.specs.declared.test.Quantifier.TheVariants.{Exists, NotExists}

abbrev pub is_negated : Quantifier → Bool
is_negated Exists = false
is_negated NotExists = true
