-- How many of the stores to a location were written with a value. The counting is this project's own.
use Rattle.std.specs.Prelude.{ℕ, Bool, List, [], ◌∷◌}
use Rattle.std.specs.Option.{option_and_then}
use Rattle.x86_subset.specs.Test.{LitmusTest}
use Rattle.seq_conv.specs.Sequence.{Site, action_at}
use Rattle.profile_check.specs.Kinds.{is_some_of, written_of}
use Rattle.profile_check.specs.declared.atoms.Named.{Named}
use Rattle.profile_check.specs.declared.atoms.Named.TheVariants.{Nobody, One, Several}

-- whether the store at a site was written with v
abbrev pub writes : LitmusTest → ℕ → Site → Bool
writes test v s = is_some_of v (option_and_then written_of (action_at test s))

-- how many stores these are
abbrev pub named_of : List Site → Named
named_of [] = Nobody
named_of (s ∷ []) = One s
named_of (s ∷ other ∷ ss) = Several
