-- The last of a list that passes a test (this project's own; std has the first, `find`).
use Rattle.std.specs.Prelude.{Bool, Option, None, Some, List, [], ◌∷◌, if◌then◌else◌}
use Rattle.std.specs.Option.{option_or}

-- the last element that passes a test
abbrev pub last_that : {X : Type 0} → (X → Bool) → List X → Option X
last_that p [] = None
last_that p (e ∷ es) = option_or (last_that p es) (if p e then Some e else None)
