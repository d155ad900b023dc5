-- What calls do to the bytes that a source has left and to those that a sink has, where they are told. The words
-- for one call are those of std's `Read` and `Write`; these, for a whole input or text, are this project's own.
use Rattle.std.specs.Prelude.{◌≡◌, ℕ, ◌+◌, ◌<◌, ◌≤◌, List, length, take, drop, Some, IfSome}
use Rattle.std.specs.declared.option.Option.{Option}
use Rattle.std.specs.Io.KnownBytes.{Consumes, Appends, IsAtEnd}

-- the source gave these bytes, and it has no more
pub record GaveAll (old new : Option (List ℕ)) (bytes : List ℕ) : Type 0 where
  pub given : Consumes old new bytes
  pub ended : IsAtEnd new

-- the source gave some bytes, at most so many
abbrev pub GaveAtMost : Option (List ℕ) → Option (List ℕ) → ℕ → Type 0
GaveAtMost old new most = (bytes : List ℕ) × (length bytes ≤ most) × Consumes old new bytes

-- more than `limit` bytes were left, and one more than `limit` of them were taken
abbrev pub IsOver : Option (List ℕ) → Option (List ℕ) → ℕ → Type 0
IsOver old new limit = IfSome old (λ left. (limit < length left) × (new ≡ Some (drop (limit + 1) left)))

-- the sink has a part of the bytes more, from their front, and not all of them
abbrev pub AppendsPart : Option (List ℕ) → Option (List ℕ) → List ℕ → Type 0
AppendsPart old new bytes = (n : ℕ) × (n < length bytes) × Appends old new (take n bytes)
