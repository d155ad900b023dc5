-- What is seen of a source or of a sink. This project's own.
use Rattle.std.specs.Prelude.{ℕ, List}
use Rattle.std.specs.declared.option.Option.{Option}

-- the bytes that a source has left, or that a sink was given, where they are told, how many of its calls have failed,
-- and how many were made
pub record View : Type 0 where
  pub bytes : Option (List ℕ)
  pub faults : ℕ
  pub calls : ℕ
