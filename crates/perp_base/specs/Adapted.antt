-- What contracts see of an adapter over a reader or a writer of std. This project's own.
use Rattle.std.specs.Prelude.{ℕ}

-- the reader or writer, how many of the calls have failed, and how many were made
pub record Adapted (I : Type 0) : Type 0 where
  pub inner : I
  pub faults : ℕ
  pub calls : ℕ

-- the adapter before its first call
abbrev pub adapted : {I : Type 0} → I → Adapted I
adapted inner = record { inner = inner; faults = 0; calls = 0 }
