-- What contracts see of a home, of a lane and of a closed field: this project's own.
use Rattle.std.specs.Prelude.{◌≡◌, ℕ, List}
use Rattle.atomic_table.specs.Seated.{TableId}
use Rattle.tso_words.specs.declared.step.Step.{Step}
use Rattle.tso_words.specs.declared.step.Part.{Part}

-- a table's name, and the numbers at home with their lists
pub record AtHome : Type 0 where
  pub identity : TableId
  pub parts : List Part

-- a table's name, and one number with its list
pub record Lent : Type 0 where
  pub identity : TableId
  pub thread : ℕ
  pub steps : List Step

-- a table's name, its words after the last step, and the lists of the eight threads
pub record Ended : Type 0 where
  pub identity : TableId
  pub words : List ℕ
  pub lists : List (List Step)

-- the table and the number are the same
abbrev pub IsSameLane : Lent → Lent → Type 0
IsSameLane a b = (b.identity ≡ a.identity) × (b.thread ≡ a.thread)
