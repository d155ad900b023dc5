-- A test as code has it while it reads. This project's own.
use Rattle.std.specs.Prelude.{◌≡◌, ℕ, ◌≤◌, List, length, Result, Ok, Err}
use Rattle.x86_subset.specs.declared.test.Shape.{Shape}
use Rattle.x86_subset.specs.Conjunctions.{AreEnds}
use Rattle.x86_subset.specs.Shape.{AreLocated}
use Rattle.x86_subset.specs.Test.{LitmusTest}
use Rattle.litmus_reader.specs.declared.reader.Draft.{Draft}
use Rattle.litmus_reader.specs.declared.kind.LitmusError.{LitmusError}
use Rattle.litmus_reader.specs.declared.kind.LitmusError.TheVariants as errors
use Rattle.litmus_reader.specs.Reading.{test_of}
use Rattle.litmus_reader.specs.Outcome.{joined_of}
use Rattle.litmus_reader.specs.Sheet.{sheet_of}

-- the test that a draft stands for
abbrev pub draft_of : List ℕ → Draft → LitmusTest
draft_of text d = test_of d.name (sheet_of text d.sheet) d.quantifier (joined_of d.joined)

-- all but the limits of a test
pub record IsFit (test : LitmusTest) : Type 0 where
  pub threads : 1 ≤ length test.bodies
  pub atoms : 1 ≤ length test.atoms
  pub located : AreLocated (length test.locations) test.bodies
  pub ends : AreEnds test.ends (length test.atoms)

-- a test or a limit was made, unless memory ran out
abbrev pub IsMade : Result LitmusTest LitmusError → Result LitmusTest Shape → Type 0
IsMade (Ok test) r = r ≡ Ok test
IsMade (Err errors.Memory) r = Unit {0}
IsMade (Err (errors.Bad kind line)) r = ⊥
IsMade (Err (errors.Over limit)) r = r ≡ Err limit
