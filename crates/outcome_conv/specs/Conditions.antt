-- The conditions of a test in numbers (after PerpLE's conversion of outcomes: Melissaris, Markakis, Shaw and Martonosi,
-- MICRO 2020), cut into conjunctions as the test's atoms are. That a location has at most 128 stores comes from this
-- project's own limits, of 8 threads of 16 actions.
use Rattle.std.specs.Prelude.{ℕ, ◌<◌, ◌≤◌, List, All, length}
use Rattle.x86_subset.specs.Conjunctions.{AreEnds}
use Rattle.x86_subset.specs.Test.{LitmusTest, columns_of}
use Rattle.outcome_conv.specs.declared.cond.Cond.{Cond}
use Rattle.outcome_conv.specs.declared.cond.CondKind.{CondKind}
use Rattle.outcome_conv.specs.declared.cond.CondKind.TheVariants.{AtLeast, Below, Exact}

-- the numbers of a condition: those of a location of 1 to 128 stores, and the rank of one of them
abbrev pub IsKind : CondKind → Type 0
IsKind (AtLeast k a) = (1 ≤ k) × (k ≤ 128) × (1 ≤ a) × (a ≤ k)
IsKind (Below k) = (1 ≤ k) × (k ≤ 128)
IsKind (Exact k a) = (1 ≤ k) × (k ≤ 128) × (1 ≤ a) × (a ≤ k)

-- all conditions, and how many of them stand up to the end of each conjunction
pub record Conditions : Type 0 where
  pub conds : List Cond
  pub ends : List ℕ

-- what holds of the conditions of each test
pub record AreConditions (c : Conditions) : Type 0 where
  pub kinds : All (λ cond. IsKind cond.kind) c.conds
  pub ends : AreEnds c.ends (length c.conds)

-- a condition that names two threads of the test, and a column of the reader's log
pub record IsOfTest (test : LitmusTest) (c : Cond) : Type 0 where
  pub reader : c.reader < length test.bodies
  pub writer : c.writer < length test.bodies
  pub column : c.column < columns_of test c.reader
