-- A tree of cases that refutes readings, as those of a conjunction: a cycle, or a choice and a tree for each of its
-- sides. This project's own.
use Rattle.std.specs.Prelude.{◌≡◌, ℕ, true, List, ◌∷◌, Contains}
use Rattle.x86_subset.specs.Test.{LitmusTest}
use Rattle.profile_check.specs.Profile.{CheckedTest}
use Rattle.verdict.specs.declared.node.Node.{Node}
use Rattle.verdict.specs.Edges.{is_cycle_of}
use Rattle.once.specs.Edges.{Choice, Pair, Reading, after_reader, before_source, choices_among, edge_among, readings_in}

pub data Tree : Type 0 where
  cycle : List Node → Tree
  split : Choice → Tree → Tree → Tree

-- A cycle of kept order, of what the readings ask for and of the sides that are taken above it; or a choice, a tree
-- that refutes where its other store stands before the source, and one that does where it stands after the read.
abbrev pub RefutesAmong : LitmusTest → List Reading → List Pair → Tree → Type 0
RefutesAmong test readings taken (cycle nodes) = is_cycle_of (edge_among test readings taken) nodes ≡ true
RefutesAmong test readings taken (split choice before after) =
    Contains (choices_among test readings) choice
    × RefutesAmong test readings (before_source choice ∷ taken) before
    × RefutesAmong test readings (after_reader choice ∷ taken) after

-- what refutes conjunction c
abbrev pub Refutes : CheckedTest → ℕ → List Pair → Tree → Type 0
Refutes checked c taken tree = RefutesAmong checked.test (readings_in checked c) taken tree
