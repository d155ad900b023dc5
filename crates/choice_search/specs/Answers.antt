-- What an answer says of the edges and the choices. This project's own.
use Rattle.std.specs.Prelude.{◌≡◌, ℕ, ◌≤◌, List, []}
use Rattle.std.specs.List.{AllZip}
use Rattle.choice_search.specs.declared.graph.Pair.{Pair}
use Rattle.choice_search.specs.declared.graph.Choice.{Choice}
use Rattle.choice_search.specs.declared.answer.Answer.{Answer}
use Rattle.choice_search.specs.declared.answer.Outcome.{Outcome}
use Rattle.choice_search.specs.declared.answer.Outcome.TheVariants.{Sides, Refuted, GaveUp}
use Rattle.choice_search.specs.Graph.{HasNoCycle, IsSideOf}
use Rattle.choice_search.specs.Trees.{Refutes}

-- a side of each choice, in order, so that these and the edges have no cycle; a tree that refutes all such sides; or
-- neither, where all the steps were taken
abbrev pub IsOutcome : List Pair → List Choice → ℕ → ℕ → Outcome → Type 0
IsOutcome edges choices most steps (Sides sides) = AllZip IsSideOf choices sides.items × HasNoCycle edges sides.items
IsOutcome edges choices most steps (Refuted tree) = Refutes edges choices [] tree
IsOutcome edges choices most steps GaveUp = steps ≡ most

-- what an answer says is so
pub record IsAnswer (edges : List Pair) (choices : List Choice) (most : ℕ) (answer : Answer) : Type 0 where
  pub within : answer.steps ≤ most
  pub outcome : IsOutcome edges choices most answer.steps answer.outcome
