-- What a decision says of readings, and of the front part of a row. This project's own.
use Rattle.std.specs.Prelude.{◌≡◌, ℕ, ◌≤◌, true, List, [], Some, slice_get}
use Rattle.x86_subset.specs.Test.{LitmusTest}
use Rattle.tso_machine.specs.Event.{Event}
use Rattle.once.specs.Edges.{Reading}
use Rattle.once.specs.Sources.{HasSources, is_hidden_source}
use Rattle.once.specs.Trees.{RefutesAmong}
use Rattle.row_decision.specs.Seen.{tree_seen}
use Rattle.row_decision.specs.declared.decide.Answer.{Answer}
use Rattle.row_decision.specs.declared.decide.Answer.TheVariants.{Possible, Hidden, Refuted, GaveUp}
use Rattle.row_decision.specs.declared.decide.Decision.{Decision}

-- a run of one iteration has all sources
abbrev pub HasRun : LitmusTest → List Reading → Type 0
HasRun test readings = (run : List Event) × HasSources test readings run

-- a run has all sources; none has, since a source is hidden or a tree refutes them; or all the steps were taken
abbrev pub IsAnswerOf : LitmusTest → List Reading → ℕ → ℕ → Answer → Type 0
IsAnswerOf test readings most steps Possible = HasRun test readings
IsAnswerOf test readings most steps (Hidden index) =
    ((r : Reading) × (slice_get readings index ≡ Some r) × (is_hidden_source test r ≡ true))
    × (HasRun test readings → ⊥)
IsAnswerOf test readings most steps (Refuted tree) =
    RefutesAmong test readings [] (tree_seen tree) × (HasRun test readings → ⊥)
IsAnswerOf test readings most steps GaveUp = steps ≡ most

-- what a decision says is so
pub record IsDecision (test : LitmusTest) (readings : List Reading) (most : ℕ) (decision : Decision) : Type 0 where
  pub within : decision.steps ≤ most
  pub answer : IsAnswerOf test readings most decision.steps decision.answer
