-- What is shown of readings, and of a conjunction. This project's own.
use Rattle.std.specs.Prelude.{◌≡◌, ℕ, ◌≤◌, true, List, [], Some, map, slice_get}
use Rattle.x86_subset.specs.Test.{LitmusTest}
use Rattle.tso_machine.specs.Event.{Event}
use Rattle.run_judge.specs.Judgement.{event_of}
use Rattle.once.specs.Edges.{Reading}
use Rattle.once.specs.Sources.{HasSources, HasValues, is_hidden_source}
use Rattle.once.specs.Trees.{RefutesAmong}
use Rattle.row_decision.specs.Seen.{tree_seen}
use Rattle.row_decision.specs.Decided.{HasRun}
use Rattle.row_decision.specs.declared.show.Shown.{Shown}
use Rattle.row_decision.specs.declared.show.Shown.TheVariants.{Run, Hidden, Refuted, GaveUp}
use Rattle.row_decision.specs.declared.show.Showing.{Showing}

-- a run of one iteration in which each read takes its value from its source
pub record IsRunOfReadings (test : LitmusTest) (readings : List Reading) (run : List Event) : Type 0 where
  pub sources : HasSources test readings run
  pub values : HasValues test readings run

-- such a run; there is none, since a source is hidden or a tree refutes them; or all the steps were taken
abbrev pub IsShownOf : LitmusTest → List Reading → ℕ → ℕ → Shown → Type 0
IsShownOf test readings most steps (Run run) = IsRunOfReadings test readings (map event_of run.items)
IsShownOf test readings most steps (Hidden index) =
    ((r : Reading) × (slice_get readings index ≡ Some r) × (is_hidden_source test r ≡ true))
    × (HasRun test readings → ⊥)
IsShownOf test readings most steps (Refuted tree) =
    RefutesAmong test readings [] (tree_seen tree) × (HasRun test readings → ⊥)
IsShownOf test readings most steps GaveUp = steps ≡ most

pub record IsShowing (test : LitmusTest) (readings : List Reading) (most : ℕ) (showing : Showing) : Type 0 where
  pub within : showing.steps ≤ most
  pub shown : IsShownOf test readings most showing.steps showing.shown
