-- What is shown of a conjunction of a checked test, which is its outcome in executions of the test as it is written.
-- This project's own.
use Rattle.std.specs.Prelude.{◌≡◌, ℕ, ◌≤◌, true, [], Some, map, slice_get}
use Rattle.profile_check.specs.Profile.{CheckedTest}
use Rattle.profile_check.specs.declared.kind.AtomKind.{AtomKind}
use Rattle.run_judge.specs.Judgement.{event_of}
use Rattle.verdict.specs.Edges.{kinds_in}
use Rattle.decision.specs.Hidden.{is_hidden}
use Rattle.decision.specs.Shown.{Shows}
use Rattle.litmus_outcomes.specs.Outcome.{IsPossible}
use Rattle.once.specs.Trees.{Refutes}
use Rattle.row_decision.specs.Seen.{tree_seen}
use Rattle.row_decision.specs.declared.show.Shown.{Shown}
use Rattle.row_decision.specs.declared.show.Shown.TheVariants.{Run, Hidden, Refuted, GaveUp}
use Rattle.row_decision.specs.declared.show.Showing.{Showing}

-- a run of one iteration shows it, and so an execution of the test has it; none has, since this atom names a hidden
-- store or a tree refutes it; or all the steps were taken
abbrev pub IsConjunctionOf : CheckedTest → ℕ → ℕ → ℕ → Shown → Type 0
IsConjunctionOf checked c most steps (Run run) = Shows checked c (map event_of run.items) × IsPossible checked.test c
IsConjunctionOf checked c most steps (Hidden index) =
    ((kind : AtomKind) × (slice_get (kinds_in checked c) index ≡ Some kind) × (is_hidden checked.test kind ≡ true))
    × (IsPossible checked.test c → ⊥)
IsConjunctionOf checked c most steps (Refuted tree) =
    Refutes checked c [] (tree_seen tree) × (IsPossible checked.test c → ⊥)
IsConjunctionOf checked c most steps GaveUp = steps ≡ most

pub record IsConjunctionShown (checked : CheckedTest) (c most : ℕ) (showing : Showing) : Type 0 where
  pub within : showing.steps ≤ most
  pub shown : IsConjunctionOf checked c most showing.steps showing.shown
