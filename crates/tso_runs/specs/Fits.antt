-- Lawful parts, and the runs of x86-TSO (Sewell, Sarkar, Owens, Zappa Nardelli and Myreen, CACM 2010) that fit what the
-- threads did on the shared words. That parts are drained by a seed is this project's own rule.
use Rattle.std.specs.Prelude.{◌≡◌, ℕ, ◌<◌, ◌≤◌, All, List, [], length, slice_index}
use Rattle.x86_subset.specs.Test.{LitmusTest}
use Rattle.tso_machine.specs.Event.{Event}
use Rattle.tso_machine.specs.Machine.{IsLegal, initial, after_all}
use Rattle.tso_machine.specs.Run.{IsRunOf}
use Rattle.tso_machine.specs.Part.{part_of, Performs, KeepsBuffer}
use Rattle.tso_words.specs.History.{list_at, word_count}
use Rattle.tso_words.specs.declared.step.Step.{Step}
use Rattle.perp_base.specs.declared.options.Options.{Options}
use Rattle.tso_runs.specs.Drained.{IsDrainedBySeed}
use Rattle.tso_runs.specs.SharedSteps.{shared_steps}

-- the part is of events of thread t alone, does the body as often as it is asked to, keeps its buffer, and drains it by
-- the seed
pub record IsLawful (test : LitmusTest) (options : Options) (t : ℕ) (part : List Event) : Type 0 where
  pub own : All (λ e. e.thread ≡ t) part
  pub performs : Performs test options.iterations t part
  pub keeps : KeepsBuffer test [] part
  pub drained : IsDrainedBySeed options t part

-- the run is legal, its parts are lawful, and the shared steps of each are its thread's list
pub record Fits (test : LitmusTest) (options : Options) (lists : List (List Step)) (run : List Event) : Type 0 where
  pub legal : IsLegal test run
  pub threads : All (λ e. e.thread < length test.bodies) run
  pub lawful : (t : ℕ) → t < length test.bodies → IsLawful test options t (part_of t run)
  pub steps : (t : ℕ) → t < length test.bodies → shared_steps test [] (part_of t run) ≡ list_at lists t
  pub rest : (t : ℕ) → length test.bodies ≤ t → list_at lists t ≡ []

-- the run ends with the memory that has these words
abbrev pub EndsWith : LitmusTest → List ℕ → List Event → Type 0
EndsWith test words run = (x : ℕ) → x < word_count → slice_index words x ≡ (after_all test initial run).memory x

-- law: its shared steps determine a thread's lawful part
abbrev pub LawfulPartsAreOne : Type 0
LawfulPartsAreOne =
    (test : LitmusTest) (options : Options) (t : ℕ) (p q : List Event)
    → IsLawful test options t p
    → IsLawful test options t q
    → shared_steps test [] p ≡ shared_steps test [] q
    → p ≡ q

-- law: the laws on values, conditions and counts hold of a run that fits, since each thread performs its body in it
abbrev pub FittingRunsPerformTheBodies : Type 0
FittingRunsPerformTheBodies =
    (test : LitmusTest) (options : Options) (lists : List (List Step)) (run : List Event)
    → Fits test options lists run
    → IsRunOf test options.iterations run
