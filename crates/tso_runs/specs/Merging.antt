-- Laws: how parts merge into a legal run of x86-TSO (Sewell, Sarkar, Owens, Zappa Nardelli and Myreen, CACM 2010) that
-- makes a given flat history, and what each legal run makes.
use Rattle.std.specs.Prelude.{◌≡◌, ℕ, ◌<◌, ◌≤◌, All, List, [], length}
use Rattle.x86_subset.specs.Shape.{IsTest}
use Rattle.x86_subset.specs.Test.{LitmusTest}
use Rattle.tso_machine.specs.Event.{Event}
use Rattle.tso_machine.specs.Machine.{IsLegal, initial}
use Rattle.tso_machine.specs.Part.{part_of, KeepsBuffer}
use Rattle.tso_words.specs.declared.step.Step.{Step}
use Rattle.tso_words.specs.declared.step.TracedStep.{TracedStep}
use Rattle.tso_words.specs.History.{IsFlat, history_part, list_at, memory_after, zeros}
use Rattle.perp_base.specs.declared.options.Options.{Options}
use Rattle.tso_runs.specs.Fits.{EndsWith, Fits, IsLawful}
use Rattle.tso_runs.specs.SharedSteps.{shared_steps, shared_history}

-- the shared steps of the part of each of the test's threads are that thread's in the history, and no other thread has
-- any
pub record Explains (test : LitmusTest) (history : List TracedStep) (parts : ℕ → List Event) : Type 0 where
  pub steps : (t : ℕ) → t < length test.bodies → shared_steps test [] (parts t) ≡ history_part t history
  pub rest : (t : ℕ) → length test.bodies ≤ t → history_part t history ≡ []

-- the run is legal and made of these parts, its shared history is the one given, and it ends with these words
pub record Merges (test : LitmusTest) (words : List ℕ) (history : List TracedStep) (parts : ℕ → List Event)
    (run : List Event) : Type 0 where
  pub legal : IsLegal test run
  pub threads : All (λ e. e.thread < length test.bodies) run
  pub made_of : (t : ℕ) → t < length test.bodies → part_of t run ≡ parts t
  pub makes : shared_history test initial run ≡ history
  pub ends : EndsWith test words run

-- parts of their threads that keep their buffers merge into a legal run, where their shared steps are those of a flat
-- history
abbrev pub PartsMerge : Type 0
PartsMerge =
    (test : LitmusTest) (words : List ℕ) (history : List TracedStep) (parts : ℕ → List Event)
    → IsFlat words history
    → ((t : ℕ) → t < length test.bodies → All (λ e. e.thread ≡ t) (parts t) × KeepsBuffer test [] (parts t))
    → Explains test history parts
    → (run : List Event) × Merges test words history parts run

-- the shared history of a run, and the words that it leaves
abbrev pub history_of : LitmusTest → List Event → List TracedStep
history_of test run = shared_history test initial run

abbrev pub words_of : LitmusTest → List Event → List ℕ
words_of test run = memory_after zeros (history_of test run)

-- the parts of the run keep their buffers, their shared steps are the threads' parts of the shared history, and that
-- history is flat and leaves the words with which the run ends
pub record MakesItsHistory (test : LitmusTest) (run : List Event) : Type 0 where
  pub keeps : (t : ℕ) → KeepsBuffer test [] (part_of t run)
  pub steps : (t : ℕ) → shared_steps test [] (part_of t run) ≡ history_part t (history_of test run)
  pub threads : All (λ s. s.thread < length test.bodies) (history_of test run)
  pub flat : IsFlat (words_of test run) (history_of test run)
  pub ends : EndsWith test (words_of test run) run

abbrev pub LegalRunsMakeTheirHistories : Type 0
LegalRunsMakeTheirHistories =
    (test : LitmusTest) (run : List Event)
    → IsTest test
    → IsLegal test run
    → All (λ e. e.thread < length test.bodies) run
    → MakesItsHistory test run

-- the lists of steps are the threads' parts of the history
abbrev pub IsOfLists : List (List Step) → List TracedStep → Type 0
IsOfLists lists history = (t : ℕ) → list_at lists t ≡ history_part t history

-- where each thread's list is the shared steps of a lawful part, each history of the lists is that of a run that fits
-- them
abbrev pub HistoriesFit : Type 0
HistoriesFit =
    (test : LitmusTest) (options : Options) (lists : List (List Step)) (words : List ℕ) (history : List TracedStep)
    (parts : ℕ → List Event)
    → IsFlat words history
    → IsOfLists lists history
    → ((t : ℕ) → t < length test.bodies → IsLawful test options t (parts t)
    × (shared_steps test [] (parts t) ≡ list_at lists t))
    → ((t : ℕ) → length test.bodies ≤ t → list_at lists t ≡ [])
    → (run : List Event) × Fits test options lists run × (history_of test run ≡ history) × EndsWith test words run

-- and a run that fits the lists makes a flat history of them
abbrev pub FittingRunsMakeHistories : Type 0
FittingRunsMakeHistories =
    (test : LitmusTest) (options : Options) (lists : List (List Step)) (run : List Event)
    → IsTest test
    → Fits test options lists run
    → IsOfLists lists (history_of test run) × IsFlat (words_of test run) (history_of test run)
