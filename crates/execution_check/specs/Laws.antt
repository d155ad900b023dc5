-- What Legal says of a written execution: it is one of the test as it is written, on x86-TSO (Sewell, Sarkar, Owens,
-- Zappa Nardelli and Myreen, CACM 2010).
use Rattle.std.specs.Prelude.{◌≡◌, ◌↔◌, List}
use Rattle.x86_subset.specs.Test.{LitmusTest}
use Rattle.tso_machine.specs.Event.{Event}
use Rattle.run_judge.specs.Written.{judgement_with, text_value}
use Rattle.run_judge.specs.declared.judgement.Judgement.TheVariants.{Legal}
use Rattle.litmus_outcomes.specs.Machine.{Step}
use Rattle.litmus_outcomes.specs.Outcome.{IsExecution}
use Rattle.execution_check.specs.Steps.{IsWritten, steps_of}

-- law: Legal is said exactly of written executions
abbrev pub LegalIsExecution : Type 0
LegalIsExecution =
    (test : LitmusTest) (events : List Event)
    → (judgement_with (text_value test) test 1 events ≡ Legal) ↔ IsWritten test events

-- one list of events, and no other, writes these steps
pub record WrittenOnce (test : LitmusTest) (steps : List Step) : Type 0 where
  pub events : List Event
  pub written : IsWritten test events
  pub are : steps_of test events ≡ steps
  pub only : (others : List Event) → IsWritten test others → steps_of test others ≡ steps → others ≡ events

-- law: each execution is written by one list of events
abbrev pub ExecutionsAreWrittenOnce : Type 0
ExecutionsAreWrittenOnce = (test : LitmusTest) (steps : List Step) → IsExecution test steps → WrittenOnce test steps
