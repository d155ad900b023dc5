-- The whole answer: the text of all states of a test, or why they are not listed. This project's own.
use Rattle.std.specs.Prelude.{◌≡◌, ℕ, None, Some, Result, Ok, Err, List, String, string_bytes}
use Rattle.std.specs.Global.{Global}
use Rattle.x86_subset.specs.Test.{LitmusTest}
use Rattle.outcome_states.specs.Registers.{first_unread, registers_of}
use Rattle.outcome_states.specs.States.{AreFewStates, HasManyStates, TakesAllSteps}
use Rattle.outcome_states.specs.Text.{outcomes_text}
use Rattle.outcome_states.specs.declared.registers.Refused.{Refused}
use Rattle.outcome_states.specs.declared.registers.Refused.TheVariants.{States, Steps, Unread}

-- the bytes are the text of all states, each register that the condition names holds a read at the end, and there are
-- no more states than the limit
pub record IsOutcomesText (test : LitmusTest) (text : List ℕ) : Type 0 where
  pub read : first_unread test ≡ None
  pub rows : List (List ℕ)
  pub states : AreFewStates test (registers_of test) rows
  pub text_is : text ≡ outcomes_text test (registers_of test) rows

-- the first atom that cannot be asked for; or there is none, and there are more states than the limit, or a decision
-- took all its steps
abbrev pub RefusesOutcomes : LitmusTest → Refused → Type 0
RefusesOutcomes test (Unread atom kind) = first_unread test ≡ Some (Unread atom kind)
RefusesOutcomes test States = (first_unread test ≡ None) × HasManyStates test (registers_of test)
RefusesOutcomes test Steps =
    (first_unread test ≡ None) × ((values : List ℕ) × TakesAllSteps test (registers_of test) values)

abbrev pub IsOutcomes : LitmusTest → Result (String Global) Refused → Type 0
IsOutcomes test (Ok text) = IsOutcomesText test (string_bytes text)
IsOutcomes test (Err refused) = RefusesOutcomes test refused
