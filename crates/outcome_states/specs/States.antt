-- All states of a test, up to the limits of an answer. This project's own.
use Rattle.std.specs.Prelude.{◌≡◌, ◌↔◌, ℕ, ◌<◌, ◌≤◌, Bool, true, false, Option, None, Some, List, length, take}
use Rattle.x86_subset.specs.Test.{LitmusTest}
use Rattle.outcome_rows.specs.Listing.{AreAllRows}
use Rattle.outcome_rows.specs.Rows.{IsRow, Register}
use Rattle.outcome_rows.specs.declared.rows.Stop.{Stop}
use Rattle.outcome_rows.specs.declared.rows.Stop.TheVariants.{GaveUp, TooMany}
use Rattle.row_decision.specs.Fronts.{IsFront}
use Rattle.row_decision.specs.declared.front.Front.{Front}
use Rattle.row_decision.specs.declared.front.Front.TheVariants as front
use Rattle.row_decision.specs.declared.front.FrontAnswer.{FrontAnswer}
use Rattle.perp_base.specs.declared.limits.TheConstants.{MOST_STATES, MOST_STEPS}

-- a decision of these values of the first registers took all its steps
pub record TakesAllSteps (test : LitmusTest) (registers : List Register) (values : List ℕ) : Type 0 where
  pub answer : FrontAnswer
  pub decided : IsFront test (take (length values) registers) values MOST_STEPS answer
  pub gave_up : answer.front ≡ front.GaveUp
  pub all : answer.steps ≡ MOST_STEPS

-- what an answer tells: whether some execution ends so, or nothing
abbrev pub told : Front → Option Bool
told front.Possible = Some true
told front.Impossible = Some false
told front.GaveUp = None

-- what is told of values of the first registers: whether some execution ends with them, or that all steps were taken
abbrev pub IsTold : LitmusTest → List Register → List ℕ → Option Bool → Type 0
IsTold test registers values (Some possible) = (possible ≡ true) ↔ IsRow test (take (length values) registers) values
IsTold test registers values None = TakesAllSteps test registers values

-- each list that is all states of the test is longer than the limit
abbrev pub HasManyStates : LitmusTest → List Register → Type 0
HasManyStates test registers =
    (rows : List (List ℕ)) → AreAllRows test registers rows → MOST_STATES < length rows

-- so many states, within the limit, are all
abbrev pub AreFewStates : LitmusTest → List Register → List (List ℕ) → Type 0
AreFewStates test registers rows = AreAllRows test registers rows × (length rows ≤ MOST_STATES)

-- why not all states were listed
abbrev pub IsStopAt : LitmusTest → List Register → Stop → Type 0
IsStopAt test registers TooMany = HasManyStates test registers
IsStopAt test registers GaveUp = (values : List ℕ) × TakesAllSteps test registers values
