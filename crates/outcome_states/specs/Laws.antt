-- Laws: what the text says of the executions of a test. This project's own.
use Rattle.std.specs.Prelude.{◌≡◌, ◌↔◌, ℕ, ◌^◌, ◌<◌, true, None, Contains, List, length}
use Rattle.std.specs.List.{AllByRecursion as Each, AllZip}
use Rattle.x86_subset.specs.Shape.{IsTest}
use Rattle.x86_subset.specs.Test.{LitmusTest}
use Rattle.litmus_outcomes.specs.Machine.{Step}
use Rattle.litmus_outcomes.specs.Outcome.{IsAllowed, IsExecution}
use Rattle.outcome_rows.specs.Conditions.{Satisfies}
use Rattle.outcome_rows.specs.Listing.{AreAllRows}
use Rattle.outcome_rows.specs.Rows.{EndsWith, Register}
use Rattle.outcome_states.specs.Counting.{count_met, is_met}
use Rattle.outcome_states.specs.Outcomes.{IsOutcomesText, RefusesOutcomes}
use Rattle.outcome_states.specs.Registers.{first_unread, registers_of}
use Rattle.outcome_states.specs.Text.{outcomes_text, state_line}
use Rattle.outcome_states.specs.declared.registers.Refused.{Refused}
use Rattle.outcome_states.specs.declared.registers.Refused.TheVariants.{Steps}

-- some execution of the test as it is written ends with these values of the registers
abbrev pub SomeExecutionEnds : LitmusTest → List Register → List ℕ → Type 0
SomeExecutionEnds test registers values =
    (steps : List Step) × IsExecution test steps × AllZip (EndsWith test steps) registers values

-- the text is that of rows, and a row stands there exactly where some execution ends with it
pub record ListsOutcomes (test : LitmusTest) (text : List ℕ) : Type 0 where
  pub rows : List (List ℕ)
  pub text_is : text ≡ outcomes_text test (registers_of test) rows
  pub exact : (values : List ℕ) → Contains rows values ↔ SomeExecutionEnds test (registers_of test) values

-- law: a line of values stands in the text exactly where some execution of the test as it is written ends with them
abbrev pub OutcomesAreListed : Type 0
OutcomesAreListed = (test : LitmusTest) (text : List ℕ) → IsOutcomesText test text → ListsOutcomes test text

-- law: lines tell states apart: values of 64 bits at most have the line of others only where they are the others
abbrev pub LinesAreApart : Type 0
LinesAreApart =
    (registers : List Register) (values others : List ℕ)
    → length values ≡ length registers
    → length others ≡ length registers
    → Each (λ v. v < 2 ^ 64) values
    → Each (λ v. v < 2 ^ 64) others
    → state_line registers values ≡ state_line registers others
    → values ≡ others

-- law: a test has one text, or none
abbrev pub OneText : Type 0
OneText =
    (test : LitmusTest) (text other : List ℕ)
    → IsOutcomesText test text
    → IsOutcomesText test other
    → text ≡ other

-- law: where a test has a text, no refusal is right but that a decision took all its steps
abbrev pub TextsAreNotRefused : Type 0
TextsAreNotRefused =
    (test : LitmusTest) (text : List ℕ) (refused : Refused)
    → IsOutcomesText test text
    → RefusesOutcomes test refused
    → refused ≡ Steps

-- law: the rows that are counted are those in which the atoms of some conjunction have their values
abbrev pub CountedRowsSatisfy : Type 0
CountedRowsSatisfy =
    (test : LitmusTest) (registers : List Register) (values : List ℕ)
    → (is_met test registers values ≡ true)
    ↔ ((c : ℕ) × (c < length test.ends) × Satisfies test c registers values)

-- law: some row is counted exactly where x86-TSO allows what stands behind the quantifier
abbrev pub CountedIsAllowed : Type 0
CountedIsAllowed =
    (test : LitmusTest) (rows : List (List ℕ))
    → IsTest test
    → first_unread test ≡ None
    → AreAllRows test (registers_of test) rows
    → (0 < count_met test (registers_of test) rows) ↔ IsAllowed test
