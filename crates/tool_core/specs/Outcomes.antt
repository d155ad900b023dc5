-- How a list of outcomes is refused, and at which limits it stops. This project's own.
use Rattle.std.specs.Prelude.{ℕ, List}
use Rattle.x86_subset.specs.Test.{LitmusTest}
use Rattle.profile_check.specs.Kinds.{kind_number}
use Rattle.report_text.specs.declared.status.Status.TheVariants.{OutsideProfile}
use Rattle.outcome_states.specs.Registers.{registers_of}
use Rattle.outcome_states.specs.States.{HasManyStates, TakesAllSteps}
use Rattle.outcome_states.specs.declared.registers.Refused.{Refused}
use Rattle.outcome_states.specs.declared.registers.Refused.TheVariants as refused
use Rattle.tool_core.specs.declared.status.ToolStatus.{ToolStatus}
use Rattle.tool_core.specs.declared.status.ToolStatus.TheVariants.{Core, States, Steps}

-- the status that a refusal becomes
abbrev pub status_of : Refused → ToolStatus
status_of (refused.Unread atom kind) = Core (OutsideProfile atom (kind_number kind))
status_of refused.States = States
status_of refused.Steps = Steps

-- there are more outcomes than a list holds, or the decision of one took all its steps
abbrev pub StopsOutcomes : LitmusTest → ToolStatus → Type 0
StopsOutcomes test States = HasManyStates test (registers_of test)
StopsOutcomes test Steps = (values : List ℕ) × TakesAllSteps test (registers_of test) values
StopsOutcomes test _ = ⊥
