-- Laws: what `show` and `verdict` print of a test is so of the test as it is written. The executions are those of
-- x86-TSO (Sewell, Sarkar, Owens, Zappa Nardelli and Myreen, CACM 2010); the texts are this project's own.
use Rattle.std.specs.Prelude.{◌≡◌, ◌⊎◌, ℕ, ◌≤◌, List, ◌++◌, Some, codes}
use Rattle.x86_subset.specs.Test.{LitmusTest}
use Rattle.litmus_reader.specs.Answer.{Accepted}
use Rattle.litmus_reader.specs.Reading.{Reads}
use Rattle.tso_words.specs.Seats.{Ended as Closed}
use Rattle.perp_base.specs.View.{View}
use Rattle.report_text.specs.declared.status.Status.TheVariants.{Whole}
use Rattle.tool_core.specs.Top.{Told, WritesWhole}
use Rattle.tool_core.specs.declared.words.Command.{Command}
use Rattle.tool_core.specs.declared.words.Command.TheVariants.{Show, Verdict}
use Rattle.tool_core.specs.declared.status.ToolStatus.TheVariants.{Core}
use Rattle.forbidden_runs.specs.Forbidden.{IsForbidden}
use Rattle.forbidden_runs.specs.Laws.{read_test}
use Rattle.litmus_outcomes.specs.Laws.{SomeRunHits}
use Rattle.litmus_outcomes.specs.Outcome.{IsAllowed}

-- The words of a call of `perple_tool` are those of this command, `out` has these bytes before it, and the source the
-- text of this test. The call ends with status 0, its clause `whole` holds, and it has added these bytes.
pub record HasTold (command : Command) (test : LitmusTest) (told : List ℕ) : Type 0 where
  pub words : List (List ℕ)
  pub old : View
  pub done : Closed
  pub out_old : View
  pub out_new : View
  pub before : List ℕ
  pub text : List ℕ
  pub call : Told words old command text
  pub reading : Reads text (Accepted test)
  pub told_out : out_old.bytes ≡ Some before
  pub whole : WritesWhole words old done out_old out_new (Core Whole)
  pub added : out_new.bytes ≡ Some (before ++ told)

-- law: where `show` writes a run, x86-TSO allows what the condition asks for, and it can be counted in a run of any
-- number of iterations
abbrev pub ShownIsAllowed : Type 0
ShownIsAllowed =
    (test : LitmusTest) (rest : List ℕ)
    → HasTold Show test (codes "%events 1\n" ++ rest)
    → IsAllowed test × ((n : ℕ) → 1 ≤ n → SomeRunHits (read_test test) n)

-- law: where `show` or `verdict` writes Forbidden, x86-TSO does not allow it, and no conjunction holds at any frame of
-- any run. So `run` and `replay` of the text report that nothing was seen (`perple_reports_nothing_forbidden` of
-- forbidden_runs).
abbrev pub ForbiddenIsImpossible : Type 0
ForbiddenIsImpossible =
    (command : Command) (test : LitmusTest) (rest : List ℕ)
    → (command ≡ Show) ⊎ (command ≡ Verdict)
    → HasTold command test (codes "Forbidden\n" ++ rest)
    → IsForbidden (read_test test) × (IsAllowed test → ⊥)
