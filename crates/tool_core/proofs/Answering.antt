-- From the answer of one layer to that of the next.
use Rattle.std.proofs.Common.{◌≡◌, ◌⊎◌, ℕ, ◌≤◌, List, length, Some, None, Result, Ok, Err, String, string_bytes, Global, IfOk, IfErr, inl, inr}
use Rattle.x86_subset.specs.Test.{LitmusTest}
use Rattle.tso_words.specs.Seats.{Ended as Closed}
use Rattle.litmus_reader.specs.Answer.{Accepted}
use Rattle.litmus_reader.specs.Reading.{Reads}
use Rattle.report_text.specs.declared.status.Status.TheVariants.{Memory}
use Rattle.run_text.specs.Sections.{Split}
use Rattle.program_edge.specs.Field.{IsStill}
use Rattle.program_edge.specs.Request.{IsRefusalOfText}
use Rattle.tool_core.specs.Due.{StopsAt, StopsOn, due_for_test, parts_of, tool_program}
use Rattle.tool_core.specs.Top.{Accepts, IsAnswer, IsStillOrRan, IsText, RanFor}
use Rattle.tool_core.specs.declared.words.Command.{Command}
use Rattle.tool_core.specs.declared.status.ToolStatus.{ToolStatus}
use Rattle.tool_core.specs.declared.status.ToolStatus.TheVariants.{Core}
use Rattle.tool_core.proofs.Dues.{due_for_text, test_is_due}

-- ---- a litmus part and its test

-- what the work on a test and a section promises
pub record Works (command : Command) (test : LitmusTest) (parts : Split) (done : Closed)
    (text : Result (String Global) ToolStatus) : Type 0 where
  pub none_due : IfOk text (λ _. due_for_test command test parts ≡ None)
  pub right : IfOk text (λ t. IsText command test parts done (string_bytes t))
  pub err : IfErr text (λ s. (s ≡ Core Memory) ⊎ ((due_for_test command test parts ≡ Some s)
      ⊎ ((due_for_test command test parts ≡ None) × StopsAt command test s)))
  pub still : IfErr text (λ s. IsStill done ⊎ ((s ≡ Core Memory) × (due_for_test command test parts ≡ None)
      × RanFor command test done))

-- an input with these parts, which read as this test
pub record Has (command : Command) (input : List ℕ) (parts : Split) (test : LitmusTest) : Type 0 where
  pub parts_are : parts_of command input ≡ Some parts
  pub short : length parts.litmus ≤ 65536
  pub reading : Reads parts.litmus (Accepted test)

accepts : (command : Command) (input : List ℕ) (parts : Split) (test : LitmusTest) → Has command input parts test
    → due_for_test command test parts ≡ None
    → Accepts command input parts test
accepts command input parts test has none = record {
  parts_are = has.parts_are;
  short = has.short;
  reading = has.reading;
  none_due = none;
}

pub answered : (command : Command) (input : List ℕ) (parts : Split) (test : LitmusTest) (done : Closed)
    (text : Result (String Global) ToolStatus)
    → Has command input parts test → Works command test parts done text
    → IfOk text (λ t. IsAnswer command input done (string_bytes t))
answered command input parts test done (Ok t) has works =
    record {
      parts = parts;
      test = test;
      accepts = accepts command input parts test has works.none_due;
      right = works.right;
    }
answered command input parts test done (Err s) has works = tt

due_by : (command : Command) (input : List ℕ) (parts : Split) (test : LitmusTest) (s : ToolStatus)
    → Has command input parts test
    → (s ≡ Core Memory) ⊎ ((due_for_test command test parts ≡ Some s)
    ⊎ ((due_for_test command test parts ≡ None) × StopsAt command test s))
    → IsRefusalOfText tool_program command input s
due_by command input parts test s has (inl memory) = inl memory
due_by command input parts test s has (inr (inl due)) =
    inr (inl (due_for_text command input parts (Some s) has.parts_are has.short
    (test_is_due command parts test (Some s) has.reading due)))
due_by command input parts test s has (inr (inr stops)) =
    inr (inr (
      due_for_text command input parts None has.parts_are has.short
          (test_is_due command parts test None has.reading stops.0),
      record { parts = parts; test = test; parts_are = has.parts_are; reading = has.reading; stops = stops.1 },
    ))

pub refused : (command : Command) (input : List ℕ) (parts : Split) (test : LitmusTest) (done : Closed)
    (text : Result (String Global) ToolStatus)
    → Has command input parts test → Works command test parts done text
    → IfErr text (IsRefusalOfText tool_program command input)
refused command input parts test done (Ok t) has works = tt
refused command input parts test done (Err s) has works = due_by command input parts test s has works.err

still_or_ran : (command : Command) (input : List ℕ) (parts : Split) (test : LitmusTest) (done : Closed) (s : ToolStatus)
    → Has command input parts test
    → IsStill done ⊎ ((s ≡ Core Memory) × (due_for_test command test parts ≡ None) × RanFor command test done)
    → IsStillOrRan command input done s
still_or_ran command input parts test done s has (inl still) = inl still
still_or_ran command input parts test done s has (inr ran) =
    inr (
      ran.0,
      record {
        parts = parts;
        test = test;
        accepts = accepts command input parts test has ran.1;
        ran = ran.2;
      },
    )

pub left : (command : Command) (input : List ℕ) (parts : Split) (test : LitmusTest) (done : Closed)
    (text : Result (String Global) ToolStatus)
    → Has command input parts test → Works command test parts done text → IfErr text (IsStillOrRan command input done)
left command input parts test done (Ok t) has works = tt
left command input parts test done (Err s) has works = still_or_ran command input parts test done s has works.still
