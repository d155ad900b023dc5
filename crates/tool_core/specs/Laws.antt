-- What the commands say of texts that are written for them. This project's own.
use Rattle.std.specs.Prelude.{◌≡◌, ◌⊎◌, ℕ, ◌≤◌, List, ◌++◌, None, Some, codes, length, map}
use Rattle.perp_base.specs.declared.limits.TheConstants.{MOST_BYTES, MOST_ITERATIONS}
use Rattle.perp_base.specs.View.{View}
use Rattle.x86_subset.specs.Test.{LitmusTest}
use Rattle.tso_machine.specs.Event.{Event}
use Rattle.tso_machine.specs.Run.{IsRunOf}
use Rattle.perp_base.specs.declared.options.Options.{Options}
use Rattle.profile_check.specs.Profile.{CheckedTest, IsChecked}
use Rattle.outcome_conv.specs.Hits.{hits_of}
use Rattle.litmus_outcomes.specs.Outcome.{IsAllowed}
use Rattle.frames_within.specs.Loose.{IsFaithful}
use Rattle.command_words.specs.Job.{AskedCount, AskedReplay}
use Rattle.tool_core.specs.Counting.{within_count_of}
use Rattle.tool_core.specs.Replaying.{AreOfSchedule}
use Rattle.litmus_reader.specs.Answer.{Accepted}
use Rattle.litmus_reader.specs.Reading.{Reads}
use Rattle.report_text.specs.Words.{number_line}
use Rattle.report_text.specs.declared.status.Status.TheVariants.{Whole}
use Rattle.tso_words.specs.Seats.{Ended as Closed}
use Rattle.program_edge.specs.Field.{IsStill}
use Rattle.run_judge.specs.Judgement.{event_of}
use Rattle.run_judge.specs.declared.event.RunEvent.{RunEvent}
use Rattle.run_text.specs.Laws.{CanLead}
use Rattle.run_text.specs.Runs.{run_text_of}
use Rattle.tool_core.specs.Due.{IsDue}
use Rattle.verdict.specs.declared.node.Node.{Node}
use Rattle.tool_core.specs.Texts.{forbidden_text}
use Rattle.tool_core.specs.Top.{IsAnswer, WritesWhole}
use Rattle.tool_core.specs.Words.{command_of}
use Rattle.tool_core.specs.declared.words.Command.TheVariants.{Count, Judge, Replay, Verdict}
use Rattle.tool_core.specs.declared.status.ToolStatus.TheVariants.{Core}

-- for the command judge no refusal is due for the input, and this text answers it, and no other does
pub record IsJudgedSo (input text : List ℕ) : Type 0 where
  pub none_due : IsDue Judge input None
  pub answers : (done : Closed) → IsStill done → IsAnswer Judge input done text
  pub only : (done : Closed) (said : List ℕ) → IsAnswer Judge input done said → said ≡ text

-- law: a legal run of a test that is written after the test's text is judged legal
abbrev pub WrittenRunsAreLegal : Type 0
WrittenRunsAreLegal =
    (litmus : List ℕ) (test : LitmusTest) (n : ℕ) (events : List RunEvent)
    → Reads litmus (Accepted test)
    → length litmus ≤ MOST_BYTES
    → CanLead litmus
    → 1 ≤ n
    → n ≤ MOST_ITERATIONS
    → IsRunOf test n (map event_of events)
    → IsJudgedSo (litmus ++ run_text_of n events) (number_line (codes "Legal") (length events))

-- ---- two calls of the same words and the same input

-- What the clause `whole` says of a call that ended with 0: its source told that it had this input left, and its output
-- has this text after what it had before.
pub record CallOf (words : List (List ℕ)) (input text : List ℕ) : Type 0 where
  pub old : View
  pub done : Closed
  pub out_old : View
  pub out_new : View
  pub before : List ℕ
  pub whole : WritesWhole words old done out_old out_new (Core Whole)
  pub told : old.bytes ≡ Some input
  pub held : out_old.bytes ≡ Some before
  pub got : out_new.bytes ≡ Some (before ++ text)

-- law: two calls of `judge` write the same text
abbrev pub JudgementsAreRepeated : Type 0
JudgementsAreRepeated = (words : List (List ℕ)) (input a b : List ℕ)
    → command_of words ≡ Some Judge → CallOf words input a → CallOf words input b → a ≡ b

-- the text tells a cycle for each conjunction
pub record TellsCycles (text : List ℕ) : Type 0 where
  pub cycles : List (List Node)
  pub is : text ≡ forbidden_text cycles

-- the texts are the same, or both tell cycles
abbrev pub AreVerdictsOfOne : List ℕ → List ℕ → Type 0
AreVerdictsOfOne a b = (a ≡ b) ⊎ (TellsCycles a × TellsCycles b)

-- law: so do two calls of `verdict`, but for which cycles they tell where each conjunction has one
abbrev pub VerdictsAreRepeated : Type 0
VerdictsAreRepeated = (words : List (List ℕ)) (input a b : List ℕ)
    → command_of words ≡ Some Verdict → CallOf words input a → CallOf words input b → AreVerdictsOfOne a b

-- ---- replays

-- The text tells the events of the run of the schedule, and after the litmus text it is judged legal.
pub record IsLegalReplay (litmus : List ℕ) (test : LitmusTest) (job : AskedReplay) (text : List ℕ) : Type 0 where
  pub events : List RunEvent
  pub are : AreOfSchedule test job events
  pub is : text ≡ run_text_of job.options.iterations events
  pub judged : IsJudgedSo (litmus ++ text) (number_line (codes "Legal") (length events))

-- law: what `replay` writes of a text is judged legal after that text
abbrev pub ReplaysAreLegal : Type 0
ReplaysAreLegal = (words : List (List ℕ)) (litmus text : List ℕ) (job : AskedReplay) (test : LitmusTest)
    → command_of words ≡ Some (Replay job)
    → Reads litmus (Accepted test)
    → CanLead litmus
    → CallOf words litmus text
    → IsLegalReplay litmus test job text

-- ---- counts

-- law: where `count` writes that the condition was seen, x86-TSO allows what it asks for
abbrev pub SeenWithinIsAllowed : Type 0
SeenWithinIsAllowed = (words : List (List ℕ)) (input before : List ℕ) (job : AskedCount) (test : LitmusTest)
    → command_of words ≡ Some (Count job)
    → Reads input (Accepted test)
    → CallOf words input (before ++ codes "Seen yes\n")
    → IsAllowed test

-- law: of a run of a faithful test it counts the frames that are hits, as the exhaustive count does
abbrev pub FaithfulCountsAreHits : Type 0
FaithfulCountsAreHits = (checked : CheckedTest) (options : Options) (run : List Event)
    → IsChecked checked
    → IsFaithful checked
    → IsRunOf checked.test options.iterations run
    → within_count_of checked options run ≡ length (hits_of checked.test checked.kinds options.iterations run)
