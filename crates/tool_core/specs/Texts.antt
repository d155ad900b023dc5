-- What each command writes on its output. Runs are those of x86-TSO (Sewell, Sarkar, Owens, Zappa Nardelli and Myreen,
-- CACM 2010); the texts are this project's own.
use Rattle.std.specs.Prelude.{◌≡◌, ℕ, ◌+◌, ◌<◌, List, [], ◌∷◌, ◌++◌, Ok, codes, decimal, length, map}
use Rattle.std.specs.List.{flat_map}
use Rattle.x86_subset.specs.Test.{LitmusTest}
use Rattle.tso_machine.specs.Event.{Event}
use Rattle.tso_machine.specs.Log.{log_of}
use Rattle.tso_machine.specs.Run.{IsRunOf}
use Rattle.load_log.specs.Values.{Values}
use Rattle.profile_check.specs.Kinds.{AreKinds}
use Rattle.profile_check.specs.Profile.{CheckedTest}
use Rattle.profile_check.specs.declared.kind.AtomKind.{AtomKind}
use Rattle.tso_words.specs.Seats.{Ended as Closed}
use Rattle.perp_base.specs.declared.options.Options.{Options}
use Rattle.tso_runs.specs.Fits.{Fits}
use Rattle.report_text.specs.Words.{newline, number_line}
use Rattle.run_judge.specs.Judgement.{event_of, fault_number, judgement_of}
use Rattle.run_judge.specs.declared.event.RunEvent.{RunEvent}
use Rattle.run_judge.specs.declared.judgement.JudgeFault.{JudgeFault}
use Rattle.run_judge.specs.declared.judgement.JudgeFault.TheVariants.{Names, Order, NotOldest, NotEmpty, Value, Short}
use Rattle.run_judge.specs.declared.judgement.Judgement.{Judgement}
use Rattle.run_judge.specs.declared.judgement.Judgement.TheVariants.{Legal, Wrong}
use Rattle.run_text.specs.Events.{events_of}
use Rattle.run_text.specs.Runs.{run_text_of}
use Rattle.run_text.specs.Sections.{Split}
use Rattle.run_witness.specs.Found.{HasNoRun}
use Rattle.run_witness.specs.declared.found.Found.{Found}
use Rattle.run_witness.specs.declared.found.Found.TheVariants.{Run, WrongValue, Cycle}
use Rattle.run_witness.specs.Order.{HasLogs}
use Rattle.run_witness.specs.Right.{AreRight, IsFirstWrong}
use Rattle.skew.specs.Line.{line_of as skew_line_of}
use Rattle.skew.specs.Skew.{skew_rows}
use Rattle.verdict.specs.Verdicts.{AreCycles, IsFirstOpen}
use Rattle.verdict.specs.declared.node.Node.{Node}
use Rattle.verdict.specs.declared.answer.Verdict.{Verdict}
use Rattle.verdict.specs.declared.answer.Verdict.TheVariants.{Forbidden, Open}
use Rattle.program_edge.specs.Field.{SomeRunFits}
use Rattle.tool_core.specs.Due.{section_logs}
use Rattle.tool_core.specs.RuledOut.{IsRuledOut}

-- ---- judge

abbrev pub fault_word : JudgeFault → List ℕ
fault_word Names = codes "Names"
fault_word Order = codes "Order"
fault_word NotOldest = codes "NotOldest"
fault_word NotEmpty = codes "NotEmpty"
fault_word Value = codes "Value"
fault_word Short = codes "Short"

-- the line of a wrong event
unfoldable pub wrong_line : ℕ → JudgeFault → List ℕ
wrong_line event fault =
    codes "Wrong " ++ decimal event ++ codes " kind " ++ decimal (fault_number fault) ++ codes " " ++ fault_word fault
    ++ newline

-- the line of a judgement of so many events
abbrev pub judgement_line : ℕ → Judgement → List ℕ
judgement_line count Legal = number_line (codes "Legal") count
judgement_line count (Wrong event fault) = wrong_line event fault

-- the text is the judgement of the section's events
pub record IsJudged (test : LitmusTest) (parts : Split) (text : List ℕ) : Type 0 where
  pub events : List RunEvent
  pub are : events_of parts.line parts.lines ≡ Ok events
  pub is : text ≡ judgement_line (length events) (judgement_of test parts.iterations (map event_of events))

-- ---- order and witness

-- the text for a value that is not right
unfoldable pub wrong_value_line : ℕ → ℕ → ℕ → List ℕ
wrong_value_line t i c =
    codes "No order value " ++ decimal t ++ codes " " ++ decimal i ++ codes " " ++ decimal c ++ newline

abbrev pub no_order_line : List ℕ
no_order_line = codes "No order cycle\n"

-- The text tells a run that has the logs; or the first value that is not right; or that there is no run although all
-- values are right.
pub data IsOrderOf (test : LitmusTest) (n : ℕ) (logs : List Values) (text : List ℕ) : Type 0 where
  ordered : (events : List RunEvent) → IsRunOf test n (map event_of events) → HasLogs test logs (map event_of events)
      → AreRight test n logs
      → text ≡ run_text_of n events → IsOrderOf test n logs text
  wrong : (t i c : ℕ) → IsFirstWrong test n logs t i c → HasNoRun test n logs → text ≡ wrong_value_line t i c
      → IsOrderOf test n logs text
  none : AreRight test n logs → HasNoRun test n logs → text ≡ no_order_line → IsOrderOf test n logs text

-- the text of what is found
abbrev pub order_text_of : ℕ → Found → List ℕ
order_text_of n (Run events) = run_text_of n events.items
order_text_of n (WrongValue t i c) = wrong_value_line t i c
order_text_of n (Cycle events) = no_order_line

-- the text is right for the section's logs
pub record IsOrdered (test : LitmusTest) (parts : Split) (text : List ℕ) : Type 0 where
  pub logs : List Values
  pub are : section_logs test parts ≡ Ok logs
  pub is : IsOrderOf test parts.iterations logs text

-- the text tells a run that has the logs
pub record IsWitnessOf (test : LitmusTest) (n : ℕ) (logs : List Values) (text : List ℕ) : Type 0 where
  pub events : List RunEvent
  pub legal : IsRunOf test n (map event_of events)
  pub logged : HasLogs test logs (map event_of events)
  pub is : text ≡ run_text_of n events

-- how a test is run
abbrev pub options_of : ℕ → Options
options_of n = record { iterations = n; seed = 0; rate = 64; buffer = 8 }

-- the text tells a run whose logs are those of every run that fits what the threads did on the field, and some run does
pub record IsWitnessed (test : LitmusTest) (n : ℕ) (done : Closed) (text : List ℕ) : Type 0 where
  pub some_run : SomeRunFits test (options_of n) done
  pub events : List RunEvent
  pub legal : IsRunOf test n (map event_of events)
  pub logs : (run : List Event) → Fits test (options_of n) done.lists run
      → (t : ℕ) → t < length test.bodies → log_of t (map event_of events) ≡ log_of t run
  pub is : text ≡ run_text_of n events

-- ---- verdict

unfoldable pub node_text : Node → List ℕ
node_text node = codes " P" ++ decimal node.thread ++ codes " " ++ decimal node.place

-- the line of the cycle of conjunction c
unfoldable pub cycle_line : ℕ → List Node → List ℕ
cycle_line c nodes = codes "Cycle " ++ decimal c ++ flat_map node_text nodes ++ newline

-- the lines of cycles, which are numbered from c
abbrev pub cycle_lines : ℕ → List (List Node) → List ℕ
cycle_lines c [] = []
cycle_lines c (nodes ∷ cycles) = cycle_line c nodes ++ cycle_lines (c + 1) cycles

unfoldable pub forbidden_text : List (List Node) → List ℕ
forbidden_text cycles = codes "Forbidden\n" ++ cycle_lines 0 cycles

-- the text of an answer
abbrev pub verdict_text_of : Verdict → List ℕ
verdict_text_of (Forbidden cycles) = forbidden_text (map (λ cycle. cycle.items) cycles.items)
verdict_text_of (Open c) = number_line (codes "Open") c

-- The text tells one cycle for each conjunction of the test, whose atoms have these kinds, or the first conjunction
-- that has none. Where it tells cycles, the condition is ruled out.
pub data IsVerdictOn (checked : CheckedTest) (text : List ℕ) : Type 0 where
  forbidden : (cycles : List (List Node)) → AreCycles checked cycles → IsRuledOut checked → text ≡ forbidden_text cycles
      → IsVerdictOn checked text
  opened : (c : ℕ) → IsFirstOpen checked c → text ≡ number_line (codes "Open") c → IsVerdictOn checked text

pub record IsVerdictText (test : LitmusTest) (text : List ℕ) : Type 0 where
  pub kinds : List AtomKind
  pub are : AreKinds test kinds
  pub is : IsVerdictOn (record { test = test; kinds = kinds }) text

-- ---- skew

-- the lines of the rows of a run
unfoldable pub skew_text_of : LitmusTest → ℕ → List Event → List ℕ
skew_text_of test n run = flat_map skew_line_of (skew_rows test n run)

-- the text is that of every run that fits what the threads did on the field, and some run does
pub record IsSkewText (test : LitmusTest) (n : ℕ) (done : Closed) (text : List ℕ) : Type 0 where
  pub some_run : SomeRunFits test (options_of n) done
  pub each : (run : List Event) → Fits test (options_of n) done.lists run → text ≡ skew_text_of test n run
