-- Which refusal is due for a command and its input: this project's own order of refusals.
use Rattle.std.specs.Prelude.{◌≡◌, ◌≤◌, ℕ, ◌*◌, List, [], length, codes, map, nat_lt, if◌then◌else◌, Option, None, Some, Result, Ok, Err, option_map, MatchBool}
use Rattle.std.specs.List.{range_with_len}
use Rattle.perp_base.specs.declared.limits.TheConstants.{MOST_BYTES, MOST_FRAMES, MOST_INPUT}
use Rattle.perp_base.specs.Bytes.{GaveAll}
use Rattle.x86_subset.specs.Test.{LitmusTest, body_of, columns_of}
use Rattle.load_log.specs.Values.{Values}
use Rattle.litmus_reader.specs.Answer.{Answer, Accepted, Refused as Unread, Over as TooLarge}
use Rattle.litmus_reader.specs.Reading.{Reads}
use Rattle.profile_check.specs.Profile.{profile_of}
use Rattle.report_text.specs.declared.status.Over.TheVariants.{Frames, Input}
use Rattle.report_text.specs.declared.status.Status.TheVariants.{Limit}
use Rattle.run_text.specs.Events.{events_of}
use Rattle.run_text.specs.Logs.{logs_of}
use Rattle.run_text.specs.Sections.{Split, split_of}
use Rattle.perp_loop.specs.Replaying.{sum_below}
use Rattle.run_witness.specs.Order.{several_writers}
use Rattle.perp_base.specs.View.{View}
use Rattle.program_edge.specs.Ending.{Call, Refused as RefusedCall}
use Rattle.program_edge.specs.Form.{due_for_atoms, due_for_form}
use Rattle.program_edge.specs.Request.{Program}
use Rattle.outcome_states.specs.Registers.{first_unread}
use Rattle.perp_base.specs.declared.options.Options.{Options}
use Rattle.tool_core.specs.Counting.{frame_count_of}
use Rattle.tool_core.specs.Outcomes.{StopsOutcomes, status_of}
use Rattle.tool_core.specs.Words.{command_of}
use Rattle.tool_core.specs.declared.words.Command.{Command}
use Rattle.tool_core.specs.declared.words.Command.TheVariants.{Judge, Order, Witness, Verdict, Show, Outcomes, Faithful, Skew, Count, Replay}
use Rattle.tool_core.specs.declared.status.ToolStatus.{ToolStatus}
use Rattle.tool_core.specs.declared.status.ToolStatus.TheVariants.{Core, NoSection, BadLine, TooLong, Events, SeveralWriters}

-- ---- the parts of an input

-- the first word of the section line, where the command reads a section
abbrev pub heading_of : Command → Option (List ℕ)
heading_of Judge = Some (codes "%events")
heading_of Order = Some (codes "%logs")
heading_of (Witness n) = None
heading_of Verdict = None
heading_of Show = None
heading_of Outcomes = None
heading_of Faithful = None
heading_of (Skew n) = None
heading_of (Count job) = None
heading_of (Replay job) = None

-- without a section the whole input is the litmus part
abbrev pub all_litmus : List ℕ → Split
all_litmus input = record { litmus = input; iterations = 0; line = 1; lines = [] }

abbrev pub parts_by : Option (List ℕ) → List ℕ → Option Split
parts_by None input = Some (all_litmus input)
parts_by (Some heading) input = split_of heading input

-- the litmus part and the section of an input; None where there is no section and the command reads one
abbrev pub parts_of : Command → List ℕ → Option Split
parts_of command input = parts_by (heading_of command) input

-- ---- refusals of a test and a section

-- the first of two refusals
abbrev pub first_due : Option ToolStatus → Option ToolStatus → Option ToolStatus
first_due None later = later
first_due (Some status) later = Some status

-- a section whose lines do not all have their form: the first that has not
abbrev pub due_for_lines : {X : Type 0} → Result X ℕ → Option ToolStatus
due_for_lines (Ok x) = None
due_for_lines (Err line) = Some (BadLine line)

-- the logs of a section: one for each thread of the test, of its columns
abbrev pub section_logs : LitmusTest → Split → Result (List Values) ℕ
section_logs test parts =
    logs_of (map (columns_of test) (range_with_len 0 (length test.bodies))) parts.iterations parts.line parts.lines

-- stores of a location in several threads
abbrev pub due_for_writers : LitmusTest → Option ToolStatus
due_for_writers test = option_map SeveralWriters (several_writers test)

-- how many events a run of so many iterations has at most: two for each action
abbrev pub most_events_of : LitmusTest → ℕ → ℕ
most_events_of test n = 2 * n * sum_below (length test.bodies) (λ t. length (body_of test t))

abbrev pub due_for_events : LitmusTest → ℕ → Option ToolStatus
due_for_events test n = if nat_lt 1000000 (most_events_of test n) then Some Events else None

-- a run from logs is sought only for such tests
abbrev pub due_for_witness : LitmusTest → ℕ → Option ToolStatus
due_for_witness test n = first_due (due_for_writers test) (due_for_events test n)

-- more frames than can be counted
abbrev pub due_for_frames : LitmusTest → Options → Option ToolStatus
due_for_frames test options = if nat_lt MOST_FRAMES (frame_count_of test options) then Some (Core (Limit Frames)) else None

-- a count asks that each atom has a kind, and then that there are not too many frames
abbrev pub due_for_count : LitmusTest → Options → Option ToolStatus
due_for_count test options =
    first_due (option_map Core (due_for_atoms (profile_of test))) (due_for_frames test options)

-- the first atom whose register holds no read at the end, or names no thread
abbrev pub due_for_registers : LitmusTest → Option ToolStatus
due_for_registers test = option_map status_of (first_unread test)

-- what a command asks of a test and its section
abbrev pub due_for_test : Command → LitmusTest → Split → Option ToolStatus
due_for_test Judge test parts = due_for_lines (events_of parts.line parts.lines)
due_for_test Order test parts =
    first_due (due_for_witness test parts.iterations) (due_for_lines (section_logs test parts))
due_for_test (Witness n) test parts = due_for_witness test n
due_for_test Verdict test parts = option_map Core (due_for_atoms (profile_of test))
due_for_test Show test parts = option_map Core (due_for_atoms (profile_of test))
due_for_test Outcomes test parts = due_for_registers test
due_for_test Faithful test parts = option_map Core (due_for_atoms (profile_of test))
due_for_test (Skew n) test parts = None
due_for_test (Count job) test parts = due_for_count test job.options
due_for_test (Replay job) test parts = due_for_events test job.options.iterations

-- ---- refusals of an input

-- the first refusal in the order litmus form, shape, and what the command asks
abbrev pub due_for_reading : Command → Split → Answer → Option ToolStatus
due_for_reading command parts (Unread refusal) = option_map Core (due_for_form (Unread refusal))
due_for_reading command parts (TooLarge limit) = option_map Core (due_for_form (TooLarge limit))
due_for_reading command parts (Accepted test) = due_for_test command test parts

-- the first refusal that a litmus part within its limit deserves, or none
pub record IsDueForText (command : Command) (parts : Split) (due : Option ToolStatus) : Type 0 where
  pub answer : Answer
  pub reads : Reads parts.litmus answer
  pub is : due_for_reading command parts answer ≡ due

-- before it come a section that is missing, and a litmus part that is too long
abbrev pub IsDueForParts : Command → Option Split → Option ToolStatus → Type 0
IsDueForParts command None due = due ≡ Some NoSection
IsDueForParts command (Some parts) due =
    MatchBool (nat_lt MOST_BYTES (length parts.litmus)) (due ≡ Some (Core (Limit Input)))
    (IsDueForText command parts due)

-- the first refusal that an input within its limit deserves, or none
abbrev pub IsDue : Command → List ℕ → Option ToolStatus → Type 0
IsDue command input due = IsDueForParts command (parts_of command input) due

-- ---- limits that the work on an accepted input meets

-- of the test: only a list of outcomes stops at a limit
abbrev pub StopsAt : Command → LitmusTest → ToolStatus → Type 0
StopsAt Outcomes test met = StopsOutcomes test met
StopsAt _ test met = ⊥

-- of the input, whose litmus part reads as the test
pub record StopsOn (command : Command) (input : List ℕ) (status : ToolStatus) : Type 0 where
  pub parts : Split
  pub test : LitmusTest
  pub parts_are : parts_of command input ≡ Some parts
  pub reading : Reads parts.litmus (Accepted test)
  pub stops : StopsAt command test status

-- ---- refusals of a call

-- the words are this command's, and this is all that the source had left
pub record Took (words : List (List ℕ)) (old new : View) (command : Command) (input : List ℕ) : Type 0 where
  pub command_is : command_of words ≡ Some command
  pub gave : GaveAll old.bytes new.bytes input
  pub short : length input ≤ MOST_INPUT

-- the call: each command reads the source
abbrev pub call_of : List (List ℕ) → View → View → Call Command ToolStatus
call_of words old new = record {
  took = Took words old new;
  due = IsDue;
  stops = StopsOn;
  command = command_of words;
  reads = λ _. Unit {0};
  core = Core;
  long = TooLong;
  limit = MOST_INPUT;
  old = old;
  new = new;
}

-- the program, whose requests are those of its calls: no command comes alone
abbrev pub tool_program : Program Command ToolStatus
tool_program = record {
  own = λ _. [];
  due = IsDue;
  stops = StopsOn;
  core = Core;
  long = TooLong;
}

-- the causes of the refusals before a run
abbrev pub Refused : List (List ℕ) → View → View → ToolStatus → Type 0
Refused words old new status = RefusedCall (call_of words old new) status
