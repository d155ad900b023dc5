-- Which refusal is due for a command and its text: this project's own order of refusals.
use Rattle.std.specs.Prelude.{◌≡◌, ℕ, ◌≤◌, List, [], length, Bool, false, Some, None, ◌&&◌, nat_lt, if◌then◌else◌, MatchOption}
use Rattle.std.specs.declared.option.Option.{Option}
use Rattle.perp_base.specs.declared.limits.TheConstants.{MOST_BYTES, MOST_FRAMES}
use Rattle.x86_subset.specs.Test.{LitmusTest}
use Rattle.litmus_reader.specs.Answer.{Answer, Accepted, Refused as Unread, Over as TooLarge}
use Rattle.litmus_reader.specs.Reading.{Reads}
use Rattle.profile_check.specs.Profile.{Profile, inside, outside, profile_of}
use Rattle.command_words.specs.Words.{command_of}
use Rattle.command_words.specs.declared.job.Command.{Command}
use Rattle.command_words.specs.declared.job.Command.TheVariants.{Run, Replay, Convert, Demo}
use Rattle.demo_text.specs.Demo.{demo_text_of}
use Rattle.report_text.specs.declared.status.Over.TheVariants.{Input, Frames}
use Rattle.report_text.specs.declared.status.Status.{Status}
use Rattle.report_text.specs.declared.status.Status.TheVariants.{Limit}
use Rattle.perp_base.specs.Bytes.{GaveAll}
use Rattle.perple_core.specs.Texts.{asks_exhaustive, demo_options_of, frame_count_of}
use Rattle.perp_base.specs.View.{View}
use Rattle.program_edge.specs.Ending.{Call, Refused as RefusedCall}
use Rattle.program_edge.specs.Form.{due_for_atoms, due_for_form}
use Rattle.program_edge.specs.Request.{Program}

-- the demo's number
abbrev pub demo_number : Command → Option ℕ
demo_number (Run job) = None
demo_number (Replay job) = None
demo_number Convert = None
demo_number (Demo k) = Some k

-- the exhaustive count is asked for, and there are too many frames
unfoldable pub has_too_many_frames : Command → LitmusTest → Bool
has_too_many_frames (Run job) test = asks_exhaustive job.count && nat_lt MOST_FRAMES (frame_count_of test job.options)
has_too_many_frames (Replay job) test =
    asks_exhaustive job.count && nat_lt MOST_FRAMES (frame_count_of test job.options)
has_too_many_frames Convert test = false
has_too_many_frames (Demo k) test = nat_lt MOST_FRAMES (frame_count_of test (demo_options_of k test))

abbrev pub due_for_profile : Command → LitmusTest → Profile → Option Status
due_for_profile command test inside = if has_too_many_frames command test then Some (Limit Frames) else None
due_for_profile command test (outside atom kind) = due_for_atoms (outside atom kind)

-- the first refusal in the order litmus form, shape, profile, frames
abbrev pub due_for_reading : Command → Answer → Option Status
due_for_reading command (Unread refusal) = due_for_form (Unread refusal)
due_for_reading command (TooLarge limit) = due_for_form (TooLarge limit)
due_for_reading command (Accepted test) = due_for_profile command test (profile_of test)

-- the first refusal that a text within the limit of the input deserves, or none
pub record IsDue (command : Command) (bytes : List ℕ) (due : Option Status) : Type 0 where
  pub answer : Answer
  pub reads : Reads bytes answer
  pub is : due_for_reading command answer ≡ due

-- the text that the command takes: the demo's own, or all that the source gave up to its end
abbrev pub Takes : Command → View → View → List ℕ → Type 0
Takes command old new bytes = MatchOption (demo_number command)
    (GaveAll old.bytes new.bytes bytes)
    (λ k. (new ≡ old) × (bytes ≡ demo_text_of k))

-- a text from a source is within the limit of the input
abbrev pub IsShort : Command → List ℕ → Type 0
IsShort command text = demo_number command ≡ None → length text ≤ MOST_BYTES

-- the words are this command's, and it took this text
pub record Took (words : List (List ℕ)) (old new : View) (command : Command) (bytes : List ℕ) : Type 0 where
  pub command_is : command_of words ≡ Some command
  pub takes : Takes command old new bytes
  pub short : IsShort command bytes

-- the call: a command reads the source where it is no demo
abbrev pub call_of : List (List ℕ) → View → View → Call Command Status
call_of words old new = record {
  took = Took words old new;
  due = IsDue;
  stops = λ command text status. ⊥;
  command = command_of words;
  reads = λ command. demo_number command ≡ None;
  core = λ status. status;
  long = Limit Input;
  limit = MOST_BYTES;
  old = old;
  new = new;
}

-- the text of a command that comes alone: the demo's own, and for a command that should read one the empty text
abbrev pub own_text_of : Command → List ℕ
own_text_of (Run job) = []
own_text_of (Replay job) = []
own_text_of Convert = []
own_text_of (Demo k) = demo_text_of k

-- the program, whose requests are those of its calls
abbrev pub perple_program : Program Command Status
perple_program = record {
  own = own_text_of;
  due = IsDue;
  stops = λ command text status. ⊥;
  core = λ status. status;
  long = Limit Input;
}

-- the causes of the refusals before a run
abbrev pub Refused : List (List ℕ) → View → View → Status → Type 0
Refused words old new status = RefusedCall (call_of words old new) status
