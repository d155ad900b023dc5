-- How the contract of a run, or of a replay, becomes the right text.
use Rattle.std.proofs.Common.{◌≡◌, ◌⊎◌, ℕ, ◌≤◌, ◌&&◌, Bool, true, false, List, None, Result, Ok, Err, String, string_bytes, Global, IfOk, OnErr, nat_lt, inr, refl, sym, ap, ◌∙◌, arith}
use Rattle.x86_subset.specs.Test.{LitmusTest}
use Rattle.tso_machine.specs.Event.{Event}
use Rattle.tso_words.specs.Seats.{Ended as Closed}
use Rattle.load_log.specs.Values.{Values}
use Rattle.perp_base.specs.declared.options.Options.{Options}
use Rattle.perp_base.specs.declared.schedule.Schedule.{Schedule}
use Rattle.perp_base.specs.declared.failure.NoMemory.{NoMemory}
use Rattle.litmus_reader.specs.Answer.{Accepted}
use Rattle.profile_check.specs.Profile.{CheckedTest, IsChecked, Profile, inside, outside, profile_of}
use Rattle.command_words.specs.declared.job.Count.TheVariants.{Both}
use Rattle.command_words.specs.Job.{Asked as Job}
use Rattle.command_words.specs.declared.job.Command.{Command}
use Rattle.command_words.specs.declared.job.Command.TheVariants.{Run, Replay, Demo}
use Rattle.report_text.specs.Conversion.{ConversionRows, conversion_of}
use Rattle.convert_rows.specs.Rows.{conversion_rows_of}
use Rattle.perple_core.specs.Counting.{CanCountFrames}
use Rattle.perple_core.specs.Due.{due_for_profile, due_for_reading, has_too_many_frames}
use Rattle.perple_core.specs.Texts.{asks_exhaustive, conversion_text_of, demo_options_of, frame_count_of, text_of}
use Rattle.program_edge.specs.Field.{HasLogs, HasReplayed, HasRunOn, IsStill, SomeRunFits}
use Rattle.perple_core.specs.Top.{IsTextOfRun, IsTextOfSchedule}
use Rattle.perple_core.proofs.Accepting.{kinds_are}

-- ---- frames

not_more : (a b : ℕ) → nat_lt a b ≡ false → b ≤ a
not_more a b e = grind (arith, e)

asked_few : (asks : Bool) (frames : ℕ) → (asks && nat_lt 4294967296 frames) ≡ false → asks ≡ true → frames ≤ 4294967296
asked_few true frames e is_so = not_more 4294967296 frames e
asked_few false frames e is_so = absurd (cc)

pub run_can_count : (job : Job) (test : LitmusTest) → has_too_many_frames (Run job) test ≡ false
    → CanCountFrames test job.options job.count
unfolding has_too_many_frames
run_can_count job test e = asked_few (asks_exhaustive job.count) (frame_count_of test job.options) e

pub replay_can_count : (job : Job) (test : LitmusTest) → has_too_many_frames (Replay job) test ≡ false
    → CanCountFrames test job.options job.count
unfolding has_too_many_frames
replay_can_count job test e = asked_few (asks_exhaustive job.count) (frame_count_of test job.options) e

pub demo_can_count : (k : ℕ) (test : LitmusTest) → has_too_many_frames (Demo k) test ≡ false
    → CanCountFrames test (demo_options_of k test) Both
unfolding has_too_many_frames
demo_can_count k test e = λ is_so. not_more 4294967296 (frame_count_of test (demo_options_of k test)) e

frames_by : (command : Command) (test : LitmusTest) (profile : Profile) (many : Bool)
    → has_too_many_frames command test ≡ many → due_for_profile command test profile ≡ None → many ≡ false
frames_by command test inside true is e = absurd (let due = rw is at e in cc)
frames_by command test inside false is e = refl
frames_by command test (outside atom kind) many is e = absurd (cc)

-- where no refusal is due, there are not too many frames
pub none_due_has_few : (command : Command) (test : LitmusTest) → due_for_reading command (Accepted test) ≡ None
    → has_too_many_frames command test ≡ false
none_due_has_few command test e = frames_by command test (profile_of test) (has_too_many_frames command test) refl e

-- ---- texts

pub converted : (checked : CheckedTest) (rows : ConversionRows) → IsChecked checked
    → rows ≡ conversion_rows_of checked.test checked.kinds → conversion_of rows ≡ conversion_text_of checked.test
unfolding conversion_text_of
converted checked rows is e =
    ap conversion_of (e ∙ ap (conversion_rows_of checked.test) (sym (kinds_are checked.test checked.kinds is.kinds)))

-- the report of the run of a schedule
pub schedule_text : (test : LitmusTest) (options : Options) (schedule : Schedule) (logs : List Values)
    (gives : List Event → List ℕ) (r : Result (String Global) NoMemory)
    → HasReplayed test options schedule logs
    → IfOk r (λ text. (run : List Event) → HasLogs test options.iterations run logs → string_bytes text ≡ gives run)
    → IfOk r (λ text. IsTextOfSchedule test options schedule gives (string_bytes text))
schedule_text test options schedule logs gives (Ok text) replayed h = record {
  some_run = replayed.some_run;
  each = λ run is. h run (replayed.each run is);
}
schedule_text test options schedule logs gives (Err e) replayed h = tt

-- the report of a run that threads made
pub run_text : (test : LitmusTest) (job : Job) (done : Closed) (logs : List Values)
    (r : Result (String Global) NoMemory)
    → HasRunOn test job.options done logs
    → IfOk r (λ text. (run : List Event) → HasLogs test job.options.iterations run logs
    → string_bytes text ≡ text_of test job run)
    → IfOk r (λ text. IsTextOfRun test job done (string_bytes text))
run_text test job done logs (Ok text) ran h = record {
  some_run = ran.some_run;
  each = λ run fits. h run (ran.each run fits);
}
run_text test job done logs (Err e) ran h = tt

pub run_made : (test : LitmusTest) (options : Options) (done : Closed) (logs : List Values)
    (r : Result (String Global) NoMemory)
    → HasRunOn test options done logs
    → OnErr r (IsStill done ⊎ SomeRunFits test options done)
run_made test options done logs (Ok text) ran = tt
run_made test options done logs (Err e) ran = inr ran.some_run
