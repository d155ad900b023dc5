-- What the command count writes: the number of frames of a run within which the condition holds. Runs are those of
-- x86-TSO (Sewell, Sarkar, Owens, Zappa Nardelli and Myreen, CACM 2010), and frames are PerpLE's (Melissaris, Markakis,
-- Shaw and Martonosi, MICRO 2020); which frames are counted, and the text, are this project's own.
use Rattle.std.specs.Prelude.{◌≡◌, ℕ, ◌^◌, List, length, Option, None, Some, MatchOption}
use Rattle.x86_subset.specs.Test.{LitmusTest}
use Rattle.tso_machine.specs.Event.{Event}
use Rattle.perp_base.specs.declared.options.Options.{Options}
use Rattle.perp_base.specs.declared.schedule.Schedule.{Schedule}
use Rattle.tso_runs.specs.Fits.{Fits}
use Rattle.tso_runs.specs.Schedule.{IsScheduled}
use Rattle.tso_words.specs.Seats.{Ended as Closed}
use Rattle.profile_check.specs.Kinds.{AreKinds}
use Rattle.profile_check.specs.Profile.{CheckedTest}
use Rattle.profile_check.specs.declared.kind.AtomKind.{AtomKind}
use Rattle.frames_within.specs.Counting.{hits_within}
use Rattle.command_words.specs.Job.{AskedCount}
use Rattle.report_text.specs.Report.{count_report_of}
use Rattle.report_text.specs.declared.rows.CountReport.{CountReport}
use Rattle.program_edge.specs.Field.{IsStill, SomeRunFits}
use Rattle.program_edge.specs.Quantified.{is_negated}

-- the number of frames: one iteration for each thread
abbrev pub frame_count_of : LitmusTest → Options → ℕ
frame_count_of test options = options.iterations ^ length test.bodies

-- the report of a test that was run so, where so many frames were counted
abbrev pub count_rows_of : LitmusTest → Options → ℕ → CountReport
count_rows_of test options within = record {
  name = test.name;
  threads = length test.bodies;
  iterations = options.iterations;
  negated = is_negated test.quantifier;
  atoms = length test.atoms;
  frames = frame_count_of test options;
  within = within;
}

-- how many frames of a run there are within which, for some conjunction, all atoms hold
abbrev pub within_count_of : CheckedTest → Options → List Event → ℕ
within_count_of checked options run = length (hits_within checked.test checked.kinds options.iterations run)

-- the text of a run
abbrev pub count_text_of : CheckedTest → Options → List Event → List ℕ
count_text_of checked options run =
    count_report_of (count_rows_of checked.test options (within_count_of checked options run))

-- how threads run the test on the field; where there is a schedule they do not
abbrev pub run_options : Option Schedule → Options → Option Options
run_options None options = Some options
run_options (Some schedule) options = None

-- the run that is counted: one that fits what the threads did on the field, or that of the schedule
abbrev pub IsRunFor : Option Schedule → LitmusTest → Options → Closed → List Event → Type 0
IsRunFor order test options done run =
    MatchOption order (Fits test options done.lists run) (λ schedule. IsScheduled test options schedule run)

-- the test was run on the field with these options
abbrev pub RanAs : Option Options → LitmusTest → Closed → Type 0
RanAs how test done = MatchOption how ⊥ (λ options. SomeRunFits test options done)

-- there is such a run: threads made it on the field, or the field is untouched
abbrev pub WasMade : Option Schedule → LitmusTest → Options → Closed → Type 0
WasMade order test options done = MatchOption order (SomeRunFits test options done)
    (λ schedule. IsStill done × ((run : List Event) × IsScheduled test options schedule run))

-- the text is that of each such run
pub record IsCountText (test : LitmusTest) (job : AskedCount) (done : Closed) (text : List ℕ) : Type 0 where
  pub kinds : List AtomKind
  pub are : AreKinds test kinds
  pub made : WasMade job.order test job.options done
  pub each : (run : List Event) → IsRunFor job.order test job.options done run
      → text ≡ count_text_of (record { test = test; kinds = kinds }) job.options run
