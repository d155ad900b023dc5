-- What each command writes on its output: the report of a run, the conversion of a test, and the demo's report. The
-- counts are PerpLE's (Melissaris, Markakis, Shaw and Martonosi, MICRO 2020); the texts are this project's own.
use Rattle.std.specs.Prelude.{ℕ, ◌^◌, Bool, true, false, Option, None, Some, List, ◌++◌, length, codes}
use Rattle.std.specs.List.{filter_map}
use Rattle.std.specs.Result.{result_ok}
use Rattle.x86_subset.specs.Test.{LitmusTest}
use Rattle.tso_machine.specs.Event.{Event}
use Rattle.outcome_conv.specs.Hits.{hits_of}
use Rattle.outcome_conv.specs.Picks.{picked_hits}
use Rattle.perp_base.specs.declared.options.Options.{Options}
use Rattle.perp_base.specs.declared.schedule.Schedule.{Schedule}
use Rattle.command_words.specs.declared.job.Count.{Count}
use Rattle.command_words.specs.declared.job.Count.TheVariants.{Exhaustive, Heuristic, Both}
use Rattle.command_words.specs.Job.{Asked as Job, schedule_by}
use Rattle.demo_text.specs.Demo.{demo_iterations_of}
use Rattle.program_edge.specs.Quantified.{is_negated}
use Rattle.report_text.specs.Words.{number_line}
use Rattle.report_text.specs.Report.{ReportRows, report_of}
use Rattle.report_text.specs.Conversion.{conversion_of}
use Rattle.convert_rows.specs.Rows.{conversion_rows_of}
use Rattle.profile_check.specs.Kinds.{kind_of}
use Rattle.profile_check.specs.declared.kind.AtomKind.{AtomKind}

-- the kinds of the atoms of a test, of which each has one
abbrev pub kinds_of : LitmusTest → List AtomKind
kinds_of test = filter_map (λ atom. result_ok (kind_of test atom)) test.atoms

abbrev pub asks_exhaustive : Count → Bool
asks_exhaustive Exhaustive = true
asks_exhaustive Heuristic = false
asks_exhaustive Both = true

abbrev pub asks_heuristic : Count → Bool
asks_heuristic Exhaustive = false
asks_heuristic Heuristic = true
asks_heuristic Both = true

-- what was asked for
abbrev pub asked : {X : Type 0} → Bool → X → Option X
asked true x = Some x
asked false x = None

-- the number of frames: one iteration for each thread
unfoldable pub frame_count_of : LitmusTest → Options → ℕ
frame_count_of test options = options.iterations ^ length test.bodies

-- the number of hits of a run, and the listed hits
unfoldable pub hit_count_of : LitmusTest → Options → List Event → ℕ
hit_count_of test options run = length (hits_of test (kinds_of test) options.iterations run)

unfoldable pub listed_hits_of : LitmusTest → Options → List Event → List (List ℕ)
listed_hits_of test options run = picked_hits test options.iterations run (kinds_of test)

-- what the report of a run says
unfoldable pub report_rows : LitmusTest → Options → Count → Bool → List Event → ReportRows
report_rows test options count show_hits run = record {
  name = test.name;
  threads = length test.bodies;
  iterations = options.iterations;
  negated = is_negated test.quantifier;
  atoms = length test.atoms;
  frames = asked (asks_exhaustive count) (frame_count_of test options);
  exhaustive = asked (asks_exhaustive count) (hit_count_of test options run);
  hits = asked (asks_heuristic count) (listed_hits_of test options run);
  show_hits = show_hits;
}

-- the text of `run` and of `replay`
unfoldable pub text_of : LitmusTest → Job → List Event → List ℕ
text_of test job run = report_of (report_rows test job.options job.count true run)

-- the schedule of `replay`
abbrev pub schedule_of : Job → Schedule
schedule_of job = schedule_by job.order

-- the text of `convert`
unfoldable pub conversion_text_of : LitmusTest → List ℕ
conversion_text_of test = conversion_of (conversion_rows_of test (kinds_of test))

-- how a demo is run
abbrev pub demo_options_of : ℕ → LitmusTest → Options
demo_options_of k test = record {
  iterations = demo_iterations_of (length test.bodies);
  seed = k;
  rate = 64;
  buffer = 8;
}

-- the text of `demo`: its number, and the report without the lines of the hits
unfoldable pub demo_report_of : ℕ → LitmusTest → List Event → List ℕ
demo_report_of k test run =
    number_line (codes "Demo") k ++ report_of (report_rows test (demo_options_of k test) Both false run)
