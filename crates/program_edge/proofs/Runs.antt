-- The logs that threads leave.
use Rattle.std.proofs.Common.{ℕ, List, []}
use Rattle.x86_subset.specs.Test.{LitmusTest}
use Rattle.tso_machine.specs.Event.{Event}
use Rattle.tso_machine.specs.Run.{IsRunOf}
use Rattle.load_log.specs.Values.{Values}
use Rattle.perp_loop.specs.Crews.{AreWholeFor, HaveValuesOf}
use Rattle.perp_base.specs.declared.options.Options.{Options}
use Rattle.perp_base.specs.declared.schedule.Schedule.{Schedule}
use Rattle.tso_runs.specs.Schedule.{IsScheduled}
use Rattle.tso_runs.proofs.Fitting.{scheduled_run}
use Rattle.program_edge.specs.Field.{HasLogs, HasReplayed}

-- with the values and the columns they are those of a run
pub has_logs : (test : LitmusTest) (n : ℕ) (run : List Event) (logs : List Values) → IsRunOf test n run
    → HaveValuesOf test run logs → AreWholeFor test n logs
    → HasLogs test n run logs
has_logs test n run logs is values whole = record {
  is_run = is;
  are_logs = record {
    count = values.count;
    columns = λ t l. whole.columns t (record { columns = 0; values = []; spare = 0 }) l;
    values = λ t l. values.values t (record { columns = 0; values = []; spare = 0 }) l;
  };
}

-- and so of each run of a schedule
pub has_replayed : (test : LitmusTest) (options : Options) (schedule : Schedule) (logs : List Values)
    → (run : List Event) × IsScheduled test options schedule run
    → ((run : List Event) → IsScheduled test options schedule run → HaveValuesOf test run logs)
    → AreWholeFor test options.iterations logs → HasReplayed test options schedule logs
has_replayed test options schedule logs some every whole = record {
  some_run = some;
  each =
      λ run is. has_logs test options.iterations run logs (scheduled_run test options schedule run is) (every run is)
      whole;
  whole = whole;
}
