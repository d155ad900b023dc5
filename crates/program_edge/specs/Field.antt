-- What a call leaves on the field that it was given: nothing, or a run of x86-TSO (Sewell, Sarkar, Owens, Zappa
-- Nardelli and Myreen, CACM 2010).
use Rattle.std.specs.Prelude.{◌≡◌, ℕ, List, []}
use Rattle.x86_subset.specs.Test.{LitmusTest}
use Rattle.tso_machine.specs.Event.{Event}
use Rattle.tso_machine.specs.Run.{IsRunOf}
use Rattle.load_log.specs.Values.{Values}
use Rattle.tso_machine.specs.Log.{AreLogsOf}
use Rattle.tso_words.specs.History.{eight, zeros}
use Rattle.tso_words.specs.Seats.{Ended as Closed}
use Rattle.perp_base.specs.declared.options.Options.{Options}
use Rattle.perp_base.specs.declared.schedule.Schedule.{Schedule}
use Rattle.tso_runs.specs.Fits.{Fits, EndsWith}
use Rattle.tso_runs.specs.Schedule.{IsScheduled}
use Rattle.perp_loop.specs.Crews.{AreWholeFor}

-- no step was made on the field
pub record IsStill (done : Closed) : Type 0 where
  pub steps : done.lists ≡ eight (λ _. [])
  pub memory : done.words ≡ zeros

-- some run fits the test, the options and the steps of the field, and ends with the field's memory
pub record SomeRunFits (test : LitmusTest) (options : Options) (done : Closed) : Type 0 where
  pub run : List Event
  pub fits : Fits test options done.lists run
  pub ends : EndsWith test done.words run

-- a run of the test's bodies, so often, has these logs
pub record HasLogs (test : LitmusTest) (n : ℕ) (run : List Event) (logs : List Values) : Type 0 where
  pub is_run : IsRunOf test n run
  pub are_logs : AreLogsOf test run logs

-- the test was run on the field: some run fits, and each run that fits has these logs, which are whole
pub record HasRunOn (test : LitmusTest) (options : Options) (done : Closed) (logs : List Values) : Type 0 where
  pub some_run : SomeRunFits test options done
  pub each : (run : List Event) → Fits test options done.lists run → HasLogs test options.iterations run logs
  pub whole : AreWholeFor test options.iterations logs

-- the test was replayed, with no field: the schedule has a run, and each run of it has these logs, which are whole
pub record HasReplayed (test : LitmusTest) (options : Options) (schedule : Schedule) (logs : List Values) : Type 0 where
  pub some_run : (run : List Event) × IsScheduled test options schedule run
  pub each : (run : List Event) → IsScheduled test options schedule run → HasLogs test options.iterations run logs
  pub whole : AreWholeFor test options.iterations logs
