-- What ties a test's counters, and the logs of a run, to the test. The counters are after PerpLE's (Melissaris,
-- Markakis, Shaw and Martonosi, MICRO 2020); how they are kept together is this project's own.
use Rattle.std.specs.Prelude.{◌≡◌, List}
use Rattle.x86_subset.specs.Test.{LitmusTest}
use Rattle.seq_conv.specs.Numbers.{AreOf}
use Rattle.load_log.specs.Values.{Values}
use Rattle.tso_machine.specs.Event.{Event}
use Rattle.perp_base.specs.declared.options.Options.{Options}
use Rattle.perp_loop.specs.Crews.{AreWholeFor}
use Rattle.profile_check.specs.Profile.{CheckedTest, IsChecked}
use Rattle.frames_within.specs.Counting.{conds_within}
use Rattle.program_edge.specs.Field.{HasLogs}
use Rattle.tool_core.specs.declared.counters.Counters.{Counters}

-- the counters are those of a checked test
pub record AreCountersOf (checked : CheckedTest) (c : Counters) : Type 0 where
  pub is_checked : IsChecked checked
  pub sequences : AreOf checked.test c.sequences
  pub conds : c.conds ≡ record { conds = conds_within checked.test checked.kinds; ends = checked.test.ends }

-- some run of the test has these logs, which are whole
pub record AreOfSomeRun (test : LitmusTest) (options : Options) (logs : List Values) : Type 0 where
  pub some_run : (run : List Event) × HasLogs test options.iterations run logs
  pub whole : AreWholeFor test options.iterations logs
