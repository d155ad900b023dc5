-- What ties a test's counters and the logs to the test and to its runs. The counters are PerpLE's (Melissaris,
-- Markakis, Shaw and Martonosi, MICRO 2020); how they are kept together is this project's own.
use Rattle.std.specs.Prelude.{◌≡◌, ◌≤◌, length, true}
use Rattle.perp_base.specs.declared.limits.TheConstants.{MOST_FRAMES, MOST_PIECES}
use Rattle.x86_subset.specs.Test.{LitmusTest}
use Rattle.seq_conv.specs.Numbers.{AreOf}
use Rattle.profile_check.specs.Profile.{CheckedTest, IsChecked}
use Rattle.outcome_conv.specs.Conds.{conds_of}
use Rattle.heuristic.specs.Plan.{plan_of}
use Rattle.perp_base.specs.declared.options.Options.{Options}
use Rattle.perp_base.specs.Options.{IsWithinLimits}
use Rattle.command_words.specs.declared.job.Count.{Count}
use Rattle.perple_core.specs.declared.counters.Counters.{Counters}
use Rattle.perple_core.specs.declared.report_run.Wanted.{Wanted}
use Rattle.perple_core.specs.Texts.{asks_exhaustive, frame_count_of}

-- the counters are those of a checked test
pub record AreCountersOf (checked : CheckedTest) (c : Counters) : Type 0 where
  pub is_checked : IsChecked checked
  pub sequences : AreOf checked.test c.sequences
  pub conds : c.conds ≡ record { conds = conds_of checked.test checked.kinds; ends = checked.test.ends }
  pub plan : c.plan ≡ plan_of (length checked.test.bodies) c.conds

-- where the exhaustive count is asked for, there are not too many frames
abbrev pub CanCountFrames : LitmusTest → Options → Count → Type 0
CanCountFrames test options count = asks_exhaustive count ≡ true → frame_count_of test options ≤ MOST_FRAMES

-- the numbers of what is wanted are within their limits
pub record IsWanted (test : LitmusTest) (wanted : Wanted) : Type 0 where
  pub options : IsWithinLimits wanted.options
  pub some_cut : 1 ≤ wanted.cut
  pub few_cuts : wanted.cut ≤ MOST_PIECES
  pub few_frames : CanCountFrames test wanted.options wanted.count
