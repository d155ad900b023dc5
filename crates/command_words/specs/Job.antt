-- What a job asks for, and the limits of its numbers. This project's own.
use Rattle.std.specs.Prelude.{ℕ, ◌≤◌, Option, None, Some}
use Rattle.perp_base.specs.declared.limits.TheConstants.{MOST_PIECES}
use Rattle.perp_base.specs.declared.options.Options.{Options}
use Rattle.perp_base.specs.declared.schedule.Schedule.{Schedule}
use Rattle.perp_base.specs.declared.schedule.Schedule.TheVariants.{Turns, Seeded}
use Rattle.perp_base.specs.Options.{IsWithinLimits}
use Rattle.command_words.specs.declared.job.Count.{Count}

-- a job, as contracts see it
pub record Asked : Type 0 where
  pub options : Options
  pub count : Count
  pub cut : ℕ
  pub order : Option ℕ

-- what a count is asked for, as contracts see it
pub record AskedCount : Type 0 where
  pub options : Options
  pub cut : ℕ
  pub order : Option Schedule

-- what a replay of which nothing is counted is asked for, as contracts see it
pub record AskedReplay : Type 0 where
  pub options : Options
  pub schedule : Schedule

-- the schedule of a replay, by the seed that is given for it: without one the threads take turns
abbrev pub schedule_by : Option ℕ → Schedule
schedule_by None = Turns
schedule_by (Some seed) = Seeded seed

-- the limits of a job's numbers
pub record IsWithin (options : Options) (cut : ℕ) : Type 0 where
  pub run : IsWithinLimits options
  pub low_cut : 1 ≤ cut
  pub high_cut : cut ≤ MOST_PIECES
