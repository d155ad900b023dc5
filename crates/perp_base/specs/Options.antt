-- The limits of what a run is asked to do. This project's own.
use Rattle.std.specs.Prelude.{◌≤◌}
use Rattle.perp_base.specs.declared.limits.TheConstants.{MOST_ITERATIONS, MOST_WRITES, WHOLE_RATE}
use Rattle.perp_base.specs.declared.options.Options.{Options}

pub record IsWithinLimits (options : Options) : Type 0 where
  pub rate : options.rate ≤ WHOLE_RATE
  pub low_buffer : 1 ≤ options.buffer
  pub high_buffer : options.buffer ≤ MOST_WRITES
  pub low_iterations : 1 ≤ options.iterations
  pub high_iterations : options.iterations ≤ MOST_ITERATIONS
