use Rattle.std.proofs.Common.{ℕ, ◌<◌}
use Rattle.litmus_outcomes.specs.Within.{IsSteady}
use Rattle.frames_within.proofs.loose.first_loose.Given as goal

abbrev pub invariant-loop-c : goal.invariant-loop-c
invariant-loop-c l = (b : ℕ) → b < l.c → IsSteady l.checked b
