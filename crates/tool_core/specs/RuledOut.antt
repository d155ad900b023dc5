-- A test that is ruled out: no run of its loops, of however many iterations, has a hit, and x86-TSO (Sewell, Sarkar,
-- Owens, Zappa Nardelli and Myreen, CACM 2010) does not allow what its condition asks for.
use Rattle.std.specs.Prelude.{ℕ, ◌<◌, length}
use Rattle.profile_check.specs.Profile.{CheckedTest}
use Rattle.decision.specs.Decisions.{NeverHolds}
use Rattle.litmus_outcomes.specs.Outcome.{IsAllowed}

-- each conjunction holds at no frame of any run, and none is the outcome of an execution of the test as it is written
pub record IsRuledOut (checked : CheckedTest) : Type 0 where
  pub never : (c : ℕ) → c < length checked.test.ends → NeverHolds checked c
  pub impossible : IsAllowed checked.test → ⊥
