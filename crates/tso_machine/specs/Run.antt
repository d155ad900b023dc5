-- The runs that the laws speak of: those of x86-TSO
-- (Sewell, Sarkar, Owens, Zappa Nardelli and Myreen, CACM 2010) in which threads loop without barriers, as in PerpLE
-- (Melissaris, Markakis, Shaw and Martonosi, MICRO 2020).
use Rattle.std.specs.Prelude.{ℕ, ◌<◌, All, List, length}
use Rattle.x86_subset.specs.Test.{LitmusTest}
use Rattle.tso_machine.specs.Event.{Event}
use Rattle.tso_machine.specs.Machine.{IsLegal}
use Rattle.tso_machine.specs.Part.{Performs, part_of}

-- a legal run of the test's threads alone, in which each performs its body n times
pub record IsRunOf (test : LitmusTest) (n : ℕ) (run : List Event) : Type 0 where
  pub legal : IsLegal test run
  pub performs : (t : ℕ) → t < length test.bodies → Performs test n t (part_of t run)
  pub threads : All (λ e. e.thread < length test.bodies) run
