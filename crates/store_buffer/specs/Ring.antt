-- Items in a ring of slots, where after the last slot comes the first: a queue in sequential storage, as in Knuth, "The
-- Art of Computer Programming", volume 1, section 2.2.2.
use Rattle.std.specs.Prelude.{◌≡◌, ℕ, ◌<◌, ◌≤◌, List, ◌++◌, length, take, drop}
use Rattle.perp_base.specs.declared.limits.TheConstants.{MOST_WRITES}

-- the items of so many slots, from a slot on
abbrev pub window : {A : Type 0} → ℕ → ℕ → List A → List A
window oldest len slots = take len (drop oldest slots ++ take oldest slots)

-- there are 16 slots, of which as many hold items as the capacity allows
pub record IsRing {A : Type 0} (capacity oldest len : ℕ) (slots : List A) : Type 0 where
  pub low : 1 ≤ capacity
  pub high : capacity ≤ MOST_WRITES
  pub all : length slots ≡ MOST_WRITES
  pub oldest_there : oldest < MOST_WRITES
  pub within : len ≤ capacity
