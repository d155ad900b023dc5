-- The limits of a test, and what holds of each one. The limits are this project's own.
use Rattle.std.specs.Prelude.{ℕ, Bool, ◌<◌, ◌≤◌, List, length, All, IfSome, Option, Some, None, Result, Ok, Err, nat_lt, if◌then◌else◌}
use Rattle.std.specs.List.{list_any}
use Rattle.perp_base.specs.declared.limits.TheConstants.{MOST_ACTIONS, MOST_ATOMS, MOST_LOCATIONS, MOST_THREADS}
use Rattle.x86_subset.specs.declared.instr.Instr.{Instr}
use Rattle.x86_subset.specs.declared.test.Shape.{Shape}
use Rattle.x86_subset.specs.declared.test.Shape.TheVariants.{Threads, Locations, Instrs, Atoms}
use Rattle.x86_subset.specs.Instr.{location_of}
use Rattle.x86_subset.specs.Conjunctions.{AreEnds}
use Rattle.x86_subset.specs.Test.{Code, LitmusTest, HoldsReads}

-- a body of more than 16 actions
abbrev pub is_long : Code → Bool
is_long code = nat_lt MOST_ACTIONS (length code.actions)

-- the first limit that a test passes, in the order in which they are tested
unfoldable pub limit_of : LitmusTest → Option Shape
limit_of test =
    if nat_lt MOST_THREADS (length test.bodies) then Some Threads else
    if nat_lt MOST_LOCATIONS (length test.locations) then Some Locations else
    if list_any is_long test.bodies then Some Instrs else
    if nat_lt MOST_ATOMS (length test.atoms) then Some Atoms else None

-- the test, or the first limit that it passes
abbrev pub limited_by : Option Shape → LitmusTest → Result LitmusTest Shape
limited_by None test = Ok test
limited_by (Some limit) test = Err limit

-- a test within the limits, or the first one that it passes
abbrev pub if_within_limits : LitmusTest → Result LitmusTest Shape
if_within_limits test = limited_by (limit_of test) test

-- the actions name locations below this number
abbrev pub IsLocated : ℕ → List Instr → Type 0
IsLocated n actions = All (λ i. IfSome (location_of i) (λ x. x < n)) actions

-- the bodies name locations below this number
abbrev pub AreLocated : ℕ → List Code → Type 0
AreLocated n bodies = All (λ (code : Code). IsLocated n code.actions) bodies

-- what holds of each test
pub record IsTest (test : LitmusTest) : Type 0 where
  pub some_threads : 1 ≤ length test.bodies
  pub few_threads : length test.bodies ≤ MOST_THREADS
  pub few_locations : length test.locations ≤ MOST_LOCATIONS
  pub few_actions : All (λ (code : Code). length code.actions ≤ MOST_ACTIONS) test.bodies
  pub some_atoms : 1 ≤ length test.atoms
  pub few_atoms : length test.atoms ≤ MOST_ATOMS
  pub located : AreLocated (length test.locations) test.bodies
  pub holds_reads : HoldsReads test
  pub ends : AreEnds test.ends (length test.atoms)
