-- What the profile says of a test: this project's own rule, by the kinds of the test's atoms.
use Rattle.std.specs.Prelude.{◌≡◌, ℕ, ◌+◌, Result, Ok, Err, List, [], ◌∷◌}
use Rattle.x86_subset.specs.Test.{LitmusTest}
use Rattle.x86_subset.specs.Shape.{IsTest}
use Rattle.x86_subset.specs.declared.test.Atom.{Atom}
use Rattle.profile_check.specs.Kinds.{AreKinds, kind_of}
use Rattle.profile_check.specs.declared.kind.AtomKind.{AtomKind}
use Rattle.profile_check.specs.declared.kind.ProfileKind.{ProfileKind}
use Rattle.profile_check.specs.declared.error.ProfileError.{ProfileError}
use Rattle.profile_check.specs.declared.error.ProfileError.TheVariants.{Outside, Memory}

-- a test is inside the profile, or outside of it by an atom, numbered from 1, and the reason why that atom has no kind
pub data Profile : Type 0 where
  inside : Profile
  outside : ℕ → ProfileKind → Profile

-- what an atom's kind says, in front of what the rest says
abbrev pub profile_by : Result AtomKind ProfileKind → ℕ → Profile → Profile
profile_by (Ok kind) n rest = rest
profile_by (Err why) n rest = outside n why

-- the first of these atoms that has no kind, where they are numbered from n
abbrev pub profile_from : LitmusTest → ℕ → List Atom → Profile
profile_from test n [] = inside
profile_from test n (atom ∷ atoms) = profile_by (kind_of test atom) n (profile_from test (n + 1) atoms)

-- inside exactly where each atom has a kind; else the first atom that has none, and why
abbrev pub profile_of : LitmusTest → Profile
profile_of test = profile_from test 1 test.atoms

-- the error is right for the test
abbrev pub RefusesTest : LitmusTest → ProfileError → Type 0
RefusesTest test (Outside atom kind) = profile_of test ≡ outside atom kind
RefusesTest test Memory = Unit {0}

-- a test, and a kind for each of its atoms in order
pub record CheckedTest : Type 0 where
  pub test : LitmusTest
  pub kinds : List AtomKind

-- what holds of each checked test
pub record IsChecked (checked : CheckedTest) : Type 0 where
  pub kinds : AreKinds checked.test checked.kinds
  pub test : IsTest checked.test
