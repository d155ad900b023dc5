-- Which tests are faithful: those whose atoms are all steady (litmus_outcomes/specs/Within), so that whatever holds at a
-- frame of a run holds within it. Of other tests, which atom is the first that is loose. This project's own.
use Rattle.std.specs.Prelude.{◌≡◌, ℕ, ◌<◌, ◌≤◌, true, false, Some, length, slice_get}
use Rattle.std.specs.List.{list_all, slice_range}
use Rattle.x86_subset.specs.Conjunctions.{from_of, to_of}
use Rattle.profile_check.specs.Profile.{CheckedTest}
use Rattle.profile_check.specs.declared.kind.AtomKind.{AtomKind}
use Rattle.litmus_outcomes.specs.Within.{IsSteady, is_steady}

-- every atom of every conjunction is steady
abbrev pub IsFaithful : CheckedTest → Type 0
IsFaithful checked = (c : ℕ) → c < length checked.test.ends → IsSteady checked c

-- atom i, counted from 0 through the text, is the first loose atom of conjunction c: it stands there and is loose, and
-- those before it in the conjunction are steady
pub record IsFirstLooseIn (checked : CheckedTest) (c i : ℕ) : Type 0 where
  pub from : from_of checked.test.ends c ≤ i
  pub to : i < to_of checked.test.ends c
  pub kind : AtomKind
  pub is : slice_get checked.kinds i ≡ Some kind
  pub loose : is_steady kind ≡ false
  pub earlier : list_all is_steady (slice_range checked.kinds (from_of checked.test.ends c) i) ≡ true

-- atom i, in conjunction c, is the first loose atom of the test: all atoms of the conjunctions before c are steady
pub record IsFirstLoose (checked : CheckedTest) (c i : ℕ) : Type 0 where
  pub there : c < length checked.test.ends
  pub first : IsFirstLooseIn checked c i
  pub before : (b : ℕ) → b < c → IsSteady checked b
