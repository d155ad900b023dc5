-- What the command faithful writes: that each atom of the test is steady, or which is the first that is loose
-- (frames_within/specs/Loose). This project's own.
use Rattle.std.specs.Prelude.{◌≡◌, ℕ, ◌+◌, List, ◌++◌, codes, decimal}
use Rattle.x86_subset.specs.Test.{LitmusTest}
use Rattle.profile_check.specs.Kinds.{AreKinds}
use Rattle.profile_check.specs.Profile.{CheckedTest}
use Rattle.profile_check.specs.declared.kind.AtomKind.{AtomKind}
use Rattle.report_text.specs.Words.{newline}
use Rattle.frames_within.specs.Loose.{IsFaithful, IsFirstLoose}

abbrev pub faithful_line : List ℕ
faithful_line = codes "Faithful\n"

-- the line of a loose atom: its conjunction from 0, and its number from 1 through the text
unfoldable pub loose_line : ℕ → ℕ → List ℕ
loose_line c atom = codes "Loose " ++ decimal c ++ codes " " ++ decimal atom ++ newline

-- The text tells that the test is faithful, or it tells its first loose atom: i counts from 0, the text from 1.
pub data IsFaithOn (checked : CheckedTest) (text : List ℕ) : Type 0 where
  faithful : IsFaithful checked → text ≡ faithful_line → IsFaithOn checked text
  loose : (c i : ℕ) → IsFirstLoose checked c i → text ≡ loose_line c (i + 1) → IsFaithOn checked text

-- the text is right for a test each of whose atoms has a kind
pub record IsFaithText (test : LitmusTest) (text : List ℕ) : Type 0 where
  pub kinds : List AtomKind
  pub are : AreKinds test kinds
  pub is : IsFaithOn (record { test = test; kinds = kinds }) text
