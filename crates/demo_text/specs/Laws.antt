-- Law: each demo text reads as a test of herdtools' X86 format whose frames can be counted. What is asked of it is this
-- project's own.
use Rattle.std.specs.Prelude.{◌≡◌, ℕ, ◌<◌, ◌≤◌, ◌^◌, List, length}
use Rattle.std.specs.Str.{IsAscii}
use Rattle.perp_base.specs.declared.limits.TheConstants.{MOST_BYTES, MOST_FRAMES}
use Rattle.x86_subset.specs.Test.{LitmusTest}
use Rattle.litmus_reader.specs.Answer.{Accepted}
use Rattle.litmus_reader.specs.Reading.{Reads}
use Rattle.profile_check.specs.declared.kind.AtomKind.{AtomKind}
use Rattle.profile_check.specs.Kinds.{AreKinds}
use Rattle.profile_check.specs.Profile.{profile_of, inside as inside_profile}
use Rattle.demo_text.specs.Demo.{demo_name, demo_threads, demo_text_of, demo_iterations_of}

-- the text of number k is short, and reads as a test: one whose atoms each have a kind, and whose frames can be counted
pub record ReadsAsTest (k : ℕ) : Type 0 where
  pub test : LitmusTest
  pub reads : Reads (demo_text_of k) (Accepted test)
  pub kinds : List AtomKind
  pub are_kinds : AreKinds test kinds
  pub inside : profile_of test ≡ inside_profile
  pub name : test.name ≡ demo_name k
  pub ascii : IsAscii test.name
  pub threads : length test.bodies ≡ demo_threads k
  pub frames : demo_iterations_of (length test.bodies) ^ length test.bodies ≤ MOST_FRAMES
  pub short : length (demo_text_of k) ≤ MOST_BYTES

-- law: each demo text reads as such a test
abbrev pub DemoTextsAreTests : Type 0
DemoTextsAreTests = (k : ℕ) → k < 2 ^ 64 → ReadsAsTest k
