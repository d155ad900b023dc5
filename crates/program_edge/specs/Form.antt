-- Which refusal is due for a litmus text by its form and its shape, and for a test by its profile. This project's own.
use Rattle.std.specs.Prelude.{◌≡◌, ℕ, List, Option, Some, None}
use Rattle.x86_subset.specs.declared.test.Shape.{Shape}
use Rattle.x86_subset.specs.declared.test.Shape.TheVariants as shape
use Rattle.litmus_reader.specs.Answer.{Answer, Accepted, Refused as Unread, Over as TooLarge, kind_number}
use Rattle.litmus_reader.specs.Reading.{Reads}
use Rattle.litmus_reader.specs.declared.kind.LitmusError.{LitmusError}
use Rattle.litmus_reader.specs.declared.kind.LitmusError.TheVariants as litmus
use Rattle.profile_check.specs.Profile.{Profile, inside, outside}
use Rattle.profile_check.specs.Kinds.{kind_number as profile_number}
use Rattle.profile_check.specs.declared.error.ProfileError.{ProfileError}
use Rattle.profile_check.specs.declared.error.ProfileError.TheVariants as profile
use Rattle.report_text.specs.declared.status.Over.{Over}
use Rattle.report_text.specs.declared.status.Over.TheVariants.{Threads, Locations, Instructions, Atoms}
use Rattle.report_text.specs.declared.status.Status.{Status}
use Rattle.report_text.specs.declared.status.Status.TheVariants.{Memory, NotLitmus, OutsideProfile, Limit}

-- the limit of a test that has too much of something
abbrev pub over_of : Shape → Over
over_of shape.Threads = Threads
over_of shape.Locations = Locations
over_of shape.Instrs = Instructions
over_of shape.Atoms = Atoms

-- the refusal that a reading deserves: a kind with its line, or the first limit that the test is over
abbrev pub due_for_form : Answer → Option Status
due_for_form (Unread refusal) = Some (NotLitmus (kind_number refusal.kind) refusal.line)
due_for_form (TooLarge limit) = Some (Limit (over_of limit))
due_for_form (Accepted test) = None

-- the text is read as something for which this refusal is due
pub record IsUnread (text : List ℕ) (status : Status) : Type 0 where
  pub answer : Answer
  pub reads : Reads text answer
  pub is : due_for_form answer ≡ Some status

-- the refusal that a test deserves by its atoms: the first that has no kind
abbrev pub due_for_atoms : Profile → Option Status
due_for_atoms inside = None
due_for_atoms (outside atom kind) = Some (OutsideProfile atom (profile_number kind))

-- the statuses that the errors of the reader and of the profile become
abbrev pub status_of_text : LitmusError → Status
status_of_text (litmus.Bad kind line) = NotLitmus (kind_number kind) line
status_of_text (litmus.Over limit) = Limit (over_of limit)
status_of_text litmus.Memory = Memory

abbrev pub status_of_test : ProfileError → Status
status_of_test (profile.Outside atom kind) = OutsideProfile atom (profile_number kind)
status_of_test profile.Memory = Memory
