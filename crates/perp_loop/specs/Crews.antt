-- The members of a crew, one for each thread of a test: a walker, and the lane of its number while that is lent. This
-- project's own.
use Rattle.std.specs.Prelude.{◌≡◌, ℕ, ◌<◌, ◌≤◌, All, List, [], length, slice_index_or, Option, None, IsSome, IfSome}
use Rattle.std.specs.List.{AllZip}
use Rattle.x86_subset.specs.Shape.{IsTest}
use Rattle.x86_subset.specs.Test.{LitmusTest, columns_of}
use Rattle.seq_conv.specs.Numbers.{Table, AreOf}
use Rattle.tso_machine.specs.Event.{Event}
use Rattle.tso_machine.specs.Log.{log_of}
use Rattle.load_log.specs.Values.{Values, Lists, AreWhole}
use Rattle.tso_words.specs.Seated.{TableId}
use Rattle.tso_words.specs.Seats.{Lent}
use Rattle.tso_words.specs.declared.step.Step.{Step}
use Rattle.tso_words.specs.declared.step.Part.{Part}
use Rattle.tso_words.specs.History.{thread_count, list_at}
use Rattle.tso_words.specs.Views.{beside, Stands}
use Rattle.perp_base.specs.declared.options.Options.{Options}
use Rattle.perp_base.specs.Options.{IsWithinLimits}
use Rattle.tso_runs.specs.SharedSteps.{shared_steps}
use Rattle.perp_loop.specs.Walking.{Walking, StandsFor, IsFinished}

-- what contracts see of a member: the lane, where it is there, and the walker
pub record Enrolled : Type 0 where
  pub lane : Option Lent
  pub walker : Walking

-- the steps are the shared ones of what the walker stands for
abbrev pub Claims : Walking → List Step → Type 0
Claims w steps = (front : List Event) × StandsFor w front × (steps ≡ shared_steps w.test [] front)

-- the lane, where it is there, has the walker's number, and its list is that of what the walker stands for
abbrev pub FitsWalker : Option Lent → Walking → Type 0
FitsWalker lane walker = IfSome lane (λ l. (l.thread ≡ walker.thread) × Claims walker l.steps)

-- what holds of each member and its number
abbrev pub Each : (ℕ → Enrolled → Type 0) → List Enrolled → Type 0
Each P members = (i : ℕ) (d : Enrolled) → i < length members → P i (slice_index_or members i d)

-- no lane yet, and a walker of this number that has done nothing yet
abbrev pub IsFresh : ℕ → Enrolled → Type 0
IsFresh i p = (p.lane ≡ None) × (p.walker.thread ≡ i) × StandsFor p.walker []

-- the same walker, gone on
pub record IsSameWalker (old new : Walking) : Type 0 where
  pub test : new.test ≡ old.test
  pub sequences : new.sequences ≡ old.sequences
  pub options : new.options ≡ old.options
  pub thread : new.thread ≡ old.thread

-- and to its end
abbrev pub IsFinishedAs : Walking → Walking → Type 0
IsFinishedAs old new = IsSameWalker old new × IsFinished new

-- the member has a lane of this identity
abbrev pub HasLane : TableId → Enrolled → Type 0
HasLane identity p = IsSome p.lane × IfSome p.lane (λ l. l.identity ≡ identity)

abbrev pub IsLent : TableId → ℕ → Enrolled → Type 0
IsLent identity i p = HasLane identity p × (p.walker.thread ≡ i)

abbrev pub IsEnded : TableId → ℕ → Enrolled → Type 0
IsEnded identity i p = IsLent identity i p × IsFinished p.walker

abbrev pub AreFresh : List Enrolled → Type 0
AreFresh members = Each IsFresh members

abbrev pub AreLent : TableId → List Enrolled → Type 0
AreLent identity members = Each (IsLent identity) members

abbrev pub AreEnded : TableId → List Enrolled → Type 0
AreEnded identity members = Each (IsEnded identity) members

-- the numbers below n are away, and the others have empty lists
abbrev pub Lends : ℕ → List Part → Type 0
Lends n parts = ((t : ℕ) → t < n → beside t parts ≡ []) × ((t : ℕ) → n ≤ t → t < thread_count → Stands t parts [])

-- the walker's number is at home, beside the steps of what the walker stands for
abbrev pub IsBack : List Part → ℕ → Enrolled → Type 0
IsBack parts t p = (steps : List Step) × Stands t parts steps × Claims p.walker steps

-- all walkers are finished, and their numbers at home; the others have empty lists
abbrev pub HasHome : List Enrolled → List Part → Type 0
HasHome members parts =
    Each (λ t p. IsBack parts t p × (p.walker.thread ≡ t) × IsFinished p.walker) members
    × ((t : ℕ) → length members ≤ t → t < thread_count → Stands t parts [])

-- the list of each thread is that of its walker, which is finished, and those of the other threads are empty
abbrev pub AreLists : List Enrolled → List (List Step) → Type 0
AreLists members lists =
    Each (λ t p. Claims p.walker (list_at lists t) × (p.walker.thread ≡ t) × IsFinished p.walker) members
    × ((t : ℕ) → length members ≤ t → list_at lists t ≡ [])

-- member by member the same walkers
abbrev pub SameWalkers : List Enrolled → List Enrolled → Type 0
SameWalkers olds news =
    (i : ℕ) (d : Enrolled) → i < length olds → (slice_index_or news i d).walker ≡ (slice_index_or olds i d).walker

-- member by member the same walkers, which have gone on to their ends
abbrev pub AreFinishedAs : List Enrolled → List Enrolled → Type 0
AreFinishedAs olds news =
    (i : ℕ) (d : Enrolled) → i < length olds → IsFinishedAs (slice_index_or olds i d).walker
    (slice_index_or news i d).walker

-- what a crew is to do: to perform the test, whose values are by these sequences, as the options say
pub record Job : Type 0 where
  pub test : LitmusTest
  pub sequences : Table
  pub options : Options

abbrev pub IsOfJob : Job → Enrolled → Type 0
IsOfJob job p =
    (p.walker.test ≡ job.test) × (p.walker.options ≡ job.options) × (p.walker.sequences ≡ job.sequences)

-- the sequences are the test's; there is one fresh member for each thread of it, and room for the logs
pub record IsCrew (job : Job) (members : List Enrolled) (logs : Lists) : Type 0 where
  pub is_test : IsTest job.test
  pub sequences : AreOf job.test job.sequences
  pub options : IsWithinLimits job.options
  pub count : length members ≡ length job.test.bodies
  pub fresh : AreFresh members
  pub of_job : Each (λ t p. IsOfJob job p) members
  pub none : logs.logs ≡ []
  pub room : length members ≤ logs.spare

-- there is one log for each thread of the test, of its columns and of n iterations
pub record AreWholeFor (test : LitmusTest) (n : ℕ) (logs : List Values) : Type 0 where
  pub count : length logs ≡ length test.bodies
  pub columns : (t : ℕ) (d : Values) → t < length logs → (slice_index_or logs t d).columns ≡ columns_of test t
  pub whole : AreWhole n logs

-- there is one log for each thread of the test, with the values that the thread reads in the run
pub record HaveValuesOf (test : LitmusTest) (run : List Event) (logs : List Values) : Type 0 where
  pub count : length logs ≡ length test.bodies
  pub values : (t : ℕ) (d : Values) → t < length logs → (slice_index_or logs t d).values ≡ log_of t run

-- the log is that of the walker
abbrev pub IsLogOf : Walking → Values → Type 0
IsLogOf w log = (log.values ≡ w.log) × (log.columns ≡ columns_of w.test w.thread)

-- each log is that of its member's walker
abbrev pub AreLogs : List Enrolled → List Values → Type 0
AreLogs members logs = AllZip (λ p log. IsLogOf p.walker log) members logs

abbrev pub AllFinished : List Enrolled → Type 0
AllFinished members = All (λ p. IsFinished p.walker) members
