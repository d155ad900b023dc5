-- What a line of words stands for, as the rules of the command line tell it: after the name of a command the number of
-- iterations and the options, in any order. This project's own; the two ways to write an option are GNU's.
use Rattle.std.specs.Prelude.{◌≡◌, ◌↔◌, ◌++◌, ℕ, true, false, List, [], ◌∷◌, Some, codes}
use Rattle.command_words.specs.declared.job.Command.{Command}
use Rattle.command_words.specs.declared.job.Command.TheVariants.{Run, Replay, Convert, Demo}
use Rattle.command_words.specs.declared.job.Count.TheVariants.{Exhaustive}
use Rattle.command_words.specs.Job.{Asked, AskedCount, AskedReplay, schedule_by}
use Rattle.command_words.specs.Words.{Given, Text, command_of, count_in, count_names, count_of, is_among, is_given, job_of, number_of, replay_in, replay_names, replay_of, run_names, schedule_names, value_given}

-- the option of this name, in a word
abbrev pub spelled : Text → Text
spelled name = codes "--" ++ name

-- `Gives names gs words`: the words give these values to `N` and to options of these names. They are any number of the
-- following, one after another in any order; nothing is given twice.
pub data Gives (names : List Text) : List Given → List Text → Type 0 where
  nothing : Gives names [] []
  -- a word by itself, which is given to `N`
  number : (word : Text) (gs : List Given) (words : List Text) → is_given (codes "N") gs ≡ false → Gives names gs words
      → Gives names (record { name = codes "N"; value = word } ∷ gs) (word ∷ words)
  -- `--name` and a value, in two words
  apart : (name value : Text) (gs : List Given) (words : List Text) → is_among name names ≡ true
      → is_given name gs ≡ false → Gives names gs words
      → Gives names (record { name = name; value = value } ∷ gs) (spelled name ∷ value ∷ words)
  -- `--name=value`, in one word
  joined : (name value : Text) (gs : List Given) (words : List Text) → is_among name names ≡ true
      → is_given name gs ≡ false → Gives names gs words
      → Gives names (record { name = name; value = value } ∷ gs) ((spelled name ++ codes "=" ++ value) ∷ words)

-- the words ask for this job: they give values, and the values are its numbers, with `N` among them
pub record AsksFor (names : List Text) (words : List Text) (job : Asked) : Type 0 where
  pub gs : List Given
  pub gives : Gives names gs words
  pub numbers : job_of (value_given gs) ≡ Some job

-- the words ask for this job of a count, in the same way
pub record AsksForCount (words : List Text) (job : AskedCount) : Type 0 where
  pub gs : List Given
  pub gives : Gives count_names gs words
  pub numbers : count_of (value_given gs) ≡ Some job

-- the words ask for this replay of which nothing is counted, in the same way
pub record AsksForReplay (words : List Text) (replay : AskedReplay) : Type 0 where
  pub gs : List Given
  pub gives : Gives schedule_names gs words
  pub numbers : replay_of (value_given gs) ≡ Some replay

-- `StandsFor words command`: the words are a line of this command
pub data StandsFor : List Text → Command → Type 0 where
  run : (words : List Text) (job : Asked) → AsksFor run_names words job → StandsFor (codes "run" ∷ words) (Run job)
  replay : (words : List Text) (job : Asked) → AsksFor replay_names words job
      → StandsFor (codes "replay" ∷ words) (Replay job)
  convert : StandsFor (codes "convert" ∷ []) Convert
  demo : (word : Text) (k : ℕ) → number_of word ≡ Some k → StandsFor (codes "demo" ∷ word ∷ []) (Demo k)

-- law: a line of words stands for a command exactly where that is the one which is read from left to right; so it stands
-- for one at most
abbrev pub LinesAreRead : Type 0
LinesAreRead = (words : List Text) (command : Command) → StandsFor words command ↔ (command_of words ≡ Some command)

abbrev pub LinesStandForOne : Type 0
LinesStandForOne =
    (words : List Text) (one other : Command) → StandsFor words one → StandsFor words other → one ≡ other

-- law: words ask for a job of a count exactly where that is the one which is read from left to right
abbrev pub CountsAreRead : Type 0
CountsAreRead = (words : List Text) (job : AskedCount) → AsksForCount words job ↔ (count_in words ≡ Some job)

-- law: and for a replay of which nothing is counted
abbrev pub ReplaysAreRead : Type 0
ReplaysAreRead =
    (words : List Text) (replay : AskedReplay) → AsksForReplay words replay ↔ (replay_in words ≡ Some replay)

-- a job of `replay` has the run of this replay, and its hits are counted as where nothing is said of that
pub record IsJobOf (replay : AskedReplay) (job : Asked) : Type 0 where
  pub options : job.options ≡ replay.options
  pub schedule : schedule_by job.order ≡ replay.schedule
  pub count : job.count ≡ Exhaustive
  pub cut : job.cut ≡ 4096

-- the words after `replay` are those of such a job
pub record HasJobOf (replay : AskedReplay) (words : List Text) : Type 0 where
  pub job : Asked
  pub is : IsJobOf replay job
  pub command : command_of (codes "replay" ∷ words) ≡ Some (Replay job)

-- law: words that ask for a replay of which nothing is counted are words of `replay`, with the same run
abbrev pub ReplaysAreOfJobs : Type 0
ReplaysAreOfJobs = (words : List Text) (replay : AskedReplay) → replay_in words ≡ Some replay → HasJobOf replay words
