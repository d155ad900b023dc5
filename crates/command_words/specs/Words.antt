-- The words of the command line, and the command that they name. This project's own; the two ways to write an option
-- are GNU's.
use Rattle.std.specs.Prelude.{◌==◌, ◌&&◌, ◌^◌, ℕ, Bool, true, false, not, List, [], ◌∷◌, length, drop, Option, Some, None, if◌then◌else◌, nat_le, nat_lt, codes, find, option_map, option_and_then}
use Prim.Native.Char.{code}
use Rattle.std.specs.Char.{is_ascii_digit}
use Rattle.std.specs.List.{after_first, before_first, list_all, list_any}
use Rattle.std.specs.Str.{bytes_eq}
use Rattle.std.specs.Str.Parse.{digits_value}
use Rattle.perp_base.specs.declared.limits.TheConstants.{MOST_ITERATIONS, MOST_PIECES}
use Rattle.command_words.specs.declared.job.Command.{Command}
use Rattle.command_words.specs.declared.job.Command.TheVariants.{Run, Replay, Convert, Demo}
use Rattle.command_words.specs.declared.job.Count.{Count}
use Rattle.command_words.specs.declared.job.Count.TheVariants.{Exhaustive, Heuristic, Both}
use Rattle.command_words.specs.Job.{Asked, AskedCount, AskedReplay, schedule_by}
use Rattle.perp_base.specs.declared.options.Options.{Options}
use Rattle.perp_base.specs.declared.schedule.Schedule.{Schedule}
use Rattle.perp_base.specs.declared.schedule.Schedule.TheVariants.{Turns, Seeded}

abbrev pub Text : Type 0
Text = List ℕ

-- ---- values

-- 1 to 20 ASCII digits
abbrev pub is_number : Text → Bool
is_number text = nat_lt 0 (length text) && (nat_le (length text) 20 && list_all is_ascii_digit text)

-- the number that the text writes in decimal, where 64 bits hold it
abbrev pub number_of : Text → Option ℕ
number_of text = if is_number text && nat_lt (digits_value 10 text) (2 ^ 64)
    then Some (digits_value 10 text) else None

abbrev pub within : ℕ → ℕ → ℕ → Option ℕ
within least most n = if nat_le least n && nat_le n most then Some n else None

-- a number from `least` to `most`
abbrev pub number_within : ℕ → ℕ → Text → Option ℕ
number_within least most text = option_and_then (within least most) (number_of text)

abbrev pub count_named : Text → Option Count
count_named text = if bytes_eq text (codes "exhaustive") then Some Exhaustive
    else (if bytes_eq text (codes "heuristic") then Some Heuristic
    else (if bytes_eq text (codes "both") then Some Both else None))

-- the number of iterations that the words give, where they give that alone: 1 to 100,000
abbrev pub iterations_in : List Text → Option ℕ
iterations_in [] = None
iterations_in (word ∷ []) = number_within 1 MOST_ITERATIONS word
iterations_in (word ∷ more ∷ rest) = None

-- ---- names, each with its value

-- a value, and the option that it is given to; the number of iterations is given to `N`
pub record Given : Type 0 where
  pub name : Text
  pub value : Text

-- the word begins with a hyphen
abbrev pub is_hyphenated : Text → Bool
is_hyphenated [] = false
is_hyphenated (b ∷ bs) = b == code "-"

-- the word is `--` with more after it
abbrev pub is_option : Text → Bool
is_option [] = false
is_option (b ∷ bs) = b == code "-" && (is_hyphenated bs && nat_lt 1 (length bs))

-- the word begins with a hyphen and is no option
abbrev pub is_stray : Text → Bool
is_stray word = is_hyphenated word && not (is_option word)

-- what stands before the first `=`
abbrev pub name_in : Text → Text
name_in text = before_first (λ b. b == code "=") text

-- what stands after the first `=`, if there is one
abbrev pub value_in : Text → Option Text
value_in text =
    if list_any (λ b. b == code "=") text then Some (after_first (λ b. b == code "=") text) else None

abbrev pub is_among : Text → List Text → Bool
is_among name names = list_any (λ other. bytes_eq other name) names

abbrev pub with_given : Text → Text → Option (List Given) → Option (List Given)
with_given name value rest = option_map (λ gs. record { name = name; value = value } ∷ gs) rest

-- an option takes the value in its own word, or the next word
abbrev pub value_then : Text → Option Text → (Option Text → Option (List Given))
    → Option (List Given)
value_then name (Some value) rest = with_given name value (rest None)
value_then name None rest = rest (Some name)

-- the option `name` or `name=value`, where it is one of these names
abbrev pub option_then : List Text → Text → (Option Text → Option (List Given))
    → Option (List Given)
option_then names text rest = if is_among (name_in text) names
    then value_then (name_in text) (value_in text) rest else None

-- what the words give to the options of these names and to `N`, from left to right; `waiting` is
-- an option whose value is the next word. A word that begins with a hyphen is an option or nothing
abbrev pub given_by : List Text → Option Text → List Text → Option (List Given)
given_by names None [] = Some []
given_by names (Some name) [] = None
given_by names (Some name) (word ∷ rest) =
    if is_hyphenated word then None else with_given name word (given_by names None rest)
given_by names None (word ∷ rest) = if is_hyphenated word
    then (if is_option word
    then option_then names (drop 2 word) (λ waiting. given_by names waiting rest) else None)
    else with_given (codes "N") word (given_by names None rest)

abbrev pub is_given : Text → List Given → Bool
is_given name gs = list_any (λ (g : Given). bytes_eq g.name name) gs

-- no name is given twice
abbrev pub is_once : List Given → Bool
is_once [] = true
is_once (g ∷ gs) = not (is_given g.name gs) && is_once gs

-- the value that is given to a name
abbrev pub value_given : List Given → Text → Option Text
value_given gs name =
    option_map (λ (g : Given). g.value) (find (λ (g : Given). bytes_eq g.name name) gs)

-- ---- commands

-- a value that may be left out
abbrev pub or_else : {A : Type 0} → A → (Text → Option A) → Option Text → Option A
or_else default read None = Some default
or_else default read (Some text) = read text

abbrev pub order_of : Option Text → Option (Option ℕ)
order_of None = Some None
order_of (Some text) = option_map (λ n. Some n) (number_of text)

-- how a run is made, by the value of each name
abbrev pub options_of : (Text → Option Text) → Option Options
options_of value_of =
    option_and_then (λ n.
    option_and_then (λ seed.
    option_and_then (λ rate.
    option_map (λ buffer. record { iterations = n; seed = seed; rate = rate; buffer = buffer })
    (or_else 8 (number_within 1 16) (value_of (codes "buffer"))))
    (or_else 64 (number_within 0 256) (value_of (codes "rate"))))
    (or_else 0 number_of (value_of (codes "seed"))))
    (option_and_then (number_within 1 MOST_ITERATIONS) (value_of (codes "N")))

-- the job, by the value of each name
abbrev pub job_of : (Text → Option Text) → Option Asked
job_of value_of =
    option_and_then (λ options.
    option_and_then (λ count.
    option_and_then (λ cut.
    option_map (λ order. record { options = options; count = count; cut = cut; order = order })
    (order_of (value_of (codes "order"))))
    (or_else 4096 (number_within 1 MOST_PIECES) (value_of (codes "cut"))))
    (or_else Exhaustive count_named (value_of (codes "count"))))
    (options_of value_of)

-- the schedule that the value names: `turns`, or the seed of one
abbrev pub schedule_named : Text → Option Schedule
schedule_named text = if bytes_eq text (codes "turns") then Some Turns else option_map Seeded (number_of text)

abbrev pub schedule_in : Option Text → Option (Option Schedule)
schedule_in None = Some None
schedule_in (Some text) = option_map (λ schedule. Some schedule) (schedule_named text)

-- the job of a count, by the value of each name
abbrev pub count_of : (Text → Option Text) → Option AskedCount
count_of value_of =
    option_and_then (λ options.
    option_and_then (λ cut.
    option_map (λ order. record { options = options; cut = cut; order = order })
    (schedule_in (value_of (codes "order"))))
    (or_else 4096 (number_within 1 MOST_PIECES) (value_of (codes "cut"))))
    (options_of value_of)

-- the replay of which nothing is counted, by the value of each name
abbrev pub replay_of : (Text → Option Text) → Option AskedReplay
replay_of value_of =
    option_and_then (λ options.
    option_map (λ order. record { options = options; schedule = schedule_by order })
    (order_of (value_of (codes "order"))))
    (options_of value_of)

-- what the words give, where nothing is given twice
abbrev pub given_in : List Text → List Text → Option (List Given)
given_in names words = option_and_then (λ gs. if is_once gs then Some gs else None) (given_by names None words)

-- the job that the words after `run` or `replay` name, where the options have these names
abbrev pub job_in : List Text → List Text → Option Asked
job_in names words = option_and_then (λ gs. job_of (value_given gs)) (given_in names words)

abbrev pub run_names : List Text
run_names = codes "seed" ∷ codes "rate" ∷ codes "buffer" ∷ codes "count" ∷ codes "cut" ∷ []

abbrev pub replay_names : List Text
replay_names = codes "order" ∷ run_names

abbrev pub count_names : List Text
count_names = codes "order" ∷ codes "seed" ∷ codes "rate" ∷ codes "buffer" ∷ codes "cut" ∷ []

-- the job that the words after `count` name
abbrev pub count_in : List Text → Option AskedCount
count_in words = option_and_then (λ gs. count_of (value_given gs)) (given_in count_names words)

abbrev pub schedule_names : List Text
schedule_names = codes "order" ∷ codes "seed" ∷ codes "rate" ∷ codes "buffer" ∷ []

-- the replay that the words after `replay` name, where nothing is counted
abbrev pub replay_in : List Text → Option AskedReplay
replay_in words = option_and_then (λ gs. replay_of (value_given gs)) (given_in schedule_names words)

abbrev pub convert_in : List Text → Option Command
convert_in [] = Some Convert
convert_in (word ∷ rest) = None

abbrev pub demo_in : List Text → Option Command
demo_in [] = None
demo_in (word ∷ []) = option_map Demo (number_of word)
demo_in (word ∷ more ∷ rest) = None

abbrev pub named_in : Text → List Text → Option Command
named_in name words = if bytes_eq name (codes "run") then option_map Run (job_in run_names words)
    else (if bytes_eq name (codes "replay") then option_map Replay (job_in replay_names words)
    else (if bytes_eq name (codes "convert") then convert_in words
    else (if bytes_eq name (codes "demo") then demo_in words else None)))

-- the command that the words name, if any
abbrev pub command_of : List Text → Option Command
command_of [] = None
command_of (name ∷ words) = named_in name words
