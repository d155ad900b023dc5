-- The words of the second program, and the command that they name. This project's own.
use Rattle.std.specs.Prelude.{◌≤◌, ℕ, List, [], ◌∷◌, Option, Some, None, codes, if◌then◌else◌, option_map}
use Rattle.std.specs.Str.{bytes_eq}
use Rattle.perp_base.specs.declared.limits.TheConstants.{MOST_ITERATIONS}
use Rattle.perp_base.specs.Options.{IsWithinLimits}
use Rattle.command_words.specs.Job.{IsWithin}
use Rattle.command_words.specs.Words.{count_in, iterations_in, replay_in}
use Rattle.tool_core.specs.declared.words.Command.{Command}
use Rattle.tool_core.specs.declared.words.Command.TheVariants.{Judge, Order, Witness, Verdict, Show, Outcomes, Faithful, Skew, Count, Replay}

-- a command that takes no further word
abbrev pub alone : Command → List (List ℕ) → Option Command
alone command [] = Some command
alone command (word ∷ rest) = None

-- the command of this name and the words after it: the number of iterations, 1 to 100,000, where the command takes it,
-- and for a count and a replay how it is made
abbrev pub named_in : List ℕ → List (List ℕ) → Option Command
named_in name words =
    if bytes_eq name (codes "judge") then alone Judge words
    else if bytes_eq name (codes "order") then alone Order words
    else if bytes_eq name (codes "witness") then option_map Witness (iterations_in words)
    else if bytes_eq name (codes "verdict") then alone Verdict words
    else if bytes_eq name (codes "show") then alone Show words
    else if bytes_eq name (codes "outcomes") then alone Outcomes words
    else if bytes_eq name (codes "faithful") then alone Faithful words
    else if bytes_eq name (codes "skew") then option_map Skew (iterations_in words)
    else if bytes_eq name (codes "count") then option_map Count (count_in words)
    else if bytes_eq name (codes "replay") then option_map Replay (replay_in words) else None

-- the command that the words name, if any
abbrev pub command_of : List (List ℕ) → Option Command
command_of [] = None
command_of (name ∷ words) = named_in name words

-- the numbers of a command are within their limits
abbrev pub IsWithinItsLimits : Command → Type 0
IsWithinItsLimits Judge = Unit {0}
IsWithinItsLimits Order = Unit {0}
IsWithinItsLimits (Witness n) = (1 ≤ n) × (n ≤ MOST_ITERATIONS)
IsWithinItsLimits Verdict = Unit {0}
IsWithinItsLimits Show = Unit {0}
IsWithinItsLimits Outcomes = Unit {0}
IsWithinItsLimits Faithful = Unit {0}
IsWithinItsLimits (Skew n) = (1 ≤ n) × (n ≤ MOST_ITERATIONS)
IsWithinItsLimits (Count job) = IsWithin job.options job.cut
IsWithinItsLimits (Replay job) = IsWithinLimits job.options
