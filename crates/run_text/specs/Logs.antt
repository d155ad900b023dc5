-- The lines of a section of logs, one for each thread. The format is this project's own.
use Rattle.std.specs.Prelude.{ℕ, ◌+◌, ◌-◌, ◌*◌, ◌==◌, List, [], ◌∷◌, ◌++◌, Option, None, Some, Result, if◌then◌else◌, codes, decimal, is_none, length, nat_lt, option_map, slice_get}
use Rattle.std.specs.List.{enumerate_from, filter, filter_map, find}
use Rattle.std.specs.Option.{option_and_then, option_or}
use Rattle.std.specs.Str.{bytes_eq}
use Rattle.load_log.specs.Values.{Values}
use Rattle.litmus_reader.specs.Front.{words}
use Rattle.run_text.specs.Lines.{has_words, unless_refused}
use Rattle.run_text.specs.Numbers.{large_number}

abbrev pub in_front : Option ℕ → Option (List ℕ) → Option (List ℕ)
in_front (Some v) (Some vs) = Some (v ∷ vs)
in_front _ _ = None

-- the numbers that words write; None where one of them is no number
abbrev pub numbers_of : List (List ℕ) → Option (List ℕ)
numbers_of [] = Some []
numbers_of (w ∷ ws) = in_front (large_number w) (numbers_of ws)

-- numbers as the log of n iterations with so many columns; None where they are not exactly as many as it has
abbrev pub as_log : ℕ → ℕ → List ℕ → Option Values
as_log columns n vs =
    if length vs == columns * n then Some (record { columns = columns; values = vs; spare = 0 }) else None

abbrev pub log_of : ℕ → ℕ → List (List ℕ) → Option Values
log_of columns n ws = option_and_then (as_log columns n) (numbers_of ws)

-- the log of thread t that a line with these words tells: `P<t>`, and as many numbers as the log has
abbrev pub log_for : List ℕ → ℕ → ℕ → List (List ℕ) → Option Values
log_for columns n t [] = None
log_for columns n t (w ∷ ws) =
    if bytes_eq w (codes "P" ++ decimal t) then option_and_then (λ c. log_of c n ws) (slice_get columns t) else None

-- a line that is to tell a log: the thread, the line's number, and the line
abbrev pub Numbered : Type 0
Numbered = ℕ × (ℕ × List ℕ)

-- the lines with words, each with its number, where the first line has this one; the t-th of them is to tell the log of
-- thread t
abbrev pub log_lines : ℕ → List (List ℕ) → List Numbered
log_lines line lines = enumerate_from 0 (filter (λ l. has_words l.1) (enumerate_from line lines))

-- the log that such a line tells, if it tells that of its thread
abbrev pub log_in : List ℕ → ℕ → Numbered → Option Values
log_in columns n l = log_for columns n l.0 (words l.1.1)

-- the number of the first such line that does not tell the log of its thread
abbrev pub wrong_line : List ℕ → ℕ → List Numbered → Option ℕ
wrong_line columns n ls = option_map (λ l. l.1.0) (find (λ l. is_none (log_in columns n l)) ls)

-- the number of the last line, where fewer lines tell a log than there are threads
abbrev pub last_of_few : List ℕ → ℕ → List Numbered → Option ℕ
last_of_few columns last ls = if nat_lt (length ls) (length columns) then Some last else None

-- the logs that such lines tell, one for each thread, unless one is wrong or they are too few
abbrev pub logs_in : List ℕ → ℕ → ℕ → List Numbered → Result (List Values) ℕ
logs_in columns n last ls =
    unless_refused (option_or (wrong_line columns n ls) (last_of_few columns last ls))
    (filter_map (log_in columns n) ls)

-- the logs of lines, the first of which has this number
abbrev pub logs_of : List ℕ → ℕ → ℕ → List (List ℕ) → Result (List Values) ℕ
logs_of columns n line lines = logs_in columns n (line + length lines - 1) (log_lines line lines)
