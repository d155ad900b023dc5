-- The parts of which lines are made. The lines of report_text are this project's own: fields are separated by one
-- space, numbers are decimal without leading zeros, and each line ends with a line feed.
use Rattle.std.specs.Prelude.{ℕ, List, ◌++◌, codes, decimal}

-- the end of a line
abbrev pub newline : List ℕ
newline = codes "\n"

-- a word and a number
unfoldable pub number_line : List ℕ → ℕ → List ℕ
number_line word n = word ++ codes " " ++ decimal n ++ newline

-- the name of the test
unfoldable pub test_line : List ℕ → List ℕ
test_line name = codes "Test " ++ name ++ newline
