-- Lines, each with its end where it has one. Words are those of the first line of a litmus text. This project's own.
use Rattle.std.specs.Prelude.{ℕ, ◌==◌, Bool, List, [], ◌∷◌, Option, None, Some, Result, Ok, Err, if◌then◌else◌, length, nat_lt, codes}
use Prim.Native.Char.{code}
use Rattle.std.specs.List.{onto_first}
use Rattle.litmus_reader.specs.Front.{words}

-- a line feed
abbrev pub is_feed : ℕ → Bool
is_feed b = b == code "\n"

-- the lines of a text: a line feed ends a line, and a text that ends with one has no further line
abbrev pub lines_of : List ℕ → List (List ℕ)
lines_of [] = []
lines_of (b ∷ bs) = if is_feed b then codes "\n" ∷ lines_of bs else onto_first b (lines_of bs)

-- whether a line has words
abbrev pub has_words : List ℕ → Bool
has_words line = nat_lt 0 (length (words line))

-- what lines say, unless one of them is refused: then its number
abbrev pub unless_refused : {X : Type 0} → Option ℕ → X → Result X ℕ
unless_refused None said = Ok said
unless_refused (Some line) said = Err line
