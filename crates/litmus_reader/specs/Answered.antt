-- What the reader answers, against what its text is read as. This project's own.
use Rattle.std.specs.Prelude.{ℕ, List, All, Result, Ok, Err}
use Rattle.std.specs.Str.{IsAscii}
use Rattle.x86_subset.specs.Test.{LitmusTest}
use Rattle.litmus_reader.specs.declared.kind.LitmusError.{LitmusError}
use Rattle.litmus_reader.specs.declared.kind.LitmusError.TheVariants as errors
use Rattle.litmus_reader.specs.Answer.{Answer, Accepted, Refused, Over}
use Rattle.litmus_reader.specs.Reading.{Reads}

-- what is answered of a text, unless memory ran out, has this property
abbrev pub IfAnswered : Result LitmusTest LitmusError → (Answer → Type 0) → Type 0
IfAnswered (Ok test) P = P (Accepted test)
IfAnswered (Err (errors.Bad kind line)) P = P (Refused (record { kind = kind; line = line }))
IfAnswered (Err (errors.Over limit)) P = P (Over limit)
IfAnswered (Err errors.Memory) P = Unit {0}

-- the error is right for the text: the text is read as what it says, or memory ran out
abbrev pub RefusesText : List ℕ → LitmusError → Type 0
RefusesText text (errors.Bad kind line) = Reads text (Refused (record { kind = kind; line = line }))
RefusesText text (errors.Over limit) = Reads text (Over limit)
RefusesText text errors.Memory = Unit {0}

-- each byte of the test's name and of its locations' names is ASCII
abbrev pub HasAsciiNames : LitmusTest → Type 0
HasAsciiNames test = IsAscii test.name × All IsAscii test.locations

-- law: a text that is read as a test names it and its locations in ASCII
abbrev pub NamesAreAscii : Type 0
NamesAreAscii = (text : List ℕ) (test : LitmusTest) → Reads text (Accepted test) → HasAsciiNames test
