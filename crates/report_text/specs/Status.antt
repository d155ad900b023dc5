-- The number of each status, and its line on the error sink. This project's own.
use Rattle.std.specs.Prelude.{ℕ, ◌<◌, ◌≤◌, ◌==◌, if◌then◌else◌, List, [], ◌++◌, codes, decimal}
use Rattle.report_text.specs.Words.{newline}
use Rattle.report_text.specs.declared.status.Over.{Over}
use Rattle.report_text.specs.declared.status.Over.TheVariants.{Input, Threads, Locations, Instructions, Atoms, Frames}
use Rattle.report_text.specs.declared.status.Status.{Status}
use Rattle.report_text.specs.declared.status.Status.TheVariants.{Whole, Memory, Usage, ReadFault, WriteFault, NotLitmus, OutsideProfile, Limit}

-- the number with which the program ends
abbrev pub status_number : Status → ℕ
status_number Whole = 0
status_number Memory = 1
status_number Usage = 2
status_number ReadFault = 3
status_number WriteFault = 4
status_number (NotLitmus kind line) = 5
status_number (OutsideProfile atom kind) = 6
status_number (Limit over) = 7

-- its kind, where it has one, is one of those below
abbrev pub HasKind : Status → Type 0
HasKind (NotLitmus kind line) = (0 < kind) × (kind ≤ 12)
HasKind (OutsideProfile atom kind) = (0 < kind) × (kind ≤ 8)
HasKind _ = Unit {0}

-- why a text is no litmus test, by the number of the kind
abbrev pub litmus_word : ℕ → List ℕ
litmus_word kind =
    if kind == 1 then codes "NotX86"
    else if kind == 2 then codes "Header"
    else if kind == 3 then codes "Initial"
    else if kind == 4 then codes "NonZeroInitial"
    else if kind == 5 then codes "Column"
    else if kind == 6 then codes "Instruction"
    else if kind == 7 then codes "NotConstant"
    else if kind == 8 then codes "Condition"
    else if kind == 9 then codes "Forall"
    else if kind == 10 then codes "MemoryCondition"
    else if kind == 11 then codes "Disjunction"
    else codes "Trailing"

-- why an atom is outside of the profile, by the number of the kind
abbrev pub profile_word : ℕ → List ℕ
profile_word kind =
    if kind == 1 then codes "NoSuchThread"
    else if kind == 2 then codes "NotLoaded"
    else if kind == 3 then codes "NoStore"
    else if kind == 4 then codes "Ambiguous"
    else if kind == 5 then codes "ZeroStored"
    else if kind == 6 then codes "NoWriter"
    else if kind == 7 then codes "SeveralWriters"
    else codes "OwnWriter"

-- the limit and its value
abbrev pub limit_text : Over → List ℕ
limit_text Input = codes "input 65536"
limit_text Threads = codes "threads 8"
limit_text Locations = codes "locations 16"
limit_text Instructions = codes "instructions 16"
limit_text Atoms = codes "atoms 32"
limit_text Frames = codes "frames 4294967296"

-- a place of the text, its number, and the kind with its word
unfoldable pub kind_text : List ℕ → ℕ → ℕ → List ℕ → List ℕ
kind_text place at kind word = place ++ decimal at ++ codes ": kind " ++ decimal kind ++ codes " " ++ word

-- what a status says
abbrev pub refusal_of : Status → List ℕ
refusal_of Whole = []
refusal_of Memory = codes "out of memory"
refusal_of Usage = codes "usage: perple COMMAND [N] [OPTIONS]"
refusal_of ReadFault = codes "reading failed"
refusal_of WriteFault = codes "writing failed"
refusal_of (NotLitmus kind line) = kind_text (codes "line ") line kind (litmus_word kind)
refusal_of (OutsideProfile atom kind) = kind_text (codes "atom ") atom kind (profile_word kind)
refusal_of (Limit over) = codes "limit " ++ limit_text over

-- the line of a status: none for the whole answer
unfoldable pub line_of : Status → List ℕ
line_of Whole = []
line_of status = codes "perple: " ++ refusal_of status ++ newline
