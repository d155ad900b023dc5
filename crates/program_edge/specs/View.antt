-- What a call is given and what it writes, as contracts see it. This project's own.
use Rattle.std.specs.Prelude.{◌≡◌, ◌⊎◌, ℕ, List, String, map, string_bytes}
use Rattle.std.specs.Io.KnownBytes.{Appends}
use Rattle.perp_base.specs.Causes.{Rose}
use Rattle.perp_base.specs.Bytes.{AppendsPart}
use Rattle.perp_base.specs.View.{View}
use Rattle.report_text.specs.declared.status.Status.{Status}
use Rattle.report_text.specs.declared.status.Status.TheVariants.{Whole, WriteFault}

-- the words of a command line, as lists of bytes
abbrev pub bytes_of : {A : Type 0} → List (String A) → List (List ℕ)
bytes_of words = map string_bytes words

-- all of the bytes came onto the sink, or its count of faults rose and a part of them did
abbrev pub Wrote : View → View → List ℕ → Type 0
Wrote old new bytes = Appends old.bytes new.bytes bytes
    ⊎ (Rose old.faults new.faults × AppendsPart old.bytes new.bytes bytes)

-- the status says which of the two it was
abbrev pub WroteAs : Status → View → View → List ℕ → Type 0
WroteAs status old new bytes = ((status ≡ Whole) × Appends old.bytes new.bytes bytes)
    ⊎ ((status ≡ WriteFault) × Rose old.faults new.faults × AppendsPart old.bytes new.bytes bytes)
