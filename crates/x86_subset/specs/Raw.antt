-- Cells as code has them. This project's own.
use Rattle.std.specs.Prelude.{ℕ, ◌-◌, List, take, drop}
use Rattle.x86_subset.specs.declared.form.Span.{Span}
use Rattle.x86_subset.specs.declared.cell.Raw.{Raw}
use Rattle.x86_subset.specs.declared.cell.Raw.TheVariants as raw
use Rattle.x86_subset.specs.Cell.{Form, Blank, Fence, StoreNumber, StoreRegister, Load, Constant, Exchange}

-- the bytes of a span of the text
abbrev pub bytes_at : List ℕ → Span → List ℕ
bytes_at text s = take (s.to - s.from) (drop s.from text)

-- what a cell says, with its location by bytes
abbrev pub form_of : List ℕ → Raw → Form
form_of text raw.Blank = Blank
form_of text raw.Fence = Fence
form_of text (raw.StoreNumber x n) = StoreNumber (bytes_at text x) n
form_of text (raw.StoreReg x r) = StoreRegister (bytes_at text x) r
form_of text (raw.Load r x) = Load r (bytes_at text x)
form_of text (raw.Constant r n) = Constant r n
form_of text (raw.Exchange x r) = Exchange (bytes_at text x) r
