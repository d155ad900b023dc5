-- The threads as code has them while it reads. This project's own.
use Rattle.std.specs.Prelude.{◌≡◌, ◌==◌, ℕ, Bool, List, map, Result, Ok, Err}
use Rattle.x86_subset.specs.declared.form.Span.{Span}
use Rattle.x86_subset.specs.declared.token.Token.{Token}
use Rattle.x86_subset.specs.declared.token.TokenKind.TheVariants.{Bar}
use Rattle.x86_subset.specs.Form.{kind_code}
use Rattle.x86_subset.specs.Cell.{Threads}
use Rattle.x86_subset.specs.Raw.{bytes_at}
use Rattle.litmus_reader.specs.declared.kind.LitmusError.{LitmusError}
use Rattle.litmus_reader.specs.declared.rows.Sheet.{Sheet}
use Rattle.litmus_reader.specs.Answer.{Refusal}
use Rattle.litmus_reader.specs.Outcome.{Refuses}

-- the names that spans of the text name
abbrev pub names : List ℕ → List Span → List (List ℕ)
names text xs = map (bytes_at text) xs

-- the threads that a sheet stands for
abbrev pub sheet_of : List ℕ → Sheet → Threads
sheet_of text s = record { locations = names text s.locations.items; bodies = s.bodies.items }

-- what a function leaves is what is read, unless memory ran out
abbrev pub Leaves : {Y : Type 0} → Result (Unit {0}) LitmusError → Y → Result Y Refusal → Type 0
Leaves (Ok u) left read = read ≡ Ok left
Leaves (Err e) left read = Refuses e read

-- the token is a `|`
abbrev pub is_bar : Token → Bool
is_bar t = kind_code t.kind == kind_code Bar
