-- How a whole text is written: in turns, each of which hands the sink all bytes that are not yet appended. This
-- project's own.
use Rattle.std.specs.Prelude.{ℕ, ◌<◌, List, [], length, drop, MatchResult}
use Rattle.std.specs.declared.result.Result.{Result}
use Rattle.std.specs.declared.result.Result.TheVariants.{Ok, Err}

-- Turns lead a sink from one state to another, and leave a rest of the bytes. `goes` says what one call does.
pub data Turns {O E : Type 0} (goes : O → List ℕ → Result ℕ E → O → Type 0)
    : O → List ℕ → O → List ℕ → Type 0 where
  no_turn : (sink : O) (bytes : List ℕ) → Turns goes sink bytes sink bytes
  one_more : (old mid new : O) (bytes rest : List ℕ) (n : ℕ) → Turns goes old bytes mid rest → 0 < length rest
      → goes mid rest (Ok n) new → Turns goes old bytes new (drop n rest)

-- after some turns, one more failed
pub record EndsInFault {O E : Type 0} (goes : O → List ℕ → Result ℕ E → O → Type 0) (old : O) (bytes : List ℕ)
    (error : E) (new : O) : Type 0 where
  pub mid : O
  pub rest : List ℕ
  pub turns : Turns goes old bytes mid rest
  pub some : 0 < length rest
  pub fault : goes mid rest (Err error) new

-- turns until no byte is left, or until one fails
abbrev pub WritesInTurns : {O T E : Type 0} → (O → List ℕ → Result ℕ E → O → Type 0) → O → List ℕ → Result T E → O
    → Type 0
WritesInTurns goes old bytes result new =
    MatchResult result (λ _. Turns goes old bytes new []) (λ e. EndsInFault goes old bytes e new)
