-- Two logs of as many columns, and conditions over them: what the tests count over. This project's own.
use Rattle.std.specs.Prelude.{◌≡◌, ℕ, ◌*◌, ◌<◌, List, All, length}
use Rattle.load_log.specs.Values.{Values}
use Rattle.outcome_conv.specs.declared.cond.Cond.{Cond}

-- two logs of n iterations with so many columns
abbrev pub HasTwo : ℕ → ℕ → List Values → Type 0
HasTwo n columns logs =
    (length logs ≡ 2) × All (λ log. (log.columns ≡ columns) × (length log.values ≡ n * columns)) logs

-- a condition over two such logs
pub record IsOfTwo (columns : ℕ) (c : Cond) : Type 0 where
  pub reader : c.reader < 2
  pub writer : c.writer < 2
  pub column : c.column < columns
