-- Logs of one column, one for each thread, and conditions over them: what the tests of rings count over. This project's
-- own.
use Rattle.std.specs.Prelude.{◌≡◌, ℕ, ◌<◌, List, All, length}
use Rattle.load_log.specs.Values.{Values}
use Rattle.outcome_conv.specs.declared.cond.Cond.{Cond}

-- so many logs of n iterations
abbrev pub HasEach : ℕ → ℕ → List Values → Type 0
HasEach threads n logs =
    (length logs ≡ threads) × All (λ log. (log.columns ≡ 1) × (length log.values ≡ n)) logs

-- a condition over so many such logs
pub record IsOfEach (threads : ℕ) (c : Cond) : Type 0 where
  pub reader : c.reader < threads
  pub writer : c.writer < threads
  pub column : c.column < 1
