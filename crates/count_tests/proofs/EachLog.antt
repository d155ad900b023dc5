-- Logs of one column are whole, and what the tests of rings ask of them is what counts ask.
use Rattle.std.proofs.Common.{◌≡◌, ℕ, ◌*◌, List, [], All, get_or, sym, ap, ◌∙◌, arith}
use Rattle.load_log.specs.Values.{AreWhole, Values}
use Rattle.outcome_conv.specs.declared.cond.Cond.{Cond}
use Rattle.frame_count.specs.Count.{IsOfLogs}
use Rattle.count_tests.specs.RingLogs.{HasEach, IsOfEach}

pub whole_each : (threads n : ℕ) (logs : List Values) → HasEach threads n logs → AreWhole n logs
whole_each threads n logs t = λ i d l.
    let h = t.1 i d l in
    let one : n ≡ n * 1 = omega arith in
    h.1 ∙ one ∙ ap (λ k. n * k) (sym h.0)

pub names_each : (threads n : ℕ) (logs : List Values) (conds : List Cond) → HasEach threads n logs
    → All (IsOfEach threads) conds → All (IsOfLogs logs) conds
names_each threads n logs conds t h = λ i d l.
    let c = h i d l in
    let r = c.reader in
    let w = c.writer in
    let k = c.column in
    let long = t.0 in
    let log = t.1 (get_or conds i d).reader (record { columns = 0; values = []; spare = 0 }) (omega arith) in
    let same = log.0 in
    record { reader = omega arith; writer = omega arith; column = omega arith }
