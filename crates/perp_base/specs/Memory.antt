-- What contracts see of a source and of a sink in memory: whole states, and each call's exact answer. This project's
-- own.
use Rattle.std.specs.Prelude.{◌≡◌, ℕ, ◌+◌, ◌-◌, List, [], ◌++◌, length, take, drop, min, MatchResult}
use Rattle.std.specs.declared.result.Result.{Result}
use Rattle.perp_base.specs.Causes.{next_count}

-- the bytes left, how many a call gives at most, the numbers of the calls that fail, the number of the last call (it
-- stands still at the last value of its type), how many calls failed and how many were made
pub record SourceState : Type 0 where
  pub left : List ℕ
  pub most : ℕ
  pub failing : List ℕ
  pub number : ℕ
  pub faults : ℕ
  pub calls : ℕ

-- the bytes that were taken, how many more there is room for, and as above
pub record SinkState : Type 0 where
  pub written : List ℕ
  pub room : ℕ
  pub most : ℕ
  pub failing : List ℕ
  pub number : ℕ
  pub faults : ℕ
  pub calls : ℕ

-- a source of these bytes before its first call
abbrev pub new_source : List ℕ → ℕ → List ℕ → SourceState
new_source bytes most failing =
    record { left = bytes; most = most; failing = failing; number = 0; faults = 0; calls = 0 }

-- a sink with this room before its first call
abbrev pub new_sink : ℕ → ℕ → List ℕ → SinkState
new_sink room most failing =
    record { written = []; room = room; most = most; failing = failing; number = 0; faults = 0; calls = 0 }

-- how many bytes the next call gives into a buffer of this length, if it does not fail
abbrev pub next_given : SourceState → ℕ → ℕ
next_given s len = min (min s.most len) (length s.left)

-- how many bytes of a piece of this length the next call takes, if it does not fail
abbrev pub next_taken : SinkState → ℕ → ℕ
next_taken s len = min (min s.most len) s.room

-- the source after a call
abbrev pub SourceGoes : {E : Type 0} → SourceState → Result ℕ E → SourceState → Type 0
SourceGoes old result new =
    let number = next_count old.number in
    let calls = old.calls + 1 in
    MatchResult result (λ n. new ≡ record old { left = drop n old.left; number = number; calls = calls })
    (λ _. new ≡ record old { number = number; faults = next_count old.faults; calls = calls })

-- the sink after a call with this piece
abbrev pub SinkGoes : {E : Type 0} → SinkState → List ℕ → Result ℕ E → SinkState → Type 0
SinkGoes old piece result new =
    let number = next_count old.number in
    let calls = old.calls + 1 in
    MatchResult result (λ n. new ≡ record old {
      written = old.written ++ take n piece;
      room = old.room - n;
      number = number;
      calls = calls;
    })
    (λ _. new ≡ record old { number = number; faults = next_count old.faults; calls = calls })
