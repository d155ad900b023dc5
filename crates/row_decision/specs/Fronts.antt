-- What a decision says of the front part of a row. This project's own.
use Rattle.std.specs.Prelude.{◌≡◌, ℕ, ◌≤◌, ◌==◌, Bool, Option, None, Some, List, [], ◌∷◌, ◌++◌, filter, map, if◌then◌else◌}
use Rattle.x86_subset.specs.Test.{LitmusTest}
use Rattle.seq_conv.specs.Sequence.{Site, stores_of}
use Rattle.verdict.specs.declared.node.Node.{Node}
use Rattle.verdict.specs.Edges.{node}
use Rattle.once.specs.Edges.{Reading}
use Rattle.outcome_rows.specs.Rows.{IsRow, ReadValues, Register, text_value}
use Rattle.row_decision.specs.Decided.{HasRun}
use Rattle.row_decision.specs.declared.front.Register.{Register as RegisterOf}
use Rattle.row_decision.specs.declared.front.Front.{Front}
use Rattle.row_decision.specs.declared.front.Front.TheVariants.{Possible, Impossible, GaveUp}
use Rattle.row_decision.specs.declared.front.FrontAnswer.{FrontAnswer}

-- what the code calls a register
abbrev pub register_seen : RegisterOf → Register
register_seen r = record { thread = r.thread; reg = r.reg }

-- ---- sources

abbrev pub writes_value : LitmusTest → ℕ → Site → Bool
writes_value test v s = text_value test (Some (node s)) == v

abbrev pub store_source : Site → Option Node
store_source s = Some (node s)

abbrev pub initial_source : ℕ → List (Option Node)
initial_source v = if v == 0 then (None ∷ []) else []

-- the sources of a read of x that have value v
abbrev pub sources_with : LitmusTest → ℕ → ℕ → List (Option Node)
sources_with test x v = initial_source v ++ map store_source (filter (writes_value test v) (stores_of test x))

-- ---- answers

-- of readings: a run has all sources, none has, or all the steps were taken
abbrev pub IsAnswerTo : LitmusTest → List Reading → ℕ → ℕ → Front → Type 0
IsAnswerTo test readings most steps Possible = HasRun test readings
IsAnswerTo test readings most steps Impossible = HasRun test readings → ⊥
IsAnswerTo test readings most steps GaveUp = steps ≡ most

-- of readings and values of further registers: some readings that have these values have a run with them, none have, or
-- all the steps were taken
abbrev pub IsFrontFrom : LitmusTest → List Register → List ℕ → List Reading → ℕ → ℕ → Front → Type 0
IsFrontFrom test registers values readings most steps Possible =
    (rest : List Reading) × ReadValues test registers values rest × HasRun test (readings ++ rest)
IsFrontFrom test registers values readings most steps Impossible =
    (rest : List Reading) → ReadValues test registers values rest → HasRun test (readings ++ rest) → ⊥
IsFrontFrom test registers values readings most steps GaveUp = steps ≡ most

-- of a row: an execution of the test as it is written ends with it, none does, or all the steps were taken
abbrev pub IsFrontOf : LitmusTest → List Register → List ℕ → ℕ → ℕ → Front → Type 0
IsFrontOf test registers values most steps Possible = IsRow test registers values
IsFrontOf test registers values most steps Impossible = IsRow test registers values → ⊥
IsFrontOf test registers values most steps GaveUp = steps ≡ most

pub record IsFront (test : LitmusTest) (registers : List Register) (values : List ℕ) (most : ℕ) (a : FrontAnswer)
    : Type 0 where
  pub within : a.steps ≤ most
  pub front : IsFrontOf test registers values most a.steps a.front
