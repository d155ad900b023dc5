-- Runs of one iteration whose reads have given sources: a read takes the newest own store that waits in the store
-- buffer, and else what was last written to memory (x86-TSO: Sewell, Sarkar, Owens, Zappa Nardelli and Myreen, CACM
-- 2010). Which sources a thread hides from its own reads is this project's own way to say it.
use Rattle.std.specs.Prelude.{◌≡◌, ℕ, ◌==◌, ◌&&◌, Bool, true, false, nat_lt, Contains, Option, None, Some, List, option_map}
use Rattle.std.specs.List.{AllByRecursion as Each, list_any}
use Rattle.std.specs.Option.{option_map_or}
use Rattle.x86_subset.specs.Instr.{is_reading}
use Rattle.x86_subset.specs.Test.{LitmusTest}
use Rattle.tso_machine.specs.Event.{Event, is_drain}
use Rattle.tso_machine.specs.Log.{value_read}
use Rattle.tso_machine.specs.Run.{IsRunOf}
use Rattle.seq_conv.specs.Sequence.{Site, action_at, in_iteration, rank_of, site_location, stores_of}
use Rattle.outcome_conv.specs.Holds.{source_at}
use Rattle.verdict.specs.declared.node.Node.{Node}
use Rattle.verdict.specs.Edges.{site}
use Rattle.decision.specs.Hidden.{is_hidden_store}
use Rattle.once.specs.Edges.{Reading, writes_to}

-- whether a load or an exchange of x stands at a node
abbrev pub reads_of : LitmusTest → ℕ → Node → Bool
reads_of test x n = option_map_or is_reading (action_at test (site n)) false && (site_location test (site n) == x)

-- whether this can be the source of a read of x: a store or an exchange to x, or the initial value
abbrev pub is_source_to : LitmusTest → ℕ → Option Node → Bool
is_source_to test x None = true
is_source_to test x (Some s) = writes_to test x s

-- a read of its location, and a store to it or the initial value
abbrev pub IsReading : LitmusTest → Reading → Type 0
IsReading test r = (reads_of test r.location r.reader ≡ true) × (is_source_to test r.location r.source ≡ true)

abbrev pub AreReadings : LitmusTest → List Reading → Type 0
AreReadings test readings = Each (IsReading test) readings

-- whether one of these stores is of thread t and stands before its place q
abbrev pub is_own_earlier : ℕ → ℕ → Site → Bool
is_own_earlier t q s = (s.thread == t) && nat_lt s.place q

-- whether the reader's own stores hide the source from the read: it is one of them and not the newest before the read,
-- or it is the initial value and one stands before the read
abbrev pub is_hidden_by : LitmusTest → Reading → Option Node → Bool
is_hidden_by test r None = list_any (is_own_earlier r.reader.thread r.reader.place) (stores_of test r.location)
is_hidden_by test r (Some s) =
    (s.thread == r.reader.thread)
    && is_hidden_store r.reader.thread s.place r.reader.place (stores_of test r.location)

abbrev pub is_hidden_source : LitmusTest → Reading → Bool
is_hidden_source test r = is_hidden_by test r r.source

-- no source is hidden
abbrev pub HidesNone : LitmusTest → List Reading → Type 0
HidesNone test readings = list_any (is_hidden_source test) readings ≡ false

-- the read takes its value from the source, in iteration 0
abbrev pub HasSource : LitmusTest → List Event → Reading → Type 0
HasSource test run r =
    source_at test (site r.reader) 0 run ≡ option_map (λ (s : Node). in_iteration (site s) 0) r.source

-- a run of one iteration in which each read takes its value from its source
abbrev pub HasSources : LitmusTest → List Reading → List Event → Type 0
HasSources test readings run = IsRunOf test 1 run × Each (HasSource test run) readings

-- the value that is read, in one iteration: the rank of the source, or 0
abbrev pub rank_wanted : LitmusTest → ℕ → Option Node → ℕ
rank_wanted test x None = 0
rank_wanted test x (Some s) = rank_of test x (site s)

abbrev pub wanted : LitmusTest → Reading → ℕ
wanted test r = rank_wanted test r.location r.source

-- an event of a reader reads this value
abbrev pub IsWanted : LitmusTest → List Reading → Event → Type 0
IsWanted test readings e =
    (r : Reading) → Contains readings r → is_drain e ≡ false → e.thread ≡ r.reader.thread
    → e.place ≡ r.reader.place → (v : ℕ) → value_read e ≡ Some v → v ≡ wanted test r

-- each event of a reader does
abbrev pub HasValues : LitmusTest → List Reading → List Event → Type 0
HasValues test readings run = Each (IsWanted test readings) run
