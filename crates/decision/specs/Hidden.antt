-- Which stores of its own a thread cannot read: a read takes the newest own store that waits in the store buffer, and
-- else what was last written to memory (x86-TSO: Sewell, Sarkar, Owens, Zappa Nardelli and Myreen, CACM 2010). The
-- words are this project's own.
use Rattle.std.specs.Prelude.{ℕ, ◌==◌, ◌&&◌, ◌||◌, Bool, nat_le, nat_lt, Option, None, Some, List, if◌then◌else◌, slice_get}
use Rattle.std.specs.List.{filter_map, list_any}
use Rattle.std.specs.Option.{is_some}
use Rattle.x86_subset.specs.Test.{LitmusTest}
use Rattle.seq_conv.specs.Sequence.{Site, stores_of}
use Rattle.profile_check.specs.Profile.{CheckedTest}
use Rattle.profile_check.specs.declared.kind.AtomKind.{AtomKind}
use Rattle.profile_check.specs.declared.kind.AtomKind.TheVariants.{Rf, Fr, Exact}
use Rattle.outcome_conv.specs.Holds.{location_read, reading_site}
use Rattle.verdict.specs.declared.node.Node.{Node}
use Rattle.verdict.specs.Edges.{kinds_in, node}
use Rattle.decision.specs.declared.hidden.HiddenRead.{HiddenRead}

-- whether a store stands in thread t, between its places p and q
abbrev pub is_own_between : ℕ → ℕ → ℕ → Site → Bool
is_own_between t p q s = (s.thread == t) && nat_lt p s.place && nat_lt s.place q

-- whether thread t's store at place p is hidden from its read at place q: it does not stand before the read, or one of
-- these stores of the thread stands between them
abbrev pub is_hidden_store : ℕ → ℕ → ℕ → List Site → Bool
is_hidden_store t p q stores = nat_le q p || list_any (is_own_between t p q) stores

-- the store and the read, where the store is the reader's own and hidden from the read by the stores of its location
abbrev pub hidden_from : Node → Node → List Site → Option HiddenRead
hidden_from read store stores =
    if (store.thread == read.thread) && is_hidden_store read.thread store.place read.place stores
    then Some (record { store = store; read = read }) else None

-- the hidden store that an rf atom names, with its read
abbrev pub hidden_by : LitmusTest → AtomKind → Option HiddenRead
hidden_by test (Rf reader column writer place) =
    hidden_from (node (reading_site test reader column)) (record { thread = writer; place = place })
    (stores_of test (location_read test reader column))
hidden_by test (Fr reader column writer) = None
hidden_by test (Exact reader column writer place) = None

-- whether an atom names a hidden store
abbrev pub is_hidden : LitmusTest → AtomKind → Bool
is_hidden test kind = is_some (hidden_by test kind)

-- the first hidden store that an atom of conjunction c names, with its read
abbrev pub hidden_in : CheckedTest → ℕ → Option HiddenRead
hidden_in checked c = slice_get (filter_map (hidden_by checked.test) (kinds_in checked c)) 0
