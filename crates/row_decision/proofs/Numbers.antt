-- The nodes of a test have numbers.
use Rattle.std.proofs.Common.{◌≡◌, ℕ, ◌<◌, ◌+◌, ◌*◌, ◌/◌, ◌%◌, Some, List, [], ◌∷◌, length, map, filter, true, sym, arith, subst, Option, None, IfSome, unwrap_or, option_and_then}
use Rattle.std.specs.List.{AllByRecursion as Each}
use Rattle.outcome_conv.proofs.Agree.{thread_below}
use Rattle.std.proofs.lemmas.Option.{slice_get_within}
use Rattle.std.proofs.lemmas.List.Elements.{recursion_from_All}
use Rattle.x86_subset.specs.Shape.{IsLocated, IsTest}
use Rattle.x86_subset.specs.Instr.{is_reading, location_of}
use Rattle.x86_subset.specs.declared.instr.Instr.TheVariants.{Store, Load, Fence, Exchange}
use Rattle.run_witness.proofs.Owners.{located_by}
use Rattle.x86_subset.specs.Test.{Code, LitmusTest, body_of}
use Rattle.x86_subset.specs.declared.instr.Instr.{Instr}
use Rattle.seq_conv.specs.Sequence.{Site, action_at, stores_of}
use Rattle.seq_conv.proofs.Numbering.{body_short}
use Rattle.seq_conv.proofs.Stores.{IsStoreOf, stores_are}
use Rattle.perp_base.proofs.Lists.{each_append, each_filter}
use Rattle.verdict.specs.declared.node.Node.{Node}
use Rattle.verdict.specs.Edges.{is_node, node, site}
use Rattle.verdict.proofs.InOrder.{node_tells}
use Rattle.decision.proofs.Blockers.{node_from, reading_access, storing_access}
use Rattle.run_witness.proofs.Reading.{store_stores}
use Rattle.once.specs.Edges.{Choice, Reading, choice_of, choices_among, choices_by, choices_of, is_third}
use Rattle.once.specs.Sources.{AreReadings, IsReading, is_source_to, reads_of}
use Rattle.once.proofs.Drawing.{stores_node, writes_tells}
use Rattle.once.proofs.Showing.{reads_tells}
use Rattle.row_decision.specs.Seen.{node_at, number_of}

-- a node that has a number of its own
pub record IsSmall (n : Node) : Type 0 where
  pub thread : n.thread < 8
  pub place : n.place < 16

pub small_at : (test : LitmusTest) (s : Site) (a : Instr) → IsTest test → action_at test s ≡ Some a → IsSmall (node s)
small_at test s a is h =
    let t = thread_below test s.thread s.place a h in
    let p = slice_get_within (body_of test s.thread) s.place a h in
    let few = is.few_threads in
    let short = body_short test s.thread is in
    record { thread = omega arith; place = omega arith }

pub small_node : (test : LitmusTest) (n : Node) → IsTest test → is_node test (site n) ≡ true → IsSmall n
small_node test n is h = let k = node_tells test (site n) h in small_at test (site n) k.action is k.stands

pub node_number : (n : Node) → IsSmall n → node_at (number_of n) ≡ n
node_number n s =
    let p = s.place in
    let e : (n.thread * 16 + n.place) / 16 ≡ n.thread = omega arith in
    let f : (n.thread * 16 + n.place) % 16 ≡ n.place = omega arith in
    (λ i. record { thread = e i; place = f i })

pub number_node : (k : ℕ) → number_of (node_at k) ≡ k
number_node k = omega arith

pub node_below : (test : LitmusTest) (k : ℕ) → IsTest test → is_node test (site (node_at k)) ≡ true → k < 128
node_below test k is h = let s = (small_node test (node_at k) is h).thread in omega arith

-- the nodes of choices

pub record AreNodes (test : LitmusTest) (c : Choice) : Type 0 where
  pub reader : is_node test (site c.reader) ≡ true
  pub source : is_node test (site c.source) ≡ true
  pub other : is_node test (site c.other) ≡ true

pub reader_node : (test : LitmusTest) (r : Reading) → IsReading test r → is_node test (site r.reader) ≡ true
reader_node test r is =
    let k = reads_tells test r.location r.reader is.0 in
    node_from test (site r.reader) k.action k.stands (reading_access k.action k.reading)

nodes_sites : (test : LitmusTest) (reader source : Node) → is_node test (site reader) ≡ true
    → is_node test (site source) ≡ true → (ss : List Site) → Each (λ (s : Site). is_node test s ≡ true) ss
    → Each (AreNodes test) (map (choice_of reader source) ss)
nodes_sites test reader source r s [] h = tt
nodes_sites test reader source r s (x ∷ xs) h = (
  record { reader = r; source = s; other = h.0 },
  nodes_sites test reader source r s xs h.1,
)

stores_nodes : (test : LitmusTest) (x : ℕ) (ss : List Site) → Each (IsStoreOf test x) ss
    → Each (λ (s : Site). is_node test s ≡ true) ss
stores_nodes test x [] h = tt
stores_nodes test x (s ∷ ss) h = (
  node_from test s h.0.action h.0.stands (storing_access h.0.action (store_stores x h.0.action h.0.stores)),
  stores_nodes test x ss h.1,
)

nodes_by : (test : LitmusTest) (r : Reading) (o : Option Node) → is_node test (site r.reader) ≡ true
    → is_source_to test r.location o ≡ true → Each (AreNodes test) (choices_by test r o)
nodes_by test r None rn h = tt
nodes_by test r (Some s) rn h =
    let stores = stores_of test r.location in
    nodes_sites test r.reader s rn (stores_node test r.location s (writes_tells test r.location s h))
    (filter (is_third r.reader s) stores)
    (each_filter (λ (s : Site). is_node test s ≡ true) (is_third r.reader s) stores
    (stores_nodes test r.location stores (stores_are test r.location)))

pub nodes_among : (test : LitmusTest) (readings : List Reading) → AreReadings test readings
    → Each (AreNodes test) (choices_among test readings)
nodes_among test [] are = tt
nodes_among test (r ∷ rs) are =
    each_append (AreNodes test) (choices_of test r) (choices_among test rs)
    (nodes_by test r r.source (reader_node test r are.0) are.0.1) (nodes_among test rs are.1)

-- locations

location_read : (a : Instr) (m : ℕ) → is_reading a ≡ true → IfSome (location_of a) (λ x. x < m)
    → unwrap_or (location_of a) 0 < m
location_read (Store loc written) m r l = cc
location_read (Load reg loc) m r l = l
location_read Fence m r l = cc
location_read (Exchange loc written reg) m r l = l

pub location_below : (test : LitmusTest) (x : ℕ) (n : Node) → IsTest test → reads_of test x n ≡ true
    → x < length test.locations
location_below test x n is h =
    let k = reads_tells test x n h in
    let m = length test.locations in
    let l = located_by m test.bodies n.thread n.place k.action
    (recursion_from_All (λ (code : Code). IsLocated m code.actions) test.bodies is.located) k.stands in
    let P : ℕ → Type 0 = λ z. z < m in
    let Q : Option Instr → Type 0 = λ o. unwrap_or (option_and_then location_of o) 0 < m in
    subst P k.location (subst Q (sym k.stands) (location_read k.action m k.reading l))
