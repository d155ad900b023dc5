-- A run of one iteration along edges between the nodes of a test, or a cycle: the case of one iteration of runs along
-- an order.
use Rattle.std.proofs.Common.{◌≡◌, ℕ, ◌+◌, ◌*◌, ◌<◌, ◌==◌, ◌&&◌, Bool, true, Some, List, [], ◌∷◌, length, map, refl, sym, ap, ◌∙◌, arith, subst, inl, inr, ◌⊎◌, All, eq-eqb, zero-mul, zero-add, mul-zero}
use Rattle.std.proofs.lemmas.Bool.{and_from, and_parts, eqb-true}
use Rattle.std.proofs.lemmas.List.Elements.{recursion_from_All}
use Rattle.std.specs.List.{AllByRecursion as Each, list_any}
use Rattle.x86_subset.specs.Test.{LitmusTest, body_of}
use Rattle.tso_machine.specs.Event.{Event}
use Rattle.tso_machine.specs.Part.{Slot}
use Rattle.tso_machine.specs.Run.{IsRunOf}
use Rattle.tso_machine.proofs.Parts.{deed_does}
use Rattle.seq_conv.specs.Sequence.{action_at, rank_of, store_count, value_of}
use Rattle.perp_base.proofs.Lists.{Among, among_from_contains, each_among, each_from_among}
use Rattle.verdict.specs.declared.node.Node.{Node}
use Rattle.verdict.specs.Edges.{is_barred, is_barrier, is_cycle_of, is_path, same_node, site}
use Rattle.verdict.proofs.Finds.{any_among, any_found}
use Rattle.verdict.proofs.Walks.{same_node_self, same_node_tells}
use Rattle.run_witness.specs.Marks.{index_of}
use Rattle.decision.proofs.Asks.{loop_slot}
use Rattle.decision.proofs.Blockers.{reading_access, storing_access}
use Rattle.decision.proofs.Nexts.{slot_action}
use Rattle.decision.proofs.Waits.{any_between, keeps_reading, keeps_storing}
use Rattle.run_orders.specs.Orders.{Spot}
use Rattle.run_orders.specs.Orders as orders
use Rattle.run_orders.proofs.Making.{run_along_lem}
use Rattle.once.specs.Edges.{Reading}
use Rattle.once.specs.Sources.{IsWanted, wanted}
use Rattle.once.proofs.Draws.{Afar, Draws, FromStart, FromStore, KeepsEdges, Near, StoresAt}

abbrev pub Made : LitmusTest → List Reading → Type 0
Made test readings = (run : List Event) × IsRunOf test 1 run × Each (IsWanted test readings) run

abbrev pub Closed : (Node → Node → Bool) → Type 0
Closed edge = (cycle : List Node) × (is_cycle_of edge cycle ≡ true)

-- Nodes as places of a loop of one iteration.

abbrev pub at_node : Spot → Node
at_node a = record { thread = a.thread; place = a.index }

abbrev pub spot_at : Node → Spot
spot_at n = record { thread = n.thread; index = n.place }

abbrev pub between : (Node → Node → Bool) → Spot → Spot → Bool
between edge a b = edge (at_node a) (at_node b)

action_in : (test : LitmusTest) (a : Spot) (s : Slot) → orders.slot_in test 1 a ≡ Some s
    → action_at test (site (at_node a)) ≡ Some s.action
action_in test a s h = slot_action test a.thread a.index s h

pub order_between : (test : LitmusTest) (edge : Node → Node → Bool) → KeepsEdges test edge
    → orders.KeepsOrder test 1 (between edge)
order_between test edge kept = record {
  reading = λ t p q a b l at bt r acc. kept t p q a.action b.action l (slot_action test t p a at)
      (slot_action test t q b bt) (reading_access a.action r) acc
      (keeps_reading (is_barred (body_of test t) p q) a.action b.action r);
  storing = λ t p q a b l at bt v w. kept t p q a.action b.action l (slot_action test t p a at)
      (slot_action test t q b bt) (storing_access a.action v) (storing_access b.action w)
      (keeps_storing (is_barred (body_of test t) p q) a.action b.action v (inl w));
  barred = λ t p i q a c b l m at ct bt v w acc.
      let k : p < q = omega arith in
      kept t p q a.action b.action k (slot_action test t p a at) (slot_action test t q b bt)
      (storing_access a.action v) acc
      (keeps_storing (is_barred (body_of test t) p q) a.action b.action v
      (inr (any_between is_barrier (body_of test t) (p + 1) q i c.action (slot_action test t i c ct) w
      (omega arith) m)));
}

stores_to : (test : LitmusTest) (x : ℕ) (a : Spot) → orders.StoresAt test 1 x a → StoresAt test x (at_node a)
stores_to test x a w = record { action = w.slot.action; stands = action_in test a w.slot w.stands; stores = w.stores }

rank_is : (test : LitmusTest) (x : ℕ) (n : Node) → value_of test x (site n) 0 ≡ rank_of test x (site n)
rank_is test x n = ap (λ z. z + rank_of test x (site n)) (mul-zero (store_count test x))
    ∙ zero-add (rank_of test x (site n))

start_between : (test : LitmusTest) (edge : Node → Node → Bool) (x : ℕ) (r : Node) → FromStart test edge x r
    → orders.FromStart test 1 (between edge) x (spot_at r)
start_between test edge x r f = record {
  after = λ o w ne. f.after (at_node o) (stores_to test x o w) (λ q. ne (ap spot_at q));
  other = λ o w e l. f.other (at_node o) (stores_to test x o w) e l;
}

store_between : (test : LitmusTest) (edge : Node → Node → Bool) (x : ℕ) (r : Node) → (f : FromStore test edge x r)
    → (k : orders.FromStore test 1 (between edge) x (spot_at r))
    × (orders.value_at test 1 x k.source k.stores ≡ rank_of test x (site f.source))
store_between test edge x r f = (
  record {
    source = spot_at f.source;
    stores = record {
      slot = record { iteration = 0; place = f.source.place; action = f.stores.action };
      stands = loop_slot test f.source.thread f.source.place f.stores.action f.stores.stands;
      stores = f.stores.stores;
    };
    either = λ o w ns nr. f.either (at_node o) (stores_to test x o w) (λ q. ns (ap spot_at q)) (λ q. nr (ap spot_at q));
    place = go f.place;
  },
  rank_is test x f.source,
)
  where
    go : Afar test edge x r f.source ⊎ Near test x r f.source
        → orders.Afar test 1 (between edge) x (spot_at r) (spot_at f.source)
        ⊎ orders.Near test 1 x (spot_at r) (spot_at f.source)
    go (inl a) =
        inl (record { leads = a.leads; behind = λ o w e l. a.behind (at_node o) (stores_to test x o w) e l })
    go (inr a) =
        inr (record {
          own = a.own;
          before = a.before;
          newest = λ o w e l. a.newest (at_node o) (stores_to test x o w) e l;
        })

-- what the readings want
abbrev pub wants_at : LitmusTest → Spot → ℕ → Reading → Bool
wants_at test a v q = same_node q.reader (at_node a) && (v == wanted test q)

abbrev pub wanted_by : LitmusTest → List Reading → Spot → ℕ → Bool
wanted_by test readings a v = list_any (wants_at test a v) readings

draws_between : (test : LitmusTest) (edge : Node → Node → Bool) (q : Reading) → (d : Draws test edge q) → (v : ℕ)
    → v ≡ wanted test q → orders.Draws test 1 (between edge) (spot_at d.reader) v
draws_between test edge q d v e = record {
  slot = record { iteration = 0; place = d.reader.place; action = d.action };
  stands = loop_slot test d.reader.thread d.reader.place d.action d.stands;
  reading = d.reading;
  location = d.location;
  reads = d.reads;
  source = go d.source;
}
  where
    go : (FromStart test edge d.location d.reader × (wanted test q ≡ 0))
        ⊎ ((f : FromStore test edge d.location d.reader)
        × (wanted test q ≡ rank_of test d.location (site f.source)))
        → (orders.FromStart test 1 (between edge) d.location (spot_at d.reader) × (v ≡ 0))
        ⊎ ((f : orders.FromStore test 1 (between edge) d.location (spot_at d.reader))
        × (v ≡ orders.value_at test 1 d.location f.source f.stores))
    go (inl f) = inl (start_between test edge d.location d.reader f.0, e ∙ f.1)
    go (inr f) =
        let k = store_between test edge d.location d.reader f.0 in inr (k.0, e ∙ f.1 ∙ sym k.1)

pub all_draw : (test : LitmusTest) (readings : List Reading) (edge : Node → Node → Bool) → Each (Draws test edge) readings
    → (a : Spot) (v : ℕ) → wanted_by test readings a v ≡ true → orders.Draws test 1 (between edge) a v
all_draw test readings edge draws a v h =
    let f = any_found (wants_at test a v) readings h in
    let p = and_parts (same_node f.here.reader (at_node a)) (v == wanted test f.here) f.passes in
    let d = each_among (Draws test edge) f.here readings f.among draws in
    let is : d.reader ≡ at_node a = sym d.is ∙ same_node_tells f.here.reader (at_node a) p.0 in
    let P : Node → Type 0 = λ n. orders.Draws test 1 (between edge) (spot_at n) v in
    subst P is (draws_between test edge f.here d v (eqb-true v (wanted test f.here) p.1))

-- what is wanted of an event
wants_back : (test : LitmusTest) (readings : List Reading) (run : List Event) (e : Event) → IsRunOf test 1 run
    → Among e run → orders.IsWanted test (wanted_by test readings) e → IsWanted test readings e
wants_back test readings run e r am h q c d t p v value =
    let a = orders.spot_of test e in
    let early : e.iteration < 1 = (deed_does test 1 run e r am d).early in
    let zero_is : e.iteration ≡ 0 = omega arith in
    let index : index_of test e ≡ e.place = ap (λ z. z * length (body_of test e.thread) + e.place) zero_is
    ∙ ap (λ z. z + e.place) (zero-mul (length (body_of test e.thread))) ∙ zero-add e.place in
    let is : q.reader ≡ at_node a = (λ i. record { thread = sym t i; place = (sym p ∙ sym index) i }) in
    let P : Node → Type 0 = λ n. same_node q.reader n ≡ true in
    h v (wanted test q) value
    (any_among (wants_at test a (wanted test q)) q readings (among_from_contains readings q c)
    (and_from (same_node q.reader (at_node a)) (wanted test q == wanted test q)
    (subst P is (same_node_self q.reader)) (eq-eqb (wanted test q) (wanted test q) refl)))

-- and of all events of a run
pub wants_all : (test : LitmusTest) (readings : List Reading) (run : List Event) → IsRunOf test 1 run
    → All (orders.IsWanted test (wanted_by test readings)) run → Each (IsWanted test readings) run
wants_all test readings run r all =
    let each = recursion_from_All (orders.IsWanted test (wanted_by test readings)) run all in
    each_from_among (IsWanted test readings) run (λ e am. wants_back test readings run e r am
    (each_among (orders.IsWanted test (wanted_by test readings)) e run am each))

-- Cycles.

path_between : (edge : Node → Node → Bool) (a : Spot) (xs : List Spot) (b : Spot) → is_path (between edge) a xs b ≡ true
    → is_path edge (at_node a) (map at_node xs) (at_node b) ≡ true
path_between edge a [] b h = h
path_between edge a (x ∷ xs) b h =
    let p = and_parts (between edge a x) (is_path (between edge) x xs b) h in
    and_from (edge (at_node a) (at_node x)) (is_path edge (at_node x) (map at_node xs) (at_node b)) p.0
    (path_between edge x xs b p.1)

pub cycle_between : (edge : Node → Node → Bool) (xs : List Spot) → is_cycle_of (between edge) xs ≡ true
    → is_cycle_of edge (map at_node xs) ≡ true
cycle_between edge [] h = cc
cycle_between edge (a ∷ []) h = cc
cycle_between edge (a ∷ b ∷ rest) h = path_between edge a (b ∷ rest) a h

pub made : (test : LitmusTest) (readings : List Reading) (edge : Node → Node → Bool) → KeepsEdges test edge
    → Each (Draws test edge) readings → Closed edge ⊎ Made test readings
made test readings edge kept draws =
    put (run_along_lem test 1 (between edge) (wanted_by test readings) (order_between test edge kept)
    (all_draw test readings edge draws))
  where
    put : ((cycle : List Spot) × (is_cycle_of (between edge) cycle ≡ true))
        ⊎ ((run : List Event) × IsRunOf test 1 run × All (orders.IsWanted test (wanted_by test readings)) run)
        → Closed edge ⊎ Made test readings
    put (inl l) = inl (map at_node l.0, cycle_between edge l.0 l.1)
    put (inr m) = inr (m.0, m.1, wants_all test readings m.0 m.1 m.2)
