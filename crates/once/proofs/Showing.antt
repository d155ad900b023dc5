-- Where a side of each choice is taken, a run of one iteration reads from the sources or the edges have a cycle.
use Rattle.std.proofs.Common.{◌≡◌, ℕ, ◌<◌, ◌≤◌, ◌==◌, ◌&&◌, not, Bool, true, false, nat_le, nat_lt, lt-ltb, Option, None, Some, List, [], ◌∷◌, ◌++◌, refl, sym, ap, arith, subst, inl, inr, ◌⊎◌, eq-eqb, ne_eqb}
use Rattle.std.proofs.lemmas.Bool.{and_cases, and_from, and_parts, both_ways, cases_eq, cases_lt, eqb-true, leb-false, not_from_false, or_parts}
use Rattle.std.specs.List.{AllByRecursion as Each, list_any}
use Rattle.std.specs.Option.{option_map_or}
use Rattle.x86_subset.specs.Instr.{is_reading}
use Rattle.x86_subset.specs.Test.{LitmusTest, body_of}
use Rattle.x86_subset.specs.declared.instr.Instr.{Instr}
use Rattle.seq_conv.specs.Sequence.{action_at, rank_of, site_location, stores_of}
use Rattle.seq_conv.proofs.Stores.{store_at}
use Rattle.perp_base.proofs.Lists.{Among, among_append_left, among_append_right, each_among, each_from_among}
use Rattle.verdict.specs.declared.node.Node.{Node}
use Rattle.verdict.specs.Edges.{is_barred, is_node, same_node, site}
use Rattle.verdict.proofs.Walks.{same_node_self}
use Rattle.run_witness.proofs.Reading.{store_stores}
use Rattle.decision.specs.Hidden.{is_hidden_store, is_own_between}
use Rattle.decision.proofs.Blockers.{any_false, node_from, reading_access, storing_access}
use Rattle.decision.proofs.Waits.{keeps_reading}
use Rattle.once.specs.Edges.{Choice, Pair, Reading, asks_by, choices_among, choices_by, choices_of, edge_among, writes_to}
use Rattle.once.specs.Sources.{AreReadings, HidesNone, is_hidden_by, is_hidden_source, is_own_earlier, is_source_to, IsReading, rank_wanted, reads_of}
use Rattle.once.proofs.Draws.{Draws, FromStart, FromStore, Near, StoresAt}
use Rattle.once.proofs.Drawing.{IsTaken, edge_asked, from_store, kept_nodes, order_among, stores_node, third_by, writes_from, writes_tells}
use Rattle.once.proofs.Making.{Closed, Made, made}

-- What is read.

-- a read of x
pub record ReadsOf (test : LitmusTest) (x : ℕ) (n : Node) : Type 0 where
  pub action : Instr
  pub stands : action_at test (site n) ≡ Some action
  pub reading : is_reading action ≡ true
  pub location : site_location test (site n) ≡ x

reads_step : (test : LitmusTest) (x : ℕ) (n : Node) (o : Option Instr) → action_at test (site n) ≡ o
    → option_map_or is_reading o false ≡ true → site_location test (site n) ≡ x → ReadsOf test x n
reads_step test x n None e h l = cc
reads_step test x n (Some a) e h l = record { action = a; stands = e; reading = h; location = l }

pub reads_tells : (test : LitmusTest) (x : ℕ) (n : Node) → reads_of test x n ≡ true → ReadsOf test x n
reads_tells test x n h =
    let p = and_parts (option_map_or is_reading (action_at test (site n)) false) (site_location test (site n) == x) h in
    reads_step test x n (action_at test (site n)) refl p.0 (eqb-true (site_location test (site n)) x p.1)

-- an own source that is not hidden is the newest before the read
near_of : (test : LitmusTest) (r : Reading) (s : Node) → is_hidden_by test r (Some s) ≡ false
    → s.thread ≡ r.reader.thread → Near test r.location r.reader s
near_of test r s h e =
    by (and_cases (s.thread == r.reader.thread) (is_hidden_store r.reader.thread s.place r.reader.place
    (stores_of test r.location)) h)
  where
    near : is_hidden_store r.reader.thread s.place r.reader.place (stores_of test r.location) ≡ false
        → Near test r.location r.reader s
    near k =
        let between = is_own_between r.reader.thread s.place r.reader.place in
        let p = or_parts (nat_le r.reader.place s.place) (list_any between (stores_of test r.location)) k in
        record {
          own = e;
          before = leb-false r.reader.place s.place p.0;
          newest = λ o w q l. no_later o w q l p.1 (cases_lt s.place o.place);
        }
      where
        no_later : (o : Node) → StoresAt test r.location o → o.thread ≡ r.reader.thread → o.place < r.reader.place
            → list_any (is_own_between r.reader.thread s.place r.reader.place) (stores_of test r.location) ≡ false
            → (s.place < o.place) ⊎ (o.place ≤ s.place) → o.place ≤ s.place
        no_later o w q l none (inr m) = m
        no_later o w q l none (inl m) =
            absurd (any_false (is_own_between r.reader.thread s.place r.reader.place) (site o)
            (stores_of test r.location) none (store_at r.location test o.thread o.place w.action w.stands w.stores)
            (and_from ((o.thread == r.reader.thread) && nat_lt s.place o.place) (nat_lt o.place r.reader.place)
            (and_from (o.thread == r.reader.thread) (nat_lt s.place o.place) (eq-eqb o.thread r.reader.thread q)
            (lt-ltb s.place o.place m)) (lt-ltb o.place r.reader.place l)))

    by : ((s.thread == r.reader.thread) ≡ false)
        ⊎ (is_hidden_store r.reader.thread s.place r.reader.place (stores_of test r.location) ≡ false)
        → Near test r.location r.reader s
    by (inl k) = absurd (both_ways (s.thread == r.reader.thread) k (eq-eqb s.thread r.reader.thread e))
    by (inr k) = near k

-- the initial value, where it is not hidden
start_of : (test : LitmusTest) (readings : List Reading) (taken : List Pair) (r : Reading)
    → ReadsOf test r.location r.reader
    → ((o : Node) → StoresAt test r.location o → asks_by test r None r.reader o ≡ true
    → edge_among test readings taken r.reader o ≡ true)
    → is_hidden_by test r None ≡ false → FromStart test (edge_among test readings taken) r.location r.reader
start_of test readings taken r k asked h = record {
  after = λ o w ne. by o w ne (cases_eq o.thread r.reader.thread);
  other = λ o w e l. hidden o w e l;
}
  where
    hidden : (o : Node) → StoresAt test r.location o → o.thread ≡ r.reader.thread → o.place < r.reader.place → ⊥
    hidden o w e l =
        any_false (is_own_earlier r.reader.thread r.reader.place) (site o) (stores_of test r.location) h
        (store_at r.location test o.thread o.place w.action w.stands w.stores)
        (and_from (o.thread == r.reader.thread) (nat_lt o.place r.reader.place) (eq-eqb o.thread r.reader.thread e)
        (lt-ltb o.place r.reader.place l))

    mine : (o : Node) → StoresAt test r.location o → (o ≡ r.reader → ⊥) → o.thread ≡ r.reader.thread
        → (o.place < r.reader.place) ⊎ (r.reader.place ≤ o.place) → edge_among test readings taken r.reader o ≡ true
    mine o w ne e (inl l) = absurd (hidden o w e l)
    mine o w ne e (inr l) =
        let d : o.place ≡ r.reader.place → ⊥ = λ q. ne (λ i. record { thread = e i; place = q i }) in
        let late : r.reader.place < o.place = omega arith in
        kept_nodes test (edge_among test readings taken) (order_among test readings taken) r.reader o k.action
        w.action (sym e) late k.stands w.stands (reading_access k.action k.reading)
        (storing_access w.action (store_stores r.location w.action w.stores))
        (keeps_reading (is_barred (body_of test r.reader.thread) r.reader.place o.place) k.action w.action k.reading)

    by : (o : Node) → StoresAt test r.location o → (o ≡ r.reader → ⊥)
        → (o.thread ≡ r.reader.thread) ⊎ (o.thread ≡ r.reader.thread → ⊥)
        → edge_among test readings taken r.reader o ≡ true
    by o w ne (inl e) = mine o w ne e (cases_lt o.place r.reader.place)
    by o w ne (inr q) =
        asked o w
        (and_from (same_node r.reader r.reader) (writes_to test r.location o && not (o.thread == r.reader.thread))
        (same_node_self r.reader)
        (and_from (writes_to test r.location o) (not (o.thread == r.reader.thread)) (writes_from test r.location o w)
        (not_from_false (o.thread == r.reader.thread) (ne_eqb o.thread r.reader.thread q))))

pub draws_of : (test : LitmusTest) (readings : List Reading) (taken : List Pair) (r : Reading)
    → Among r readings → IsReading test r → is_hidden_source test r ≡ false
    → ((c : Choice) → Among c (choices_of test r) → IsTaken taken c)
    → Draws test (edge_among test readings taken) r
draws_of test readings taken r am is h sides =
    let k = reads_tells test r.location r.reader is.0 in
    record {
      reader = r.reader;
      location = r.location;
      action = k.action;
      is = refl;
      stands = k.stands;
      reading = k.reading;
      reads = k.location;
      source =
          by k (node_from test (site r.reader) k.action k.stands (reading_access k.action k.reading)) r.source is.1 h
          sides (λ a b na nb e. edge_asked test readings taken r a b am na nb e);
    }
  where
    by : ReadsOf test r.location r.reader → is_node test (site r.reader) ≡ true → (o : Option Node)
        → is_source_to test r.location o ≡ true → is_hidden_by test r o ≡ false
        → ((c : Choice) → Among c (choices_by test r o) → IsTaken taken c)
        → ((a b : Node) → is_node test (site a) ≡ true → is_node test (site b) ≡ true → asks_by test r o a b ≡ true
        → edge_among test readings taken a b ≡ true)
        → (FromStart test (edge_among test readings taken) r.location r.reader × (rank_wanted test r.location o ≡ 0))
        ⊎ ((f : FromStore test (edge_among test readings taken) r.location r.reader)
        × (rank_wanted test r.location o ≡ rank_of test r.location (site f.source)))
    by k nr None src h sides asked = inl (
      start_of test readings taken r k
          (λ o w e. asked r.reader o nr (stores_node test r.location o w) e) h,
      refl,
    )
    by k nr (Some s) src h sides asked =
        let w = writes_tells test r.location s src in
        let f = from_store test (edge_among test readings taken) (order_among test readings taken) r s (record {
          action = k.action;
          stands = k.stands;
          reading = k.reading;
          stores = w;
          asked = asked;
          third = third_by test readings taken r s sides nr (stores_node test r.location s w);
          own = near_of test r s h;
        }) in
        inr (f.0, sym (ap (λ z. rank_of test r.location (site z)) f.1))

-- A run or a cycle.

none_any : {X : Type 0} (p : X → Bool) (xs : List X) → list_any p xs ≡ false → Each (λ x. p x ≡ false) xs
none_any p [] h = tt
none_any p (x ∷ xs) h = let k = or_parts (p x) (list_any p xs) h in (k.0, none_any p xs k.1)

among_choices : (test : LitmusTest) (r : Reading) (fs cs : List Reading) (c : Choice)
    → Among c (choices_of test r) → Among c (choices_among test (fs ++ r ∷ cs))
among_choices test r [] cs c a = among_append_left c (choices_of test r) (choices_among test cs) a
among_choices test r (k ∷ fs) cs c a =
    among_append_right c (choices_of test k) (choices_among test (fs ++ r ∷ cs)) (among_choices test r fs cs c a)

-- what the edges with these sides say of the readings
pub draws_among : (test : LitmusTest) (readings : List Reading) (taken : List Pair) → AreReadings test readings
    → HidesNone test readings → ((choice : Choice) → Among choice (choices_among test readings) → IsTaken taken choice)
    → Each (Draws test (edge_among test readings taken)) readings
draws_among test readings taken are hides sides =
    each_from_among (Draws test (edge_among test readings taken)) readings (λ r am.
    draws_of test readings taken r am (each_among (IsReading test) r readings am are)
    (each_among (λ k. is_hidden_source test k ≡ false) r readings am (none_any (is_hidden_source test) readings hides))
    (λ choice a. sides choice
    (let P : List Reading → Type 0 = λ ks. Among choice (choices_among test ks) in
    subst P (sym am.whole) (among_choices test r am.front am.rest choice a))))

pub run_or_cycle : (test : LitmusTest) (readings : List Reading) (taken : List Pair) → AreReadings test readings
    → HidesNone test readings → ((choice : Choice) → Among choice (choices_among test readings) → IsTaken taken choice)
    → Closed (edge_among test readings taken) ⊎ Made test readings
run_or_cycle test readings taken are hides sides =
    made test readings (edge_among test readings taken) (order_among test readings taken)
    (draws_among test readings taken are hides sides)
