-- Runs whose reads have given sources.
use Rattle.std.proofs.Common.{◌≡◌, ℕ, ◌+◌, ◌*◌, ◌<◌, ◌≤◌, ◌==◌, ◌&&◌, true, Option, None, Some, List, [], length, nat_le, nat_lt, option_and_then, option_map, unwrap_or, refl, sym, ap, ◌∙◌, arith, subst, inl, inr, ◌⊎◌}
use Rattle.std.proofs.lemmas.Bool.{and_parts, eqb-true, false_from_ne_true, leb-true, ltb-true, or_cases}
use Rattle.std.specs.List.{list_any}
use Rattle.x86_subset.specs.Instr.{location_of}
use Rattle.x86_subset.specs.Test.{LitmusTest, column_of}
use Rattle.tso_machine.specs.Event.{Event}
use Rattle.tso_machine.specs.Laws.{NamesSource}
use Rattle.tso_machine.specs.Run.{IsRunOf}
use Rattle.tso_machine.proofs.ReadEvents.{read_at}
use Rattle.seq_conv.specs.Sequence.{Origin, Site, action_at, in_iteration, rank_of, site_location, store_count, store_of, stores_of}
use Rattle.seq_conv.proofs.Stores.{IsStoreOf, location_at_store, rank_injective, rank_within, store_at, stores_are}
use Rattle.perp_base.proofs.Lists.{Among, among_from_contains, contains_from_among, each_among, each_from_among}
use Rattle.profile_check.proofs.KindLemmas.{IsReader, named_by}
use Rattle.outcome_conv.specs.Conds.{logged_in}
use Rattle.outcome_conv.specs.Holds.{iteration_in, reading_site, source_at}
use Rattle.outcome_conv.proofs.Agree.{logged_names, site_is, thread_below}
use Rattle.verdict.specs.declared.node.Node.{Node}
use Rattle.verdict.specs.Edges.{site}
use Rattle.verdict.proofs.EventKinds.{stores_storing}
use Rattle.verdict.proofs.Finds.{any_found}
use Rattle.decision.specs.Hidden.{is_hidden_store, is_own_between}
use Rattle.decision.specs.Shown.{zeros}
use Rattle.decision.proofs.Deciding.{zeros_frame}
use Rattle.decision.proofs.Finish.{zero_at}
use Rattle.decision.proofs.HiddenReads.{own_read}
use Rattle.decision.proofs.OwnReads.{Hider, OwnRead, never_read, own_order}
use Rattle.once.specs.Edges.{Reading}
use Rattle.once.specs.Laws.{HiddenSourcesAreNotRead, NoCycleHasSources, SourcesAreDecided, SourcesTreeOrRun, TreesDecideSources, TreesForbidSources}
use Rattle.once.specs.Sources.{AreReadings, HasSource, HasSources, is_hidden_by, is_hidden_source, is_own_earlier, is_source_to, IsReading, IsWanted, rank_wanted}
use Rattle.once.specs.Trees.{RefutesAmong, Tree}
use Rattle.once.proofs.Draws.{StoresAt}
use Rattle.once.proofs.Deciding.{Decided, no_cycle_made, tree_or_made}
use Rattle.once.proofs.Drawing.{writes_tells}
use Rattle.once.proofs.Forbidding.{HasSourceAt, none_refutes, sourced_leads}
use Rattle.once.proofs.Leading.{cut_at, initial_own, origin_in}
use Rattle.once.proofs.Making.{Made}
use Rattle.once.proofs.Showing.{ReadsOf, reads_tells}

-- What is logged names the source.

pub reader_of : (test : LitmusTest) (r : Reading) → (k : ReadsOf test r.location r.reader)
    → IsReader test r.reader.thread (column_of test r.reader.thread r.reader.place) r.reader.place k.action
reader_of test r k = record { stands = k.stands; reading = k.reading; column_is = refl }

abbrev pub logged_by : LitmusTest → List Event → Reading → ℕ
logged_by test run r = logged_in test run r.reader.thread (column_of test r.reader.thread r.reader.place) 0

pub source_named : (test : LitmusTest) (run : List Event) (r : Reading) → ReadsOf test r.location r.reader
    → IsRunOf test 1 run
    → NamesSource test 1 r.location (logged_by test run r) (source_at test (site r.reader) 0 run)
source_named test run r k is =
    let t = r.reader.thread in
    let p = r.reader.place in
    let column = column_of test t p in
    let a = reader_of test r k in
    let at : reading_site test t column ≡ site r.reader = site_is test t column p k.action a in
    let P : Site → Type 0 = λ z. NamesSource test 1 (site_location test z) (logged_in test run t column 0)
    (source_at test z 0 run) in
    let Q : ℕ → Type 0 = λ x. NamesSource test 1 x (logged_in test run t column 0)
    (source_at test (site r.reader) 0 run)
    in
    subst Q k.location (subst P at (logged_names test 1 run t column p 0 k.action is (omega arith)
    (thread_below test t p k.action k.stands) a))

-- the source of this rank
source_is : (test : LitmusTest) (x v : ℕ) (o : Option Node) (source : Option Origin) → NamesSource test 1 x v source
    → is_source_to test x o ≡ true → v ≡ rank_wanted test x o
    → source ≡ option_map (λ (s : Node). in_iteration (site s) 0) o
source_is test x v None source h src e = h.initial.0 e
source_is test x v (Some s) None h src e =
    let w = writes_tells test x s src in
    let z : v ≡ 0 = h.initial.1 refl in
    let p : 1 ≤ rank_of test x (site s) =
    (rank_within test x (site s) (store_at x test s.thread s.place w.action w.stands
    w.stores)).positive in
    absurd (omega arith)
source_is test x v (Some s) (Some o) h src e =
    let w = writes_tells test x s src in
    let a = store_at x test s.thread s.place w.action w.stands w.stores in
    let q = store_of o in
    let l : o.iteration < 1 = h.store.1 in
    let z : o.iteration ≡ 0 = omega arith in
    let v_is : v ≡ store_count test x * 0 + rank_of test x q = h.value
    ∙ ap (λ i. store_count test x * i + rank_of test x q) z in
    let rank : v ≡ rank_of test x q = omega arith in
    let b = among_from_contains (stores_of test x) q h.store.0 in
    let same : q ≡ site s = rank_injective test x q (site s) b a (sym rank ∙ e) in
    (λ i. Some (record { thread = (same i).thread; place = (same i).place; iteration = z i }))

pub made_has : (test : LitmusTest) (readings : List Reading) (r : Reading) (m : Made test readings) → Among r readings
    → IsReading test r → HasSource test m.0 r
made_has test readings r m am is =
    let run = m.0 in
    let k = reads_tells test r.location r.reader is.0 in
    let t = r.reader.thread in
    let p = r.reader.place in
    let below = thread_below test t p k.action k.stands in
    let e = read_at test 1 run t p 0 k.action (m.1.performs t below) (omega arith) k.stands k.reading in
    let a = reader_of test r k in
    let value : logged_by test run r ≡ e.value = e.logged in
    let w = each_among (IsWanted test readings) e.event run (record {
      front = e.before;
      rest = e.after;
      whole = e.whole;
    }) m.2 in
    source_is test r.location (logged_by test run r) r.source (source_at test (site r.reader) 0 run)
    (source_named test run r k m.1) is.1
    (value ∙ w r (contains_from_among readings r am) e.no_drain e.thread e.place e.value e.reads)

pub made_sources : (test : LitmusTest) (readings : List Reading) → AreReadings test readings → Made test readings
    → (run : List Event) × HasSources test readings run
made_sources test readings are m = (
  m.0,
  (
    m.1,
    each_from_among (HasSource test m.0) readings (λ r am. made_has test readings r m am
        (each_among (IsReading test) r readings am are)),
  ),
)

pub no_cycle_has_sources_lem : NoCycleHasSources
no_cycle_has_sources_lem test readings taken are hides zip none =
    made_sources test readings are (no_cycle_made test readings taken are hides zip none)

pub sources_tree_or_run_lem : SourcesTreeOrRun
sources_tree_or_run_lem test readings are hides = go (tree_or_made test readings are hides)
  where
    go : Decided test readings []
        → ((tree : Tree) × RefutesAmong test readings [] tree) ⊎ ((run : List Event) × HasSources test readings run)
    go (inl t) = inl t
    go (inr m) = inr (made_sources test readings are m)

-- The frame of one iteration.

source_zero : (test : LitmusTest) (o : Option Node)
    → option_map (λ (s : Node). in_iteration (site s) 0) o ≡ option_map (origin_in (zeros test)) o
source_zero test None = refl
source_zero test (Some s) =
    (λ i. Some (in_iteration (site s) (sym (zero_at (length test.bodies) s.thread) i)))

pub at_zeros : (test : LitmusTest) (run : List Event) (r : Reading) → HasSource test run r
    → HasSourceAt test run (zeros test) r
at_zeros test run r h =
    ap (λ i. source_at test (site r.reader) i run) (zero_at (length test.bodies) r.reader.thread)
    ∙ h ∙ source_zero test r.source

pub trees_forbid_sources_lem : TreesForbidSources
trees_forbid_sources_lem test readings tree run are refutes has =
    none_refutes test 1 readings run (zeros test) [] tree has.0 (zeros_frame test)
    (each_from_among (λ r. _) readings (λ r am.
    sourced_leads test 1 run (zeros test) r has.0 (zeros_frame test) (each_among (IsReading test) r readings am are)
    (at_zeros test run r (each_among (HasSource test run) r readings am has.1)))) tt refutes

-- Hidden sources.

-- a store of the thread between them
hider_of : (test : LitmusTest) (t p q x : ℕ) → StoresAt test x (record { thread = t; place = p })
    → list_any (is_own_between t p q) (stores_of test x) ≡ true → Hider test t x p q
hider_of test t p q x w h =
    let f = any_found (is_own_between t p q) (stores_of test x) h in
    let s = f.here in
    let k = and_parts ((s.thread == t) && nat_lt p s.place) (nat_lt s.place q) f.passes in
    let l = and_parts (s.thread == t) (nat_lt p s.place) k.0 in
    let own_one : s.thread ≡ t = eqb-true s.thread t l.0 in
    let second = each_among (IsStoreOf test x) s (stores_of test x) f.among (stores_are test x) in
    record {
      stored = w.action;
      stands = w.stands;
      storing = stores_storing x w.action w.stores;
      place = s.place;
      action = second.action;
      there = (let P : ℕ → Type 0 = λ u. action_at test (record { thread = u; place = s.place }) ≡ Some
          second.action in subst P own_one second.stands);
      hides = second.stores;
      location = (let P : ℕ → Type 0 = λ u. site_location test (record { thread = u; place = s.place }) ≡ x in subst P
          own_one (location_at_store test x s f.among));
      later = ltb-true p s.place l.1;
      earlier = ltb-true s.place q k.1;
    }

own_hidden : (test : LitmusTest) (run : List Event) (r : Reading) (p : ℕ) → IsRunOf test 1 run
    → (k : ReadsOf test r.location r.reader)
    → StoresAt test r.location (record { thread = r.reader.thread; place = p })
    → is_hidden_store r.reader.thread p r.reader.place (stores_of test r.location) ≡ true
    → source_at test (site r.reader) 0 run
    ≡ Some (in_iteration (record { thread = r.reader.thread; place = p }) 0) → ⊥
own_hidden test run r p is k w h source =
    go order (or_cases (nat_le r.reader.place p) (list_any (is_own_between r.reader.thread p r.reader.place)
    (stores_of test r.location)) h)
  where
    loc : named_by k.action ≡ r.location
    loc = ap (λ o. unwrap_or (option_and_then location_of o) 0) (sym k.stands) ∙ k.location

    read : OwnRead test 1 r.reader.thread r.location p r.reader.place 0 0
    read = let P : ℕ → Type 0 = λ x. OwnRead test 1 r.reader.thread x p r.reader.place 0 0 in
        subst P loc (own_read test 1 run r.reader.thread r.reader.place p 0 0 k.action is
        (thread_below test r.reader.thread r.reader.place k.action k.stands) (omega arith) k.stands k.reading source)

    order : p < r.reader.place
    order = (own_order test 1 r.reader.thread r.location p r.reader.place 0 0 read (omega arith)).1

    go : p < r.reader.place
        → (nat_le r.reader.place p ≡ true)
        ⊎ (list_any (is_own_between r.reader.thread p r.reader.place) (stores_of test r.location) ≡ true) → ⊥
    go l (inl e) = let m : r.reader.place ≤ p = leb-true r.reader.place p e in omega arith
    go l (inr e) =
        never_read test 1 r.reader.thread r.location p r.reader.place 0 read
        (hider_of test r.reader.thread p r.reader.place r.location w e)

initial_hidden : (test : LitmusTest) (run : List Event) (r : Reading) → IsRunOf test 1 run
    → (k : ReadsOf test r.location r.reader)
    → list_any (is_own_earlier r.reader.thread r.reader.place) (stores_of test r.location) ≡ true
    → source_at test (site r.reader) (iteration_in (zeros test) r.reader.thread) run ≡ None → ⊥
initial_hidden test run r is k h source =
    let x = r.location in
    let c = cut_at test 1 (zeros test) r.reader run None k.action is (zeros_frame test) k.stands k.reading source in
    let f = any_found (is_own_earlier r.reader.thread r.reader.place) (stores_of test x) h in
    let l = and_parts (f.here.thread == r.reader.thread) (nat_lt f.here.place r.reader.place) f.passes in
    let s = each_among (IsStoreOf test x) f.here (stores_of test x) f.among (stores_are test x) in
    let e : f.here.thread ≡ r.reader.thread = eqb-true f.here.thread r.reader.thread l.0 in
    let P : ℕ → Type 0 = λ u. StoresAt test x (record { thread = u; place = f.here.place }) in
    initial_own test 1 (zeros test) r.reader f.here.place c.before c.event c.after
    (zeros_frame test) c.at x k.location c.taken
    (subst P e (record { action = s.action; stands = s.stands; stores = s.stores }))
    (ltb-true f.here.place r.reader.place l.1)

hidden_not_read : (test : LitmusTest) (run : List Event) (r : Reading) → IsRunOf test 1 run → IsReading test r
    → is_hidden_source test r ≡ true → HasSource test run r → ⊥
hidden_not_read test run r is reading h source =
    by r.source (reads_tells test r.location r.reader reading.0) reading.1 h source
    (at_zeros test run r source)
  where
    by : (o : Option Node) → ReadsOf test r.location r.reader → is_source_to test r.location o ≡ true
        → is_hidden_by test r o ≡ true
        → source_at test (site r.reader) 0 run ≡ option_map (λ (s : Node). in_iteration (site s) 0) o
        → source_at test (site r.reader) (iteration_in (zeros test) r.reader.thread) run
        ≡ option_map (origin_in (zeros test)) o → ⊥
    by None k src h e z = initial_hidden test run r is k h z
    by (Some s) k src h e z =
        let p = and_parts (s.thread == r.reader.thread) (is_hidden_store r.reader.thread s.place r.reader.place
        (stores_of test r.location)) h in
        let t : s.thread ≡ r.reader.thread = eqb-true s.thread r.reader.thread p.0 in
        let P : ℕ → Type 0 = λ u. StoresAt test r.location (record { thread = u; place = s.place }) in
        own_hidden test run r s.place is k (subst P t (writes_tells test r.location s src)) p.1
        (e ∙ (λ i. Some (record { thread = t i; place = s.place; iteration = 0 })))

pub hidden_sources_are_not_read_lem : HiddenSourcesAreNotRead
hidden_sources_are_not_read_lem test readings run are hidden has =
    let f = any_found (is_hidden_source test) readings hidden in
    hidden_not_read test run f.here has.0 (each_among (IsReading test) f.here readings f.among are) f.passes
    (each_among (HasSource test run) f.here readings f.among has.1)

pub sources_are_decided_lem : SourcesAreDecided
sources_are_decided_lem test readings are = (
  λ has. (
    false_from_ne_true (list_any (is_hidden_source test) readings)
        (λ h. hidden_sources_are_not_read_lem test readings has.0 are h has.1),
    λ t. trees_forbid_sources_lem test readings t.0 has.0 are t.1 has.1,
  ),
  λ none. go none.1 (sources_tree_or_run_lem test readings are none.0),
)
  where
    go : (((tree : Tree) × RefutesAmong test readings [] tree) → ⊥)
        → ((tree : Tree) × RefutesAmong test readings [] tree) ⊎ ((run : List Event) × HasSources test readings run)
        → (run : List Event) × HasSources test readings run
    go none (inl t) = absurd (none t)
    go none (inr r) = r

pub trees_decide_sources_lem : TreesDecideSources
trees_decide_sources_lem test readings are hides = (
  λ t r. trees_forbid_sources_lem test readings t.0 r.0 are t.1 r.1,
  λ none. go none (sources_tree_or_run_lem test readings are hides),
)
  where
    go : (((run : List Event) × HasSources test readings run) → ⊥)
        → ((tree : Tree) × RefutesAmong test readings [] tree) ⊎ ((run : List Event) × HasSources test readings run)
        → (tree : Tree) × RefutesAmong test readings [] tree
    go none (inl t) = t
    go none (inr r) = absurd (none r)
