-- What the edges and the sides that are taken say of each read's source.
use Rattle.std.proofs.Common.{◌≡◌, ℕ, ◌<◌, ◌≤◌, ◌==◌, ◌&&◌, ◌||◌, not, Bool, true, false, cond, nat_lt, lt-ltb, Option, None, Some, List, [], ◌∷◌, ◌++◌, filter, map, refl, sym, ap, ◌∙◌, arith, subst, inl, inr, ◌⊎◌, eq-eqb, ne_eqb}
use Rattle.std.proofs.lemmas.Bool.{and_from, and_parts, both_ways, cases_eq, cases_lt, not-true, not_from_false, or_cases, or_left, or_right}
use Rattle.std.specs.List.{AllByRecursion as Each, list_any}
use Rattle.std.specs.Option.{option_map_or}
use Rattle.x86_subset.specs.Instr.{is_reading, is_store_to}
use Rattle.x86_subset.specs.Test.{LitmusTest, body_of}
use Rattle.x86_subset.specs.declared.instr.Instr.{Instr}
use Rattle.seq_conv.specs.Sequence.{action_at, stores_of}
use Rattle.seq_conv.proofs.Stores.{store_at}
use Rattle.perp_base.proofs.Lists.{Among, each_among}
use Rattle.verdict.specs.declared.node.Node.{Node}
use Rattle.verdict.specs.Edges.{is_access, is_barred, is_kept, is_node, keeps, same_node, site}
use Rattle.verdict.proofs.Finds.{any_among}
use Rattle.verdict.proofs.Walks.{same_node_self}
use Rattle.run_witness.specs.Marks.{is_storing}
use Rattle.run_witness.proofs.Reading.{store_stores}
use Rattle.decision.proofs.Blockers.{node_from, reading_access, storing_access}
use Rattle.decision.proofs.Waits.{keeps_reading, keeps_storing, kept_from}
use Rattle.once.specs.Edges.{Choice, Pair, Reading, after_reader, asks_by, asks_of, before_source, choice_of, choices_by, edge_among, is_later, is_own_before, is_pair, is_third, writes_to}
use Rattle.run_orders.proofs.Least.{further}
use Rattle.once.proofs.Draws.{Afar, FromStore, KeepsEdges, Near, StoresAt}

-- Edges.

pub not_same : (t u : ℕ) → not (t == u) ≡ true → t ≡ u → ⊥
not_same t u h e = both_ways (t == u) (not-true (t == u) h) (eq-eqb t u e)

-- what an edge is
pub record EdgeIs (test : LitmusTest) (readings : List Reading) (taken : List Pair) (a b : Node) : Type 0 where
  pub from : is_node test (site a) ≡ true
  pub to : is_node test (site b) ≡ true
  pub why : (is_kept test (site a) (site b) ≡ true)
      ⊎ ((list_any (asks_of test a b) readings ≡ true) ⊎ (list_any (is_pair a b) taken ≡ true))

pub edge_is : (test : LitmusTest) (readings : List Reading) (taken : List Pair) (a b : Node)
    → edge_among test readings taken a b ≡ true → EdgeIs test readings taken a b
edge_is test readings taken a b h =
    let kept = is_kept test (site a) (site b) in
    let asked = list_any (asks_of test a b) readings in
    let side = list_any (is_pair a b) taken in
    let p = and_parts (is_node test (site a) && is_node test (site b)) ((kept || asked) || side) h in
    let q = and_parts (is_node test (site a)) (is_node test (site b)) p.0 in
    record { from = q.0; to = q.1; why = go (or_cases (kept || asked) side p.1) }
  where
    inner : (is_kept test (site a) (site b) ≡ true) ⊎ (list_any (asks_of test a b) readings ≡ true)
        → (is_kept test (site a) (site b) ≡ true)
        ⊎ ((list_any (asks_of test a b) readings ≡ true) ⊎ (list_any (is_pair a b) taken ≡ true))
    inner (inl k) = inl k
    inner (inr k) = inr (inl k)

    go : ((is_kept test (site a) (site b) || list_any (asks_of test a b) readings) ≡ true)
        ⊎ (list_any (is_pair a b) taken ≡ true)
        → (is_kept test (site a) (site b) ≡ true)
        ⊎ ((list_any (asks_of test a b) readings ≡ true) ⊎ (list_any (is_pair a b) taken ≡ true))
    go (inl k) = inner (or_cases (is_kept test (site a) (site b)) (list_any (asks_of test a b) readings) k)
    go (inr k) = inr (inr k)

pub edge_from : (test : LitmusTest) (readings : List Reading) (taken : List Pair) (a b : Node)
    → is_node test (site a) ≡ true → is_node test (site b) ≡ true
    → ((is_kept test (site a) (site b) || list_any (asks_of test a b) readings) || list_any (is_pair a b) taken) ≡ true
    → edge_among test readings taken a b ≡ true
edge_from test readings taken a b na nb h =
    and_from (is_node test (site a) && is_node test (site b)) ((is_kept test (site a) (site b)
    || list_any (asks_of test a b) readings) || list_any (is_pair a b) taken)
    (and_from (is_node test (site a)) (is_node test (site b)) na nb) h

pub edge_asked : (test : LitmusTest) (readings : List Reading) (taken : List Pair) (r : Reading) (a b : Node)
    → Among r readings → is_node test (site a) ≡ true → is_node test (site b) ≡ true
    → asks_of test a b r ≡ true → edge_among test readings taken a b ≡ true
edge_asked test readings taken r a b am na nb h =
    let kept = is_kept test (site a) (site b) in
    let asked = list_any (asks_of test a b) readings in
    edge_from test readings taken a b na nb (or_left (kept || asked) (list_any (is_pair a b) taken)
    (or_right kept asked (any_among (asks_of test a b) r readings am h)))

edge_taken : (test : LitmusTest) (readings : List Reading) (taken : List Pair) (p : Pair)
    → Among p taken → is_node test (site p.first) ≡ true → is_node test (site p.second) ≡ true
    → edge_among test readings taken p.first p.second ≡ true
edge_taken test readings taken p am na nb =
    edge_from test readings taken p.first p.second na nb
    (or_right (is_kept test (site p.first) (site p.second) || list_any (asks_of test p.first p.second) readings)
    (list_any (is_pair p.first p.second) taken)
    (any_among (is_pair p.first p.second) p taken am
    (and_from (same_node p.first p.first) (same_node p.second p.second) (same_node_self p.first)
    (same_node_self p.second))))

pub order_among : (test : LitmusTest) (readings : List Reading) (taken : List Pair)
    → KeepsEdges test (edge_among test readings taken)
order_among test readings taken t p q a b l at bt x y k =
    let m : Node = record { thread = t; place = p } in
    let n : Node = record { thread = t; place = q } in
    edge_from test readings taken m n (node_from test (site m) a at x) (node_from test (site n) b bt y)
    (or_left (is_kept test (site m) (site n) || list_any (asks_of test m n) readings) (list_any (is_pair m n) taken)
    (or_left (is_kept test (site m) (site n)) (list_any (asks_of test m n) readings)
    (kept_from test t p q a b l at bt k)))

-- Sources.

pub stores_node : (test : LitmusTest) (x : ℕ) (n : Node) → StoresAt test x n → is_node test (site n) ≡ true
stores_node test x n s = node_from test (site n) s.action s.stands
    (storing_access s.action (store_stores x s.action s.stores))

pub writes_from : (test : LitmusTest) (x : ℕ) (n : Node) → StoresAt test x n → writes_to test x n ≡ true
writes_from test x n s = ap (λ o. option_map_or (is_store_to x) o false) s.stands ∙ s.stores

writes_step : (test : LitmusTest) (x : ℕ) (n : Node) (o : Option Instr) → action_at test (site n) ≡ o
    → option_map_or (is_store_to x) o false ≡ true → StoresAt test x n
writes_step test x n None e h = cc
writes_step test x n (Some a) e h = record { action = a; stands = e; stores = h }

pub writes_tells : (test : LitmusTest) (x : ℕ) (n : Node) → writes_to test x n ≡ true → StoresAt test x n
writes_tells test x n h = writes_step test x n (action_at test (site n)) refl h

-- two nodes of one thread
pub kept_nodes : (test : LitmusTest) (edge : Node → Node → Bool) → KeepsEdges test edge → (a b : Node) (x y : Instr)
    → a.thread ≡ b.thread → a.place < b.place → action_at test (site a) ≡ Some x → action_at test (site b) ≡ Some y
    → is_access x ≡ true → is_access y ≡ true → keeps (is_barred (body_of test a.thread) a.place b.place) x y ≡ true
    → edge a b ≡ true
kept_nodes test edge order a b x y e l at bt v w k =
    let n : Node = record { thread = a.thread; place = b.place } in
    let is : n ≡ b = (λ i. record { thread = e i; place = b.place }) in
    let P : Node → Type 0 = λ z. edge a z ≡ true in
    let Q : Node → Type 0 = λ z. action_at test (site z) ≡ Some y in
    subst P is (order a.thread a.place b.place x y l at (subst Q (sym is) bt) v w k)

-- what a read and its source say
pub record Takes (test : LitmusTest) (edge : Node → Node → Bool) (r : Reading) (s : Node) : Type 0 where
  pub action : Instr
  pub stands : action_at test (site r.reader) ≡ Some action
  pub reading : is_reading action ≡ true
  pub stores : StoresAt test r.location s
  pub asked : (a b : Node) → is_node test (site a) ≡ true → is_node test (site b) ≡ true
      → asks_by test r (Some s) a b ≡ true → edge a b ≡ true
  pub third : (o : Node) → StoresAt test r.location o → (o.thread ≡ r.reader.thread → ⊥) → (o.thread ≡ s.thread → ⊥)
      → (edge o s ≡ true) ⊎ (edge r.reader o ≡ true)
  pub own : s.thread ≡ r.reader.thread → Near test r.location r.reader s

pub from_store : (test : LitmusTest) (edge : Node → Node → Bool) → KeepsEdges test edge → (r : Reading) (s : Node)
    → Takes test edge r s
    → (f : FromStore test edge r.location r.reader) × (f.source ≡ s)
from_store test edge order r s k =
    (record { source = s; stores = k.stores; either = either; place = place (cases_eq s.thread r.reader.thread) }, refl)
  where
    reader_node : is_node test (site r.reader) ≡ true
    reader_node = node_from test (site r.reader) k.action k.stands (reading_access k.action k.reading)

    source_node : is_node test (site s) ≡ true
    source_node = stores_node test r.location s k.stores

    storing : (o : Node) → (w : StoresAt test r.location o) → is_storing w.action ≡ true
    storing o w = store_stores r.location w.action w.stores

    foreign : (s.thread ≡ r.reader.thread → ⊥) → not (s.thread == r.reader.thread) ≡ true
    foreign ne = not_from_false (s.thread == r.reader.thread) (ne_eqb s.thread r.reader.thread ne)

    leads : (s.thread ≡ r.reader.thread → ⊥) → edge s r.reader ≡ true
    leads ne =
        let after_source = same_node s s && same_node r.reader r.reader in
        let own_before = is_own_before test r s && same_node s r.reader in
        let before_later = same_node r.reader s && is_later test r s r.reader in
        k.asked s r.reader source_node reader_node
        (and_from (not (s.thread == r.reader.thread)) ((after_source || own_before) || before_later) (foreign ne)
        (or_left (after_source || own_before) before_later (or_left after_source own_before
        (and_from (same_node s s) (same_node r.reader r.reader) (same_node_self s) (same_node_self r.reader)))))

    behind : (s.thread ≡ r.reader.thread → ⊥) → (o : Node) → StoresAt test r.location o → o.thread ≡ r.reader.thread
        → o.place < r.reader.place → edge o s ≡ true
    behind ne o w e l =
        let after_source = same_node s o && same_node r.reader s in
        let own_before = is_own_before test r o && same_node s s in
        let before_later = same_node r.reader o && is_later test r s s in
        let before : is_own_before test r o ≡ true = and_from (writes_to test r.location o
        && (o.thread == r.reader.thread)) (nat_lt o.place r.reader.place)
        (and_from (writes_to test r.location o) (o.thread == r.reader.thread) (writes_from test r.location o w)
        (eq-eqb o.thread r.reader.thread e)) (lt-ltb o.place r.reader.place l) in
        k.asked o s (stores_node test r.location o w) source_node
        (and_from (not (s.thread == r.reader.thread)) ((after_source || own_before) || before_later) (foreign ne)
        (or_left (after_source || own_before) before_later (or_right after_source own_before
        (and_from (is_own_before test r o) (same_node s s) before (same_node_self s)))))

    ahead : (s.thread ≡ r.reader.thread → ⊥) → (o : Node) → StoresAt test r.location o → o.thread ≡ s.thread
        → s.place < o.place → edge r.reader o ≡ true
    ahead ne o w e l =
        let after_source = same_node s r.reader && same_node r.reader o in
        let own_before = is_own_before test r r.reader && same_node s o in
        let before_later = same_node r.reader r.reader && is_later test r s o in
        let later : is_later test r s o ≡ true = and_from (writes_to test r.location o && (o.thread == s.thread))
        (nat_lt s.place o.place)
        (and_from (writes_to test r.location o) (o.thread == s.thread) (writes_from test r.location o w)
        (eq-eqb o.thread s.thread e)) (lt-ltb s.place o.place l) in
        k.asked r.reader o reader_node (stores_node test r.location o w)
        (and_from (not (s.thread == r.reader.thread)) ((after_source || own_before) || before_later) (foreign ne)
        (or_right (after_source || own_before) before_later
        (and_from (same_node r.reader r.reader) (is_later test r s o) (same_node_self r.reader) later)))

    -- two stores of one thread
    in_order : (a b : Node) → StoresAt test r.location a → StoresAt test r.location b → a.thread ≡ b.thread
        → a.place < b.place → edge a b ≡ true
    in_order a b v w e l =
        kept_nodes test edge order a b v.action w.action e l v.stands w.stands
        (storing_access v.action (storing a v)) (storing_access w.action (storing b w))
        (keeps_storing (is_barred (body_of test a.thread) a.place b.place) v.action w.action (storing a v)
        (inl (storing b w)))

    place_of : (o : Node) → o.thread ≡ s.thread → (o ≡ s → ⊥) → o.place ≡ s.place → ⊥
    place_of o e ne q = ne (λ i. record { thread = e i; place = q i })

    own_store : (o : Node) → StoresAt test r.location o → (o ≡ s → ⊥) → o.thread ≡ r.reader.thread
        → o.place < r.reader.place → (s.thread ≡ r.reader.thread) ⊎ (s.thread ≡ r.reader.thread → ⊥)
        → edge o s ≡ true
    own_store o w ne e l (inl q) =
        let n = (k.own q).newest o w e l in
        let d = place_of o (e ∙ sym q) ne in
        in_order o s w k.stores (e ∙ sym q) (omega arith)
    own_store o w ne e l (inr q) = behind q o w e l

    after_own : (o : Node) → StoresAt test r.location o → o.thread ≡ r.reader.thread → r.reader.place < o.place
        → edge r.reader o ≡ true
    after_own o w e l =
        kept_nodes test edge order r.reader o k.action w.action (sym e) l k.stands w.stands
        (reading_access k.action k.reading) (storing_access w.action (storing o w))
        (keeps_reading (is_barred (body_of test r.reader.thread) r.reader.place o.place) k.action w.action k.reading)

    mine : (o : Node) → StoresAt test r.location o → (o ≡ s → ⊥) → (o ≡ r.reader → ⊥) → o.thread ≡ r.reader.thread
        → (o.place < r.reader.place) ⊎ (r.reader.place ≤ o.place)
        → (edge o s ≡ true) ⊎ (edge r.reader o ≡ true)
    mine o w ne nr e (inl l) = inl (own_store o w ne e l (cases_eq s.thread r.reader.thread))
    mine o w ne nr e (inr l) =
        let d : o.place ≡ r.reader.place → ⊥ = λ q. nr (λ i. record { thread = e i; place = q i }) in
        inr (after_own o w e (omega arith))

    later : (o : Node) → StoresAt test r.location o → (o.thread ≡ r.reader.thread → ⊥) → o.thread ≡ s.thread
        → (o ≡ s → ⊥) → (o.place < s.place) ⊎ (s.place ≤ o.place) → (edge o s ≡ true) ⊎ (edge r.reader o ≡ true)
    later o w nr e ne (inl l) = inl (in_order o s w k.stores e l)
    later o w nr e ne (inr l) =
        let d = place_of o e ne in
        inr (ahead (λ q. nr (e ∙ q)) o w e (omega arith))

    others : (o : Node) → StoresAt test r.location o → (o ≡ s → ⊥) → (o.thread ≡ r.reader.thread → ⊥)
        → (o.thread ≡ s.thread) ⊎ (o.thread ≡ s.thread → ⊥) → (edge o s ≡ true) ⊎ (edge r.reader o ≡ true)
    others o w ne nr (inl e) = later o w nr e ne (cases_lt o.place s.place)
    others o w ne nr (inr q) = k.third o w nr q

    by : (o : Node) → StoresAt test r.location o → (o ≡ s → ⊥) → (o ≡ r.reader → ⊥)
        → (o.thread ≡ r.reader.thread) ⊎ (o.thread ≡ r.reader.thread → ⊥)
        → (edge o s ≡ true) ⊎ (edge r.reader o ≡ true)
    by o w ne nr (inl e) = mine o w ne nr e (cases_lt o.place r.reader.place)
    by o w ne nr (inr e) = others o w ne e (cases_eq o.thread s.thread)

    either : (o : Node) → StoresAt test r.location o → (o ≡ s → ⊥) → (o ≡ r.reader → ⊥)
        → (edge o s ≡ true) ⊎ (edge r.reader o ≡ true)
    either o w ne nr = by o w ne nr (cases_eq o.thread r.reader.thread)

    place : (s.thread ≡ r.reader.thread) ⊎ (s.thread ≡ r.reader.thread → ⊥)
        → Afar test edge r.location r.reader s ⊎ Near test r.location r.reader s
    place (inl e) = inr (k.own e)
    place (inr ne) = inl (record { leads = leads ne; behind = λ o w e l. behind ne o w e l })

-- The choices.

-- a side of the choice is taken
abbrev pub IsTaken : List Pair → Choice → Type 0
IsTaken taken c = Among (before_source c) taken ⊎ Among (after_reader c) taken

each_further : {X : Type 0} (p : X → Bool) (x : X) (zs ys : List X)
    → Each (λ y. p y ≡ true → Among y (filter p zs)) ys → Each (λ y. p y ≡ true → Among y (x ∷ filter p zs)) ys
each_further p x zs [] h = tt
each_further p x zs (y ∷ ys) h = (λ k. further y x (filter p zs) (h.0 k), each_further p x zs ys h.1)

among_kept_step : {X : Type 0} (p : X → Bool) (x : X) (xs : List X) (b : Bool) → p x ≡ b
    → Each (λ y. p y ≡ true → Among y (filter p xs)) xs
    → (p x ≡ true → Among x (cond b (x ∷ filter p xs) (filter p xs)))
    × Each (λ y. p y ≡ true → Among y (cond b (x ∷ filter p xs) (filter p xs))) xs
among_kept_step p x xs true e h =
    (λ k. record { front = []; rest = filter p xs; whole = refl }, each_further p x xs xs h)
among_kept_step p x xs false e h = (λ k. absurd (both_ways (p x) e k), h)

among_kept : {X : Type 0} (p : X → Bool) (xs : List X) → Each (λ y. p y ≡ true → Among y (filter p xs)) xs
among_kept p [] = tt
among_kept p (x ∷ xs) = among_kept_step p x xs (p x) refl (among_kept p xs)

map_cut : {X Y : Type 0} (f : X → Y) (fs : List X) (y : X) (cs : List X)
    → map f (fs ++ y ∷ cs) ≡ map f fs ++ f y ∷ map f cs
map_cut f [] y cs = refl
map_cut f (x ∷ fs) y cs = ap (λ l. f x ∷ l) (map_cut f fs y cs)

pub among_map : {X Y : Type 0} (f : X → Y) (y : X) (xs : List X) → Among y xs → Among (f y) (map f xs)
among_map f y xs a =
    record { front = map f a.front; rest = map f a.rest; whole = ap (map f) a.whole ∙ map_cut f a.front y a.rest }

pub third_by : (test : LitmusTest) (readings : List Reading) (taken : List Pair) (r : Reading) (s : Node)
    → ((c : Choice) → Among c (choices_by test r (Some s)) → IsTaken taken c)
    → is_node test (site r.reader) ≡ true → is_node test (site s) ≡ true
    → (o : Node) → StoresAt test r.location o → (o.thread ≡ r.reader.thread → ⊥) → (o.thread ≡ s.thread → ⊥)
    → (edge_among test readings taken o s ≡ true) ⊎ (edge_among test readings taken r.reader o ≡ true)
third_by test readings taken r s sides nr ns o w ne nt = go (sides c among)
  where
    c : Choice
    c = choice_of r.reader s (site o)

    is : is_third r.reader s (site o) ≡ true
    is = and_from (not (o.thread == r.reader.thread)) (not (o.thread == s.thread))
        (not_from_false (o.thread == r.reader.thread) (ne_eqb o.thread r.reader.thread ne))
        (not_from_false (o.thread == s.thread) (ne_eqb o.thread s.thread nt))

    stands : Among (site o) (stores_of test r.location)
    stands = store_at r.location test o.thread o.place w.action w.stands w.stores

    among : Among (choice_of r.reader s (site o)) (choices_by test r (Some s))
    among = among_map (choice_of r.reader s) (site o) (filter (is_third r.reader s) (stores_of test r.location))
        (each_among (λ y. is_third r.reader s y ≡ true
        → Among y (filter (is_third r.reader s) (stores_of test r.location))) (site o)
        (stores_of test r.location) stands
        (among_kept (is_third r.reader s) (stores_of test r.location)) is)

    go : IsTaken taken (choice_of r.reader s (site o))
        → (edge_among test readings taken o s ≡ true) ⊎ (edge_among test readings taken r.reader o ≡ true)
    go (inl a) =
        inl (edge_taken test readings taken (before_source (choice_of r.reader s (site o))) a
        (stores_node test r.location o w) ns)
    go (inr a) =
        inr (edge_taken test readings taken (after_reader (choice_of r.reader s (site o))) a nr
        (stores_node test r.location o w))
