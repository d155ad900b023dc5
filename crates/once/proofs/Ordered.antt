-- An ordered conjunction has no choices, and its edges are paths of the edges of verdicts: so the law of ordered
-- conjunctions is a case of the one for all.
use Rattle.std.proofs.Common.{◌≡◌, ℕ, suc, ◌+◌, ◌<◌, ◌≤◌, ◌==◌, ◌&&◌, ◌||◌, not, nat_le, nat_lt, Bool, true, false, cond, None, Some, List, [], ◌∷◌, ◌++◌, length, filter, map, slice_get, option_map, refl, sym, ap, ◌∙◌, arith, subst, inl, inr, ◌⊎◌, eq-eqb, ne_eqb, append_assoc}
use Rattle.std.proofs.lemmas.Bool.{lt-leb, and_from, and_left, and_parts, and_right, both_ways, cases_eq, eqb-true, false_from_ne_true, leb-true, ltb-true, not_from_true, or_cases, or_from, or_left, or_right}
use Rattle.std.specs.List.{AllByRecursion as Each, list_all, list_any}
use Rattle.std.specs.Option.{is_some}
use Rattle.x86_subset.specs.Test.{LitmusTest, body_of}
use Rattle.tso_machine.specs.Event.{Event}
use Rattle.seq_conv.specs.Sequence.{Site, rank_of, stores_in_body, stores_of}
use Rattle.seq_conv.proofs.Stores.{rank_at, store_at, stores_of_one}
use Rattle.perp_base.proofs.Lists.{Among, any_map, any_none, each_among, each_from_among, each_weaker, filter_none}
use Rattle.profile_check.specs.declared.kind.AtomKind.{AtomKind}
use Rattle.profile_check.specs.declared.kind.AtomKind.TheVariants.{Rf, Fr, Exact}
use Rattle.profile_check.proofs.KindLemmas.{Tells, named_by}
use Rattle.outcome_conv.specs.Holds.{location_read, reading_site}
use Rattle.outcome_conv.proofs.Agree.{location_is}
use Rattle.verdict.specs.declared.node.Node.{Node}
use Rattle.verdict.specs.Edges.{asked_of, edge_in, edge_of, is_barred, is_cycle_of, is_kept, is_node, is_path, is_the, kinds_in, node, same_node, site, source_asked, store_after}
use Rattle.verdict.proofs.Finds.{any_found}
use Rattle.verdict.proofs.Forward.{each_all, kinds_tell}
use Rattle.verdict.proofs.Walks.{same_node_self}
use Rattle.decision.specs.declared.hidden.HiddenRead.{HiddenRead}
use Rattle.decision.specs.Hidden.{is_hidden, is_hidden_store, is_own_between}
use Rattle.decision.specs.Laws.{NoCycleIsShown}
use Rattle.decision.specs.Shown.{Shows, is_newest, is_ordered, is_own_outside}
use Rattle.decision.proofs.Blockers.{asked_edge, kept_edge}
use Rattle.decision.proofs.Waits.{keeps_storing, kept_from}
use Rattle.run_witness.proofs.Reading.{store_stores}
use Rattle.run_orders.proofs.Least.{Loop, Path, further, join, loop_cycle}
use Rattle.once.specs.Edges.{Choice, Reading, asks_of, choice_of, choices_among, choices_of, edge_among, edge_once, is_later, is_own_before, is_third, reading_of, writes_to}
use Rattle.once.specs.Laws.{OrderedHasNoChoice}
use Rattle.once.proofs.Classical.{later_stores, stores_at_site}
use Rattle.once.proofs.Draws.{StoresAt}
use Rattle.once.proofs.Drawing.{IsTaken, edge_is, not_same, stores_node, writes_tells}
use Rattle.once.proofs.Conjoined.{shown_or_cycle}
use Rattle.once.proofs.Forbidding.{first_least}
use Rattle.once.proofs.Making.{Closed}
use Rattle.once.proofs.Named.{other_store}

-- What an ordered rf atom says.

outside_not_between : (t p q : ℕ) (s : Site) → is_own_outside t p q s ≡ true
    → (s.thread ≡ t) × (is_own_between t p q s ≡ false)
outside_not_between t p q s h =
    let k = and_parts (s.thread == t) (nat_le s.place p || nat_le q s.place) h in (
      eqb-true s.thread t k.0,
      false_from_ne_true (is_own_between t p q s) (λ b.
          let u = and_parts ((s.thread == t) && nat_lt p s.place) (nat_lt s.place q) b in
          let v = and_parts (s.thread == t) (nat_lt p s.place) u.0 in
          out (ltb-true p s.place v.1) (ltb-true s.place q u.1) (or_cases (nat_le s.place p) (nat_le q s.place) k.1)),
    )
  where
    out : p < s.place → s.place < q → (nat_le s.place p ≡ true) ⊎ (nat_le q s.place ≡ true) → ⊥
    out a b (inl l) = let m : s.place ≤ p = leb-true s.place p l in omega arith
    out a b (inr l) = let m : q ≤ s.place = leb-true q s.place l in omega arith

record OwnNewest (test : LitmusTest) (t p q x : ℕ) : Type 0 where
  own : Each (λ (s : Site). s.thread ≡ t) (stores_of test x)
  hides : is_hidden_store t p q (stores_of test x) ≡ false

own_newest : (test : LitmusTest) (t p q x : ℕ) → is_newest t p q (stores_of test x) ≡ true → OwnNewest test t p q x
own_newest test t p q x h =
    let stores = stores_of test x in
    let k = and_parts (nat_lt p q) (list_all (is_own_outside t p q) stores) h in
    let l : p < q = ltb-true p q k.0 in
    let all = each_all (is_own_outside t p q) stores k.1 in
    record {
      own =
          each_weaker (λ s. is_own_outside t p q s ≡ true) (λ (s : Site). s.thread ≡ t)
          (λ s o. (outside_not_between t p q s o).0) stores all;
      hides =
          or_from (nat_le q p) (list_any (is_own_between t p q) stores) (lt-leb q p l)
          (any_none (is_own_between t p q) stores
          (each_weaker (λ s. is_own_outside t p q s ≡ true) (λ s. is_own_between t p q s ≡ false)
          (λ s o. (outside_not_between t p q s o).1) stores all));
    }

none_some : (read store : Node) (b : Bool) → b ≡ false
    → is_some {T = HiddenRead} (cond b (Some (record { store = store; read = read })) None) ≡ false
none_some read store true h = cc
none_some read store false h = refl

kind_hides : (test : LitmusTest) (kind : AtomKind) → is_ordered test kind ≡ true → is_hidden test kind ≡ false
kind_hides test (Rf t column w p) h =
    let r = node (reading_site test t column) in
    let stores = stores_of test (location_read test t column) in
    let o = own_newest test t p (reading_site test t column).place (location_read test t column) h in
    none_some r (record { thread = w; place = p })
    ((w == t) && is_hidden_store t p (reading_site test t column).place stores)
    (and_right (w == t) (is_hidden_store t p (reading_site test t column).place stores) o.hides)
kind_hides test (Fr t column w) h = refl
kind_hides test (Exact t column w p) h = refl

-- No choices.

none_third : (reader source : Node) (w : ℕ) (ss : List Site) → (w ≡ reader.thread) ⊎ (w ≡ source.thread)
    → Each (λ (s : Site). s.thread ≡ w) ss
    → map (choice_of reader source) (filter (is_third reader source) ss) ≡ []
none_third reader source w ss e h =
    ap (map (choice_of reader source)) (filter_none (is_third reader source) ss
    (each_weaker (λ (s : Site). s.thread ≡ w) (λ s. is_third reader source s ≡ false) (λ s k. go s k e) ss h))
  where
    go : (s : Site) → s.thread ≡ w → (w ≡ reader.thread) ⊎ (w ≡ source.thread) → is_third reader source s ≡ false
    go s k (inl e) =
        and_left (not (s.thread == reader.thread)) (not (s.thread == source.thread))
        (not_from_true (s.thread == reader.thread) (eq-eqb s.thread reader.thread (k ∙ e)))
    go s k (inr e) =
        and_right (not (s.thread == reader.thread)) (not (s.thread == source.thread))
        (not_from_true (s.thread == source.thread) (eq-eqb s.thread source.thread (k ∙ e)))

kind_choices : (test : LitmusTest) (kind : AtomKind) → Tells test kind → is_ordered test kind ≡ true
    → choices_of test (reading_of test kind) ≡ []
kind_choices test (Rf t column w p) tells h =
    let x = location_read test t column in
    let o = own_newest test t p (reading_site test t column).place x h in
    none_third (node (reading_site test t column)) (record { thread = w; place = p }) t (stores_of test x) (inl refl)
    o.own
kind_choices test (Fr t column w) tells h = refl
kind_choices test (Exact t column w p) tells h =
    let loc : named_by tells.action ≡ location_read test t column = sym (location_is test t column tells.place
    tells.action tells.reader) in
    let P : ℕ → Type 0 = λ x. Each (λ (s : Site). s.thread ≡ w) (stores_of test x) in
    none_third (node (reading_site test t column)) (record { thread = w; place = p }) w
    (stores_of test (location_read test t column)) (inr refl) (subst P loc tells.other.one_thread)

all_choices : (test : LitmusTest) (kinds : List AtomKind)
    → Each (λ kind. choices_of test (reading_of test kind) ≡ []) kinds
    → choices_among test (map (reading_of test) kinds) ≡ []
all_choices test [] h = refl
all_choices test (kind ∷ kinds) h = (λ i. h.0 i ++ all_choices test kinds h.1 i)

none_hidden : (test : LitmusTest) (kinds : List AtomKind) → Each (λ kind. is_ordered test kind ≡ true) kinds
    → list_any (is_hidden test) kinds ≡ false
none_hidden test kinds h =
    any_none (is_hidden test) kinds (each_weaker (λ kind. is_ordered test kind ≡ true)
    (λ kind. is_hidden test kind ≡ false)
    (λ kind o. kind_hides test kind o) kinds h)

pub ordered_has_no_choice_lem : OrderedHasNoChoice
ordered_has_no_choice_lem checked c h o =
    let test = checked.test in
    let kinds = kinds_in checked c in
    let all = each_all (is_ordered test) kinds o in
    let O : AtomKind → Type 0 = λ kind. is_ordered test kind ≡ true in (
      none_hidden test kinds all,
      all_choices test kinds (each_from_among (λ kind. choices_of test (reading_of test kind) ≡ []) kinds (λ kind am.
          kind_choices test kind (each_among (Tells test) kind kinds am (kinds_tell checked c h))
          (each_among O kind kinds am all))),
    )

-- Edges as paths of the edges of verdicts.

abbrev Reaches : LitmusTest → List AtomKind → Node → Node → Type 0
Reaches test kinds a b = Path (edge_of test kinds) a b

kept_stores : (test : LitmusTest) (x : ℕ) (a b : Node) → StoresAt test x a → StoresAt test x b → a.thread ≡ b.thread
    → a.place < b.place → is_kept test (site a) (site b) ≡ true
kept_stores test x a b v w e l =
    let m : Node = record { thread = a.thread; place = b.place } in
    let is : m ≡ b = (λ i. record { thread = e i; place = b.place }) in
    let P : Node → Type 0 = λ z. StoresAt test x z in
    let u : StoresAt test x m = subst P (sym is) w in
    let Q : Node → Type 0 = λ z. is_kept test (site a) (site z) ≡ true in
    subst Q is (kept_from test a.thread a.place b.place v.action u.action l v.stands u.stands
    (keeps_storing (is_barred (body_of test a.thread) a.place b.place) v.action u.action
    (store_stores x v.action v.stores) (inl (store_stores x u.action u.stores))))

store_path : (test : LitmusTest) (kinds : List AtomKind) (x : ℕ) (a b : Node) → StoresAt test x a → StoresAt test x b
    → a.thread ≡ b.thread → a.place ≤ b.place → (a ≡ b) ⊎ Reaches test kinds a b
store_path test kinds x a b v w e l = go (cases_eq a.place b.place)
  where
    go : (a.place ≡ b.place) ⊎ (a.place ≡ b.place → ⊥) → (a ≡ b) ⊎ Reaches test kinds a b
    go (inl p) = inl (λ i. record { thread = e i; place = p i })
    go (inr ne) = inr (
      [],
      kept_edge test kinds a b (stores_node test x a v) (stores_node test x b w)
          (kept_stores test x a b v w e (omega arith)),
    )

-- by way of the next store
by_next : (test : LitmusTest) (kinds : List AtomKind) (x : ℕ) (r n b : Node) → StoresAt test x n → StoresAt test x b
    → n.thread ≡ b.thread → n.place ≤ b.place → edge_of test kinds r n ≡ true → Reaches test kinds r b
by_next test kinds x r n b v w e l h = go (store_path test kinds x n b v w e l)
  where
    go : (n ≡ b) ⊎ Reaches test kinds n b → Reaches test kinds r b
    go (inl q) = let P : Node → Type 0 = λ z. edge_of test kinds r z ≡ true in ([], subst P q h)
    go (inr p) = join (edge_of test kinds) r n b ([], h) p

-- the store of the next rank, where a later one stands in the thread
record NextStore (test : LitmusTest) (x : ℕ) (s b : Site) : Type 0 where
  next : Site
  stands : slice_get (stores_of test x) (rank_of test x s) ≡ Some next
  among : Among next (stores_of test x)
  low : next.place ≤ b.place

get_past : {X : Type 0} (fs : List X) (y z : X) (cs : List X) → slice_get (fs ++ y ∷ z ∷ cs) (length fs + 1) ≡ Some z
get_past [] y z cs = refl
get_past (f ∷ fs) y z cs =
    let e : suc (length fs) + 1 ≡ suc (length fs + 1) = omega arith in
    ap (slice_get (f ∷ (fs ++ y ∷ z ∷ cs))) e ∙ get_past fs y z cs

-- a list on both sides of two of its elements
among_cases : {X : Type 0} (fs : List X) (y : X) (cs : List X) (b : X) → Among b (fs ++ y ∷ cs)
    → Among b fs ⊎ ((b ≡ y) ⊎ Among b cs)
among_cases {X = X} [] y cs b a = go a.front a.whole
  where
    go : (gs : List X) → y ∷ cs ≡ gs ++ b ∷ a.rest → Among b [] ⊎ ((b ≡ y) ⊎ Among b cs)
    go [] e = let k : b ≡ y = cc in inr (inl k)
    go (g ∷ gs) e = let k : cs ≡ gs ++ b ∷ a.rest = cc in inr (inr (record { front = gs; rest = a.rest; whole = k }))
among_cases {X = X} (f ∷ fs) y cs b a = go a.front a.whole (λ k. among_cases fs y cs b k)
  where
    put : Among b fs ⊎ ((b ≡ y) ⊎ Among b cs) → Among b (f ∷ fs) ⊎ ((b ≡ y) ⊎ Among b cs)
    put (inl k) = inl (further b f fs k)
    put (inr k) = inr k

    go : (gs : List X) → f ∷ (fs ++ y ∷ cs) ≡ gs ++ b ∷ a.rest
        → (Among b (fs ++ y ∷ cs) → Among b fs ⊎ ((b ≡ y) ⊎ Among b cs))
        → Among b (f ∷ fs) ⊎ ((b ≡ y) ⊎ Among b cs)
    go [] e rec = let k : f ≡ b = cc in inl (record { front = []; rest = fs; whole = (λ i. k i ∷ fs) })
    go (g ∷ gs) e rec =
        let k : fs ++ y ∷ cs ≡ gs ++ b ∷ a.rest = cc in put (rec (record { front = gs; rest = a.rest; whole = k }))

next_store : (test : LitmusTest) (x w : ℕ) (s b : Site) → Each (λ (z : Site). z.thread ≡ w) (stores_of test x)
    → Among s (stores_of test x) → Among b (stores_of test x) → s.place < b.place → NextStore test x s b
next_store test x w s b one a k l =
    let body : stores_of test x ≡ stores_in_body x w 0 (body_of test w) = stores_of_one test x w one in
    let P : List Site → Type 0 = λ ss. Among b ss in
    by body (among_cases a.front s a.rest b (subst P a.whole k))
  where
    front_low : (fs : List Site) → stores_of test x ≡ stores_in_body x w 0 (body_of test w)
        → Among b a.front → ⊥
    front_low fs body m =
        let whole : stores_in_body x w 0 (body_of test w) ≡ m.front ++ b ∷ (m.rest ++ s ∷ a.rest) = sym body ∙ a.whole
        ∙ ap (λ ss. ss ++ s ∷ a.rest) m.whole ∙ append_assoc m.front (b ∷ m.rest) (s ∷ a.rest) in
        let late = later_stores x w 0 (body_of test w) m.front b (m.rest ++ s ∷ a.rest) whole in
        let here : Among s (m.rest ++ s ∷ a.rest) = record { front = m.rest; rest = a.rest; whole = refl } in
        let q : b.place < s.place = each_among (λ (z : Site). b.place < z.place) s (m.rest ++ s ∷ a.rest) here late in
        omega arith

    after : (cs : List Site) → a.rest ≡ cs → stores_of test x ≡ stores_in_body x w 0 (body_of test w)
        → Among b cs → NextStore test x s b
    after [] e body m = go m.front m.whole
      where
        go : (gs : List Site) → [] ≡ gs ++ b ∷ m.rest → NextStore test x s b
        go [] q = cc
        go (g ∷ gs) q = cc
    after (c ∷ cs) e body m =
        let whole : stores_of test x ≡ a.front ++ s ∷ c ∷ cs = a.whole ∙ ap (λ ss. a.front ++ s ∷ ss) e in
        let split : a.front ++ s ∷ c ∷ cs ≡ (a.front ++ s ∷ []) ++ c ∷ cs =
        sym (append_assoc a.front (s ∷ []) (c ∷ cs)) in
        let late = later_stores x w 0 (body_of test w) (a.front ++ s ∷ []) c cs (sym body ∙ whole ∙ split) in
        record {
          next = c;
          stands = (λ i. slice_get (whole i) (rank_at test x a.front s a.rest a.whole i)) ∙ get_past a.front s c cs;
          among = record { front = a.front ++ s ∷ []; rest = cs; whole = whole ∙ split };
          low = low cs late (among_cases [] c cs b m);
        }
      where
        low : (cs : List Site) → Each (λ (z : Site). c.place < z.place) cs
            → Among b [] ⊎ ((b ≡ c) ⊎ Among b cs) → c.place ≤ b.place
        low cs late (inl q) = go q.front q.whole
          where
            go : (gs : List Site) → [] ≡ gs ++ b ∷ q.rest → c.place ≤ b.place
            go [] z = cc
            go (g ∷ gs) z = cc
        low cs late (inr (inl q)) = let z : b.place ≡ c.place = ap (λ (y : Site). y.place) q in omega arith
        low cs late (inr (inr q)) =
            let z : c.place < b.place = each_among (λ (y : Site). c.place < y.place) b cs q late in omega arith

    by : stores_of test x ≡ stores_in_body x w 0 (body_of test w)
        → Among b a.front ⊎ ((b ≡ s) ⊎ Among b a.rest) → NextStore test x s b
    by body (inl m) = absurd (front_low a.front body m)
    by body (inr (inl m)) = let z : b.place ≡ s.place = ap (λ (y : Site). y.place) m in absurd (omega arith)
    by body (inr (inr m)) = after a.rest refl body m

-- an edge from an atom's read to a store that follows
follower_edge : (test : LitmusTest) (kinds : List AtomKind) (kind : AtomKind) (a : Node) (c : Site) → Among kind kinds
    → is_node test (site a) ≡ true → is_node test c ≡ true → same_node (asked_of test kind).reader a ≡ true
    → (asked_of test kind).follower ≡ Some (node c) → edge_of test kinds a (node c) ≡ true
follower_edge test kinds kind a c am na nc h f =
    let asked = asked_of test kind in
    asked_edge test kinds a (node c) kind na nc am
    (or_right (is_the asked.source a && same_node asked.reader (node c))
    (same_node asked.reader a && is_the asked.follower (node c))
    (and_from (same_node asked.reader a) (is_the asked.follower (node c)) h
    (ap (λ z. is_the z (node c)) f ∙ same_node_self (node c))))

kind_reaches : (test : LitmusTest) (kinds : List AtomKind) (kind : AtomKind) (a b : Node) → Among kind kinds
    → Tells test kind → is_ordered test kind ≡ true → is_node test (site a) ≡ true → is_node test (site b) ≡ true
    → asks_of test a b (reading_of test kind) ≡ true → Reaches test kinds a b
kind_reaches test kinds (Rf t column w p) a b am tells o na nb h =
    let r = reading_of test (Rf t column w p) in
    let s : Node = record { thread = w; place = p } in
    let after_source = same_node s a && same_node r.reader b in
    let own_before = is_own_before test r a && same_node s b in
    let before_later = same_node r.reader a && is_later test r s b in
    let k = and_parts (not (w == r.reader.thread)) ((after_source || own_before) || before_later) h in
    let n = own_newest test t p (reading_site test t column).place (location_read test t column) o in
    let loc : named_by tells.action ≡ location_read test t column = sym (location_is test t column tells.place
    tells.action tells.reader) in
    let P : ℕ → Type 0 = λ x. Among (site s) (stores_of test x) in
    let own : w ≡ t = each_among (λ (z : Site). z.thread ≡ t) (site s) (stores_of test (location_read test t column))
    (subst P loc tells.stands) n.own in
    absurd (not_same w r.reader.thread k.0 own)
kind_reaches test kinds (Fr t column w) a b am tells o na nb h =
    let r = reading_of test (Fr t column w) in
    let k = and_parts (same_node r.reader a) (writes_to test r.location b && not (b.thread == r.reader.thread)) h in
    let m = and_parts (writes_to test r.location b) (not (b.thread == r.reader.thread)) k.1 in
    let x = named_by tells.action in
    let loc : r.location ≡ x = location_is test t column tells.place tells.action tells.reader in
    let P : ℕ → Type 0 = λ z. StoresAt test z b in
    let v : StoresAt test x b = subst P loc (writes_tells test r.location b m.0) in
    let first = tells.other.first in
    let head : Among first (stores_of test x) =
    record { front = []; rest = tells.other.others; whole = tells.other.stores }
    in
    let u = stores_at_site test x first head in
    let there = store_at x test b.thread b.place v.action v.stands v.stores in
    let one : (z : Site) → Among z (stores_of test x) → z.thread ≡ w = λ z g. each_among (λ (y : Site). y.thread ≡ w) z
    (stores_of test x) g tells.other.one_thread in
    let Q : List Site → Type 0 = λ l. Among (site b) l in
    let low : first.place ≤ b.place = each_among (λ (z : Site). first.place ≤ z.place) (site b)
    (first ∷ tells.other.others) (subst Q tells.other.stores there) (
      omega arith,
      first_least x w 0 (body_of test w) first tells.other.others
          (sym (stores_of_one test x w tells.other.one_thread) ∙ tells.other.stores),
    ) in
    let follows : store_after test r.location 0 ≡ Some (node first) = ap
    (λ z. option_map node (slice_get (stores_of test z) 0)) loc
    ∙ ap (λ l. option_map node (slice_get l 0)) tells.other.stores in
    by_next test kinds x a (node first) b u v (one first head ∙ sym (one (site b) there)) low
    (follower_edge test kinds (Fr t column w) a first am na (stores_node test x (node first) u) k.0 follows)
kind_reaches test kinds (Exact t column w p) a b am tells o na nb h =
    go (or_cases (same_node s0 a && same_node r0.reader b || is_own_before test r0 a && same_node s0 b)
    (same_node r0.reader a && is_later test r0 s0 b) parts.1)
  where
    r0 : Reading
    r0 = reading_of test (Exact t column w p)

    s0 : Node
    s0 = record { thread = w; place = p }

    parts : (not (w == (reading_of test (Exact t column w p)).reader.thread) ≡ true)
        × (((same_node (record { thread = w; place = p }) a && same_node (node (reading_site test t column)) b
        || is_own_before test (reading_of test (Exact t column w p)) a
        && same_node (record { thread = w; place = p }) b)
        || same_node (node (reading_site test t column)) a
        && is_later test (reading_of test (Exact t column w p)) (record { thread = w; place = p }) b) ≡ true)
    parts = and_parts (not (w == (reading_of test (Exact t column w p)).reader.thread))
        ((same_node (record { thread = w; place = p }) a && same_node (node (reading_site test t column)) b
        || is_own_before test (reading_of test (Exact t column w p)) a
        && same_node (record { thread = w; place = p }) b)
        || same_node (node (reading_site test t column)) a
        && is_later test (reading_of test (Exact t column w p)) (record { thread = w; place = p }) b) h

    source : (same_node (record { thread = w; place = p }) a && same_node (node (reading_site test t column)) b) ≡ true
        → Reaches test kinds a b
    source k =
        let q = and_parts (same_node (record { thread = w; place = p }) a)
        (same_node (node (reading_site test t column)) b)
        k in
        let apart : (w == t) ≡ false = ne_eqb w t (λ e. tells.other.apart (sym e)) in
        let is : source_asked t w p ≡ Some (record { thread = w; place = p }) = rw apart refl in (
          [],
          asked_edge test kinds a b (Exact t column w p) na nb am
              (or_left (is_the (source_asked t w p) a && same_node (node (reading_site test t column)) b)
              (same_node (node (reading_site test t column)) a
              && is_the (asked_of test (Exact t column w p)).follower b)
              (and_from (is_the (source_asked t w p) a) (same_node (node (reading_site test t column)) b)
              (ap (λ z. is_the z a) is ∙ q.0) q.1)),
        )

    before : (is_own_before test (reading_of test (Exact t column w p)) a
        && same_node (record { thread = w; place = p }) b) ≡ true → Reaches test kinds a b
    before k =
        let r = reading_of test (Exact t column w p) in
        let q = and_parts (is_own_before test r a) (same_node (record { thread = w; place = p }) b) k in
        let u = and_parts (writes_to test r.location a && (a.thread == r.reader.thread)) (nat_lt a.place r.reader.place)
        q.0 in
        let v = and_parts (writes_to test r.location a) (a.thread == r.reader.thread) u.0 in
        absurd (other_store test t column tells.place w tells.action tells.reader tells.other a
        (writes_tells test r.location a v.0) (eqb-true a.thread r.reader.thread v.1))

    later : (same_node (node (reading_site test t column)) a
        && is_later test (reading_of test (Exact t column w p)) (record { thread = w; place = p }) b) ≡ true
        → Reaches test kinds a b
    later k =
        let r = reading_of test (Exact t column w p) in
        let s : Site = record { thread = w; place = p } in
        let q = and_parts (same_node r.reader a) (is_later test r (record { thread = w; place = p }) b) k in
        let u = and_parts (writes_to test r.location b && (b.thread == w)) (nat_lt p b.place) q.1 in
        let v = and_parts (writes_to test r.location b) (b.thread == w) u.0 in
        let x = named_by tells.action in
        let loc : r.location ≡ x = location_is test t column tells.place tells.action tells.reader in
        let P : ℕ → Type 0 = λ z. StoresAt test z b in
        let z : StoresAt test x b = subst P loc (writes_tells test r.location b v.0) in
        let there = store_at x test b.thread b.place z.action z.stands z.stores in
        let n = next_store test x w s (site b) tells.other.one_thread tells.stands there (ltb-true p b.place u.1) in
        let y = stores_at_site test x n.next n.among in
        let mine : n.next.thread ≡ w = each_among (λ (y : Site). y.thread ≡ w) n.next (stores_of test x) n.among
        tells.other.one_thread in
        let follows : store_after test r.location (rank_of test r.location s) ≡ Some (node n.next) =
        (λ i. option_map node (slice_get (stores_of test (loc i)) (rank_of test (loc i) s)))
        ∙ ap (option_map node) n.stands in
        by_next test kinds x a (node n.next) b y z (mine ∙ sym (eqb-true b.thread w v.1)) n.low
        (follower_edge test kinds (Exact t column w p) a n.next am na (stores_node test x (node n.next) y) q.0 follows)

    front : ((same_node (record { thread = w; place = p }) a && same_node (node (reading_site test t column)) b) ≡ true)
        ⊎ ((is_own_before test (reading_of test (Exact t column w p)) a
        && same_node (record { thread = w; place = p }) b) ≡ true) → Reaches test kinds a b
    front (inl k) = source k
    front (inr k) = before k

    go : ((same_node (record { thread = w; place = p }) a && same_node (node (reading_site test t column)) b
        || is_own_before test (reading_of test (Exact t column w p)) a
        && same_node (record { thread = w; place = p }) b) ≡ true)
        ⊎ ((same_node (node (reading_site test t column)) a
        && is_later test (reading_of test (Exact t column w p)) (record { thread = w; place = p }) b) ≡ true)
        → Reaches test kinds a b
    go (inl k) =
        front (or_cases (same_node (record { thread = w; place = p }) a
        && same_node (node (reading_site test t column)) b)
        (is_own_before test (reading_of test (Exact t column w p)) a
        && same_node (record { thread = w; place = p }) b) k)
    go (inr k) = later k

edge_reaches : (test : LitmusTest) (kinds : List AtomKind) (a b : Node) → Each (Tells test) kinds
    → Each (λ kind. is_ordered test kind ≡ true) kinds → edge_among test (map (reading_of test) kinds) [] a b ≡ true
    → Reaches test kinds a b
edge_reaches test kinds a b tells o h = let e = edge_is test (map (reading_of test) kinds) [] a b h in
    go e.from e.to e.why
  where
    go : is_node test (site a) ≡ true → is_node test (site b) ≡ true → (is_kept test (site a) (site b) ≡ true)
        ⊎ ((list_any (asks_of test a b) (map (reading_of test) kinds) ≡ true) ⊎ (false ≡ true)) → Reaches test kinds a b
    go na nb (inl k) = ([], kept_edge test kinds a b na nb k)
    go na nb (inr (inl k)) =
        let f = any_found (λ kind. asks_of test a b (reading_of test kind)) kinds
        (sym (any_map (asks_of test a b) (reading_of test) kinds) ∙ k) in
        kind_reaches test kinds f.here a b f.among (each_among (Tells test) f.here kinds f.among tells)
        (each_among (λ kind. is_ordered test kind ≡ true) f.here kinds f.among o) na nb f.passes
    go na nb (inr (inr k)) = cc

-- a path of paths is a path
paths_join : {X : Type 0} (p q : X → X → Bool) → ((a b : X) → q a b ≡ true → Path p a b) → (a : X) (xs : List X) (b : X)
    → is_path q a xs b ≡ true → Path p a b
paths_join p q f a [] b h = f a b h
paths_join p q f a (x ∷ xs) b h =
    let k = and_parts (q a x) (is_path q x xs b) h in join p a x b (f a x k.0) (paths_join p q f x xs b k.1)

cycle_join : {X : Type 0} (p q : X → X → Bool) → ((a b : X) → q a b ≡ true → Path p a b) → (xs : List X)
    → is_cycle_of q xs ≡ true → Loop p
cycle_join p q f [] h = cc
cycle_join p q f (a ∷ []) h = cc
cycle_join p q f (a ∷ b ∷ rest) h = (a, paths_join p q f a (b ∷ rest) a h)

-- the law of ordered conjunctions, anew
pub ordered_is_shown_lem : NoCycleIsShown
ordered_is_shown_lem checked c h o none =
    let test = checked.test in
    let kinds = kinds_in checked c in
    let l = ordered_has_no_choice_lem checked c h o in
    let P : List Choice → Type 0 = λ cs. (choice : Choice) → Among choice cs → IsTaken [] choice in
    go (shown_or_cycle checked c [] h l.0 (subst P (sym l.1) (λ choice a. no_member choice a.front a.rest a.whole)))
  where
    no_member : (choice : Choice) (fs cs : List Choice) → [] ≡ fs ++ choice ∷ cs → IsTaken [] choice
    no_member choice [] cs e = cc
    no_member choice (f ∷ fs) cs e = cc

    go : Closed (edge_once checked c []) ⊎ ((run : List Event) × Shows checked c run)
        → (run : List Event) × Shows checked c run
    go (inr r) = r
    go (inl k) =
        let test = checked.test in
        let kinds = kinds_in checked c in
        let loop = cycle_join (edge_in checked c) (edge_once checked c []) (λ a b e. edge_reaches test kinds a b
        (kinds_tell checked c h) (each_all (is_ordered test) kinds o) e) k.0 k.1 in
        let cycle = loop_cycle (edge_in checked c) loop in
        absurd (both_ways (is_cycle_of (edge_in checked c) cycle.0) (none cycle.0) cycle.1)
