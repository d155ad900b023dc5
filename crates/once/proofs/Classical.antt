-- The test as it is written, and the edges of verdicts.
use Rattle.std.proofs.Common.{◌≡◌, ℕ, suc, ◌+◌, ◌<◌, ◌≤◌, ◌==◌, ◌&&◌, ◌||◌, not, nat_lt, lt-ltb, Bool, true, false, cond, Some, List, [], ◌∷◌, ◌++◌, length, map, slice_get, refl, sym, ap, ◌∙◌, arith, subst, inl, inr, ◌⊎◌, eq-eqb, ne_eqb}
use Rattle.std.proofs.lemmas.Bool.{and_from, and_parts, not_from_false, or_cases, or_left, or_right}
use Rattle.std.specs.List.{AllByRecursion as Each, list_any}
use Rattle.x86_subset.specs.Instr.{is_store_to}
use Rattle.x86_subset.specs.Test.{LitmusTest, body_of}
use Rattle.x86_subset.specs.declared.instr.Instr.{Instr}
use Rattle.tso_machine.specs.Event.{Event}
use Rattle.seq_conv.specs.Sequence.{Site, rank_of, stores_in_body, stores_of}
use Rattle.seq_conv.proofs.Stores.{IsIn, IsStoreOf, rank_at, sites_in_body, stores_are, stores_of_one}
use Rattle.perp_base.proofs.Lists.{Among, each_among, each_weaker}
use Rattle.profile_check.specs.declared.kind.AtomKind.{AtomKind}
use Rattle.profile_check.specs.declared.kind.AtomKind.TheVariants.{Rf, Fr, Exact}
use Rattle.profile_check.proofs.KindLemmas.{Tells, named_by}
use Rattle.outcome_conv.specs.Holds.{location_read, reading_site}
use Rattle.outcome_conv.proofs.Agree.{location_is}
use Rattle.verdict.specs.declared.node.Node.{Node}
use Rattle.verdict.specs.Edges.{asked_of, asks, edge_in, edge_of, is_cycle_of, is_kept, is_node, is_path, is_the, kinds_in, node, same_node, site, source_asked, store_after}
use Rattle.verdict.proofs.Finds.{any_found}
use Rattle.verdict.proofs.Forward.{edge_cases, kinds_tell}
use Rattle.verdict.proofs.ReadEdges.{follower_is, other_store, source_is}
use Rattle.verdict.proofs.Walks.{same_node_self}
use Rattle.decision.specs.Shown.{Shows}
use Rattle.decision.proofs.HiddenReads.{hidden_reads_never_hold_lem}
use Rattle.litmus_outcomes.specs.Outcome.{IsPossible}
use Rattle.litmus_outcomes.proofs.Possible.{never_is_impossible_lem, once_is_the_test_lem}
use Rattle.once.specs.Edges.{Pair, Reading, asks_by, asks_of, edge_among, edge_once, is_later, is_own_before, reading_of, writes_to}
use Rattle.once.specs.Laws.{CyclesAreTrees, HiddenIsImpossible, TreesDecide}
use Rattle.once.specs.Trees.{Refutes, Tree}
use Rattle.once.proofs.Draws.{StoresAt}
use Rattle.once.proofs.Conjoined.{tree_or_run_lem}
use Rattle.once.proofs.Drawing.{among_map, edge_asked, edge_from, writes_from}
use Rattle.once.proofs.Forbidding.{trees_forbid_lem}

-- The test as it is written.

pub trees_decide_lem : TreesDecide
trees_decide_lem checked c h hides = (
  λ t p. (let s = (once_is_the_test_lem checked c h).1 p in trees_forbid_lem checked c s.0 t.0 h t.1 s.1),
  λ none. go none (tree_or_run_lem checked c h hides),
)
  where
    go : (IsPossible checked.test c → ⊥)
        → ((tree : Tree) × Refutes checked c [] tree) ⊎ ((run : List Event) × Shows checked c run)
        → (tree : Tree) × Refutes checked c [] tree
    go none (inl t) = t
    go none (inr r) = absurd (none ((once_is_the_test_lem checked c h).0 r))

pub hidden_is_impossible_lem : HiddenIsImpossible
hidden_is_impossible_lem checked c h hidden p =
    never_is_impossible_lem checked c h (hidden_reads_never_hold_lem checked c h hidden) p

-- The edges of verdicts.

path_more : {X : Type 0} (p q : X → X → Bool) → ((a b : X) → p a b ≡ true → q a b ≡ true)
    → (a : X) (xs : List X) (b : X)
    → is_path p a xs b ≡ true → is_path q a xs b ≡ true
path_more p q f a [] b h = f a b h
path_more p q f a (x ∷ xs) b h =
    let k = and_parts (p a x) (is_path p x xs b) h in
    and_from (q a x) (is_path q x xs b) (f a x k.0) (path_more p q f x xs b k.1)

cycle_more : {X : Type 0} (p q : X → X → Bool) → ((a b : X) → p a b ≡ true → q a b ≡ true) → (xs : List X)
    → is_cycle_of p xs ≡ true → is_cycle_of q xs ≡ true
cycle_more p q f [] h = cc
cycle_more p q f (a ∷ []) h = cc
cycle_more p q f (a ∷ b ∷ rest) h = path_more p q f a (b ∷ rest) a h

-- the later stores of a body
later_step : (x t p : ℕ) (body : List Instr) (a : Instr) (b : Bool) (fs : List Site) (s : Site) (cs : List Site)
    → ((fs : List Site) → stores_in_body x t (p + 1) body ≡ fs ++ s ∷ cs → Each (λ (z : Site). s.place < z.place) cs)
    → cond b (record { thread = t; place = p } ∷ stores_in_body x t (p + 1) body) (stores_in_body x t (p + 1) body)
    ≡ fs ++ s ∷ cs → Each (λ (z : Site). s.place < z.place) cs
later_step x t p body a true [] s cs rec h =
    let one : record { thread = t; place = p } ≡ s = cc in
    let rest : stores_in_body x t (p + 1) body ≡ cs = cc in
    let same : p ≡ s.place = ap (λ (z : Site). z.place) one in
    let Q : List Site → Type 0 = λ l. Each (IsIn t (p + 1)) l in
    each_weaker (IsIn t (p + 1)) (λ (z : Site). s.place < z.place)
    (λ z w. (let l : p + 1 ≤ z.place = w.1 in omega arith)) cs (subst Q rest (sites_in_body x t (p + 1) body))
later_step x t p body a true (f ∷ fs) s cs rec h =
    let rest : stores_in_body x t (p + 1) body ≡ fs ++ s ∷ cs = cc in rec fs rest
later_step x t p body a false fs s cs rec h = rec fs h

pub later_stores : (x t p : ℕ) (body : List Instr) (fs : List Site) (s : Site) (cs : List Site)
    → stores_in_body x t p body ≡ fs ++ s ∷ cs → Each (λ (z : Site). s.place < z.place) cs
later_stores x t p [] [] s cs h = cc
later_stores x t p [] (f ∷ fs) s cs h = cc
later_stores x t p (a ∷ body) fs s cs h =
    later_step x t p body a (is_store_to x a) fs s cs (λ gs k. later_stores x t (p + 1) body gs s cs k) h

get_after : {X : Type 0} (fs : List X) (y : X) (cs : List X) (z : X) → slice_get (fs ++ y ∷ cs) (length fs + 1) ≡ Some z
    → Among z cs
get_after [] y [] z h = cc
get_after [] y (c ∷ cs) z h =
    let e : c ≡ z = cc in record { front = []; rest = cs; whole = (λ i. e i ∷ cs) }
get_after (f ∷ fs) y cs z h =
    let e : suc (length fs) + 1 ≡ suc (length fs + 1) = omega arith in
    get_after fs y cs z (ap (slice_get (f ∷ (fs ++ y ∷ cs))) (sym e) ∙ h)

-- the store that follows a store in its thread's body
follows_later : (test : LitmusTest) (x w : ℕ) (s c : Site) → Each (λ (z : Site). z.thread ≡ w) (stores_of test x)
    → Among s (stores_of test x) → slice_get (stores_of test x) (rank_of test x s) ≡ Some c → s.place < c.place
follows_later test x w s c one a h =
    let rank = rank_at test x a.front s a.rest a.whole in
    let at : slice_get (a.front ++ s ∷ a.rest) (length a.front + 1) ≡ Some c = (λ i. slice_get (sym a.whole i)
    (sym rank i)) ∙ h in
    each_among (λ (z : Site). s.place < z.place) c a.rest (get_after a.front s a.rest c at)
    (later_stores x w 0 (body_of test w) a.front s a.rest (sym (stores_of_one test x w one) ∙ a.whole))

asked_source : (test : LitmusTest) (r : Reading) (t w p : ℕ) (a b : Node) → t ≡ r.reader.thread
    → (is_the (source_asked t w p) a && same_node r.reader b) ≡ true
    → asks_by test r (Some (record { thread = w; place = p })) a b ≡ true
asked_source test r t w p a b at h =
    let s : Node = record { thread = w; place = p } in
    let k = and_parts (is_the (source_asked t w p) a) (same_node r.reader b) h in
    let first = source_is t w p a k.0 in
    let is : s ≡ a = ap node first.1 in
    let P : Node → Type 0 = λ z. same_node s z ≡ true in
    let after_source = same_node s a && same_node r.reader b in
    let own_before = is_own_before test r a && same_node s b in
    let before_later = same_node r.reader a && is_later test r s b in
    and_from (not (w == r.reader.thread)) ((after_source || own_before) || before_later)
    (not_from_false (w == r.reader.thread) (ne_eqb w r.reader.thread (λ e. first.0 (e ∙ sym at))))
    (or_left (after_source || own_before) before_later (or_left after_source own_before
    (and_from (same_node s a) (same_node r.reader b) (subst P is (same_node_self s)) k.1)))

pub stores_at_site : (test : LitmusTest) (x : ℕ) (s : Site) → Among s (stores_of test x) → StoresAt test x (node s)
stores_at_site test x s am =
    let k = each_among (IsStoreOf test x) s (stores_of test x) am (stores_are test x) in
    record { action = k.action; stands = k.stands; stores = k.stores }

asked_once : (test : LitmusTest) (a b : Node) (kind : AtomKind) → Tells test kind → asks a b (asked_of test kind) ≡ true
    → asks_of test a b (reading_of test kind) ≡ true
asked_once test a b (Rf t column w p) tells h =
    go (or_cases (is_the (source_asked t w p) a && same_node (node (reading_site test t column)) b)
    (same_node (node (reading_site test t column)) a && false) h)
  where
    go : ((is_the (source_asked t w p) a && same_node (node (reading_site test t column)) b) ≡ true)
        ⊎ ((same_node (node (reading_site test t column)) a && false) ≡ true)
        → asks_of test a b (reading_of test (Rf t column w p)) ≡ true
    go (inl k) = asked_source test (reading_of test (Rf t column w p)) t w p a b refl k
    go (inr k) = let n = and_parts (same_node (node (reading_site test t column)) a) false k in cc (n.1)
asked_once test a b (Fr t column w) tells h =
    let r = reading_of test (Fr t column w) in
    let k = and_parts (same_node r.reader a) (is_the (store_after test r.location 0) b) h in
    let f = follower_is test r.location 0 b k.1 in
    let o = other_store test t column tells.place w 0 tells.action b tells.reader tells.other f in
    let loc : named_by tells.action ≡ r.location =
    sym (location_is test t column tells.place tells.action tells.reader) in
    let A : ℕ → Type 0 = λ z. Among f.store (stores_of test z) in
    let is : node f.store ≡ b = ap node f.is in
    let P : Node → Type 0 = λ z. StoresAt test r.location z in
    let stores : StoresAt test r.location b =
    subst P is (stores_at_site test r.location f.store (subst A loc o.stands)) in
    and_from (same_node r.reader a) (writes_to test r.location b && not (b.thread == r.reader.thread)) k.0
    (and_from (writes_to test r.location b) (not (b.thread == r.reader.thread)) (writes_from test r.location b stores)
    (not_from_false (b.thread == r.reader.thread) (ne_eqb b.thread r.reader.thread
    (λ e. o.apart (ap (λ (z : Site). z.thread) f.is ∙ e)))))
asked_once test a b (Exact t column w p) tells h =
    let r = reading_of test (Exact t column w p) in
    let s : Site = record { thread = w; place = p } in
    go (or_cases (is_the (source_asked t w p) a && same_node r.reader b)
    (same_node r.reader a && is_the (store_after test r.location (rank_of test r.location s)) b) h)
  where
    follows : (same_node (node (reading_site test t column)) a && is_the (store_after test
        (location_read test t column) (rank_of test (location_read test t column)
        (record { thread = w; place = p }))) b) ≡ true → asks_of test a b (reading_of test (Exact t column w p)) ≡ true
    follows h =
        let r = reading_of test (Exact t column w p) in
        let s : Site = record { thread = w; place = p } in
        let n : Node = record { thread = w; place = p } in
        let count = rank_of test r.location s in
        let k = and_parts (same_node r.reader a) (is_the (store_after test r.location count) b) h in
        let f = follower_is test r.location count b k.1 in
        let o = other_store test t column tells.place w count tells.action b tells.reader tells.other f in
        let x = named_by tells.action in
        let loc : x ≡ r.location = sym (location_is test t column tells.place tells.action tells.reader) in
        let A : ℕ → Type 0 = λ z. Among f.store (stores_of test z) in
        let is : node f.store ≡ b = ap node f.is in
        let P : Node → Type 0 = λ z. StoresAt test r.location z in
        let stores : StoresAt test r.location b = subst P is (stores_at_site test r.location f.store
        (subst A loc o.stands)) in
        let at : slice_get (stores_of test x) (rank_of test x s) ≡ Some f.store =
        (λ i. slice_get (stores_of test (loc i)) (rank_of test (loc i) s)) ∙ f.stands in
        let late : p < f.store.place = follows_later test x w s f.store tells.other.one_thread tells.stands at in
        let here : f.store.place ≡ b.place = ap (λ (z : Site). z.place) f.is in
        let own : b.thread ≡ w = sym (ap (λ (z : Site). z.thread) f.is) ∙ o.own in
        let after_source = same_node n a && same_node r.reader b in
        let own_before = is_own_before test r a && same_node n b in
        let before_later = same_node r.reader a && is_later test r n b in
        and_from (not (w == r.reader.thread)) ((after_source || own_before) || before_later)
        (not_from_false (w == r.reader.thread) (ne_eqb w r.reader.thread (λ e. tells.other.apart (sym e))))
        (or_right (after_source || own_before) before_later (and_from (same_node r.reader a) (is_later test r n b) k.0
        (and_from (writes_to test r.location b && (b.thread == w)) (nat_lt p b.place)
        (and_from (writes_to test r.location b) (b.thread == w) (writes_from test r.location b stores)
        (eq-eqb b.thread w own)) (lt-ltb p b.place (omega arith)))))

    go : ((is_the (source_asked t w p) a && same_node (node (reading_site test t column)) b) ≡ true)
        ⊎ ((same_node (node (reading_site test t column)) a && is_the (store_after test
        (location_read test t column) (rank_of test (location_read test t column)
        (record { thread = w; place = p }))) b) ≡ true) → asks_of test a b (reading_of test (Exact t column w p)) ≡ true
    go (inl k) = asked_source test (reading_of test (Exact t column w p)) t w p a b refl k
    go (inr k) = follows k

edge_more : (test : LitmusTest) (kinds : List AtomKind) (taken : List Pair) → Each (Tells test) kinds → (a b : Node)
    → edge_of test kinds a b ≡ true → edge_among test (map (reading_of test) kinds) taken a b ≡ true
edge_more test kinds taken tells a b h = let e = edge_cases test kinds a b h in go e.0 e.1 e.2
  where
    go : is_node test (site a) ≡ true → is_node test (site b) ≡ true
        → (is_kept test (site a) (site b) ≡ true) ⊎ (list_any (λ kind. asks a b (asked_of test kind)) kinds ≡ true)
        → edge_among test (map (reading_of test) kinds) taken a b ≡ true
    go na nb (inl k) =
        let readings = map (reading_of test) kinds in
        edge_from test readings taken a b na nb
        (or_left (is_kept test (site a) (site b) || list_any (asks_of test a b) readings)
        (list_any (λ p. same_node p.first a
        && same_node p.second b) taken)
        (or_left (is_kept test (site a) (site b)) (list_any (asks_of test a b) readings) k))
    go na nb (inr k) =
        let f = any_found (λ kind. asks a b (asked_of test kind)) kinds k in
        edge_asked test (map (reading_of test) kinds) taken (reading_of test f.here) a b
        (among_map (reading_of test) f.here kinds f.among) na nb
        (asked_once test a b f.here (each_among (Tells test) f.here kinds f.among tells) f.passes)

pub cycles_are_trees_lem : CyclesAreTrees
cycles_are_trees_lem checked c nodes h k =
    cycle_more (edge_in checked c) (edge_once checked c [])
    (λ a b e. edge_more checked.test (kinds_in checked c) [] (kinds_tell checked c h) a b e) nodes k
