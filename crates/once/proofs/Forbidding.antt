-- In a run at a frame within which the atoms hold, or the sources are read, each edge leads forward, and of each choice
-- one side does: so no tree refutes the readings.
use Rattle.std.proofs.Common.{◌≡◌, ℕ, ◌+◌, ◌<◌, ◌≤◌, ◌==◌, ◌&&◌, ◌||◌, not, nat_lt, Bool, true, false, cond, Option, None, Some, List, [], ◌∷◌, ◌++◌, filter, map, option_map, slice_get, refl, sym, ap, ◌∙◌, arith, subst, inl, inr, ◌⊎◌}
use Rattle.std.proofs.lemmas.Bool.{and_from, and_parts, cases_eq, eqb-true, ltb-true, or_cases, or_right}
use Rattle.std.specs.List.{AllByRecursion as Each, list_any}
use Rattle.x86_subset.specs.Instr.{is_store_to}
use Rattle.x86_subset.specs.Test.{LitmusTest, body_of}
use Rattle.x86_subset.specs.declared.instr.Instr.{Instr}
use Rattle.tso_machine.specs.Event.{Event}
use Rattle.tso_machine.specs.Run.{IsRunOf}
use Rattle.seq_conv.specs.Sequence.{Origin, Site, in_iteration, site_location, stores_in_body, stores_of}
use Rattle.seq_conv.proofs.Stores.{IsIn, IsStoreOf, sites_in_body, store_at, stores_are, stores_of_one}
use Rattle.perp_base.proofs.Lists.{Among, among_from_contains, each_among, each_append, each_from_among, each_weaker}
use Rattle.profile_check.specs.declared.kind.AtomKind.{AtomKind}
use Rattle.profile_check.specs.declared.kind.AtomKind.TheVariants.{Rf, Fr, Exact}
use Rattle.profile_check.proofs.KindLemmas.{IsReader, Tells, named_by}
use Rattle.outcome_conv.specs.Hits.{IsFrame}
use Rattle.outcome_conv.specs.Holds.{holds_in, iteration_in, location_read, reading_site, source_at}
use Rattle.outcome_conv.proofs.Agree.{location_is}
use Rattle.verdict.specs.declared.node.Node.{Node}
use Rattle.verdict.specs.Edges.{is_barred, is_kept, is_the, kinds_in, node, same_node, site, store_after}
use Rattle.verdict.proofs.Finds.{any_found}
use Rattle.verdict.proofs.Forward.{each_all, kinds_tell, no_cycle}
use Rattle.verdict.proofs.InOrder.{IsNode, kept_goes, moment_in, node_tells}
use Rattle.verdict.proofs.ReadEdges.{asked_goes}
use Rattle.verdict.proofs.Walks.{same_node_self, same_node_tells}
use Rattle.run_witness.proofs.Reading.{store_stores}
use Rattle.decision.specs.Shown.{zeros}
use Rattle.decision.proofs.Blockers.{storing_access}
use Rattle.decision.proofs.Deciding.{zeros_frame}
use Rattle.decision.proofs.Finish.{all_from}
use Rattle.decision.proofs.Waits.{keeps_storing, kept_from}
use Rattle.litmus_outcomes.specs.Within.{holds_within, is_exactly}
use Rattle.litmus_outcomes.proofs.Counted.{agrees_within, within_once}
use Rattle.once.specs.Edges.{Choice, Pair, Reading, after_reader, asks_by, asks_of, before_source, choice_of, choices_among, choices_by, choices_of, edge_among, readings_in, is_later, is_own_before, is_pair, is_third, reading_of, writes_to}
use Rattle.once.specs.Laws.{TreesForbid, TreesForbidWithin}
use Rattle.once.specs.Sources.{IsReading, is_source_to}
use Rattle.once.specs.Trees.{RefutesAmong, Tree, cycle, split}
use Rattle.once.proofs.Draws.{StoresAt}
use Rattle.once.proofs.Drawing.{edge_is, not_same, writes_tells}
use Rattle.once.proofs.Leading.{CutAt, Leads, cut_at, either_leads, initial_leads, own_leads, origin_in, source_leads}
use Rattle.once.proofs.Showing.{ReadsOf, reads_tells}
use Rattle.once.proofs.Named.{reader_at, store_named}

-- Stores.

node_at : (test : LitmusTest) (x : ℕ) (n : Node) → StoresAt test x n → IsNode test (site n)
node_at test x n w = record {
  action = w.action;
  stands = w.stands;
  access = storing_access w.action (store_stores x w.action w.stores);
}

-- two stores of one thread
stores_in_order : (test : LitmusTest) (n : ℕ) (run : List Event) (frame : List ℕ) (x : ℕ) (a b : Node)
    → IsRunOf test n run → IsFrame test n frame → StoresAt test x a → StoresAt test x b → a.thread ≡ b.thread
    → a.place < b.place → Leads run frame a b
stores_in_order test n run frame x a b r f v w e l =
    let m : Node = record { thread = a.thread; place = b.place } in
    let is : m ≡ b = (λ i. record { thread = e i; place = b.place }) in
    let P : Node → Type 0 = λ z. StoresAt test x z in
    let u : StoresAt test x m = subst P (sym is) w in
    let kept = kept_from test a.thread a.place b.place v.action u.action l v.stands u.stands
    (keeps_storing (is_barred (body_of test a.thread) a.place b.place) v.action u.action
    (store_stores x v.action v.stores) (inl (store_stores x u.action u.stores))) in
    let Q : Node → Type 0 = λ z. Leads run frame a z in
    subst Q is (kept_goes test n run frame (site a) (site m) r f (node_at test x a v) (node_at test x m u) kept)

-- What holds within a frame.

exactly_tells : (s : Site) (m : ℕ) (o : Option Origin) → is_exactly s m o ≡ true → o ≡ Some (in_iteration s m)
exactly_tells s m None h = cc
exactly_tells s m (Some o) h =
    let p = and_parts ((o.thread == s.thread) && (o.place == s.place)) (o.iteration == m) h in
    let q = and_parts (o.thread == s.thread) (o.place == s.place) p.0 in
    let t = eqb-true o.thread s.thread q.0 in
    let l = eqb-true o.place s.place q.1 in
    let k = eqb-true o.iteration m p.1 in
    (λ i. Some (record { thread = t i; place = l i; iteration = k i }))

-- the run at an atom's read and source
pub record ReadsAt (test : LitmusTest) (n : ℕ) (run : List Event) (frame : List ℕ) (r : Reading)
    (s : Node) : Type 0 where
  pub loc : site_location test (site r.reader) ≡ r.location
  pub stores : StoresAt test r.location s
  pub cut : CutAt test n frame r.reader run (Some (in_iteration (site s) (iteration_in frame s.thread)))

-- by the cut
each_leads : (test : LitmusTest) (n : ℕ) (run : List Event) (frame : List ℕ) (r : Reading) (s a b : Node)
    → (k : ReadsAt test n run frame r s) → Leads (k.cut.before ++ k.cut.event ∷ k.cut.after) frame a b
    → Leads run frame a b
each_leads test n run frame r s a b k h = let P : List Event → Type 0 = λ l. Leads l frame a b in
    subst P (sym k.cut.whole) h

either_in : (test : LitmusTest) (n : ℕ) (run : List Event) (frame : List ℕ) (r : Reading) (s o : Node)
    → ReadsAt test n run frame r s → StoresAt test r.location o → (o ≡ s → ⊥) → (o ≡ r.reader → ⊥)
    → Leads run frame o s ⊎ Leads run frame r.reader o
either_in test n run frame r s o k w ne nr =
    go (either_leads test n frame r.reader s o k.cut.before k.cut.event k.cut.after k.cut.at r.location k.loc
    k.cut.taken k.stores w ne nr)
  where
    go : Leads (k.cut.before ++ k.cut.event ∷ k.cut.after) frame o s
        ⊎ Leads (k.cut.before ++ k.cut.event ∷ k.cut.after) frame r.reader o
        → Leads run frame o s ⊎ Leads run frame r.reader o
    go (inl h) = inl (each_leads test n run frame r s o s k h)
    go (inr h) = inr (each_leads test n run frame r s r.reader o k h)

-- what an atom that names a store asks for leads forward
asks_leads : (test : LitmusTest) (n : ℕ) (run : List Event) (frame : List ℕ) (r : Reading) (s a b : Node)
    → IsRunOf test n run → IsFrame test n frame → ReadsAt test n run frame r s
    → asks_by test r (Some s) a b ≡ true → Leads run frame a b
asks_leads test n run frame r s a b is f k h =
    let after_source = same_node s a && same_node r.reader b in
    let own_before = is_own_before test r a && same_node s b in
    let before_later = same_node r.reader a && is_later test r s b in
    let p = and_parts (not (s.thread == r.reader.thread)) ((after_source || own_before) || before_later) h in
    go (not_same s.thread r.reader.thread p.0) (or_cases (after_source || own_before) before_later p.1)
  where
    first : (s.thread ≡ r.reader.thread → ⊥) → (same_node s a && same_node r.reader b) ≡ true → Leads run frame a b
    first ne h =
        let p = and_parts (same_node s a) (same_node r.reader b) h in
        let l = each_leads test n run frame r s s r.reader k
        (source_leads test n frame r.reader s k.cut.before k.cut.event
        k.cut.after k.cut.at r.location k.loc k.cut.taken ne) in
        let P : Node → Type 0 = λ z. Leads run frame z r.reader in
        let Q : Node → Type 0 = λ z. Leads run frame a z in
        subst Q (same_node_tells r.reader b p.1) (subst P (same_node_tells s a p.0) l)

    second : (s.thread ≡ r.reader.thread → ⊥) → (is_own_before test r a && same_node s b) ≡ true → Leads run frame a b
    second ne h =
        let p = and_parts (is_own_before test r a) (same_node s b) h in
        let u = and_parts (writes_to test r.location a && (a.thread == r.reader.thread)) (nat_lt a.place r.reader.place)
        p.0 in
        let v = and_parts (writes_to test r.location a) (a.thread == r.reader.thread) u.0 in
        let l = each_leads test n run frame r s a s k (own_leads test n frame r.reader s a k.cut.before k.cut.event
        k.cut.after f k.cut.at r.location k.loc k.cut.taken k.stores ne (writes_tells test r.location a v.0)
        (eqb-true a.thread r.reader.thread v.1) (ltb-true a.place r.reader.place u.1)) in
        let Q : Node → Type 0 = λ z. Leads run frame a z in
        subst Q (same_node_tells s b p.1) l

    third : (s.thread ≡ r.reader.thread → ⊥) → (same_node r.reader a && is_later test r s b) ≡ true
        → Leads run frame a b
    third ne h =
        let p = and_parts (same_node r.reader a) (is_later test r s b) h in
        let u = and_parts (writes_to test r.location b && (b.thread == s.thread)) (nat_lt s.place b.place) p.1 in
        let v = and_parts (writes_to test r.location b) (b.thread == s.thread) u.0 in
        let w = writes_tells test r.location b v.0 in
        let t : b.thread ≡ s.thread = eqb-true b.thread s.thread v.1 in
        let l : s.place < b.place = ltb-true s.place b.place u.1 in
        let P : Node → Type 0 = λ z. Leads run frame z b in
        subst P (same_node_tells r.reader a p.0)
        (out w t l (either_in test n run frame r s b k w
        (λ q. (let e : b.place ≡ s.place = ap (λ (z : Node). z.place) q in omega arith))
        (λ q. ne (sym t ∙ ap (λ (z : Node). z.thread) q))))
      where
        out : StoresAt test r.location b → b.thread ≡ s.thread → s.place < b.place
            → Leads run frame b s ⊎ Leads run frame r.reader b → Leads run frame r.reader b
        out w t l (inr g) = g
        out w t l (inl g) =
            let later = stores_in_order test n run frame r.location s b is f k.stores w (sym t) l in
            absurd (omega arith)

    front : (s.thread ≡ r.reader.thread → ⊥)
        → ((same_node s a && same_node r.reader b) ≡ true) ⊎ ((is_own_before test r a && same_node s b) ≡ true)
        → Leads run frame a b
    front ne (inl h) = first ne h
    front ne (inr h) = second ne h

    go : (s.thread ≡ r.reader.thread → ⊥)
        → ((same_node s a && same_node r.reader b || is_own_before test r a && same_node s b) ≡ true)
        ⊎ ((same_node r.reader a && is_later test r s b) ≡ true) → Leads run frame a b
    go ne (inl h) =
        front ne (or_cases (same_node s a && same_node r.reader b) (is_own_before test r a && same_node s b) h)
    go ne (inr h) = third ne h

-- of each choice one side leads forward
abbrev Sides : List Event → List ℕ → Choice → Type 0
Sides run frame c = Leads run frame c.other c.source ⊎ Leads run frame c.reader c.other

sides_step : (test : LitmusTest) (run : List Event) (frame : List ℕ) (reader source : Node) (t : Site) (ss : List Site)
    (b : Bool) → is_third reader source t ≡ b
    → (is_third reader source t ≡ true → Sides run frame (choice_of reader source t))
    → Each (Sides run frame) (map (choice_of reader source) (filter (is_third reader source) ss))
    → Each (Sides run frame) (map (choice_of reader source) (cond b (t ∷ filter (is_third reader source) ss)
    (filter (is_third reader source) ss)))
sides_step test run frame reader source t ss true e h k = (h e, k)
sides_step test run frame reader source t ss false e h k = k

sides_each : (test : LitmusTest) (run : List Event) (frame : List ℕ) (reader source : Node) (ss : List Site)
    → Each (λ t. is_third reader source t ≡ true → Sides run frame (choice_of reader source t)) ss
    → Each (Sides run frame) (map (choice_of reader source) (filter (is_third reader source) ss))
sides_each test run frame reader source [] h = tt
sides_each test run frame reader source (t ∷ ss) h =
    sides_step test run frame reader source t ss (is_third reader source t) refl h.0
    (sides_each test run frame reader source ss h.1)

sides_lead : (test : LitmusTest) (n : ℕ) (run : List Event) (frame : List ℕ) (r : Reading) (s : Node)
    → ReadsAt test n run frame r s → Each (Sides run frame) (choices_by test r (Some s))
sides_lead test n run frame r s k =
    let ss = stores_of test r.location in
    sides_each test run frame r.reader s ss
    (each_weaker (IsStoreOf test r.location) (λ t. is_third r.reader s t ≡ true
    → Sides run frame (choice_of r.reader s t)) (λ t w h.
    let p = and_parts (not (t.thread == r.reader.thread)) (not (t.thread == s.thread)) h in
    either_in test n run frame r s (node t) k (record { action = w.action; stands = w.stands; stores = w.stores })
    (λ q. not_same t.thread s.thread p.1 (ap (λ (z : Node). z.thread) q))
    (λ q. not_same t.thread r.reader.thread p.0 (ap (λ (z : Node). z.thread) q)))
    ss (stores_are test r.location))

-- The kinds.

pub record ReadingLeads (test : LitmusTest) (run : List Event) (frame : List ℕ) (r : Reading) : Type 0 where
  pub edges : (a b : Node) → asks_of test a b r ≡ true → Leads run frame a b
  pub sides : Each (Sides run frame) (choices_of test r)

reads_at : (test : LitmusTest) (n : ℕ) (run : List Event) (frame : List ℕ) (t column p : ℕ) (a : Instr) (s : Node)
    → IsRunOf test n run → IsFrame test n frame → IsReader test t column p a
    → Among (site s) (stores_of test (named_by a))
    → is_exactly (site s) (iteration_in frame s.thread) (source_at test (reading_site test t column)
    (iteration_in frame t) run) ≡ true
    → ReadsAt test n run frame (record {
      reader = node (reading_site test t column);
      location = location_read test t column;
      source = Some s;
    }) s
reads_at test n run frame t column p a s r f reader am h = record {
  loc = refl;
  stores = store_named test t column p a reader s am;
  cut =
      cut_at test n frame (node (reading_site test t column)) run
      (Some (in_iteration (site s) (iteration_in frame s.thread))) a r f (reader_at test t column p a reader)
      reader.reading
      (exactly_tells (site s) (iteration_in frame s.thread) (source_at test (reading_site test t column)
      (iteration_in frame t) run) h);
}

-- the first store of a body
pub first_least : (x t p : ℕ) (body : List Instr) (s : Site) (ss : List Site) → stores_in_body x t p body ≡ s ∷ ss
    → Each (λ (z : Site). s.place ≤ z.place) ss
first_least x t p [] s ss h = cc
first_least x t p (a ∷ body) s ss h = go (is_store_to x a) refl (λ k. first_least x t (p + 1) body s ss k) h
  where
    go : (b : Bool) → is_store_to x a ≡ b
        → (stores_in_body x t (p + 1) body ≡ s ∷ ss → Each (λ (z : Site). s.place ≤ z.place) ss)
        → cond b (record { thread = t; place = p } ∷ stores_in_body x t (p + 1) body) (stores_in_body x t (p + 1) body)
        ≡ s ∷ ss → Each (λ (z : Site). s.place ≤ z.place) ss
    go true e rec k =
        let one : record { thread = t; place = p } ≡ s = cc in
        let rest : stores_in_body x t (p + 1) body ≡ ss = cc in
        let same : p ≡ s.place = ap (λ (z : Site). z.place) one in
        let Q : List Site → Type 0 = λ l. Each (IsIn t (p + 1)) l in
        each_weaker (IsIn t (p + 1)) (λ (z : Site). s.place ≤ z.place)
        (λ z w. (let l : p + 1 ≤ z.place = w.1 in omega arith)) ss
        (subst Q rest (sites_in_body x t (p + 1) body))
    go false e rec k = rec k

-- an fr atom's read leads to each store of another thread
fr_leads : (test : LitmusTest) (n : ℕ) (run : List Event) (frame : List ℕ) (t column w : ℕ) → IsRunOf test n run
    → IsFrame test n frame → Tells test (Fr t column w) → holds_in test run frame (Fr t column w) ≡ true
    → (o : Node) → StoresAt test (location_read test t column) o
    → Leads run frame (node (reading_site test t column)) o
fr_leads test n run frame t column w r f tells holds o v =
    by (each_front first (site o) tells.other.others am (first_least x w 0 (body_of test w) first tells.other.others
    (sym (stores_of_one test x w tells.other.one_thread) ∙ tells.other.stores)))
  where
    kind : AtomKind
    kind = Fr t column w

    reader : Node
    reader = node (reading_site test t column)

    x : ℕ
    x = named_by tells.action

    loc : location_read test t column ≡ named_by tells.action
    loc = location_is test t column tells.place tells.action tells.reader

    first : Site
    first = tells.other.first

    q : StoresAt test (named_by tells.action) o
    q = let P : ℕ → Type 0 = λ z. StoresAt test z o in subst P loc v

    am : Among (site o) (tells.other.first ∷ tells.other.others)
    am = let P : List Site → Type 0 = λ l. Among (site o) l in
        subst P tells.other.stores (store_at (named_by tells.action) test o.thread o.place q.action q.stands q.stores)

    head : Among tells.other.first (stores_of test (named_by tells.action))
    head = record { front = []; rest = tells.other.others; whole = tells.other.stores }

    head_stores : StoresAt test (named_by tells.action) (node tells.other.first)
    head_stores =
        let k = each_among (IsStoreOf test (named_by tells.action)) tells.other.first
        (stores_of test (named_by tells.action)) head (stores_are test (named_by tells.action)) in
        record { action = k.action; stands = k.stands; stores = k.stores }

    thread_of : (z : Site) → Among z (stores_of test (named_by tells.action)) → z.thread ≡ w
    thread_of z k = each_among (λ (y : Site). y.thread ≡ w) z (stores_of test (named_by tells.action)) k
        tells.other.one_thread

    follower : store_after test (location_read test t column) 0 ≡ Some (node tells.other.first)
    follower = ap (λ z. option_map node (slice_get (stores_of test z) 0)) loc
        ∙ ap (λ l. option_map node (slice_get l 0)) tells.other.stores

    leads : Leads run frame (node (reading_site test t column)) (node tells.other.first)
    leads = asked_goes test n run frame (node (reading_site test t column)) (node tells.other.first) (Fr t column w) r f
        tells holds
        (or_right (is_the None (node (reading_site test t column))
        && same_node (node (reading_site test t column)) (node tells.other.first))
        (same_node (node (reading_site test t column)) (node (reading_site test t column))
        && is_the (store_after test (location_read test t column) 0) (node tells.other.first))
        (and_from (same_node (node (reading_site test t column)) (node (reading_site test t column)))
        (is_the (store_after test (location_read test t column) 0) (node tells.other.first))
        (same_node_self (node (reading_site test t column)))
        (ap (λ z. is_the z (node tells.other.first)) follower ∙ same_node_self (node tells.other.first))))

    each_front : (a y : Site) (ss : List Site) → Among y (a ∷ ss) → Each (λ (z : Site). a.place ≤ z.place) ss
        → a.place ≤ y.place
    each_front a y ss k e = each_among (λ (z : Site). a.place ≤ z.place) y (a ∷ ss) k (omega arith, e)

    by : tells.other.first.place ≤ o.place → Leads run frame (node (reading_site test t column)) o
    by l = go (cases_eq tells.other.first.place o.place)
      where
        thread : tells.other.first.thread ≡ o.thread
        thread = thread_of tells.other.first head
            ∙ sym (thread_of (site o) (store_at (named_by tells.action) test o.thread o.place q.action q.stands q.stores))

        go : (tells.other.first.place ≡ o.place) ⊎ (tells.other.first.place ≡ o.place → ⊥)
            → Leads run frame (node (reading_site test t column)) o
        go (inl e) =
            let is : node tells.other.first ≡ o = (λ i. record { thread = thread i; place = e i }) in
            let P : Node → Type 0 = λ z. Leads run frame (node (reading_site test t column)) z in
            subst P is leads
        go (inr ne) =
            let a = leads in
            let b = stores_in_order test n run frame (named_by tells.action)
            (node tells.other.first) o r f head_stores q
            thread (omega arith) in
            omega arith

kind_leads : (test : LitmusTest) (n : ℕ) (run : List Event) (frame : List ℕ) (kind : AtomKind) → IsRunOf test n run
    → IsFrame test n frame → Tells test kind → holds_within test run frame kind ≡ true
    → ReadingLeads test run frame (reading_of test kind)
kind_leads test n run frame (Rf t column w p) r f tells h =
    let s : Node = record { thread = w; place = p } in
    let k = reads_at test n run frame t column tells.place tells.action s r f tells.reader tells.stands h in
    let q = reading_of test (Rf t column w p) in
    record {
      edges = λ a b e. asks_leads test n run frame q s a b r f k e;
      sides = sides_lead test n run frame q s k;
    }
kind_leads test n run frame (Exact t column w p) r f tells h =
    let s : Node = record { thread = w; place = p } in
    let exactly : holds_within test run frame (Rf t column w p) ≡ true =
    sym (agrees_within test n run frame (Rf t column w p) r f (record {
      place = tells.place;
      action = tells.action;
      reader = tells.reader;
      stands = tells.stands;
    })) ∙ agrees_within test n run frame (Exact t column w p) r f tells ∙ h in
    let k = reads_at test n run frame t column tells.place tells.action s r f tells.reader tells.stands exactly in
    let q = reading_of test (Exact t column w p) in
    record {
      edges = λ a b e. asks_leads test n run frame q s a b r f k e;
      sides = sides_lead test n run frame q s k;
    }
kind_leads test n run frame (Fr t column w) r f tells h =
    let q = reading_of test (Fr t column w) in
    record {
      edges = λ a b e.
          let k = and_parts (same_node q.reader a) (writes_to test q.location b
          && not (b.thread == q.reader.thread)) e in
          let m = and_parts (writes_to test q.location b) (not (b.thread == q.reader.thread)) k.1 in
          let P : Node → Type 0 = λ z. Leads run frame z b in
          subst P (same_node_tells q.reader a k.0) (fr_leads test n run frame t column w r f tells h b
          (writes_tells test q.location b m.0));
      sides = tt;
    }

-- Trees.

abbrev AllLead : LitmusTest → List Event → List ℕ → List Reading → Type 0
AllLead test run frame readings = Each (ReadingLeads test run frame) readings

abbrev PairLeads : List Event → List ℕ → Pair → Type 0
PairLeads run frame p = Leads run frame p.first p.second

edge_leads : (test : LitmusTest) (n : ℕ) (run : List Event) (frame : List ℕ) (readings : List Reading)
    (taken : List Pair) (a b : Node) → IsRunOf test n run → IsFrame test n frame → AllLead test run frame readings
    → Each (PairLeads run frame) taken → edge_among test readings taken a b ≡ true → Leads run frame a b
edge_leads test n run frame readings taken a b r f all sides h =
    let e = edge_is test readings taken a b h in
    go (node_tells test (site a) e.from) (node_tells test (site b) e.to) e.why
  where
    go : IsNode test (site a) → IsNode test (site b) → (is_kept test (site a) (site b) ≡ true)
        ⊎ ((list_any (asks_of test a b) readings ≡ true) ⊎ (list_any (is_pair a b) taken ≡ true))
        → Leads run frame a b
    go na nb (inl k) = kept_goes test n run frame (site a) (site b) r f na nb k
    go na nb (inr (inl k)) =
        let x = any_found (asks_of test a b) readings k in
        (each_among (ReadingLeads test run frame) x.here readings x.among all).edges a b x.passes
    go na nb (inr (inr k)) =
        let x = any_found (is_pair a b) taken k in
        let p = and_parts (same_node x.here.first a) (same_node x.here.second b) x.passes in
        let l = each_among (PairLeads run frame) x.here taken x.among sides in
        let P : Node → Type 0 = λ z. Leads run frame z x.here.second in
        let Q : Node → Type 0 = λ z. Leads run frame a z in
        subst Q (same_node_tells x.here.second b p.1) (subst P (same_node_tells x.here.first a p.0) l)

each_sides : (test : LitmusTest) (run : List Event) (frame : List ℕ) (readings : List Reading)
    → AllLead test run frame readings → Each (Sides run frame) (choices_among test readings)
each_sides test run frame [] h = tt
each_sides test run frame (r ∷ readings) h =
    each_append (Sides run frame) (choices_of test r) (choices_among test readings) h.0.sides
    (each_sides test run frame readings h.1)

pub none_refutes : (test : LitmusTest) (n : ℕ) (readings : List Reading) (run : List Event) (frame : List ℕ)
    (taken : List Pair) (tree : Tree) → IsRunOf test n run → IsFrame test n frame → AllLead test run frame readings
    → Each (PairLeads run frame) taken → RefutesAmong test readings taken tree → ⊥
none_refutes test n readings run frame taken (cycle nodes) r f all sides h =
    no_cycle (edge_among test readings taken) (λ a. moment_in run frame (site a))
    (λ a b e. edge_leads test n run frame readings taken a b r f all sides e) nodes h
none_refutes test n readings run frame taken (split choice before after) r f all sides h =
    go (each_among (Sides run frame) choice (choices_among test readings)
    (among_from_contains (choices_among test readings) choice h.0) (each_sides test run frame readings all))
    (λ l. none_refutes test n readings run frame (before_source choice ∷ taken) before r f all (l, sides) h.1)
    (λ l. none_refutes test n readings run frame (after_reader choice ∷ taken) after r f all (l, sides) h.2)
  where
    go : Sides run frame choice → (Leads run frame choice.other choice.source → ⊥)
        → (Leads run frame choice.reader choice.other → ⊥) → ⊥
    go (inl l) f g = f l
    go (inr l) f g = g l

-- The sources of a run.

-- a read takes its value from its source, within the frame
abbrev pub HasSourceAt : LitmusTest → List Event → List ℕ → Reading → Type 0
HasSourceAt test run frame r =
    source_at test (site r.reader) (iteration_in frame r.reader.thread) run ≡ option_map (origin_in frame) r.source

initial_asks : (test : LitmusTest) (n : ℕ) (run : List Event) (frame : List ℕ) (r : Reading) (a b : Node)
    → ReadsOf test r.location r.reader → CutAt test n frame r.reader run None → asks_by test r None a b ≡ true
    → Leads run frame a b
initial_asks test n run frame r a b k c e =
    let p = and_parts (same_node r.reader a) (writes_to test r.location b && not (b.thread == r.reader.thread)) e in
    let q = and_parts (writes_to test r.location b) (not (b.thread == r.reader.thread)) p.1 in
    let l = initial_leads test n frame r.reader b c.before c.event c.after c.at r.location k.location c.taken
    (writes_tells test r.location b q.0)
    (λ z. not_same b.thread r.reader.thread q.1 (ap (λ (y : Node). y.thread) z)) in
    let P : List Event → Type 0 = λ es. Leads es frame r.reader b in
    let Q : Node → Type 0 = λ z. Leads run frame z b in
    subst Q (same_node_tells r.reader a p.0) (subst P (sym c.whole) l)

pub sourced_leads : (test : LitmusTest) (n : ℕ) (run : List Event) (frame : List ℕ) (r : Reading) → IsRunOf test n run
    → IsFrame test n frame → IsReading test r → HasSourceAt test run frame r → ReadingLeads test run frame r
sourced_leads test n run frame r is f reading h =
    let k = reads_tells test r.location r.reader reading.0 in
    let e = by k r.source reading.1 h in
    record { edges = e.0; sides = e.1 }
  where
    by : ReadsOf test r.location r.reader → (o : Option Node) → is_source_to test r.location o ≡ true
        → source_at test (site r.reader) (iteration_in frame r.reader.thread) run ≡ option_map (origin_in frame) o
        → ((a b : Node) → asks_by test r o a b ≡ true → Leads run frame a b)
        × Each (Sides run frame) (choices_by test r o)
    by k None src h =
        let c = cut_at test n frame r.reader run None k.action is f k.stands k.reading h in
        (λ a b e. initial_asks test n run frame r a b k c e, tt)
    by k (Some s) src h =
        let at : ReadsAt test n run frame r s = record {
          loc = k.location;
          stores = writes_tells test r.location s src;
          cut = cut_at test n frame r.reader run (Some (origin_in frame s)) k.action is f k.stands k.reading h;
        } in
        (λ a b e. asks_leads test n run frame r s a b is f at e, sides_lead test n run frame r s at)

pub each_mapped : {X Y : Type 0} (P : Y → Type 0) (f : X → Y) (xs : List X) → Each (λ x. P (f x)) xs → Each P (map f xs)
each_mapped P f [] h = tt
each_mapped P f (x ∷ xs) h = (h.0, each_mapped P f xs h.1)

pub trees_forbid_within_lem : TreesForbidWithin
trees_forbid_within_lem checked n c run frame tree h r f refutes holds =
    let test = checked.test in
    let kinds = kinds_in checked c in
    let H : AtomKind → Type 0 = λ kind. holds_within test run frame kind ≡ true in
    let all = each_from_among (λ kind. ReadingLeads test run frame (reading_of test kind)) kinds (λ kind am.
    kind_leads test n run frame kind r f
    (each_among (Tells test) kind kinds am (kinds_tell checked c h))
    (each_among H kind kinds am (each_all (holds_within test run frame) kinds holds))) in
    none_refutes test n (readings_in checked c) run frame [] tree r f
    (each_mapped (ReadingLeads test run frame) (reading_of test) kinds all) tt refutes

pub trees_forbid_lem : TreesForbid
trees_forbid_lem checked c run tree h refutes shown =
    let test = checked.test in
    let kinds = kinds_in checked c in
    let P : AtomKind → Type 0 = λ kind. holds_in test run (zeros test) kind ≡ true in
    let Q : AtomKind → Type 0 = λ kind. holds_within test run (zeros test) kind ≡ true in
    trees_forbid_within_lem checked 1 c run (zeros test) tree h shown.0 (zeros_frame test) refutes
    (all_from (holds_within test run (zeros test)) kinds (each_from_among Q kinds (λ kind am.
    within_once test run kind shown.0 (each_among (Tells test) kind kinds am (kinds_tell checked c h))
    (each_among P kind kinds am (each_all (holds_in test run (zeros test)) kinds shown.1)))))
