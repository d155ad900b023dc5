-- An rf atom that names a hidden store of the reader's own thread never holds.
use Rattle.std.proofs.Common.{◌≡◌, ℕ, ◌<◌, ◌≤◌, ◌==◌, Bool, true, false, ◌&&◌, ◌||◌, Option, None, Some, List, [], ◌∷◌, if◌then◌else◌, length, nat_le, nat_lt, refl, slice_get, sym, ap, ◌∙◌, arith, subst, inl, inr, ◌⊎◌}
use Rattle.std.proofs.lemmas.Bool.{and_parts, both_ways, eqb-true, false_from_ne_true, leb-true, ltb-true, or_cases}
use Rattle.std.specs.List.{cons_option, filter_map, list_all, list_any}
use Rattle.std.specs.Option.{is_some}
use Rattle.x86_subset.specs.Instr.{is_reading}
use Rattle.x86_subset.specs.Test.{LitmusTest}
use Rattle.x86_subset.specs.declared.instr.Instr.{Instr}
use Rattle.tso_machine.specs.Event.{Event, event_location, is_drain}
use Rattle.tso_machine.specs.Run.{IsRunOf}
use Rattle.tso_machine.specs.Source.{source_of}
use Rattle.seq_conv.specs.Numbers.{AreOf, Table, stores_at}
use Rattle.seq_conv.specs.Sequence.{Site, action_at, site_location, stores_of}
use Rattle.perp_base.proofs.Lists.{Among, each_among}
use Rattle.tso_machine.proofs.ReadEvents.{read_at}
use Rattle.seq_conv.proofs.Stores.{IsStoreOf, location_at_store, stores_are}
use Rattle.profile_check.specs.Profile.{CheckedTest, IsChecked}
use Rattle.profile_check.specs.declared.kind.AtomKind.{AtomKind}
use Rattle.profile_check.specs.declared.kind.AtomKind.TheVariants.{Rf, Fr, Exact}
use Rattle.profile_check.proofs.KindLemmas.{Tells, TellsRf, named_by}
use Rattle.outcome_conv.specs.Hits.{IsFrame}
use Rattle.outcome_conv.specs.Holds.{holds_in, is_action_event, is_at_least, iteration_in, location_read, reading_site, source_at}
use Rattle.outcome_conv.proofs.Agree.{location_is, site_is, thread_below}
use Rattle.verdict.specs.declared.node.Node.{Node}
use Rattle.verdict.specs.Edges.{kinds_in, node}
use Rattle.verdict.proofs.Finding.{stores_here}
use Rattle.verdict.proofs.Forward.{kinds_tell, each_all}
use Rattle.verdict.proofs.InOrder.{early_at}
use Rattle.decision.specs.declared.hidden.HiddenRead.{HiddenRead}
use Rattle.decision.specs.Hidden.{hidden_by, hidden_from, hidden_in, is_hidden, is_hidden_store, is_own_between}
use Rattle.decision.specs.Decisions.{NeverHolds}
use Rattle.decision.specs.Laws.{HiddenReadsNeverHold}
use Rattle.verdict.proofs.EventKinds.{stores_storing}
use Rattle.verdict.proofs.Finds.{any_found}
use Rattle.verdict.proofs.Moments.{event_from}
use Rattle.verdict.proofs.ReadEdges.{source_first}
use Rattle.verdict.proofs.Taken.{FromBuffer, FromMemory, at_least, taken_from}
use Rattle.decision.proofs.OwnReads.{Hider, OwnRead, never_read, own, own_order}

-- a read that takes from the store at place p in iteration j
pub own_read : (test : LitmusTest) (n : ℕ) (run : List Event) (t q p i j : ℕ) (action : Instr) → IsRunOf test n run
    → (below : t < length test.bodies) → i < n → action_at test (record { thread = t; place = q }) ≡ Some action
    → is_reading action ≡ true
    → source_at test (record { thread = t; place = q }) i run ≡ Some (own t p j)
    → OwnRead test n t (named_by action) p q i j
own_read test n run t q p i j action r below early stands reading source =
    let e = read_at test n run t q i action (r.performs t below) early stands reading in
    let loc : event_location test e.event ≡ named_by action = rw (e.thread, e.place, stands) refl in
    let here : source_at test (record { thread = t; place = q }) i run ≡ source_of test e.event e.before =
    ap (source_at test (record { thread = t; place = q }) i) e.whole
    ∙ source_first test e.before e.event e.after (record { thread = t; place = q }) i e.none_before
    (event_from is_drain (record { thread = t; place = q }) i e.event e.no_drain e.thread e.place e.iteration) in
    let C : ℕ → ℕ → Type 0 =
    λ u y. FromBuffer test u y e.before (own t p j) ⊎ FromMemory test u y e.event.kind e.before (own t p j) in
    let D : ℕ → Type 0 = λ u. C u (named_by action) in
    record {
      before = e.before;
      event = e.event;
      after = e.after;
      action = action;
      legal = subst (IsRunOf test n) e.whole r;
      below = below;
      early = early;
      thread = e.thread;
      place = e.place;
      iteration = e.iteration;
      no_drain = e.no_drain;
      stands = stands;
      gives = e.gives;
      first = λ d. both_ways (is_action_event (record { thread = t; place = q }) i d.event)
          (each_among (λ c. is_action_event (record { thread = t; place = q }) i c ≡ false) d.event e.before d.among
          e.none_before)
          (event_from is_drain (record { thread = t; place = q }) i d.event d.is d.thread d.place d.iteration);
      taken = subst D e.thread (subst (C e.event.thread) loc
          (taken_from test e.event e.before (own t p j) e.event.kind (sym here ∙ source)));
    }

-- a store of the thread between them
hider_of : (test : LitmusTest) (t p q x : ℕ) → Among (record { thread = t; place = p }) (stores_of test x)
    → list_any (is_own_between t p q) (stores_of test x) ≡ true → Hider test t x p q
hider_of test t p q x a h =
    let f = any_found (is_own_between t p q) (stores_of test x) h in
    let s = f.here in
    let k = and_parts ((s.thread == t) && nat_lt p s.place) (nat_lt s.place q) f.passes in
    let l = and_parts (s.thread == t) (nat_lt p s.place) k.0 in
    let own_one : s.thread ≡ t = eqb-true s.thread t l.0 in
    let first =
    each_among (IsStoreOf test x) (record { thread = t; place = p }) (stores_of test x) a (stores_are test x) in
    let second = each_among (IsStoreOf test x) s (stores_of test x) f.among (stores_are test x) in
    record {
      stored = first.action;
      stands = first.stands;
      storing = stores_storing x first.action first.stores;
      place = s.place;
      action = second.action;
      there = (let P : ℕ → Type 0 = λ u. action_at test (record { thread = u; place = s.place }) ≡ Some
          second.action in subst P own_one second.stands);
      hides = second.stores;
      location = (let P : ℕ → Type 0 = λ u. site_location test (record { thread = u; place = s.place }) ≡ x in subst P
          own_one (location_at_store test x s f.among));
      later = ltb-true p s.place l.1;
      earlier = ltb-true s.place q k.1;
    }

hidden_one : (test : LitmusTest) (n : ℕ) (run : List Event) (frame : List ℕ) (t column p : ℕ) → IsRunOf test n run
    → IsFrame test n frame → TellsRf test t column (record { thread = t; place = p })
    → is_hidden_store t p (reading_site test t column).place (stores_of test (location_read test t column)) ≡ true
    → is_at_least (record { thread = t; place = p }) (iteration_in frame t)
    (source_at test (reading_site test t column) (iteration_in frame t) run) ≡ true
    → ⊥
hidden_one test n run frame t column p r f tells h holds =
    let q = tells.place in
    let x = named_by tells.action in
    let i = iteration_in frame t in
    let site = site_is test t column q tells.action tells.reader in
    let loc = location_is test t column q tells.action tells.reader in
    let s = at_least (record { thread = t; place = p }) i (source_at test (reading_site test t column) i run) holds in
    let stands = tells.reader.stands in
    let read =
    own_read test n run t q p i s.iteration tells.action r (thread_below test t q tells.action stands)
    (early_at test n frame (record { thread = t; place = q }) tells.action f stands) stands tells.reader.reading
    (ap (λ z. source_at test z i run) (sym site) ∙ s.is) in
    let order = own_order test n t x p q i s.iteration read s.late in
    let Q : Site → Type 0 = λ z. is_hidden_store t p z.place (stores_of test (location_read test t column)) ≡ true in
    let there : is_hidden_store t p q (stores_of test x) ≡ true =
    ap (λ y. is_hidden_store t p q (stores_of test y)) (sym loc) ∙ subst Q site h in
    let P : ℕ → Type 0 = λ j. OwnRead test n t x p q i j in
    go order.1 (subst P (sym order.0) read)
    (or_cases (nat_le q p) (list_any (is_own_between t p q) (stores_of test x)) there)
  where
    go : p < tells.place
        → OwnRead test n t (named_by tells.action) p tells.place (iteration_in frame t) (iteration_in frame t)
        → (nat_le tells.place p ≡ true) ⊎
        (list_any (is_own_between t p tells.place) (stores_of test (named_by tells.action)) ≡ true)
        → ⊥
    go l read (inl k) = let m : tells.place ≤ p = leb-true tells.place p k in omega arith
    go l read (inr k) =
        never_read test n t (named_by tells.action) p tells.place (iteration_in frame t) read
        (hider_of test t p tells.place (named_by tells.action) tells.stands k)

hidden_rf : (read store : Node) (b : Bool)
    → is_some {T = HiddenRead} (if b then Some (record { store = store; read = read }) else None) ≡ true → b ≡ true
hidden_rf read store true h = refl
hidden_rf read store false h = cc

hidden_fails : (test : LitmusTest) (n : ℕ) (run : List Event) (frame : List ℕ) (kind : AtomKind) → IsRunOf test n run
    → IsFrame test n frame → Tells test kind → is_hidden test kind ≡ true → holds_in test run frame kind ≡ true → ⊥
hidden_fails test n run frame (Rf t column w p) r f tells h holds =
    let stores = stores_of test (location_read test t column) in
    let hides = is_hidden_store t p (reading_site test t column).place stores in
    let k =
    and_parts (w == t) hides (hidden_rf (node (reading_site test t column)) (record { thread = w; place = p })
    ((w == t) && hides) h) in
    let own_one : w ≡ t = eqb-true w t k.0 in
    let P : ℕ → Type 0 = λ u. TellsRf test t column (record { thread = u; place = p }) in
    let Q : ℕ → Type 0 =
    λ u. is_at_least (record { thread = u; place = p }) (iteration_in frame u)
    (source_at test (reading_site test t column) (iteration_in frame t) run) ≡ true in
    hidden_one test n run frame t column p r f (subst P own_one tells) k.1 (subst Q own_one holds)
hidden_fails test n run frame (Fr t column w) r f tells h holds = cc
hidden_fails test n run frame (Exact t column w p) r f tells h holds = cc

pub hidden_reads_never_hold_lem : HiddenReadsNeverHold
hidden_reads_never_hold_lem checked c within h n run frame r f =
    let test = checked.test in
    let kinds = kinds_in checked c in
    let a = any_found (is_hidden test) kinds h in
    false_from_ne_true (list_all (holds_in test run frame) kinds) (λ all.
    hidden_fails test n run frame a.here r f
    (each_among (Tells test) a.here kinds a.among (kinds_tell checked c within)) a.passes
    (each_among (λ kind. holds_in test run frame kind ≡ true) a.here kinds a.among
    (each_all (holds_in test run frame) kinds all)))

-- The first.

first_passes : {X : Type 0} (f : X → Option HiddenRead) (xs : List X) (h : HiddenRead)
    → slice_get (filter_map f xs) 0 ≡ Some h → list_any (λ x. is_some (f x)) xs ≡ true
first_passes f [] h e = cc
first_passes f (x ∷ xs) h e = go (f x) (first_passes f xs h) e
  where
    go : (o : Option HiddenRead) → (slice_get (filter_map f xs) 0 ≡ Some h → list_any (λ x. is_some (f x)) xs ≡ true)
        → slice_get (cons_option o (filter_map f xs)) 0 ≡ Some h
        → (is_some o || list_any (λ x. is_some (f x)) xs) ≡ true
    go None rec e = rec e
    go (Some z) rec e = refl

-- a conjunction with a hidden store
pub found_never_holds : (checked : CheckedTest) (c : ℕ) (h : HiddenRead) → IsChecked checked
    → hidden_in checked c ≡ Some h → NeverHolds checked c
found_never_holds checked c h within e =
    hidden_reads_never_hold_lem checked c within (first_passes (hidden_by checked.test) (kinds_in checked c) h e)

-- an rf atom, by the sequences
pub hidden_of : (test : LitmusTest) (table : Table) (kind : AtomKind) (t column w p loc : ℕ) (read : Node)
    (stores : List Site) (result : Option HiddenRead)
    → AreOf test table → kind ≡ Rf t column w p → read ≡ node (reading_site test t column)
    → loc ≡ location_read test t column → loc < length table.stores → stores ≡ stores_at table loc
    → result ≡ hidden_from read (record { thread = w; place = p }) stores → result ≡ hidden_by test kind
hidden_of test table kind t column w p loc read stores result h e r l within s q =
    q ∙ (rw (e, r, s, stores_here test table loc h within, l) refl)
