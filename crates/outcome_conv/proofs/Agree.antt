-- The conditions in numbers are the atoms' meaning.
use Rattle.std.proofs.Common.{◌≡◌, ℕ, zero, suc, ◌+◌, ◌*◌, ◌%◌, ◌<◌, ◌≤◌, ◌==◌, Bool, true, false, cond, not, ◌&&◌, ◌||◌, Option, None, Some, List, [], ◌∷◌, ◌++◌, length, filter, take, count_by, slice_get, nat_le, nat_lt, ltb, refl, sym, ap, ◌∙◌, arith, subst, eq-eqb, one-add, zero-add, lt-ltb, le-ltb, le-leb, mul-le-mul_left, mod-eq_of_lt, length-append, ltb-true, append_assoc, inl, inr, ◌⊎◌, All}
use Rattle.std.proofs.lemmas.Bool.{and_left, and_from, and_parts, cases_lt, eqb-true, leb-true, lt-leb, not_from_false, not_from_true}
use Rattle.std.proofs.lemmas.Nat.{mod-mul-add}
use Rattle.std.proofs.lemmas.List.{length-map}
use Rattle.std.proofs.lemmas.List.Sums.{sum_by-cons}
use Rattle.std.proofs.lemmas.List.Elements.{All-from_recursion}
use Rattle.std.proofs.lemmas.Option.{slice_get_within, unwrap_or-slice_get}
use Rattle.std.specs.List.{AllByRecursion as Each, list_any, range_with_len}
use Rattle.std.specs.Option.{option_map_or}
use Rattle.x86_subset.specs.Test.{Code, LitmusTest, body_of}
use Rattle.x86_subset.specs.declared.instr.Instr.{Instr}
use Rattle.tso_machine.specs.Event.{Event, event_location, is_drain, site_of, written_value}
use Rattle.tso_machine.specs.Frame.{frame_of}
use Rattle.tso_machine.specs.Laws.{NamesSource, memory_values}
use Rattle.tso_machine.specs.Run.{IsRunOf}
use Rattle.x86_subset.specs.Instr.{is_reading}
use Rattle.seq_conv.specs.Sequence.{action_at, rank_of, store_count, stores_of, value_of, site_location, in_iteration, store_of}
use Rattle.seq_conv.specs.declared.site.Site.{Site}
use Rattle.perp_base.specs.Last.{last_that}
use Rattle.tso_machine.specs.Source.{is_memory_kind, is_memory_write, source_of}
use Rattle.seq_conv.specs.declared.site.Origin.{Origin}
use Rattle.tso_machine.proofs.Frames.{frame_each, frame_long}
use Rattle.perp_base.proofs.Lists.{among_from_contains, find_split, Among, any_filter, any_map, any_same, among_append_left, each_both, each_filter, each_from_among, each_passes, each_weaker, last_inner, last_ranged, range_any, take_while_split}
use Rattle.tso_machine.proofs.Parts.{memory_writes, write_among}
use Rattle.tso_machine.proofs.ReadEvents.{ReadAt, read_at}
use Rattle.tso_machine.proofs.Rising.{memory_values_before}
use Rattle.tso_machine.proofs.Sources.{read_from_memory, values_name_their_source_lem}
use Rattle.seq_conv.proofs.Stores.{location_at_store, owner_numbers, rank_at, rank_injective, rank_within}
use Rattle.profile_check.specs.declared.kind.AtomKind.{AtomKind}
use Rattle.profile_check.specs.declared.kind.AtomKind.TheVariants.{Rf, Fr, Exact}
use Rattle.profile_check.proofs.KindLemmas.{IsReader, OneOther, Tells, TellsExact, TellsFr, kind_tells, named_by}
use Rattle.outcome_conv.specs.declared.cond.CondKind.TheVariants.{AtLeast}
use Rattle.outcome_conv.specs.Conds.{cond_holds, cond_of, kind_holds, logged_in}
use Rattle.outcome_conv.specs.Holds.{event_at, events_before, first_in, first_store, holds_in, is_action_event, is_at_least, is_write_of, iteration_in, location_read, next_in, reading_places, reading_site, reads_before, reads_from, source_at, stands_before}
use Rattle.outcome_conv.specs.Laws.{ConditionsAgree}
use Rattle.outcome_conv.specs.Hits.{IsFrame}

-- Numbers and tests.

pub same_answer : (a b : Bool) → (a ≡ true → b ≡ true) → (b ≡ true → a ≡ true) → a ≡ b
same_answer true b f g = sym (f refl)
same_answer false true f g = g refl
same_answer false false f g = refl

residue_step : (k n r : ℕ) → 1 ≤ r → (r < k) ⊎ (r ≡ k) → ((k * n + r) % k ≡ r % k)
residue_step k n r a (inl h) =
    let e : k * n + r ≡ n * k + r = omega arith in
    rw e (mod-mul-add n k r h ∙ sym (mod-eq_of_lt h))
residue_step k n r a (inr h) =
    let e : k * n + r ≡ (n + 1) * k + 0 = omega arith in
    let f : r ≡ 1 * k + 0 = omega arith in
    let z : 0 < k = omega arith in
    rw e (mod-mul-add (n + 1) k 0 z ∙ sym (ap (λ x. x % k) f ∙ mod-mul-add 1 k 0 z))

residue : (k n r : ℕ) → 1 ≤ r → r ≤ k → (k * n + r) % k ≡ r % k
residue k n r a b = residue_step k n r a (let s : (r < k) ⊎ (r ≡ k) = grind arith in s)

residue_apart_step : (k r a : ℕ) → 1 ≤ r → 1 ≤ a → (r < k) ⊎ (r ≡ k) → (a < k) ⊎ (a ≡ k) → r % k ≡ a % k → r ≡ a
residue_apart_step k r a p q (inl g) (inl h) e = sym (mod-eq_of_lt g) ∙ e ∙ mod-eq_of_lt h
residue_apart_step k r a p q (inl g) (inr h) e =
    absurd (let f : a ≡ 1 * k + 0 = omega arith in let z : 0 < k = omega arith in let l : r ≡ 0 = sym (mod-eq_of_lt g)
    ∙ e ∙ ap (λ x. x % k) f ∙ mod-mul-add 1 k 0 z in omega arith)
residue_apart_step k r a p q (inr g) (inl h) e =
    absurd (let f : r ≡ 1 * k + 0 = omega arith in let z : 0 < k = omega arith in let l : a ≡ 0 = sym (mod-eq_of_lt h)
    ∙ sym e ∙ ap (λ x. x % k) f ∙ mod-mul-add 1 k 0 z in omega arith)
residue_apart_step k r a p q (inr g) (inr h) e = g ∙ sym h

residue_apart : (k r a : ℕ) → 1 ≤ r → r ≤ k → 1 ≤ a → a ≤ k → r % k ≡ a % k → r ≡ a
residue_apart k r a p b q c e =
    residue_apart_step k r a p q (let s : (r < k) ⊎ (r ≡ k) = grind arith in s)
    (let s : (a < k) ⊎ (a ≡ k) = grind arith in s) e

later_step : (k m n : ℕ) → 1 ≤ k → k * m ≤ k * n → (n < m) ⊎ (m ≤ n) → m ≤ n
later_step k m n a h (inr l) = l
later_step k m n a h (inl l) =
    absurd (let g : k * (n + 1) ≤ k * m = mul-le-mul_left k (let s : n + 1 ≤ m = omega arith in s) in omega arith)

later : (k m n : ℕ) → 1 ≤ k → k * m ≤ k * n → m ≤ n
later k m n a h = later_step k m n a h (cases_lt n m)

-- The column of a reading action.

place_step : (q c p : ℕ) (rest : List ℕ) (b : Bool) → slice_get rest c ≡ Some p
    → slice_get (cond b (q ∷ rest) rest) (cond b 1 0 + c) ≡ Some p
place_step q c p rest true h = rw one-add h
place_step q c p rest false h = rw zero-add h

place_at : (q : ℕ) (body : List Instr) (p r : ℕ) (a : Instr) → slice_get body p ≡ Some a → is_reading a ≡ true
    → r ≡ q + p → slice_get (reading_places q body) (count_by is_reading (take p body)) ≡ Some r
place_at q [] p r a e h k = cc
place_at q (b ∷ body) zero r a e h k =
    let s : b ≡ a = cc in
    let l : r ≡ q = omega arith in
    rw (s, h, l) refl
place_at q (b ∷ body) (suc p) r a e h k =
    rw (sum_by-cons (λ a. cond (is_reading a) 1 0) b (take p body))
    (place_step q (count_by is_reading (take p body)) r (reading_places (q + 1) body) (is_reading b)
    (place_at (q + 1) body p r a e h (omega arith)))

pub site_is : (test : LitmusTest) (t column p : ℕ) (action : Instr) → IsReader test t column p action
    → reading_site test t column ≡ record { thread = t; place = p }
site_is test t column p action r =
    rw (r.column_is) (let e = place_at 0 (body_of test t) p p action r.stands r.reading (omega arith) in rw e refl)

pub location_is : (test : LitmusTest) (t column p : ℕ) (action : Instr) → IsReader test t column p action
    → location_read test t column ≡ named_by action
location_is test t column p action r = ap (site_location test) (site_is test t column p action r) ∙ (rw (r.stands) refl)

-- The reader's event.

is_reader : (test : LitmusTest) (run : List Event) (t p i : ℕ) (action : Instr) (r : ReadAt test run t p i action)
    → is_action_event (record { thread = t; place = p }) i r.event ≡ true
is_reader test run t p i action r =
    and_from (not (is_drain r.event) && (r.event.thread == t) && (r.event.place == p)) (r.event.iteration == i)
    (and_from (not (is_drain r.event) && (r.event.thread == t)) (r.event.place == p)
    (and_from (not (is_drain r.event)) (r.event.thread == t) (not_from_false (is_drain r.event) r.no_drain)
    (eq-eqb r.event.thread t r.thread))
    (eq-eqb r.event.place p r.place))
    (eq-eqb r.event.iteration i r.iteration)

source_is : (test : LitmusTest) (run : List Event) (t p i : ℕ) (action : Instr) (r : ReadAt test run t p i action)
    → source_at test (record { thread = t; place = p }) i run ≡ source_of test r.event r.before
source_is test run t p i action r =
    let s : Site = record { thread = t; place = p } in
    let here : event_at s i run ≡ Some r.event = rw (r.whole) (find_split
    (is_action_event s i) r.before r.event r.after r.none_before (is_reader test run t p i action r)) in
    let front : events_before s i run ≡ r.before =
    rw (r.whole) (take_while_split (λ d. not (is_action_event s i d)) r.before r.event r.after
    (each_weaker (λ d. is_action_event s i d ≡ false) (λ d. not (is_action_event s i d) ≡ true)
    (λ d k. not_from_false (is_action_event s i d) k) r.before r.none_before)
    (not_from_true (is_action_event s i r.event) (is_reader test run t p i action r))) in
    rw (here, front) refl

event_location_is : (test : LitmusTest) (run : List Event) (t column p i : ℕ) (action : Instr)
    → IsReader test t column p action → (r : ReadAt test run t p i action)
    → event_location test r.event ≡ named_by action
event_location_is test run t column p i action a r = rw (r.thread, r.place, a.stands) refl

-- the logged value names the source of the reader's event
pub logged_names : (test : LitmusTest) (n : ℕ) (run : List Event) (t column p i : ℕ) (action : Instr)
    → IsRunOf test n run → i < n → t < length test.bodies → IsReader test t column p action
    → NamesSource test n (location_read test t column) (logged_in test run t column i)
    (source_at test (reading_site test t column) i run)
logged_names test n run t column p i action r early below a =
    let e = read_at test n run t p i action (r.performs t below) early a.stands a.reading in
    let value : logged_in test run t column i ≡ e.value = rw (a.column_is) (e.logged) in
    let source : source_at test (reading_site test t column) i run
    ≡ source_of test e.event e.before = ap (λ z. source_at test z i run) (site_is test t column p action a)
    ∙ source_is test run t p i action e in
    let place : location_read test t column ≡ event_location test e.event = location_is test t column p action a
    ∙ sym (event_location_is test run t column p i action a e) in
    rw (value, source, place) (values_name_their_source_lem test n run e.before e.after e.event e.value r e.whole
    e.reads)

-- An rf atom.

rf_some : (test : LitmusTest) (x m v : ℕ) (s : Site) (o : Origin) → v ≡ value_of test x (store_of o) o.iteration
    → Among (store_of o) (stores_of test x) → Among s (stores_of test x)
    → kind_holds (AtLeast (store_count test x) (rank_of test x s)) v m ≡ is_at_least s m (Some o)
rf_some test x m v s o e a b =
    let k = store_count test x in
    let r = rank_of test x (store_of o) in
    let q = rank_of test x s in
    let in_r = rank_within test x (store_of o) a in
    let in_q = rank_within test x s b in
    let one : 1 ≤ k = omega arith in
    let v_is : v ≡ k * o.iteration + r = e in
    let rest : v % k ≡ r % k = ap (λ n. n % k) v_is ∙ residue k o.iteration r in_r.positive in_r.within in
    same_answer (nat_le (k * m + q) v && (v % k == q % k)) ((o.thread == s.thread) && (o.place == s.place)
    && nat_le m o.iteration)
    (λ h.
    let p = and_parts (nat_le (k * m + q) v) (v % k == q % k) h in
    let same_rank : r ≡ q = residue_apart k r q in_r.positive in_r.within in_q.positive in_q.within
    (sym rest ∙ eqb-true (v % k) (q % k) p.1) in
    let same : store_of o ≡ s = rank_injective test x (store_of o) s a b same_rank in
    let l : k * m + q ≤ v = leb-true (k * m + q) v p.0 in
    and_from ((o.thread == s.thread) && (o.place == s.place)) (nat_le m o.iteration)
    (and_from (o.thread == s.thread) (o.place == s.place) (eq-eqb o.thread s.thread (ap (λ (z : Site). z.thread) same))
    (eq-eqb o.place s.place (ap (λ (z : Site). z.place) same)))
    (le-leb m o.iteration (later k m o.iteration one (omega arith))))
    (λ h.
    let p = and_parts ((o.thread == s.thread) && (o.place == s.place)) (nat_le m o.iteration) h in
    let w = and_parts (o.thread == s.thread) (o.place == s.place) p.0 in
    let t : o.thread ≡ s.thread = eqb-true o.thread s.thread w.0 in
    let g : o.place ≡ s.place = eqb-true o.place s.place w.1 in
    let same_rank : r ≡ q = rw (t, g) refl in
    let l : k * m ≤ k * o.iteration = mul-le-mul_left k (leb-true m o.iteration p.1) in
    and_from (nat_le (k * m + q) v) (v % k == q % k)
    (le-leb (k * m + q) v (omega arith))
    (eq-eqb (v % k) (q % k) (rest ∙ ap (λ n. n % k) same_rank)))

rf_agrees : (test : LitmusTest) (n x m v : ℕ) (s : Site) (source : Option Origin) → NamesSource test n x v source
    → Among s (stores_of test x)
    → kind_holds (AtLeast (store_count test x) (rank_of test x s)) v m ≡ is_at_least s m source
rf_agrees test n x m v s None h b =
    let k = store_count test x in
    let q = rank_of test x s in
    let z : v ≡ 0 = h.initial.1 refl in
    let p = (rank_within test x s b).positive in
    and_left (nat_le (k * m + q) v) (v % k == q % k) (lt-leb (k * m + q) v (omega arith))
rf_agrees test n x m v s (Some o) h b =
    rf_some test x m v s o h.value (among_from_contains (stores_of test x) (store_of o) h.store.0) b

-- the rank and the residue tell that the read comes from the store
pub rf_at : (test : LitmusTest) (n : ℕ) (run : List Event) (t column p i m : ℕ) (action : Instr) (s : Site)
    → IsRunOf test n run → i < n → t < length test.bodies → IsReader test t column p action
    → Among s (stores_of test (named_by action))
    → kind_holds (AtLeast (store_count test (location_read test t column))
    (rank_of test (location_read test t column) s)) (logged_in test run t column i) m
    ≡ reads_from test run t column i s m
rf_at test n run t column p i m action s r early below a stands =
    rf_agrees test n (location_read test t column) m (logged_in test run t column i) s
    (source_at test (reading_site test t column) i run)
    (logged_names test n run t column p i action r early below a)
    (rw (location_is test t column p action a) stands)

-- An fr atom.

stands_split : (p q : Event → Bool) (fs : List Event) (y : Event) (cs : List Event) → Each (λ x. p x ≡ false) fs
    → p y ≡ true → stands_before p q (fs ++ y ∷ cs) ≡ not (list_any q fs)
stands_split p q [] y cs h e = rw e refl
stands_split p q (x ∷ fs) y cs h e =
    rw (h.0) (stands_step (q x) (stands_before p q (fs ++ y ∷ cs)) (list_any q fs) (stands_split p q fs y cs h.1 e))
  where
    stands_step : (b c d : Bool) → c ≡ not d → cond b false c ≡ not (b || d)
    stands_step true c d h = refl
    stands_step false c d h = h

regrouped : (a b c d : Bool) → (a && b && c && d) ≡ (a && (b && c && d))
regrouped true b c d = refl
regrouped false b c d = refl

abbrev is_of : Site → ℕ → Event → Bool
is_of s m e = (e.thread == s.thread) && (e.place == s.place) && (e.iteration == m)

-- of the writes to x that of a store in iteration m is the one with its value
value_at : (test : LitmusTest) (x m : ℕ) (s : Site) (e : Event) → Among s (stores_of test x)
    → Among (site_of e) (stores_of test x) → event_location test e ≡ x
    → is_of s m e ≡ (written_value test e == value_of test x s m)
value_at test x m s e a b l =
    let k = store_count test x in
    let r = rank_of test x (site_of e) in
    let q = rank_of test x s in
    let in_r = rank_within test x (site_of e) b in
    let in_s = rank_within test x s a in
    let w : written_value test e ≡ k * e.iteration + r = rw l refl in
    same_answer (is_of s m e) (written_value test e == k * m + q)
    (λ h.
    let p = and_parts ((e.thread == s.thread) && (e.place == s.place)) (e.iteration == m) h in
    let c = and_parts (e.thread == s.thread) (e.place == s.place) p.0 in
    let t : e.thread ≡ s.thread = eqb-true e.thread s.thread c.0 in
    let g : e.place ≡ s.place = eqb-true e.place s.place c.1 in
    let i : e.iteration ≡ m = eqb-true e.iteration m p.1 in
    let same_rank : r ≡ q = rw (t, g) refl in
    eq-eqb (written_value test e) (k * m + q) (w ∙ ap (λ n. k * n + r) i ∙ ap (λ n. k * m + n) same_rank))
    (λ h.
    let v : written_value test e ≡ k * m + q = eqb-true (written_value test e) (k * m + q) h in
    let mine = owner_numbers k (k * m + q) e.iteration r in_r.positive in_r.within (sym w ∙ v) in
    let its = owner_numbers k (k * m + q) m q in_s.positive in_s.within refl in
    let same : site_of e ≡ s = rank_injective test x (site_of e) s b a (mine.1 ∙ sym its.1) in
    and_from ((e.thread == s.thread) && (e.place == s.place)) (e.iteration == m)
    (and_from (e.thread == s.thread) (e.place == s.place) (eq-eqb e.thread s.thread (ap (λ (z : Site). z.thread) same))
    (eq-eqb e.place s.place (ap (λ (z : Site). z.place) same)))
    (eq-eqb e.iteration m (mine.0 ∙ sym its.0)))

within : (k l i : Bool) → (i ≡ true → l ≡ true) → (k && i) ≡ ((k && l) && i)
within true true true h = refl
within true false true h = let e : false ≡ true = h refl in cc
within true true false h = refl
within true false false h = refl
within false l i h = refl

-- the write of a store to x is a write to x
write_at : (test : LitmusTest) (x m : ℕ) (s : Site) (e : Event) → site_location test s ≡ x
    → is_write_of (in_iteration s m) e ≡ (is_memory_write test x e && is_of s m e)
write_at test x m s e l =
    regrouped (is_memory_kind e.kind) (e.thread == s.thread) (e.place == s.place) (e.iteration == m)
    ∙ within (is_memory_kind e.kind) (event_location test e == x) (is_of s m e)
    (λ h.
    let p = and_parts ((e.thread == s.thread) && (e.place == s.place)) (e.iteration == m) h in
    let c = and_parts (e.thread == s.thread) (e.place == s.place) p.0 in
    let same : site_of e ≡ s = λ i. record {
      thread = eqb-true e.thread s.thread c.0 i;
      place = eqb-true e.place s.place c.1 i;
    } in
    eq-eqb (event_location test e) x (ap (site_location test) same ∙ l))

-- that write stands among events exactly if they have so many writes to x
write_stands : (test : LitmusTest) (n x t m : ℕ) (s : Site) (before rest : List Event) → IsRunOf test n (before ++ rest)
    → Each (λ s. s.thread ≡ t) (stores_of test x) → Among s (stores_of test x)
    → list_any (is_write_of (in_iteration s m)) before
    ≡ ltb (value_of test x s m) (1 + length (memory_values test x before))
write_stands test n x t m s before rest r h a =
    let y = value_of test x s m in
    let at_x = is_memory_write test x in
    let writes = filter at_x before in
    let location : site_location test s ≡ x = location_at_store test x s a in
    let in_run : Each (λ e. Among e (before ++ rest)) writes = each_filter (λ e. Among e (before ++ rest)) at_x before
    (each_from_among (λ e. Among e (before ++ rest)) before (λ e b. among_append_left e before rest b)) in
    let tests : Each (λ e. is_of s m e ≡ (written_value test e == y)) writes =
    each_weaker (λ e. Among e (before ++ rest) × (at_x e ≡ true)) (λ e. is_of s m e ≡ (written_value test e == y))
    (λ e b.
    let p = and_parts (is_memory_kind e.kind) (event_location test e == x) b.1 in
    let l : event_location test e ≡ x = eqb-true (event_location test e) x p.1 in
    value_at test x m s e a (write_among test n (before ++ rest) e x r b.0 (memory_writes e.kind p.0) l) l)
    writes (each_both (λ e. Among e (before ++ rest)) (λ e. at_x e ≡ true) writes in_run (each_passes at_x before)) in
    let l : 1 ≤ y = omega (arith, (rank_within test x s a).positive) in
    any_same (is_write_of (in_iteration s m)) (λ e. at_x e && is_of s m e) before
    (each_from_among (λ e. is_write_of (in_iteration s m) e ≡ (at_x e && is_of s m e)) before
    (λ e b. write_at test x m s e location))
    ∙ any_filter at_x (is_of s m) before
    ∙ any_same (is_of s m) (λ e. written_value test e == y) writes tests
    ∙ sym (any_map (λ v. v == y) (written_value test) writes)
    ∙ ap (list_any (λ v. v == y)) (memory_values_before test n x t before rest r h)
    ∙ range_any 1 (length (memory_values test x before)) y l

below_or_not : (v y : ℕ) → nat_lt v y ≡ not (ltb y (1 + v))
below_or_not v y = go (cases_lt v y)
  where
    go : (v < y) ⊎ (y ≤ v) → nat_lt v y ≡ not (ltb y (1 + v))
    go (inl h) = rw (lt-ltb v y h, le-ltb y (1 + v) (let l : 1 + v ≤ y = omega arith in l)) refl
    go (inr h) = rw (le-ltb v y h, lt-ltb y (1 + v) (let l : y < 1 + v = omega arith in l)) refl

-- a read from memory takes as many as the writes before it
value_is_count : (test : LitmusTest) (n x t v : ℕ) (before rest : List Event) → IsRunOf test n (before ++ rest)
    → Each (λ s. s.thread ≡ t) (stores_of test x)
    → v ≡ option_map_or (written_value test) (last_that (is_memory_write test x) before) 0
    → v ≡ length (memory_values test x before)
value_is_count test n x t v before rest r h e =
    let at_x = is_memory_write test x in
    let writes = filter at_x before in
    let long : length (memory_values test x before) ≡ length writes = length-map writes (written_value test) in
    e ∙ ap (λ o. option_map_or (written_value test) o 0) (sym (last_inner at_x at_x (λ d k. k) before))
    ∙ last_ranged at_x (written_value test) writes 0 (each_passes at_x before)
    (memory_values_before test n x t before rest r h ∙ ap (range_with_len 1) long)
    ∙ zero-add (length writes) ∙ sym long

-- the read stands before the write of a store exactly if its value is below that of the store
before_at : (test : LitmusTest) (n : ℕ) (run : List Event) (t column writer p i m : ℕ) (action : Instr) (s : Site)
    → IsRunOf test n run → i < n → t < length test.bodies → IsReader test t column p action
    → OneOther test (named_by action) t writer → Among s (stores_of test (named_by action))
    → nat_lt (logged_in test run t column i) (value_of test (named_by action) s m)
    ≡ reads_before test run t column i (in_iteration s m)
before_at test n run t column writer p i m action s r early below a other stands =
    let x = named_by action in
    let rs : Site = record { thread = t; place = p } in
    let e = read_at test n run t p i action (r.performs t below) early a.stands a.reading in
    let r_cut : IsRunOf test n (e.before ++ e.event ∷ e.after) = subst (IsRunOf test n) e.whole r in
    let value : logged_in test run t column i ≡ e.value = rw (a.column_is) (e.logged) in
    let loc = event_location_is test run t column p i action a e in
    let one_thread_e : Each (λ s. s.thread ≡ writer) (stores_of test (event_location test e.event)) = subst (λ y. Each
    (λ s. s.thread ≡ writer) (stores_of test y)) (sym loc) other.one_thread in
    let from_memory = read_from_memory test n writer e.before e.after e.event e.value r_cut e.reads one_thread_e
    (λ k. other.apart (sym e.thread ∙ k)) in
    let from_x : e.value ≡ option_map_or (written_value test) (last_that (is_memory_write test x) e.before)
    0 = from_memory ∙ ap (λ y. option_map_or (written_value test) (last_that (is_memory_write test y) e.before) 0)
    loc in
    let count = value_is_count test n x writer e.value e.before (e.event ∷ e.after) r_cut other.one_thread from_x in
    let y = value_of test x s m in
    let numbers : nat_lt (logged_in test run t column i) y ≡ not (ltb y (1 + length (memory_values test x e.before))) =
    ap (λ v. nat_lt v y) (value ∙ count) ∙ below_or_not (length (memory_values test x e.before)) y in
    let places : reads_before test run t column i (in_iteration s m)
    ≡ not (list_any (is_write_of (in_iteration s m)) e.before) =
    ap (λ z. stands_before (is_action_event z i) (is_write_of (in_iteration s m)) run)
    (site_is test t column p action a)
    ∙ ap (stands_before (is_action_event rs i) (is_write_of (in_iteration s m))) e.whole
    ∙ stands_split (is_action_event rs i) (is_write_of (in_iteration s m)) e.before e.event e.after e.none_before
    (is_reader test run t p i action e) in
    numbers ∙ sym (places ∙ ap not (write_stands test n x writer m s e.before
    (e.event ∷ e.after) r_cut other.one_thread stands))

-- the write of the first store
pub fr_at : (test : LitmusTest) (n : ℕ) (run : List Event) (t column writer i m : ℕ) → IsRunOf test n run → i < n
    → t < length test.bodies → TellsFr test t column writer
    → nat_lt (logged_in test run t column i) (store_count test (location_read test t column) * m + 1)
    ≡ reads_before test run t column i (first_in test (location_read test t column) m)
fr_at test n run t column writer i m r early below tells =
    let a = tells.reader in
    let x = named_by tells.action in
    let v = logged_in test run t column i in
    let loc : location_read test t column ≡ x = location_is test t column tells.place tells.action a in
    let stands : Among tells.other.first (stores_of test x) = record {
      front = [];
      rest = tells.other.others;
      whole = tells.other.stores;
    } in
    let rank : rank_of test x tells.other.first ≡ 1 = rank_at test x
    [] tells.other.first tells.other.others tells.other.stores in
    let s_is : first_store (stores_of test x) ≡ tells.other.first = ap first_store tells.other.stores in
    ap (λ z. nat_lt v (store_count test z * m + 1)) loc
    ∙ ap (λ a. nat_lt v (store_count test x * m + a)) (sym rank)
    ∙ before_at test n run t column writer tells.place i m tells.action tells.other.first r early below a tells.other
    stands
    ∙ ap (λ s. reads_before test run t column i (in_iteration s m)) (sym s_is)
    ∙ ap (λ z. reads_before test run t column i (first_in test z m)) (sym loc)

-- An exact atom.

-- what follows a store has the next value
record NextIs (test : LitmusTest) (x m : ℕ) (s : Site) : Type 0 where
  store : Site
  iteration : ℕ
  is : next_in test x s m ≡ in_iteration store iteration
  stands : Among store (stores_of test x)
  value : value_of test x store iteration ≡ value_of test x s m + 1

none_at : {X : Type 0} (fs : List X) (y : X) → slice_get (fs ++ y ∷ []) (length fs + 1) ≡ None
none_at [] y = refl
none_at (x ∷ fs) y = let e : length (x ∷ fs) + 1 ≡ suc (length fs + 1) = omega arith in rw e (none_at fs y)

some_at : {X : Type 0} (fs : List X) (y z : X) (cs : List X) → slice_get (fs ++ y ∷ z ∷ cs) (length fs + 1) ≡ Some z
some_at [] y z cs = refl
some_at (x ∷ fs) y z cs = let e : length (x ∷ fs) + 1 ≡ suc (length fs + 1) = omega arith in rw e (some_at fs y z cs)

next_first : (test : LitmusTest) (x m : ℕ) (s : Site) (a : ℕ) (ss : List Site) → stores_of test x ≡ ss → 1 ≤ length ss
    → rank_of test x s ≡ length ss → slice_get ss (rank_of test x s) ≡ None → NextIs test x m s
next_first test x m s a [] e l r h = absurd (omega arith)
next_first test x m s a (y ∷ ys) e l r h =
    let count : store_count test x ≡ rank_of test x s = ap length e ∙ sym r in
    let one : rank_of test x y ≡ 1 = rank_at test x [] y ys e in
    record {
      store = y;
      iteration = m + 1;
      is =
          ap (λ o. option_map_or (λ next. in_iteration next m) o (first_in test x (m + 1)))
          (ap (λ ss. slice_get ss (rank_of test x s)) e ∙ h) ∙ ap (λ ss. in_iteration (first_store ss) (m + 1)) e;
      stands = record { front = []; rest = ys; whole = e };
      value = omega arith;
    }

next_is : (test : LitmusTest) (x m : ℕ) (s : Site) (fs cs : List Site) → stores_of test x ≡ fs ++ s ∷ cs
    → NextIs test x m s
next_is test x m s fs [] e =
    let r : rank_of test x s ≡ length fs + 1 = rank_at test x fs s [] e in
    let l : length (fs ++ s ∷ []) ≡ length fs + 1 = length-append fs (s ∷ []) in
    next_first test x m s 0 (fs ++ s ∷ []) e (omega arith) (r ∙ sym l) (rw r (none_at fs s))
next_is test x m s fs (y ∷ cs) e =
    let r : rank_of test x s ≡ length fs + 1 = rank_at test x fs s (y ∷ cs) e in
    let whole : stores_of test x ≡ (fs ++ s ∷ []) ++ y ∷ cs = e ∙ sym (append_assoc fs (s ∷ []) (y ∷ cs)) in
    let q : rank_of test x y ≡ length (fs ++ s ∷ []) + 1 = rank_at test x (fs ++ s ∷ []) y cs whole in
    let l : length (fs ++ s ∷ []) ≡ length fs + 1 = length-append fs (s ∷ []) in
    let third : slice_get (fs ++ s ∷ y ∷ cs) (rank_of test x s) ≡ Some y = rw r (some_at fs s y cs) in
    record {
      store = y;
      iteration = m;
      is =
          ap (λ o. option_map_or (λ next. in_iteration next m) o (first_in test x (m + 1)))
          (ap (λ ss. slice_get ss (rank_of test x s)) e ∙ third);
      stands = record { front = fs ++ s ∷ []; rest = cs; whole = whole };
      value = omega arith;
    }

-- a value is that of a store exactly if it is at least that, has its residue, and is below the next value
exact_numbers : (k m a v : ℕ) → 1 ≤ a → a ≤ k
    → (v == k * m + a) ≡ ((nat_le (k * m + a) v && (v % k == a % k)) && nat_lt v (k * m + a + 1))
exact_numbers k m a v p q =
    same_answer (v == k * m + a) ((nat_le (k * m + a) v && (v % k == a % k)) && nat_lt v (k * m + a + 1))
    (λ h.
    let e : v ≡ k * m + a = eqb-true v (k * m + a) h in
    and_from (nat_le (k * m + a) v && (v % k == a % k)) (nat_lt v (k * m + a + 1))
    (and_from (nat_le (k * m + a) v) (v % k == a % k) (le-leb (k * m + a) v (omega arith))
    (eq-eqb (v % k) (a % k) (ap (λ n. n % k) e ∙ residue k m a p q)))
    (lt-ltb v (k * m + a + 1) (omega arith)))
    (λ h.
    let w = and_parts (nat_le (k * m + a) v && (v % k == a % k)) (nat_lt v (k * m + a + 1)) h in
    let u = and_parts (nat_le (k * m + a) v) (v % k == a % k) w.0 in
    let low : k * m + a ≤ v = leb-true (k * m + a) v u.0 in
    let high : v < k * m + a + 1 = ltb-true v (k * m + a + 1) w.1 in
    eq-eqb v (k * m + a) (omega arith))

both : (a b c d : Bool) → a ≡ b → c ≡ d → (a && c) ≡ (b && d)
both a b c d e f = rw (e, f) refl

pub exact_at : (test : LitmusTest) (n : ℕ) (run : List Event) (t column i m : ℕ) (s : Site) → IsRunOf test n run → i < n
    → t < length test.bodies → TellsExact test t column s
    → (logged_in test run t column i == value_of test (location_read test t column) s m)
    ≡ (reads_from test run t column i s m && reads_before test run t column i
    (next_in test (location_read test t column) s m))
exact_at test n run t column i m s r early below tells =
    let a = tells.reader in
    let x = named_by tells.action in
    let l = location_read test t column in
    let v = logged_in test run t column i in
    let loc : l ≡ x = location_is test t column tells.place tells.action a in
    let in_l = rank_within test l s (rw loc (tells.stands)) in
    let next = next_is test x m s tells.stands.front tells.stands.rest tells.stands.whole in
    let later : nat_lt v (value_of test l s m + 1) ≡ reads_before test run t column i (next_in test l s m) =
    ap (λ z. nat_lt v (value_of test z s m + 1)) loc
    ∙ ap (nat_lt v) (sym next.value)
    ∙ before_at test n run t column s.thread tells.place i next.iteration tells.action next.store r early below a
    tells.other next.stands
    ∙ ap (reads_before test run t column i) (sym next.is)
    ∙ ap (λ z. reads_before test run t column i (next_in test z s m)) (sym loc) in
    exact_numbers (store_count test l) m (rank_of test l s) v in_l.positive in_l.within
    ∙ both (kind_holds (AtLeast (store_count test l) (rank_of test l s)) v m) (reads_from test run t column i s m)
    (nat_lt v (value_of test l s m + 1)) (reads_before test run t column i (next_in test l s m))
    (rf_at test n run t column tells.place i m tells.action s r early below a tells.stands) later

-- At a frame.

thread_below_step : (test : LitmusTest) (t p : ℕ) (a : Instr) (o : Option Code) → slice_get test.bodies t ≡ o
    → slice_get (option_map_or (λ (code : Code). code.actions) o []) p ≡ Some a → t < length test.bodies
thread_below_step test t p a None e h = cc
thread_below_step test t p a (Some code) e h = slice_get_within test.bodies t code e

pub thread_below : (test : LitmusTest) (t p : ℕ) (a : Instr)
    → action_at test (record { thread = t; place = p }) ≡ Some a → t < length test.bodies
thread_below test t p a e = thread_below_step test t p a (slice_get test.bodies t) refl e

pub frame_below : (n : ℕ) (frame : List ℕ) (t : ℕ) → t < length frame → All (λ i. i < n) frame
    → iteration_in frame t < n
frame_below n frame t l h = rw (unwrap_or-slice_get frame t 0) (h t 0 l)

pub agrees_by : (test : LitmusTest) (n : ℕ) (run : List Event) (frame : List ℕ) (kind : AtomKind) → IsRunOf test n run
    → IsFrame test n frame → Tells test kind → cond_holds (logged_in test run) frame (cond_of test kind)
    ≡ holds_in test run frame kind
agrees_by test n run frame (Rf t column writer place) r f tells =
    let l = thread_below test t tells.place tells.action tells.reader.stands in
    rf_at test n run t column tells.place (iteration_in frame t) (iteration_in frame writer) tells.action
    (record { thread = writer; place = place }) r (frame_below n frame t
    (let e = f.one_each in let k : t < length frame = omega arith in k) f.below) l tells.reader tells.stands
agrees_by test n run frame (Fr t column writer) r f tells =
    let l = thread_below test t tells.place tells.action tells.reader.stands in
    fr_at test n run t column writer (iteration_in frame t) (iteration_in frame writer) r
    (frame_below n frame t (let e = f.one_each in let k : t < length frame = omega arith in k) f.below) l tells
agrees_by test n run frame (Exact t column writer place) r f tells =
    let l = thread_below test t tells.place tells.action tells.reader.stands in
    exact_at test n run t column (iteration_in frame t) (iteration_in frame writer)
    (record { thread = writer; place = place }) r (frame_below n frame t
    (let e = f.one_each in let k : t < length frame = omega arith in k) f.below) l tells

pub conditions_agree_lem : ConditionsAgree
conditions_agree_lem test n run frame atom kind h r f e =
    agrees_by test n run frame kind r f (kind_tells test atom kind h e)

-- Counts.

pub frame_is : (test : LitmusTest) (n number : ℕ) → 1 ≤ n → IsFrame test n (frame_of n (length test.bodies) number)
frame_is test n number h = record {
  one_each = frame_long n (length test.bodies) number;
  below =
      All-from_recursion (λ i. i < n) (frame_of n (length test.bodies) number)
      (frame_each n (length test.bodies) number h);
}
