-- The choices in numbers are those of the run.
use Rattle.std.proofs.Common.{◌≡◌, ℕ, zero, suc, ◌+◌, ◌-◌, ◌*◌, ◌/◌, ◌%◌, ◌<◌, ◌≤◌, ◌==◌, Bool, true, false, cond, ◌&&◌, Option, None, Some, List, [], ◌∷◌, find, nat_lt, ltb, leb, refl, sym, ap, ◌∙◌, arith, ◌≢◌, eq-eqb, ne_eqb, lt-ltb, le-ltb, le-leb, div-lt_iff_lt-mul}
use Rattle.std.proofs.lemmas.Bool.{and_from, and_parts, eqb-true, leb-true, leb-false, ltb-true}
use Rattle.std.specs.List.{range_with_len}
use Rattle.x86_subset.specs.Test.{LitmusTest}
use Rattle.x86_subset.specs.declared.instr.Instr.{Instr}
use Rattle.tso_machine.specs.Event.{Event}
use Rattle.tso_machine.specs.Laws.{NamesSource}
use Rattle.tso_machine.specs.Run.{IsRunOf}
use Rattle.seq_conv.specs.Sequence.{rank_of, store_count, stores_of, value_of, store_of}
use Rattle.seq_conv.specs.declared.site.Site.{Site}
use Rattle.seq_conv.specs.declared.site.Origin.{Origin}
use Rattle.perp_base.proofs.Lists.{Among, among_from_contains}
use Rattle.seq_conv.proofs.Stores.{owner_numbers, rank_injective, rank_within}
use Rattle.profile_check.specs.declared.kind.AtomKind.{AtomKind}
use Rattle.profile_check.specs.declared.kind.AtomKind.TheVariants.{Rf, Fr, Exact}
use Rattle.profile_check.proofs.KindLemmas.{IsReader, Tells, kind_tells, named_by}
use Rattle.outcome_conv.specs.declared.cond.CondKind.{CondKind}
use Rattle.outcome_conv.specs.declared.cond.CondKind.TheVariants.{AtLeast, Below}
use Rattle.outcome_conv.specs.declared.cond.CondKind.TheVariants as cond_kind
use Rattle.outcome_conv.specs.Choices.{choice_by, choice_in, choice_of, iteration_from, owner_choice, some_below, source_choice}
use Rattle.outcome_conv.specs.Conds.{cond_of, logged_in}
use Rattle.outcome_conv.specs.Holds.{first_in, location_read, reading_site, reads_before, source_at}
use Rattle.outcome_conv.specs.Laws.{ChoicesAgree}
use Rattle.outcome_conv.proofs.Agree.{fr_at, location_is, logged_names, same_answer, thread_below}

-- An atom that names a store.

choose_same : (a b : Bool) (x : Option ℕ) (y : ℕ) → a ≡ b → x ≡ Some y → cond a x None ≡ cond b (Some y) None
choose_same a b x y e h = rw (e, h) refl

rf_some : (test : LitmusTest) (n x v : ℕ) (s : Site) (o : Origin) → v ≡ value_of test x (store_of o) o.iteration
    → o.iteration < n → Among (store_of o) (stores_of test x) → Among s (stores_of test x)
    → owner_choice n (store_count test x) (rank_of test x s) v ≡ iteration_from s (Some o)
rf_some test n x v s o e early a b =
    let k = store_count test x in
    let r = rank_of test x (store_of o) in
    let q = rank_of test x s in
    let in_r = rank_within test x (store_of o) a in
    let v_is : k * o.iteration + r ≡ v = sym e in
    let own = owner_numbers k v o.iteration r in_r.positive in_r.within v_is in
    let above : v ≢ 0 = λ z. (let l = in_r.positive in omega arith) in
    let tests : ((v - 1) % k + 1 == q) ≡ ((o.thread == s.thread) && (o.place == s.place)) =
    same_answer ((v - 1) % k + 1 == q) ((o.thread == s.thread) && (o.place == s.place))
    (λ h.
    let same : store_of o ≡ s = rank_injective test x (store_of o) s a b (own.1 ∙ eqb-true ((v - 1) % k + 1) q h) in
    and_from (o.thread == s.thread) (o.place == s.place) (eq-eqb o.thread s.thread (ap (λ (z : Site). z.thread) same))
    (eq-eqb o.place s.place (ap (λ (z : Site). z.place) same)))
    (λ h.
    let w = and_parts (o.thread == s.thread) (o.place == s.place) h in
    let t : o.thread ≡ s.thread = eqb-true o.thread s.thread w.0 in
    let g : o.place ≡ s.place = eqb-true o.place s.place w.1 in
    let same_rank : r ≡ q = rw (t, g) refl in
    eq-eqb ((v - 1) % k + 1) q (sym own.1 ∙ same_rank)) in
    let below : some_below n ((v - 1) / k) ≡ Some o.iteration =
    ap (λ b. cond b (Some ((v - 1) / k)) None) (lt-ltb ((v - 1) / k) n (rw (← own.0) early))
    ∙ ap (λ m. Some m) (sym own.0) in
    ap (λ b. cond b None (cond ((v - 1) % k + 1 == q) (some_below n ((v - 1) / k)) None)) (ne_eqb v 0 above)
    ∙ choose_same ((v - 1) % k + 1 == q) ((o.thread == s.thread) && (o.place == s.place))
    (some_below n ((v - 1) / k)) o.iteration tests below

rf_chooses : (test : LitmusTest) (n x v : ℕ) (s : Site) (source : Option Origin) → NamesSource test n x v source
    → Among s (stores_of test x)
    → owner_choice n (store_count test x) (rank_of test x s) v ≡ iteration_from s source
rf_chooses test n x v s None h b = rw (h.initial.1 refl) refl
rf_chooses test n x v s (Some o) h b =
    rf_some test n x v s o h.value h.store.1 (among_from_contains (stores_of test x) (store_of o) h.store.0) b

-- An fr atom.

find_same : (p q : ℕ → Bool) → ((m : ℕ) → p m ≡ q m) → (ms : List ℕ) → find p ms ≡ find q ms
find_same p q f [] = refl
find_same p q f (m ∷ ms) = rw (f m, find_same p q f ms) refl

least_step : (c a n : ℕ) (b : Bool) → leb c a ≡ b → a ≤ c
    → (a + 1 ≤ c → find (leb c) (range_with_len (a + 1) n) ≡ cond (ltb c (a + 1 + n)) (Some c) None)
    → cond b (Some a) (find (leb c) (range_with_len (a + 1) n)) ≡ cond (ltb c (a + suc n)) (Some c) None
least_step c a n true e h rec =
    let l : c ≤ a = leb-true c a e in
    let s : a ≡ c = omega arith in
    rw (lt-ltb c (a + suc n) (let k : c < a + suc n = omega arith in k)) (ap (λ m. Some m) s)
least_step c a n false e h rec =
    let l : a < c = leb-false c a e in
    let s : a + 1 + n ≡ a + suc n = omega arith in
    rec (omega arith) ∙ ap (λ m. cond (ltb c m) (Some c) None) s

-- the least number of a range that is not below c
least : (c a n : ℕ) → a ≤ c → find (leb c) (range_with_len a n) ≡ cond (ltb c (a + n)) (Some c) None
least c a zero h = rw (le-ltb c (a + 0) (let k : a + 0 ≤ c = omega arith in k)) refl
least c a (suc n) h = least_step c a n (leb c a) refl h (least c (a + 1) n)

rounded_up : (k v m : ℕ) → 1 ≤ k → nat_lt v (k * m + 1) ≡ leb ((v + k - 1) / k) m
rounded_up k v m h =
    same_answer (nat_lt v (k * m + 1)) (leb ((v + k - 1) / k) m)
    (λ e.
    let l : v < k * m + 1 = ltb-true v (k * m + 1) e in
    let d : (v + k - 1) / k < m + 1 = (div-lt_iff_lt-mul {k = k} h).1 (omega arith) in
    le-leb ((v + k - 1) / k) m (omega arith))
    (λ e.
    let l : (v + k - 1) / k ≤ m = leb-true ((v + k - 1) / k) m e in
    let d : v + k - 1 < (m + 1) * k = (div-lt_iff_lt-mul {k = k} h).0 (omega arith) in
    lt-ltb v (k * m + 1) (omega arith))

fr_chooses : (n k v : ℕ) (test : ℕ → Bool) → 1 ≤ k → ((m : ℕ) → nat_lt v (k * m + 1) ≡ test m)
    → choice_by n (Below k) v ≡ find test (range_with_len 0 n)
fr_chooses n k v test h f =
    let c = (v + k - 1) / k in
    let e : 0 + n ≡ n = omega arith in
    sym (sym (find_same (leb c) test (λ m. sym (rounded_up k v m h) ∙ f m) (range_with_len 0 n))
    ∙ least c 0 n (omega arith) ∙ ap (λ m. cond (ltb c m) (Some c) None) e)

names_choose : (test : LitmusTest) (n : ℕ) (run : List Event) (t column p i : ℕ) (action : Instr) (s : Site)
    → IsRunOf test n run → i < n → IsReader test t column p action → Among s (stores_of test (named_by action))
    → owner_choice n (store_count test (location_read test t column)) (rank_of test (location_read test t column) s)
    (logged_in test run t column i) ≡ source_choice test run t column s i
names_choose test n run t column p i action s r early a stands =
    rf_chooses test n (location_read test t column) (logged_in test run t column i) s
    (source_at test (reading_site test t column) i run)
    (logged_names test n run t column p i action r early (thread_below test t p action a.stands) a)
    (rw (location_is test t column p action a) stands)

pub chooses : (test : LitmusTest) (n : ℕ) (run : List Event) (kind : AtomKind) (i : ℕ) → IsRunOf test n run → i < n
    → Tells test kind → choice_of (logged_in test run) n (cond_of test kind) i ≡ choice_in test n run kind i
chooses test n run (Rf t column writer place) i r early tells =
    names_choose test n run t column tells.place i tells.action
    (record { thread = writer; place = place }) r early tells.reader tells.stands
chooses test n run (Fr t column writer) i r early tells =
    let below = thread_below test t tells.place tells.action tells.reader.stands in
    let l = location_read test t column in
    let one : 1 ≤ store_count test l = rw (
      location_is test t column tells.place tells.action tells.reader,
      tells.other.stores,
    ) (omega arith) in
    fr_chooses n (store_count test l) (logged_in test run t column i)
    (λ m. reads_before test run t column i (first_in test l m)) one
    (λ m. fr_at test n run t column writer i m r early below tells)
chooses test n run (Exact t column writer place) i r early tells =
    names_choose test n run t column tells.place i tells.action
    (record { thread = writer; place = place }) r early tells.reader tells.stands

pub choices_agree_lem : ChoicesAgree
choices_agree_lem test n run i atom kind h r early e = chooses test n run kind i r early (kind_tells test atom kind h e)

-- Each choice is below n.

below_by : (n m k : ℕ) (b : Bool) → nat_lt m n ≡ b → cond b (Some m) None ≡ Some k → k < n
below_by n m k true e h = let s : m ≡ k = cc in let l : m < n = ltb-true m n e in omega arith
below_by n m k false e h = cc

below_if : (n m k : ℕ) (b : Bool) → cond b (some_below n m) None ≡ Some k → k < n
below_if n m k true h = below_by n m k (nat_lt m n) refl h
below_if n m k false h = cc

below_unless : (n m k : ℕ) (b c : Bool) → cond b None (cond c (some_below n m) None) ≡ Some k → k < n
below_unless n m k true c h = cc
below_unless n m k false c h = below_if n m k c h

pub choice_below : (n : ℕ) (kind : CondKind) (v k : ℕ) → choice_by n kind v ≡ Some k → k < n
choice_below n (AtLeast k a) v m h = below_unless n ((v - 1) / k) m (v == 0) ((v - 1) % k + 1 == a) h
choice_below n (Below k) v m h = below_by n ((v + k - 1) / k) m (nat_lt ((v + k - 1) / k) n) refl h
choice_below n (cond_kind.Exact k a) v m h = below_unless n ((v - 1) / k) m (v == 0) ((v - 1) % k + 1 == a) h
