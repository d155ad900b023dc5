-- An atom holds at the one frame of a run of one iteration exactly where its register ends with its value.
use Rattle.std.proofs.Common.{◌≡◌, ◌↔◌, ℕ, ◌+◌, ◌*◌, ◌<◌, ◌≤◌, ◌==◌, Bool, true, false, cond, not, ◌&&◌, Option, None, Some, Result, Ok, Err, List, [], ◌∷◌, length, nat_le, nat_lt, slice_get, refl, sym, ap, ◌∙◌, arith, subst, unwrap_or, option_and_then, inl, inr, ◌⊎◌, eq-eqb, le-leb, lt-ltb, ltb-true}
use Rattle.std.proofs.lemmas.Bool.{and_from, and_parts, both_ways, eqb-true, eqb-false, true≢false}
use Rattle.std.proofs.lemmas.Option.{option_and_then_some}
use Rattle.std.specs.List.{AllByRecursion as Each}
use Rattle.x86_subset.specs.Instr.{is_reading, is_store_to}
use Rattle.x86_subset.specs.Registers.{place_held, register_number}
use Rattle.x86_subset.specs.Test.{Code, LitmusTest, HoldsReads, column_of, last_writer_of}
use Rattle.x86_subset.specs.declared.body.Held.{Held}
use Rattle.x86_subset.specs.declared.body.Held.TheVariants as held
use Rattle.x86_subset.specs.declared.instr.Instr.{Instr}
use Rattle.x86_subset.specs.declared.instr.Instr.TheVariants.{Store, Load, Fence, Exchange}
use Rattle.x86_subset.specs.declared.instr.Reg.{Reg}
use Rattle.x86_subset.specs.declared.test.Atom.{Atom}
use Rattle.tso_machine.specs.Event.{Event}
use Rattle.tso_machine.specs.Laws.{NamesSource}
use Rattle.tso_machine.specs.Run.{IsRunOf}
use Rattle.seq_conv.specs.Sequence.{action_at, rank_of, store_count, store_of, stores_of}
use Rattle.seq_conv.specs.Writers.{stand_in}
use Rattle.seq_conv.specs.declared.site.Origin.{Origin}
use Rattle.seq_conv.specs.declared.site.Site.{Site}
use Rattle.seq_conv.proofs.Stores.{IsStoreOf, rank_injective, rank_within, stores_are}
use Rattle.perp_base.proofs.Lists.{Among, among_from_contains, each_among, each_unfilter, filter_split}
use Rattle.profile_check.specs.Kinds.{is_some_of, kind_at, kind_by_place, kind_of, kind_of_value, kind_of_zero, stand_in_one_other, stores_written, written_of}
use Rattle.profile_check.specs.declared.kind.AtomKind.{AtomKind}
use Rattle.profile_check.specs.declared.kind.AtomKind.TheVariants.{Rf, Fr, Exact}
use Rattle.profile_check.specs.declared.kind.ProfileKind.{ProfileKind}
use Rattle.profile_check.specs.declared.kind.ProfileKind.TheVariants.{NoSuchThread, SeveralWriters, OwnWriter, ZeroStored}
use Rattle.profile_check.proofs.KindLemmas.{IsReader, Tells, kind_tells, named_by, reads_at}
use Rattle.outcome_conv.specs.Conds.{logged_in}
use Rattle.outcome_conv.specs.Holds.{holds_in, is_at_least, location_read, reading_site, reads_from, source_at}
use Rattle.outcome_conv.proofs.Agree.{agrees_by, location_is, logged_names, thread_below}
use Rattle.decision.specs.Shown.{zeros}
use Rattle.decision.proofs.Deciding.{zeros_frame}
use Rattle.decision.proofs.Finish.{zero_at}
use Rattle.litmus_outcomes.specs.Machine.{Step}
use Rattle.litmus_outcomes.specs.Outcome.{final_value, held_value}
use Rattle.litmus_outcomes.proofs.Values.{told, told_rank}
use Rattle.litmus_outcomes.proofs.Images.{steps_of}
use Rattle.litmus_outcomes.proofs.Readings.{value_is}

-- What a register holds.

held_at : (h : Held) (p : ℕ) → place_held h ≡ Some p → h ≡ held.Read p
held_at (held.Constant v) p e = cc
held_at (held.Read q) p e = let k : q ≡ p = cc in ap (λ z. held.Read z) k

pub final_is : (test : LitmusTest) (steps : List Step) (t : ℕ) (r : Reg) (p : ℕ) → last_writer_of test t r ≡ Some p
    → final_value test steps t r ≡ held_value steps t (held.Read p)
final_is test steps t r p e =
    option_and_then_some (λ (code : Code). option_and_then place_held (slice_get code.registers (register_number r)))
    (slice_get test.bodies t) p e
    (λ code c k. option_and_then_some place_held (slice_get code.registers (register_number r)) p k
    (λ h l m.
    ap (option_and_then (λ (d : Code). option_and_then (held_value steps t)
    (slice_get d.registers (register_number r)))) c
    ∙ ap (option_and_then (held_value steps t)) l
    ∙ ap (held_value steps t) (held_at h p m)))

-- What the kind of an atom says of the values of the text.

pub record Says (test : LitmusTest) (atom : Atom) (kind : AtomKind) : Type 0 where
  pub place : ℕ
  pub action : Instr
  pub holds : last_writer_of test atom.thread atom.reg ≡ Some place
  pub stands : action_at test (record { thread = atom.thread; place = place }) ≡ Some action
  pub reading : is_reading action ≡ true
  pub by : kind_at test atom.thread place (named_by action) atom.value ≡ Ok kind

pub chosen_ok : (b : Bool) (e : ProfileKind) (r : Result AtomKind ProfileKind) (kind : AtomKind)
    → cond b (Err e) r ≡ Ok kind → (b ≡ false) × (r ≡ Ok kind)
chosen_ok true e r kind h = cc
chosen_ok false e r kind h = (refl, h)

place_says : (test : LitmusTest) (atom : Atom) (kind : AtomKind) (o : Option ℕ) → HoldsReads test
    → last_writer_of test atom.thread atom.reg ≡ o → kind_by_place test atom o ≡ Ok kind → Says test atom kind
place_says test atom kind None h e k = cc
place_says test atom kind (Some p) h e k =
    let a = reads_at test atom.thread atom.reg p h e in
    record { place = p; action = a.0; holds = e; stands = a.1; reading = a.2; by = rw (a.1) at k }

pub says : (test : LitmusTest) (atom : Atom) (kind : AtomKind) → HoldsReads test → kind_of test atom ≡ Ok kind
    → Says test atom kind
says test atom kind h e =
    place_says test atom kind (last_writer_of test atom.thread atom.reg) h refl
    ((chosen_ok (not (nat_lt atom.thread (length test.bodies))) NoSuchThread
    (kind_by_place test atom (last_writer_of test atom.thread atom.reg)) kind e).1)

-- Values of one iteration are 0 or the ranks of stores.

abbrev IsRank : LitmusTest → ℕ → ℕ → Type 0
IsRank test x v = (v ≡ 0) ⊎ ((s : Site) × Among s (stores_of test x) × (v ≡ rank_of test x s))

rank_from : (test : LitmusTest) (x v : ℕ) (source : Option Origin) → NamesSource test 1 x v source → IsRank test x v
rank_from test x v None h = inl (h.initial.1 refl)
rank_from test x v (Some o) h =
    let s = store_of o in
    let l : o.iteration < 1 = h.store.1 in
    let z : o.iteration ≡ 0 = omega arith in
    let e : v ≡ store_count test x * 0 + rank_of test x s = h.value
    ∙ ap (λ i. store_count test x * i + rank_of test x s) z in
    inr (s, among_from_contains (stores_of test x) s h.store.0, omega arith)

-- the store at a site was written with v
abbrev pub written_with : LitmusTest → ℕ → Site → Bool
written_with test v s = is_some_of v (option_and_then written_of (action_at test s))

pub written_is : (v : ℕ) (o : Option ℕ) → is_some_of v o ≡ true → unwrap_or o 0 ≡ v
written_is v None h = cc
written_is v (Some w) h = eqb-true w v h

written_if : (v : ℕ) (o : Option ℕ) → (v == 0) ≡ false → unwrap_or o 0 ≡ v → is_some_of v o ≡ true
written_if v None z h = absurd (eqb-false v 0 z (sym h))
written_if v (Some w) z h = eq-eqb w v h

-- Where one store alone was written with the value of an atom.

pub record OneNamed (test : LitmusTest) (x v : ℕ) (s : Site) : Type 0 where
  pub not_zero : (v == 0) ≡ false
  pub alone : stores_written test x v ≡ s ∷ []

pub named_stands : (test : LitmusTest) (x v : ℕ) (s : Site) → OneNamed test x v s
    → Among s (stores_of test x) × (written_with test v s ≡ true)
named_stands test x v s n =
    let f = filter_split (written_with test v) (stores_of test x) [] s [] n.alone in
    (record { front = f.before; rest = f.after; whole = f.whole }, f.passes)

named_only : (test : LitmusTest) (x v : ℕ) (s r : Site) → OneNamed test x v s → Among r (stores_of test x)
    → written_with test v r ≡ true → r ≡ s
named_only test x v s r n a h =
    let P : Site → Type 0 = λ z. written_with test v z ≡ true → z ≡ s in
    let all : Each P (s ∷ []) = (λ k. refl, tt) in
    each_among P r (stores_of test x) a (each_unfilter P (written_with test v)
    (λ z e k. absurd (both_ways (written_with test v z) e k))
    (stores_of test x) (subst (Each P) (sym n.alone) all)) h

-- a value of one iteration stands for the value of the atom exactly if it is the rank of this store
named_told : (test : LitmusTest) (x v r : ℕ) (s : Site) → OneNamed test x v s → IsRank test x r
    → (told test x r ≡ v) ↔ (r ≡ rank_of test x s)
named_told test x v r s n rank = (from rank, to)
  where
    from : IsRank test x r → told test x r ≡ v → r ≡ rank_of test x s
    from (inl z) h = absurd (eqb-false v 0 n.not_zero (sym h ∙ ap (told test x) z))
    from (inr k) h =
        let w = written_if v (option_and_then written_of (action_at test k.0)) n.not_zero
        (sym (told_rank test x r k.0 k.1 k.2) ∙ h) in
        k.2 ∙ ap (rank_of test x) (named_only test x v s k.0 n k.1 w)

    to : r ≡ rank_of test x s → told test x r ≡ v
    to e =
        let k = named_stands test x v s n in
        told_rank test x r s k.0 e ∙ written_is v (option_and_then written_of (action_at test s)) k.1

-- Where no store was written with 0.

written_store : (x : ℕ) (a : Instr) → is_store_to x a ≡ true → (w : ℕ) × (written_of a ≡ Some w)
written_store x (Store loc w) h = (w, refl)
written_store x (Load reg loc) h = cc
written_store x Fence h = cc
written_store x (Exchange loc w reg) h = (w, refl)

zero_told : (test : LitmusTest) (x r : ℕ) → stores_written test x 0 ≡ [] → IsRank test x r
    → (told test x r ≡ 0) ↔ (r ≡ 0)
zero_told test x r none rank = (from rank, λ e. ap (told test x) e)
  where
    from : IsRank test x r → told test x r ≡ 0 → r ≡ 0
    from (inl z) h = z
    from (inr k) h =
        let s = k.0 in
        let i = each_among (IsStoreOf test x) s (stores_of test x) k.1 (stores_are test x) in
        let w = written_store x i.action i.stores in
        let text : option_and_then written_of (action_at test s) ≡ Some w.0 = ap (option_and_then written_of) i.stands
        ∙ w.1 in
        let zero_written : w.0 ≡ 0 = ap (λ o. unwrap_or o 0) (sym text) ∙ sym (told_rank test x r s k.1 k.2) ∙ h in
        let passes : written_with test 0 s ≡ true = ap (is_some_of 0) text ∙ eq-eqb w.0 0 zero_written in
        let P : Site → Type 0 = λ z. written_with test 0 z ≡ true → ⊥ in
        absurd (each_among P s (stores_of test x) k.1 (each_unfilter P (written_with test 0)
        (λ z e m. both_ways (written_with test 0 z) e m) (stores_of test x) (subst (Each P) (sym none) tt)) passes)

-- Atoms in the run.

at_least_is : (test : LitmusTest) (x r : ℕ) (s : Site) (source : Option Origin) → NamesSource test 1 x r source
    → Among s (stores_of test x) → (is_at_least s 0 source ≡ true) ↔ (r ≡ rank_of test x s)
at_least_is test x r s None h a = (
  λ k. absurd (true≢false (sym k)),
  λ k. absurd (let z : r ≡ 0 = h.initial.1 refl in
      let p : 1 ≤ rank_of test x s = (rank_within test x s a).positive in omega arith),
)
at_least_is test x r s (Some o) h a =
    let q = store_of o in
    let l : o.iteration < 1 = h.store.1 in
    let z : o.iteration ≡ 0 = omega arith in
    let e : r ≡ store_count test x * 0 + rank_of test x q = h.value
    ∙ ap (λ i. store_count test x * i + rank_of test x q) z in
    let rank : r ≡ rank_of test x q = omega arith in
    let b = among_from_contains (stores_of test x) q h.store.0 in (
      λ k.
          let p = and_parts ((o.thread == s.thread) && (o.place == s.place)) (nat_le 0 o.iteration) k in
          let w = and_parts (o.thread == s.thread) (o.place == s.place) p.0 in
          let t : o.thread ≡ s.thread = eqb-true o.thread s.thread w.0 in
          let g : o.place ≡ s.place = eqb-true o.place s.place w.1 in
          let same : q ≡ s = λ i. record { thread = t i; place = g i } in
          rank ∙ ap (rank_of test x) same,
      λ k.
          let same : q ≡ s = rank_injective test x q s b a (sym rank ∙ k) in
          and_from ((o.thread == s.thread) && (o.place == s.place)) (nat_le 0 o.iteration)
          (and_from (o.thread == s.thread) (o.place == s.place)
          (eq-eqb o.thread s.thread (ap (λ (y : Site). y.thread) same))
          (eq-eqb o.place s.place (ap (λ (y : Site). y.place) same)))
          (le-leb 0 o.iteration (omega arith)),
    )

abbrev Holds : LitmusTest → List Event → AtomKind → Type 0
Holds test run kind = holds_in test run (zeros test) kind ≡ true

-- what is logged for the reader in the one iteration
abbrev logged_once : LitmusTest → List Event → ℕ → ℕ → ℕ
logged_once test run t column = logged_in test run t column 0

names_once : (test : LitmusTest) (run : List Event) (t column p : ℕ) (action : Instr) → IsRunOf test 1 run
    → IsReader test t column p action
    → NamesSource test 1 (named_by action) (logged_once test run t column)
    (source_at test (reading_site test t column) 0 run)
names_once test run t column p action r a =
    let P : ℕ → Type 0 = λ z. NamesSource test 1 z (logged_once test run t column)
    (source_at test (reading_site test t column) 0 run) in
    subst P (location_is test t column p action a)
    (logged_names test 1 run t column p 0 action r (omega arith) (thread_below test t p action a.stands) a)

rf_once : (test : LitmusTest) (run : List Event) (t column p : ℕ) (action : Instr) (s : Site) → IsRunOf test 1 run
    → IsReader test t column p action → Among s (stores_of test (named_by action))
    → Holds test run (Rf t column s.thread s.place)
    ↔ (logged_once test run t column ≡ rank_of test (named_by action) s)
rf_once test run t column p action s r a b =
    let k = at_least_is test (named_by action) (logged_once test run t column) s
    (source_at test (reading_site test t column) 0 run) (names_once test run t column p action r a) b in
    let n = length test.bodies in
    let e : holds_in test run (zeros test) (Rf t column s.thread s.place) ≡ reads_from test run t column 0 s 0 =
    λ i. reads_from test run t column (zero_at n t i) s (zero_at n s.thread i) in
    (λ h. k.0 (sym e ∙ h), λ h. e ∙ k.1 h)

exact_once : (test : LitmusTest) (run : List Event) (t column p : ℕ) (action : Instr) (s : Site) → IsRunOf test 1 run
    → IsReader test t column p action → Tells test (Exact t column s.thread s.place)
    → Holds test run (Exact t column s.thread s.place)
    ↔ (logged_once test run t column ≡ rank_of test (named_by action) s)
exact_once test run t column p action s r a tells =
    let kind = Exact t column s.thread s.place in
    let x = named_by action in
    let l = location_read test t column in
    let loc : l ≡ x = location_is test t column p action a in
    let n = length test.bodies in
    let v = logged_once test run t column in
    let e : holds_in test run (zeros test) kind ≡ (v == store_count test x * 0 + rank_of test x s) =
    sym (agrees_by test 1 run (zeros test) kind r (zeros_frame test) tells)
    ∙ (λ i. logged_in test run t column (zero_at n t i)
    == store_count test (loc i) * zero_at n s.thread i + rank_of test (loc i) s) in (
      λ h. (let k : v ≡ store_count test x * 0 + rank_of test x s = eqb-true v (store_count test x * 0
          + rank_of test x s) (sym e ∙ h) in omega arith),
      λ h. e ∙ eq-eqb v (store_count test x * 0 + rank_of test x s) (omega arith),
    )

fr_once : (test : LitmusTest) (run : List Event) (t column w : ℕ) → IsRunOf test 1 run → Tells test (Fr t column w)
    → Holds test run (Fr t column w) ↔ (logged_once test run t column ≡ 0)
fr_once test run t column w r tells =
    let kind = Fr t column w in
    let k = store_count test (location_read test t column) in
    let n = length test.bodies in
    let v = logged_once test run t column in
    let e : holds_in test run (zeros test) kind ≡ nat_lt v (k * 0 + 1) =
    sym (agrees_by test 1 run (zeros test) kind r (zeros_frame test) tells)
    ∙ (λ i. nat_lt (logged_in test run t column (zero_at n t i)) (k * zero_at n w i + 1)) in (
      λ h. (let l : v < k * 0 + 1 = ltb-true v (k * 0 + 1) (sym e ∙ h) in omega arith),
      λ h. e ∙ lt-ltb v (k * 0 + 1) (omega arith),
    )

-- The atom and its register.

value_agrees : (test : LitmusTest) (run : List Event) (t p v : ℕ) (action : Instr) (kind : AtomKind) (ss : List Site)
    → IsRunOf test 1 run → IsReader test t (column_of test t p) p action → Tells test kind → (v == 0) ≡ false
    → stores_written test (named_by action) v ≡ ss
    → kind_of_value t (column_of test t p) (stores_of test (named_by action)) ss ≡ Ok kind
    → (told test (named_by action) (logged_once test run t (column_of test t p)) ≡ v) ↔ Holds test run kind
value_agrees test run t p v action kind [] r a tells z e h = cc
value_agrees test run t p v action kind (s ∷ other ∷ ss) r a tells z e h = cc
value_agrees test run t p v action kind (s ∷ []) r a tells z e h =
    go (stand_in_one_other t (stores_of test (named_by action))) h
  where
    named : OneNamed test (named_by action) v s
    named = record { not_zero = z; alone = e }

    go : (b : Bool) → cond {A = Result AtomKind ProfileKind} b (Ok (Exact t (column_of test t p) s.thread s.place))
        (Ok (Rf t (column_of test t p) s.thread s.place)) ≡ Ok kind
        → (told test (named_by action) (logged_once test run t (column_of test t p)) ≡ v) ↔ Holds test run kind
    go true k =
        let same : Exact t (column_of test t p) s.thread s.place ≡ kind = cc in
        let one = exact_once test run t (column_of test t p) p action s r a (subst (Tells test) (sym same) tells) in
        let told_is = named_told test (named_by action) v (logged_once test run t (column_of test t p)) s named
        (rank_from test (named_by action) (logged_once test run t (column_of test t p))
        (source_at test (reading_site test t (column_of test t p)) 0 run)
        (names_once test run t (column_of test t p) p action r a)) in (
          λ m. subst (Holds test run) same (one.1 (told_is.0 m)),
          λ m. told_is.1 (one.0 (subst (Holds test run) (sym same) m)),
        )
    go false k =
        let same : Rf t (column_of test t p) s.thread s.place ≡ kind = cc in
        let one = rf_once test run t (column_of test t p) p action s r a
        (named_stands test (named_by action) v s named).0 in
        let told_is = named_told test (named_by action) v (logged_once test run t (column_of test t p)) s named
        (rank_from test (named_by action) (logged_once test run t (column_of test t p))
        (source_at test (reading_site test t (column_of test t p)) 0 run)
        (names_once test run t (column_of test t p) p action r a)) in (
          λ m. subst (Holds test run) same (one.1 (told_is.0 m)),
          λ m. told_is.1 (one.0 (subst (Holds test run) (sym same) m)),
        )

pub none_if : {X : Type 0} (xs : List X) → nat_lt 0 (length xs) ≡ false → xs ≡ []
none_if [] h = refl
none_if (x ∷ xs) h =
    let l : 0 < length (x ∷ xs) = omega arith in
    absurd (both_ways (nat_lt 0 (length (x ∷ xs))) h (lt-ltb 0 (length (x ∷ xs)) l))

zero_agrees : (test : LitmusTest) (run : List Event) (t p : ℕ) (action : Instr) (kind : AtomKind) (ss : List Site)
    → IsRunOf test 1 run → IsReader test t (column_of test t p) p action → Tells test kind
    → stores_written test (named_by action) 0 ≡ []
    → kind_of_zero t (column_of test t p) ss ≡ Ok kind
    → (told test (named_by action) (logged_once test run t (column_of test t p)) ≡ 0) ↔ Holds test run kind
zero_agrees test run t p action kind [] r a tells none h = cc
zero_agrees test run t p action kind (s ∷ ss) r a tells none h =
    let column = column_of test t p in
    let one = chosen_ok (not (stand_in s.thread ss)) SeveralWriters
    (cond (s.thread == t) (Err OwnWriter) (Ok (Fr t column s.thread))) kind h in
    let own = chosen_ok (s.thread == t) OwnWriter (Ok (Fr t column s.thread)) kind one.1 in
    let last : Ok (Fr t column s.thread) ≡ Ok kind = own.1 in
    let same : Fr t column s.thread ≡ kind = cc in
    let v = logged_once test run t column in
    let fr = fr_once test run t column s.thread r (subst (Tells test) (sym same) tells) in
    let zero_is = zero_told test (named_by action) v none (rank_from test (named_by action) v
    (source_at test (reading_site test t column) 0 run) (names_once test run t column p action r a)) in (
      λ m. subst (Holds test run) same (fr.1 (zero_is.0 m)),
      λ m. zero_is.1 (fr.0 (subst (Holds test run) (sym same) m)),
    )

at_agrees : (test : LitmusTest) (run : List Event) (t p v : ℕ) (action : Instr) (kind : AtomKind) (b : Bool)
    → (v == 0) ≡ b → IsRunOf test 1 run → IsReader test t (column_of test t p) p action → Tells test kind
    → cond (not b) (kind_of_value t (column_of test t p) (stores_of test (named_by action))
    (stores_written test (named_by action) v))
    (cond (nat_lt 0 (length (stores_written test (named_by action) 0))) (Err ZeroStored)
    (kind_of_zero t (column_of test t p) (stores_of test (named_by action)))) ≡ Ok kind
    → (told test (named_by action) (logged_once test run t (column_of test t p)) ≡ v) ↔ Holds test run kind
at_agrees test run t p v action kind false z r a tells h =
    value_agrees test run t p v action kind (stores_written test (named_by action) v) r a tells z refl h
at_agrees test run t p v action kind true z r a tells h =
    let x = named_by action in
    let c = chosen_ok (nat_lt 0 (length (stores_written test x 0))) ZeroStored
    (kind_of_zero t (column_of test t p) (stores_of test x)) kind h in
    let k = zero_agrees test run t p action kind (stores_of test x) r a tells
    (none_if (stores_written test x 0) c.0) c.1 in
    let e : v ≡ 0 = eqb-true v 0 z in
    (λ m. k.0 (m ∙ e), λ m. k.1 m ∙ sym e)

some_is : (o : Option ℕ) (a v : ℕ) → o ≡ Some a → (o ≡ Some v) ↔ (a ≡ v)
some_is o a v h = (λ e. (let k : a ≡ v = cc in k), λ e. h ∙ ap (λ z. Some z) e)

-- an atom's register ends with its value exactly where it holds
pub atom_agrees : (test : LitmusTest) (run : List Event) (atom : Atom) (kind : AtomKind) → HoldsReads test
    → IsRunOf test 1 run → kind_of test atom ≡ Ok kind
    → (final_value test (steps_of test run) atom.thread atom.reg ≡ Some atom.value) ↔ Holds test run kind
atom_agrees test run atom kind h r e =
    let s = says test atom kind h e in
    let t = atom.thread in
    let column = column_of test t s.place in
    let a : IsReader test t column s.place s.action = record {
      stands = s.stands;
      reading = s.reading;
      column_is = refl;
    } in
    let k = at_agrees test run t s.place atom.value s.action kind (atom.value == 0) refl r a
    (kind_tells test atom kind h e) s.by in
    let v = told test (named_by s.action) (logged_once test run t column) in
    let o = some_is (final_value test (steps_of test run) t atom.reg) v atom.value
    (final_is test (steps_of test run) t atom.reg s.place s.holds
    ∙ value_is test run t column s.place s.action r a) in
    (λ m. k.0 (o.0 m), λ m. o.1 (k.1 m))
