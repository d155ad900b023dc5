-- What the walk over the sources of registers decides.
use Rattle.std.proofs.Common.{◌≡◌, ℕ, zero, suc, ◌+◌, ◌-◌, ◌<◌, ◌≤◌, ◌==◌, Bool, true, false, cond, Option, None, Some, List, [], ◌∷◌, ◌++◌, drop, filter, get_or, length, map, take, refl, sym, ap, ◌∙◌, arith, subst, inl, inr, ◌⊎◌, append_assoc, append-nil, eq-eqb}
use Rattle.std.proofs.lemmas.Bool.{both_ways, eqb-true}
use Rattle.std.proofs.lemmas.List.{map-append, take_all}
use Rattle.std.specs.List.{AllByRecursion as Each}
use Rattle.x86_subset.specs.Shape.{IsTest}
use Rattle.x86_subset.specs.Test.{LitmusTest, last_writer_of}
use Rattle.seq_conv.specs.Sequence.{Site, site_location, stores_of}
use Rattle.x86_subset.specs.declared.instr.Reg.TheVariants.{Eax}
use Rattle.row_decision.specs.Seen.{seen}
use Rattle.row_decision.specs.declared.reading.Reading.{Reading as ReadingOf}
use Rattle.seq_conv.proofs.Stores.{IsStoreOf, store_at, stores_are}
use Rattle.perp_base.proofs.Lists.{each_among, each_append}
use Rattle.verdict.specs.declared.node.Node.{Node}
use Rattle.verdict.specs.Edges.{node, site}
use Rattle.once.specs.Edges.{Reading}
use Rattle.once.specs.Sources.{AreReadings, IsReading, is_source_to}
use Rattle.once.proofs.Drawing.{writes_from, writes_tells}
use Rattle.outcome_rows.specs.Rows.{HoldReads, HoldsRead, IsRow, ReadValues, Register, location_of_read, read_of, reading_from, text_value, values_read}
use Rattle.outcome_rows.proofs.Loops.{take_more}
use Rattle.outcome_rows.proofs.Members.{In, among_in, in_left, in_map, in_right, map_in, filter_in, in_filter, in_either, in_among}
use Rattle.outcome_rows.proofs.Valued.{held_read, reading_is, rows_are_sources_lem}
use Rattle.profile_check.proofs.KindLemmas.{reads_at}
use Rattle.row_decision.specs.Decided.{HasRun}
use Rattle.row_decision.specs.Fronts.{IsFrontFrom, IsFrontOf, initial_source, register_seen, sources_with, store_source, writes_value}
use Rattle.row_decision.specs.declared.front.Register.{Register as RegisterOf}
use Rattle.row_decision.specs.declared.front.Front.{Front}
use Rattle.row_decision.specs.declared.front.Front.TheVariants.{Possible, Impossible, GaveUp}
use Rattle.row_decision.proofs.Numbers.{location_below, small_at}

-- none of the readings that have the values of the registers has a run with those chosen
abbrev pub NoneFrom : LitmusTest → List Register → List ℕ → List Reading → Type 0
NoneFrom test registers values chosen =
    (rest : List Reading) → ReadValues test registers values rest → HasRun test (chosen ++ rest) → ⊥

abbrev pub SomeFrom : LitmusTest → List Register → List ℕ → List Reading → Type 0
SomeFrom test registers values chosen =
    (rest : List Reading) × ReadValues test registers values rest × HasRun test (chosen ++ rest)

-- ---- no register is left

pub some_last : (test : LitmusTest) (chosen : List Reading) → HasRun test chosen → SomeFrom test [] [] chosen
some_last test chosen run =
    let P : List Reading → Type 0 = λ l. HasRun test l in
    ([], (tt, refl), subst P (sym (append-nil chosen)) run)

pub none_last : (test : LitmusTest) (chosen : List Reading) → (HasRun test chosen → ⊥) → NoneFrom test [] [] chosen
none_last test chosen none [] reads run =
    let P : List Reading → Type 0 = λ l. HasRun test l in none (subst P (append-nil chosen) run)
none_last test chosen none (r ∷ rs) reads run = absurd reads.0

pub none_short : (test : LitmusTest) (chosen : List Reading) (values : List ℕ) → (values ≡ [] → ⊥)
    → NoneFrom test [] values chosen
none_short test chosen values ne [] reads run = ne (sym reads.1)
none_short test chosen values ne (r ∷ rs) reads run = absurd reads.0

pub none_long : (test : LitmusTest) (chosen : List Reading) (register : Register) (registers : List Register)
    → NoneFrom test (register ∷ registers) [] chosen
none_long test chosen register registers [] reads run = absurd reads.0
none_long test chosen register registers (r ∷ rs) reads run = (let k = reads.1 in cc)

-- ---- a register

pub some_step : (test : LitmusTest) (chosen : List Reading) (register : Register) (registers : List Register) (v : ℕ)
    (values : List ℕ) (o : Option Node) → is_source_to test (location_of_read test register) o ≡ true
    → text_value test o ≡ v → SomeFrom test registers values (chosen ++ reading_from test register o ∷ [])
    → SomeFrom test (register ∷ registers) (v ∷ values) chosen
some_step test chosen register registers v values o src e f =
    let r = reading_from test register o in
    let P : List Reading → Type 0 = λ l. HasRun test l in (
      r ∷ f.0,
      (((refl, src), f.1.0), (λ i. e i ∷ f.1.1 i)),
      subst P (append_assoc chosen (r ∷ []) f.0) f.2,
    )

pub none_step : (test : LitmusTest) (chosen : List Reading) (register : Register) (registers : List Register) (v : ℕ)
    (values : List ℕ)
    → ((o : Option Node) → is_source_to test (location_of_read test register) o ≡ true → text_value test o ≡ v
    → NoneFrom test registers values (chosen ++ reading_from test register o ∷ []))
    → NoneFrom test (register ∷ registers) (v ∷ values) chosen
none_step test chosen register registers v values none [] reads run = absurd reads.0
none_step test chosen register registers v values none (r ∷ rs) reads run =
    let z = reads.0.0 in
    let head : text_value test r.source ≡ v = (let k = reads.1 in cc) in
    let tail : values_read test rs ≡ values = (let k = reads.1 in cc) in
    let P : Reading → Type 0 = λ y. is_source_to test y.location r.source ≡ true in
    let Q : Reading → Type 0 = λ y. HasRun test (chosen ++ y ∷ rs) in
    let R : List Reading → Type 0 = λ l. HasRun test l in
    let first = reading_from test register r.source in
    none r.source (subst P z.0 z.1) head rs (reads.0.1, tail)
    (subst R (sym (append_assoc chosen (first ∷ []) rs)) (subst Q z.0 run))

-- ---- sources

sources_store : (test : LitmusTest) (x v : ℕ) (ss : List Site) → Each (IsStoreOf test x) ss → (o : Option Node)
    → In o (map store_source (filter (writes_value test v) ss))
    → (is_source_to test x o ≡ true) × (text_value test o ≡ v)
sources_store test x v ss h o m = go (map_in store_source (filter (writes_value test v) ss) o m)
  where
    go : (s : Site) × In s (filter (writes_value test v) ss) × (o ≡ store_source s)
        → (is_source_to test x o ≡ true) × (text_value test o ≡ v)
    go k =
        let f = filter_in (writes_value test v) ss k.0 k.1 in
        let t = each_among (IsStoreOf test x) k.0 ss (in_among ss k.0 f.0) h in
        let P : Option Node → Type 0 = λ z. (is_source_to test x z ≡ true) × (text_value test z ≡ v) in
        subst P (sym k.2) (
          writes_from test x (node k.0) (record { action = t.action; stands = t.stands; stores = t.stores }),
          eqb-true (text_value test (Some (node k.0))) v f.1,
        )

initial_in : (v : ℕ) (o : Option Node) (b : Bool) → (v == 0) ≡ b → In o (cond b (None ∷ []) [])
    → (o ≡ None) × (v ≡ 0)
initial_in v o true e (inl k) = (k, eqb-true v 0 e)
initial_in v o true e (inr k) = absurd k
initial_in v o false e m = absurd m

pub source_is : (test : LitmusTest) (x v : ℕ) (o : Option Node) → In o (sources_with test x v)
    → (is_source_to test x o ≡ true) × (text_value test o ≡ v)
source_is test x v o m =
    go (in_either (initial_source v) (map store_source (filter (writes_value test v) (stores_of test x))) o m)
  where
    go : In o (initial_source v) ⊎ In o (map store_source (filter (writes_value test v) (stores_of test x)))
        → (is_source_to test x o ≡ true) × (text_value test o ≡ v)
    go (inl k) =
        let t = initial_in v o (v == 0) refl k in
        let P : Option Node → Type 0 = λ z. (is_source_to test x z ≡ true) × (text_value test z ≡ v) in
        subst P (sym t.0) (refl, sym t.1)
    go (inr k) = sources_store test x v (stores_of test x) (stores_are test x) o k

abbrev IsNoneIn : List (Option Node) → Type 0
IsNoneIn os = In None os

in_initial : (v : ℕ) (b : Bool) → (v == 0) ≡ b → 0 ≡ v → IsNoneIn (cond b (None ∷ []) [])
in_initial v true e h = inl refl
in_initial v false e h = absurd (both_ways (v == 0) e (eq-eqb v 0 (sym h)))

pub source_in : (test : LitmusTest) (x v : ℕ) (o : Option Node) → is_source_to test x o ≡ true → text_value test o ≡ v
    → In o (sources_with test x v)
source_in test x v None src e =
    in_left (initial_source v) (map store_source (filter (writes_value test v) (stores_of test x))) None
    (in_initial v (v == 0) refl e)
source_in test x v (Some s) src e =
    let w = writes_tells test x s src in
    let a = store_at x test s.thread s.place w.action w.stands w.stores in
    in_right (initial_source v) (map store_source (filter (writes_value test v) (stores_of test x))) (Some s)
    (in_map store_source (filter (writes_value test v) (stores_of test x)) (site s)
    (in_filter (writes_value test v) (stores_of test x) (site s) (eq-eqb (text_value test (Some s)) v e)
    (among_in (stores_of test x) (site s) a)))

-- one more source
filter_append : {X : Type 0} (p : X → Bool) (xs ys : List X) → filter p (xs ++ ys) ≡ filter p xs ++ filter p ys
filter_append p [] ys = refl
filter_append p (x ∷ xs) ys = go (p x) (filter_append p xs ys)
  where
    go : (b : Bool) → filter p (xs ++ ys) ≡ filter p xs ++ filter p ys
        → cond b (x ∷ filter p (xs ++ ys)) (filter p (xs ++ ys)) ≡ cond b (x ∷ filter p xs) (filter p xs) ++ filter p ys
    go true e = ap (λ l. x ∷ l) e
    go false e = e

pub sources_more : (test : LitmusTest) (v : ℕ) (sites : List Site) (i : ℕ) (d : Site)
    (old before after : List (Option Node))
    (b : Bool) → i < length sites → before ≡ old ++ map store_source (filter (writes_value test v) (take i sites))
    → writes_value test v (get_or sites i d) ≡ b
    → after ≡ cond b (before ++ store_source (get_or sites i d) ∷ []) before
    → after ≡ old ++ map store_source (filter (writes_value test v) (take (i + 1) sites))
sources_more test v sites i d old before after b l h k e =
    e ∙ go b k ∙ ap (λ z. old ++ map store_source (filter (writes_value test v) z)) (sym (take_more sites i s d l refl))
  where
    s : Site
    s = get_or sites i d

    p : Site → Bool
    p = writes_value test v

    front : List (Option Node)
    front = map store_source (filter (writes_value test v) (take i sites))

    split : (c : Bool) → writes_value test v (get_or sites i d) ≡ c
        → map store_source (filter (writes_value test v) (take i sites ++ get_or sites i d ∷ []))
        ≡ map store_source (filter (writes_value test v) (take i sites))
        ++ map store_source (cond c (get_or sites i d ∷ []) [])
    split c m =
        ap (map store_source) (filter_append (writes_value test v) (take i sites) (get_or sites i d ∷ []))
        ∙ map-append store_source (filter (writes_value test v) (take i sites))
        (filter (writes_value test v) (get_or sites i d ∷ []))
        ∙ ap (λ z. map store_source (filter (writes_value test v) (take i sites))
        ++ map store_source (cond z (get_or sites i d ∷ []) [])) m

    go : (c : Bool) → writes_value test v (get_or sites i d) ≡ c
        → cond c (before ++ store_source (get_or sites i d) ∷ []) before
        ≡ old ++ map store_source (filter (writes_value test v) (take i sites ++ get_or sites i d ∷ []))
    go true m =
        ap (λ z. z ++ store_source (get_or sites i d) ∷ []) h
        ∙ append_assoc old (map store_source (filter (writes_value test v) (take i sites)))
        (store_source (get_or sites i d) ∷ [])
        ∙ ap (λ z. old ++ z) (sym (split true m))
    go false m =
        h ∙ ap (λ z. old ++ z) (sym (split false m ∙ append-nil
        (map store_source (filter (writes_value test v) (take i sites)))))

-- ---- lists by their first

pub first_drop : {X : Type 0} (xs : List X) (d : X) → 0 < length xs → xs ≡ get_or xs 0 d ∷ drop 1 xs
first_drop [] d l = absurd (omega arith)
first_drop (x ∷ xs) d l = (λ i. x ∷ drop_none xs i)
  where
    drop_none : {X : Type 0} (ys : List X) → ys ≡ drop 0 ys
    drop_none [] = refl
    drop_none (y ∷ ys) = refl

pub nil_from : {X : Type 0} (xs : List X) → length xs ≤ 0 → xs ≡ []
nil_from [] l = refl
nil_from (x ∷ xs) l = absurd (omega arith)

pub not_nil : {X : Type 0} (xs : List X) → 0 < length xs → xs ≡ [] → ⊥
not_nil xs l e = let k = ap length e in omega arith

pub each_more : {X : Type 0} (P : X → Type 0) (xs : List X) (i : ℕ) (d : X) → i < length xs → Each P (take i xs)
    → P (get_or xs i d) → Each P (take (i + 1) xs)
each_more {X} P xs i d l h k =
    let Q : List X → Type 0 = λ z. Each P z in
    subst Q (sym (take_more xs i (get_or xs i d) d l refl)) (each_append P (take i xs) (get_or xs i d ∷ []) h (k, tt))

pub get_in : {X : Type 0} (xs : List X) (i : ℕ) (d : X) → i < length xs → In (get_or xs i d) xs
get_in [] i d l = absurd (omega arith)
get_in (x ∷ xs) zero d l = inl refl
get_in (x ∷ xs) (suc i) d l = inr (get_in xs i d (omega arith))

pub each_at_in : {X : Type 0} (P : X → Type 0) (xs : List X) (y : X) → Each P xs → In y xs → P y
each_at_in P [] y h m = absurd m
each_at_in P (x ∷ xs) y h (inl e) = subst P (sym e) h.0
each_at_in P (x ∷ xs) y h (inr m) = each_at_in P xs y h.1 m

-- ---- rows

pub row_some : (test : LitmusTest) (registers : List Register) (values : List ℕ) → IsTest test
    → HoldReads test registers → SomeFrom test registers values [] → IsRow test registers values
row_some test registers values is holds f =
    (rows_are_sources_lem test registers values is.holds_reads holds).1 (f.0, f.1, f.2)

pub row_none : (test : LitmusTest) (registers : List Register) (values : List ℕ) → IsTest test
    → HoldReads test registers → NoneFrom test registers values [] → IsRow test registers values → ⊥
row_none test registers values is holds none row =
    let k = (rows_are_sources_lem test registers values is.holds_reads holds).0 row in none k.0 k.1 k.2

pub place_small : (test : LitmusTest) (p : ℕ) (register : Register) → IsTest test
    → last_writer_of test register.thread register.reg ≡ Some p → p < 16
place_small test p register is e =
    let a = reads_at test register.thread register.reg p is.holds_reads e in
    (small_at test (record { thread = register.thread; place = p }) a.0 is a.1).place

pub holds_more : (test : LitmusTest) (rs : List RegisterOf) (i : ℕ) (d : RegisterOf) → i < length rs
    → HoldReads test (map register_seen (take i rs)) → HoldsRead test (register_seen (get_or rs i d))
    → HoldReads test (map register_seen (take (i + 1) rs))
holds_more test rs i d l h k =
    let r = get_or rs i d in
    let P : List Register → Type 0 = λ z. HoldReads test z in
    subst P (sym (ap (map register_seen) (take_more rs i r d l refl) ∙ map-append register_seen (take i rs) (r ∷ [])))
    (each_append (HoldsRead test) (map register_seen (take i rs)) (register_seen r ∷ []) h (k, tt))

-- where one holds no read, not all do
pub holds_none : (test : LitmusTest) (rs : List RegisterOf) (i : ℕ) (d : RegisterOf) → i < length rs
    → (HoldsRead test (register_seen (get_or rs i d)) → ⊥) → HoldReads test (map register_seen rs) → ⊥
holds_none test [] i d l none h = absurd (omega arith)
holds_none test (r ∷ rs) zero d l none h = none h.0
holds_none test (r ∷ rs) (suc i) d l none h = holds_none test rs i d (omega arith) none h.1

pub register_below : (test : LitmusTest) (register : Register) → IsTest test → HoldsRead test register
    → location_of_read test register < length test.locations
register_below test register is h =
    let r = reading_is test register None (held_read test register is.holds_reads h) refl in
    location_below test (location_of_read test register) (read_of test register) is r.0

pub front_row : (test : LitmusTest) (registers : List Register) (values : List ℕ) (most steps : ℕ) (front : Front)
    → IsTest test → HoldReads test registers → IsFrontFrom test registers values [] most steps front
    → IsFrontOf test registers values most steps front
front_row test registers values most steps Possible is holds h = row_some test registers values is holds h
front_row test registers values most steps Impossible is holds h = row_none test registers values is holds h
front_row test registers values most steps GaveUp is holds h = h

-- ---- the first register

abbrev pub first_register : List RegisterOf → Register
first_register registers = register_seen (get_or registers 0 (record { thread = 0; reg = Eax }))

abbrev pub chosen_with : LitmusTest → List RegisterOf → List Reading → Option Node → List Reading
chosen_with test registers chosen o = chosen ++ reading_from test (first_register registers) o ∷ []

-- a source of the first register's read, and readings of the others
pub some_at : (test : LitmusTest) (registers : List RegisterOf) (values : List ℕ) (chosen : List Reading)
    (sources : List (Option Node)) (i : ℕ) → 0 < length registers → 0 < length values
    → sources ≡ sources_with test (location_of_read test (first_register registers)) (get_or values 0 0)
    → i < length sources
    → SomeFrom test (map register_seen (drop 1 registers)) (drop 1 values)
    (chosen_with test registers chosen (get_or sources i None))
    → SomeFrom test (map register_seen registers) values chosen
some_at test registers values chosen sources i lr lv e l some =
    let d : RegisterOf = record { thread = 0; reg = Eax } in
    let o = get_or sources i None in
    let x = location_of_read test (first_register registers) in
    let v = get_or values 0 0 in
    let S : List (Option Node) → Type 0 = λ z. In o z in
    let s = source_is test x v o (subst S e (get_in sources i None l)) in
    let P : List RegisterOf → Type 0 = λ z. SomeFrom test (map register_seen z) values chosen in
    let Q : List ℕ → Type 0 =
    λ z. SomeFrom test (first_register registers ∷ map register_seen (drop 1 registers)) z chosen in
    subst P (sym (first_drop registers d lr)) (subst Q (sym (first_drop values 0 lv))
    (some_step test chosen (first_register registers) (map register_seen (drop 1 registers)) v (drop 1 values) o s.0 s.1
    some))

-- none of the sources goes on
pub none_all : (test : LitmusTest) (registers : List RegisterOf) (values : List ℕ) (chosen : List Reading)
    (sources : List (Option Node)) → 0 < length registers → 0 < length values
    → sources ≡ sources_with test (location_of_read test (first_register registers)) (get_or values 0 0)
    → Each (λ o. NoneFrom test (map register_seen (drop 1 registers)) (drop 1 values)
    (chosen_with test registers chosen o))
    sources
    → NoneFrom test (map register_seen registers) values chosen
none_all test registers values chosen sources lr lv e none =
    let d : RegisterOf = record { thread = 0; reg = Eax } in
    let x = location_of_read test (first_register registers) in
    let v = get_or values 0 0 in
    let N : Option Node → Type 0 = λ o. NoneFrom test (map register_seen (drop 1 registers)) (drop 1 values)
    (chosen_with test registers chosen o) in
    let S : List (Option Node) → Type 0 = λ z. Each N z in
    let P : List RegisterOf → Type 0 = λ z. NoneFrom test (map register_seen z) values chosen in
    let Q : List ℕ → Type 0 =
    λ z. NoneFrom test (first_register registers ∷ map register_seen (drop 1 registers)) z chosen in
    subst P (sym (first_drop registers d lr)) (subst Q (sym (first_drop values 0 lv))
    (none_step test chosen (first_register registers) (map register_seen (drop 1 registers)) v (drop 1 values)
    (λ o src is. each_at_in N (sources_with test x v) o (subst S e none) (source_in test x v o src is))))

pub none_values : (test : LitmusTest) (registers : List RegisterOf) (values : List ℕ) (chosen : List Reading)
    → 0 < length registers → length values ≤ 0 → NoneFrom test (map register_seen registers) values chosen
none_values test registers values chosen lr lv =
    let d : RegisterOf = record { thread = 0; reg = Eax } in
    let P : List RegisterOf → Type 0 = λ z. NoneFrom test (map register_seen z) values chosen in
    let Q : List ℕ → Type 0 =
    λ z. NoneFrom test (first_register registers ∷ map register_seen (drop 1 registers)) z chosen in
    subst P (sym (first_drop registers d lr)) (subst Q (sym (nil_from values lv))
    (none_long test chosen (first_register registers) (map register_seen (drop 1 registers))))

pub chosen_is : (test : LitmusTest) (registers : List RegisterOf) (readings : List ReadingOf) (more : List ReadingOf)
    (reader : Node) (location : ℕ) (source : Option Node)
    → more ≡ readings ++ record { reader = reader; location = location; source = source } ∷ []
    → reader ≡ read_of test (first_register registers) → location ≡ site_location test (site reader)
    → map seen more ≡ chosen_with test registers (map seen readings) source
chosen_is test registers readings more reader location source e f g =
    ap (map seen) e ∙ map-append seen readings (record { reader = reader; location = location; source = source } ∷ [])
    ∙ ap (λ (r : Reading). map seen readings ++ r ∷ []) (λ i. record {
      reader = f i;
      location = (g ∙ ap (λ z. site_location test (site z)) f) i;
      source = source;
    })

pub holds_first : (test : LitmusTest) (registers : List RegisterOf) → 0 < length registers
    → HoldReads test (map register_seen registers) → HoldsRead test (first_register registers)
holds_first test [] l h = absurd (omega arith)
holds_first test (r ∷ rs) l h = h.0

pub holds_rest : (test : LitmusTest) (registers : List RegisterOf) → 0 < length registers
    → HoldReads test (map register_seen registers) → HoldReads test (map register_seen (drop 1 registers))
holds_rest test registers l h =
    let d : RegisterOf = record { thread = 0; reg = Eax } in
    let P : List RegisterOf → Type 0 = λ z. HoldReads test (map register_seen z) in
    let k = subst P (first_drop registers d l) h in k.1

pub chosen_are : (test : LitmusTest) (registers : List RegisterOf) (values : List ℕ) (readings : List ReadingOf)
    (more : List Reading) (sources : List (Option Node)) (i : ℕ) → IsTest test → 0 < length registers
    → HoldReads test (map register_seen registers) → AreReadings test (map seen readings)
    → sources ≡ sources_with test (location_of_read test (first_register registers)) (get_or values 0 0)
    → i < length sources → more ≡ chosen_with test registers (map seen readings) (get_or sources i None)
    → AreReadings test more
chosen_are test registers values readings more sources i is lr holds are e l m =
    let o = get_or sources i None in
    let register = first_register registers in
    let x = location_of_read test register in
    let v = get_or values 0 0 in
    let S : List (Option Node) → Type 0 = λ z. In o z in
    let s = source_is test x v o (subst S e (get_in sources i None l)) in
    let held = held_read test register is.holds_reads (holds_first test registers lr holds) in
    let P : List Reading → Type 0 = λ z. AreReadings test z in
    subst P (sym m) (each_append (IsReading test) (map seen readings) (reading_from test register o ∷ []) are
    (reading_is test register o held s.0, tt))

pub front_up : (test : LitmusTest) (registers : List RegisterOf) (values : List ℕ) (chosen : List Reading)
    (sources : List (Option Node)) (i most steps : ℕ) (front : Front) → 0 < length registers → 0 < length values
    → sources ≡ sources_with test (location_of_read test (first_register registers)) (get_or values 0 0)
    → i < length sources → (front ≡ Impossible → ⊥)
    → IsFrontFrom test (map register_seen (drop 1 registers)) (drop 1 values)
    (chosen_with test registers chosen (get_or sources i None)) most steps front
    → IsFrontFrom test (map register_seen registers) values chosen most steps front
front_up test registers values chosen sources i most steps Possible lr lv e l ne h =
    some_at test registers values chosen sources i lr lv e l h
front_up test registers values chosen sources i most steps Impossible lr lv e l ne h = absurd (ne refl)
front_up test registers values chosen sources i most steps GaveUp lr lv e l ne h = h

drop_zero : {X : Type 0} (ys : List X) → drop 0 ys ≡ ys
drop_zero [] = refl
drop_zero (y ∷ ys) = refl

rest_short : {X : Type 0} (xs : List X) → length (drop 1 xs) ≤ length xs - 1
rest_short [] = omega arith
rest_short (x ∷ xs) = let e : length (drop 0 xs) ≡ length xs = ap length (drop_zero xs) in omega arith

pub rest_is : {X : Type 0} (xs : List X) → take (length xs - 1) (drop 1 xs) ≡ drop 1 xs
rest_is xs = take_all (length xs - 1) (drop 1 xs) (rest_short xs)

pub rest_fewer : {X : Type 0} (xs : List X) → 0 < length xs → length (take (length xs - 1) (drop 1 xs)) < length xs
rest_fewer xs l =
    let e : length (take (length xs - 1) (drop 1 xs)) ≡ length (drop 1 xs) = ap length (rest_is xs) in
    let k = rest_short xs in
    omega arith

pub some_length : (n : ℕ) (r : Bool) → r ≡ (n == 0) → r ≡ false → 0 < n
some_length zero r e h = absurd (both_ways (0 == 0) (sym e ∙ h) refl)
some_length (suc n) r e h = omega arith

pub no_length : (n : ℕ) (r : Bool) → r ≡ (n == 0) → r ≡ true → n ≤ 0
no_length n r e h = let k = eqb-true n 0 (sym e ∙ h) in omega arith

pub front_same : (test : LitmusTest) (registers : List RegisterOf) (values : List ℕ) (more chosen : List Reading)
    (most steps : ℕ) (front : Front) → more ≡ chosen
    → IsFrontFrom test (map register_seen (take (length registers - 1) (drop 1 registers)))
    (take (length values - 1) (drop 1 values)) more most steps front
    → IsFrontFrom test (map register_seen (drop 1 registers)) (drop 1 values) chosen most steps front
front_same test registers values more chosen most steps front e h =
    let P : List RegisterOf → Type 0 = λ z. IsFrontFrom test (map register_seen z)
    (take (length values - 1) (drop 1 values)) more most steps front in
    let Q : List ℕ → Type 0 = λ z. IsFrontFrom test (map register_seen (drop 1 registers)) z more most steps front in
    let R : List Reading → Type 0 = λ z. IsFrontFrom test (map register_seen (drop 1 registers)) (drop 1 values) z most
    steps front in
    subst R e (subst Q (rest_is values) (subst P (rest_is registers) h))

pub impossible_none : (test : LitmusTest) (registers : List Register) (values : List ℕ) (chosen : List Reading)
    (most steps : ℕ) (front : Front) → front ≡ Impossible → IsFrontFrom test registers values chosen most steps front
    → NoneFrom test registers values chosen
impossible_none test registers values chosen most steps front e h =
    let P : Front → Type 0 = λ z. IsFrontFrom test registers values chosen most steps z in subst P e h

pub sources_are : (test : LitmusTest) (registers : List RegisterOf) (values : List ℕ) (reader : Node) (location : ℕ)
    (sources items : List (Option Node)) → reader ≡ read_of test (first_register registers)
    → location ≡ site_location test (site reader) → sources ≡ items
    → items ≡ sources_with test location (get_or values 0 0)
    → sources ≡ sources_with test (location_of_read test (first_register registers)) (get_or values 0 0)
sources_are test registers values reader location sources items e f g h =
    g ∙ h ∙ ap (λ z. sources_with test z (get_or values 0 0)) (f ∙ ap (λ z. site_location test (site z)) e)

pub more_is : (readings before after deref : List ReadingOf) (r : ReadingOf) → deref ≡ after → after ≡ before ++ r ∷ []
    → before ≡ readings → deref ≡ readings ++ r ∷ []
more_is readings before after deref r e f g = e ∙ f ∙ ap (λ z. z ++ r ∷ []) g
