-- The conditions of atoms, made by the sequences of the test.
use Rattle.std.proofs.Common.{◌≡◌, ℕ, zero, suc, ◌+◌, ◌<◌, ◌≤◌, true, Some, IfSome, Ok, All, List, [], ◌∷◌, ◌++◌, get_or, length, map, slice_get, take, refl, sym, ap, ◌∙◌, arith, subst}
use Rattle.std.proofs.lemmas.Option.{get_or_from_slice_get, slice_get_within}
use Rattle.std.specs.List.{AllZip}
use Rattle.x86_subset.specs.Instr.{is_reading, location_of}
use Rattle.x86_subset.specs.Shape.{IsTest}
use Rattle.x86_subset.specs.Test.{LitmusTest, body_of}
use Rattle.x86_subset.specs.declared.instr.Instr.{Instr}
use Rattle.x86_subset.specs.declared.instr.Instr.TheVariants.{Store, Load, Fence, Exchange}
use Rattle.x86_subset.specs.declared.test.Atom.{Atom}
use Rattle.seq_conv.specs.Numbers.{AreOf, Table, rank_at, row_of, stores_at}
use Rattle.seq_conv.specs.Sequence.{rank_of, store_count, stores_of}
use Rattle.seq_conv.specs.declared.site.Site.{Site}
use Rattle.perp_base.proofs.Lists.{Among, each_among}
use Rattle.seq_conv.proofs.Numbering.{few_stores, located_at}
use Rattle.seq_conv.proofs.Stores.{IsStoreOf, stores_are}
use Rattle.profile_check.specs.Kinds.{AreKinds, kind_of}
use Rattle.profile_check.specs.declared.kind.AtomKind.{AtomKind}
use Rattle.profile_check.specs.declared.kind.AtomKind.TheVariants.{Rf, Fr, Exact}
use Rattle.profile_check.proofs.KindLemmas.{IsReader, Tells, kind_tells, named_by}
use Rattle.outcome_conv.specs.declared.cond.Cond.{Cond}
use Rattle.outcome_conv.specs.declared.cond.CondKind.TheVariants.{AtLeast, Below}
use Rattle.outcome_conv.specs.declared.cond.CondKind.TheVariants as cond_kind
use Rattle.outcome_conv.specs.Conditions.{AreConditions, IsOfTest}
use Rattle.outcome_conv.specs.Conds.{cond_of, conds_of}
use Rattle.outcome_conv.specs.Holds.{location_read}
use Rattle.outcome_conv.proofs.Agree.{location_is, thread_below}
use Rattle.outcome_conv.proofs.Named.{conditions_are, conditions_name_the_test_lem}

-- what the sequences give for an atom

location_below : (action : Instr) (n : ℕ) → is_reading action ≡ true → IfSome (location_of action) (λ x. x < n)
    → named_by action < n
location_below (Store loc written) n r h = h
location_below (Load reg loc) n r h = h
location_below Fence n r h = cc
location_below (Exchange loc written reg) n r h = h

read_located : (test : LitmusTest) (t column p : ℕ) (action : Instr) → IsTest test → IsReader test t column p action
    → location_read test t column < length test.locations
read_located test t column p action h a =
    let here : get_or (body_of test t) p action ≡ action = get_or_from_slice_get
    (body_of test t) p action action a.stands in
    let there = located_at test t p action h (slice_get_within (body_of test t) p action a.stands) in
    let below : named_by action < length test.locations = location_below action (length test.locations) a.reading
    (subst (λ i. IfSome (location_of i) (λ x. x < length test.locations)) here there) in
    rw (location_is test t column p action a) below

count_is : (test : LitmusTest) (table : Table) (x : ℕ) → AreOf test table → x < length test.locations
    → length (stores_at table x) ≡ store_count test x
count_is test table x h l = ap length (h.stores x l)

pub record StoreIn (test : LitmusTest) (table : Table) (x : ℕ) (s : Site) : Type 0 where
  pub thread : s.thread < length table.rows
  pub place : s.place < length (row_of table s.thread)
  pub rank : rank_at table s.thread s.place ≡ rank_of test x s

store_in : (test : LitmusTest) (table : Table) (x : ℕ) (s : Site) → AreOf test table → Among s (stores_of test x)
    → StoreIn test table x s
store_in test table x s h a =
    let k = each_among (IsStoreOf test x) s (stores_of test x) a (stores_are test x) in
    let t : s.thread < length test.bodies = thread_below test s.thread s.place k.action k.stands in
    let e = h.threads in
    let l = h.places s.thread t in
    let w : s.place < length (body_of test s.thread) = slice_get_within
    (body_of test s.thread) s.place k.action k.stands in
    record { thread = omega arith; place = omega arith; rank = h.ranks s.thread s.place x k.action k.stands k.stores }

-- the location that an atom's reader reads
pub record IsRead (test : LitmusTest) (table : Table) (t column : ℕ) : Type 0 where
  pub within : location_read test t column < length table.stores
  pub count : length (stores_at table (location_read test t column)) ≡ store_count test (location_read test t column)

is_read : (test : LitmusTest) (table : Table) (t column p : ℕ) (action : Instr) → IsTest test → AreOf test table
    → IsReader test t column p action → IsRead test table t column
is_read test table t column p action h o a =
    let l = read_located test t column p action h a in
    let e = o.locations in
    record { within = omega arith; count = count_is test table (location_read test t column) o l }

read_store : (test : LitmusTest) (table : Table) (t column p : ℕ) (action : Instr) (s : Site) → IsTest test
    → AreOf test table → IsReader test t column p action → Among s (stores_of test (named_by action))
    → IsRead test table t column × StoreIn test table (location_read test t column) s
read_store test table t column p action s h o a stands = (
  is_read test table t column p action h o a,
  store_in test table (location_read test t column) s o (subst (λ x. Among s (stores_of test x))
      (sym (location_is test t column p action a)) stands),
)

abbrev Kind : LitmusTest → AtomKind → Type 0
Kind test kind = (atom : Atom) × (kind_of test atom ≡ Ok kind)

told : (test : LitmusTest) (kind same : AtomKind) → IsTest test → Kind test kind → kind ≡ same → Tells test same
told test kind same h k e = subst (Tells test) e (kind_tells test k.0 kind h.holds_reads k.1)

pub rf_read : (test : LitmusTest) (table : Table) (kind : AtomKind) (t column w p : ℕ) → IsTest test → AreOf test table
    → Kind test kind → kind ≡ Rf t column w p
    → IsRead test table t column × StoreIn test table (location_read test t column) (record { thread = w; place = p })
rf_read test table kind t column w p h o k e =
    let tells : Tells test (Rf t column w p) = told test kind (Rf t column w p) h k e in
    read_store test table t column tells.place tells.action _ h o tells.reader tells.stands

pub fr_read : (test : LitmusTest) (table : Table) (kind : AtomKind) (t column w : ℕ) → IsTest test → AreOf test table
    → Kind test kind → kind ≡ Fr t column w → IsRead test table t column
fr_read test table kind t column w h o k e =
    let tells : Tells test (Fr t column w) = told test kind (Fr t column w) h k e in
    is_read test table t column tells.place tells.action h o tells.reader

pub exact_read : (test : LitmusTest) (table : Table) (kind : AtomKind) (t column w p : ℕ) → IsTest test
    → AreOf test table → Kind test kind → kind ≡ Exact t column w p
    → IsRead test table t column × StoreIn test table (location_read test t column) (record { thread = w; place = p })
exact_read test table kind t column w p h o k e =
    let tells : Tells test (Exact t column w p) = told test kind (Exact t column w p) h k e in
    read_store test table t column tells.place tells.action _ h o tells.reader tells.stands

-- the condition of these numbers

pub rf_is : (test : LitmusTest) (kind : AtomKind) (t column w p loc k a : ℕ) → kind ≡ Rf t column w p
    → loc ≡ location_read test t column
    → k ≡ store_count test (location_read test t column)
    → a ≡ rank_of test (location_read test t column) (record { thread = w; place = p })
    → record { reader = t; column = column; loc = loc; writer = w; kind = AtLeast k a } ≡ cond_of test kind
rf_is test kind t column w p loc k a e l m n = rw (e, l, m, n) refl

pub fr_is : (test : LitmusTest) (kind : AtomKind) (t column w loc k : ℕ) → kind ≡ Fr t column w
    → loc ≡ location_read test t column
    → k ≡ store_count test (location_read test t column)
    → record { reader = t; column = column; loc = loc; writer = w; kind = Below k } ≡ cond_of test kind
fr_is test kind t column w loc k e l m = rw (e, l, m) refl

pub exact_is : (test : LitmusTest) (kind : AtomKind) (t column w p loc k a : ℕ) → kind ≡ Exact t column w p
    → loc ≡ location_read test t column
    → k ≡ store_count test (location_read test t column)
    → a ≡ rank_of test (location_read test t column) (record { thread = w; place = p })
    → record { reader = t; column = column; loc = loc; writer = w; kind = cond_kind.Exact k a } ≡ cond_of test kind
exact_is test kind t column w p loc k a e l m n = rw (e, l, m, n) refl

-- the conditions of all atoms

pub conditions_of : (test : LitmusTest) (kinds : List AtomKind) (conds : List Cond) (ends : List ℕ) → IsTest test
    → AreKinds test kinds → conds ≡ conds_of test kinds → ends ≡ test.ends
    → AreConditions (record { conds = conds; ends = ends })
conditions_of test kinds conds ends h z e f =
    rw (e, f) (conditions_are test kinds (λ x. few_stores test x h) h.holds_reads h.ends z)

pub names_of : (test : LitmusTest) (kinds : List AtomKind) (conds : List Cond) → IsTest test → AreKinds test kinds
    → conds ≡ conds_of test kinds → All (IsOfTest test) conds
names_of test kinds conds h z e = rw e (conditions_name_the_test_lem test kinds h.holds_reads z)

-- the conditions so far

one_more : {X Y : Type 0} (f : X → Y) (xs : List X) (i : ℕ) (x : X) → slice_get xs i ≡ Some x
    → map f (take (suc i) xs) ≡ map f (take i xs) ++ f x ∷ []
one_more f [] i x e = cc
one_more f (y ∷ ys) zero x e = let s : y ≡ x = cc in ap (λ z. f z ∷ []) s
one_more f (y ∷ ys) (suc i) x e = ap (λ l. f y ∷ l) (one_more f ys i x e)

pub cond_more : (test : LitmusTest) (kinds : List AtomKind) (i : ℕ) (kind : AtomKind) → slice_get kinds i ≡ Some kind
    → conds_of test (take i kinds) ++ cond_of test kind ∷ [] ≡ conds_of test (take (i + 1) kinds)
cond_more test kinds i kind e =
    let s : suc i ≡ i + 1 = omega arith in
    sym (one_more (cond_of test) kinds i kind e) ∙ ap (λ n. conds_of test (take n kinds)) s

take_whole : {X : Type 0} (xs : List X) (n : ℕ) → length xs ≤ n → take n xs ≡ xs
take_whole [] zero h = refl
take_whole [] (suc n) h = refl
take_whole (x ∷ xs) zero h = absurd (omega arith)
take_whole (x ∷ xs) (suc n) h = ap (λ l. x ∷ l) (take_whole xs n (omega arith))

as_many : (test : LitmusTest) (atoms : List Atom) (kinds : List AtomKind)
    → AllZip (λ atom kind. kind_of test atom ≡ Ok kind) atoms kinds → length kinds ≡ length atoms
as_many test [] [] z = refl
as_many test [] (kind ∷ kinds) z = absurd z
as_many test (atom ∷ atoms) [] z = absurd z
as_many test (atom ∷ atoms) (kind ∷ kinds) z = ap suc (as_many test atoms kinds z.1)

pub conds_whole : (test : LitmusTest) (kinds : List AtomKind) (i : ℕ) → AreKinds test kinds → length test.atoms ≤ i
    → conds_of test (take i kinds) ≡ conds_of test kinds
conds_whole test kinds i z l =
    let e = as_many test test.atoms kinds z in ap (conds_of test) (take_whole kinds i (omega arith))
