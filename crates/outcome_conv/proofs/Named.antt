-- The conditions of a test's atoms name its threads and columns, and have the numbers of its locations.
use Rattle.std.proofs.Common.{◌≡◌, ℕ, zero, suc, ◌<◌, ◌≤◌, Bool, true, cond, Some, Ok, List, [], ◌∷◌, count_by, length, slice_get, take, refl, sym, ap, ◌∙◌, arith, subst}
use Rattle.std.proofs.lemmas.List.Elements.{All-from_recursion}
use Rattle.std.proofs.lemmas.List.Sums.{sum_by-cons}
use Rattle.std.specs.List.{AllByRecursion as Each, AllZip}
use Rattle.x86_subset.specs.Conjunctions.{AreEnds}
use Rattle.x86_subset.specs.Instr.{is_reading}
use Rattle.x86_subset.specs.Test.{HoldsReads, LitmusTest, body_of, columns_of}
use Rattle.x86_subset.specs.declared.instr.Instr.{Instr}
use Rattle.x86_subset.specs.declared.test.Atom.{Atom}
use Rattle.seq_conv.specs.Sequence.{rank_of, store_count, stores_of}
use Rattle.seq_conv.specs.declared.site.Site.{Site}
use Rattle.perp_base.proofs.Lists.{Among, each_among}
use Rattle.seq_conv.proofs.Stores.{IsStoreOf, rank_within, stores_are}
use Rattle.profile_check.specs.Kinds.{AreKinds, kind_of}
use Rattle.profile_check.specs.declared.kind.AtomKind.{AtomKind}
use Rattle.profile_check.specs.declared.kind.AtomKind.TheVariants.{Rf, Fr, Exact}
use Rattle.profile_check.proofs.KindLemmas.{IsReader, OneOther, Tells, named_by}
use Rattle.outcome_conv.specs.declared.cond.Cond.{Cond}
use Rattle.outcome_conv.specs.Conditions.{AreConditions, IsKind, IsOfTest}
use Rattle.outcome_conv.specs.Conds.{cond_of, conds_of}
use Rattle.outcome_conv.specs.Holds.{location_read}
use Rattle.outcome_conv.specs.Laws.{ConditionsNameTheTest}
use Rattle.outcome_conv.proofs.Agree.{location_is, thread_below}
use Rattle.outcome_conv.proofs.Counts.{each_tells}

-- fewer elements of a list pass before one that passes than in all
before_less : (p : Instr → Bool) (xs : List Instr) (i : ℕ) (x : Instr) → slice_get xs i ≡ Some x → p x ≡ true
    → count_by p (take i xs) < count_by p xs
before_less p [] i x e h = cc
before_less p (y ∷ ys) zero x e h =
    let s : y ≡ x = cc in
    let one : cond {A = ℕ} (p y) 1 0 ≡ 1 = ap (λ b. cond {A = ℕ} b 1 0) (ap p s ∙ h) in
    let all = sum_by-cons (λ a. cond (p a) 1 0) y ys in
    omega arith
before_less p (y ∷ ys) (suc i) x e h =
    let rest = before_less p ys i x e h in
    let all = sum_by-cons (λ a. cond (p a) 1 0) y ys in
    let front = sum_by-cons (λ a. cond (p a) 1 0) y (take i ys) in
    omega arith

pub column_below : (test : LitmusTest) (t column p : ℕ) (action : Instr) → IsReader test t column p action
    → column < columns_of test t
column_below test t column p action r =
    let e = r.column_is in let l = before_less is_reading (body_of test t) p action r.stands r.reading in omega arith

store_below : (test : LitmusTest) (x : ℕ) (s : Site) → Among s (stores_of test x) → s.thread < length test.bodies
store_below test x s a =
    let k = each_among (IsStoreOf test x) s (stores_of test x) a (stores_are test x) in
    thread_below test s.thread s.place k.action k.stands

first_among : (test : LitmusTest) (x t writer : ℕ) (o : OneOther test x t writer) → Among o.first (stores_of test x)
first_among test x t writer o = record { front = []; rest = o.others; whole = o.stores }

-- the writer of an fr atom is that of the location's first store
first_thread : (test : LitmusTest) (x t writer : ℕ) (o : OneOther test x t writer) → o.first.thread ≡ writer
first_thread test x t writer o =
    each_among (λ s. s.thread ≡ writer) o.first (stores_of test x) (first_among test x t writer o) o.one_thread

cond_is_of : (test : LitmusTest) (kind : AtomKind) → Tells test kind → IsOfTest test (cond_of test kind)
cond_is_of test (Rf t column writer place) tells = record {
  reader = thread_below test t tells.place tells.action tells.reader.stands;
  writer = store_below test (named_by tells.action) (record { thread = writer; place = place }) tells.stands;
  column = column_below test t column tells.place tells.action tells.reader;
}
cond_is_of test (Fr t column writer) tells = record {
  reader = thread_below test t tells.place tells.action tells.reader.stands;
  writer =
      let a = store_below test (named_by tells.action) tells.other.first
      (first_among test (named_by tells.action) t writer tells.other) in
      let e = first_thread test (named_by tells.action) t writer tells.other in
      omega arith;
  column = column_below test t column tells.place tells.action tells.reader;
}
cond_is_of test (Exact t column writer place) tells = record {
  reader = thread_below test t tells.place tells.action tells.reader.stands;
  writer = store_below test (named_by tells.action) (record { thread = writer; place = place }) tells.stands;
  column = column_below test t column tells.place tells.action tells.reader;
}

are_of : (test : LitmusTest) (kinds : List AtomKind) → Each (Tells test) kinds
    → Each (IsOfTest test) (conds_of test kinds)
are_of test [] h = tt
are_of test (kind ∷ kinds) h = (cond_is_of test kind h.0, are_of test kinds h.1)

pub conditions_name_the_test_lem : ConditionsNameTheTest
conditions_name_the_test_lem test kinds h z =
    All-from_recursion (IsOfTest test) (conds_of test kinds) (are_of test kinds (each_tells test kinds h z))

-- the numbers

abbrev FewStores : LitmusTest → Type 0
FewStores test = (x : ℕ) → store_count test x ≤ 128

ranked : (test : LitmusTest) (t column p : ℕ) (action : Instr) (s : Site) → FewStores test
    → IsReader test t column p action → Among s (stores_of test (named_by action))
    → (1 ≤ store_count test (location_read test t column)) × (store_count test (location_read test t column) ≤ 128)
    × (1 ≤ rank_of test (location_read test t column) s)
    × (rank_of test (location_read test t column) s ≤ store_count test (location_read test t column))
ranked test t column p action s few a stands =
    let x = location_read test t column in
    let loc : named_by action ≡ x = sym (location_is test t column p action a) in
    let r = rank_within test x s (subst (λ y. Among s (stores_of test y)) loc stands) in
    let f = few x in
    let w = r.within in
    let q = r.positive in (omega arith, f, q, w)

kind_is : (test : LitmusTest) (kind : AtomKind) → FewStores test → Tells test kind → IsKind (cond_of test kind).kind
kind_is test (Rf t column writer place) few tells =
    let r =
    ranked test t column tells.place tells.action (record { thread = writer; place = place }) few tells.reader
    tells.stands in
    (r.0, r.1, r.2, r.3)
kind_is test (Fr t column writer) few tells =
    let r =
    ranked test t column tells.place tells.action tells.other.first few tells.reader
    (first_among test (named_by tells.action) t writer tells.other) in
    (r.0, r.1)
kind_is test (Exact t column writer place) few tells =
    let r =
    ranked test t column tells.place tells.action (record { thread = writer; place = place }) few tells.reader
    tells.stands in
    (r.0, r.1, r.2, r.3)

kinds_are : (test : LitmusTest) (kinds : List AtomKind) → FewStores test → Each (Tells test) kinds
    → Each (λ (c : Cond). IsKind c.kind) (conds_of test kinds)
kinds_are test [] few h = tt
kinds_are test (kind ∷ kinds) few h = (kind_is test kind few h.0, kinds_are test kinds few h.1)

same_count : (test : LitmusTest) (atoms : List Atom) (kinds : List AtomKind)
    → AllZip (λ atom kind. kind_of test atom ≡ Ok kind) atoms kinds → length atoms ≡ length (conds_of test kinds)
same_count test [] [] z = refl
same_count test [] (kind ∷ kinds) z = absurd z
same_count test (atom ∷ atoms) [] z = absurd z
same_count test (atom ∷ atoms) (kind ∷ kinds) z = ap suc (same_count test atoms kinds z.1)

-- what holds of the conditions of each test
pub conditions_are : (test : LitmusTest) (kinds : List AtomKind) → FewStores test → HoldsReads test
    → AreEnds test.ends (length test.atoms) → AreKinds test kinds
    → AreConditions (record { conds = conds_of test kinds; ends = test.ends })
conditions_are test kinds few h ends z = record {
  kinds =
      All-from_recursion (λ (c : Cond). IsKind c.kind) (conds_of test kinds)
      (kinds_are test kinds few (each_tells test kinds h z));
  ends = subst (AreEnds test.ends) (same_count test test.atoms kinds z) ends;
}
