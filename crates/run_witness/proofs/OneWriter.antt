-- Which locations have their stores in one thread.
use Rattle.std.proofs.Common.{◌≡◌, ℕ, zero, suc, ◌+◌, ◌-◌, ◌<◌, ◌≤◌, ◌==◌, Bool, true, false, List, [], ◌∷◌, length, Some, None, if◌then◌else◌, ◌↔◌, IsNone, refl, sym, ap, ◌∙◌, arith, nat_lt, eq-eqb}
use Rattle.std.specs.declared.option.Option.{Option}
use Rattle.std.specs.List.{AllByRecursion as Each, list_all}
use Rattle.std.proofs.lemmas.Bool.{and_from, and_parts, eqb-true}
use Rattle.x86_subset.specs.Shape.{IsTest}
use Rattle.x86_subset.specs.Test.{LitmusTest}
use Rattle.seq_conv.specs.Sequence.{Site, stores_of}
use Rattle.run_witness.specs.Order.{HasWriters, IsWriter, have_one_writer, several_from, several_writers}
use Rattle.run_witness.proofs.Rights.{writers_all}

-- one location more
step : (test : LitmusTest) (x count : ℕ) → x < count → several_from test x (count - x)
    ≡ (if have_one_writer (stores_of test x) then several_from test (x + 1) (count - (x + 1)) else Some x)
step test x count lt = let e : count - x ≡ suc (count - (x + 1)) = omega arith in ap (several_from test x) e

pub passes : (test : LitmusTest) (x count : ℕ) (sites : List Site) (all : Option ℕ) → x < count
    → sites ≡ stores_of test x → have_one_writer sites ≡ true
    → several_from test x (count - x) ≡ all → several_from test (x + 1) (count - (x + 1)) ≡ all
passes test x count sites all lt are one rest =
    let is : have_one_writer (stores_of test x) ≡ true = ap have_one_writer (sym are) ∙ one in
    sym (step test x count lt ∙ ap (λ b. if b then several_from test (x + 1) (count - (x + 1)) else Some x) is) ∙ rest

pub stops : (test : LitmusTest) (x count : ℕ) (sites : List Site) (all : Option ℕ) → x < count
    → sites ≡ stores_of test x → have_one_writer sites ≡ false
    → several_from test x (count - x) ≡ all → Some x ≡ all
stops test x count sites all lt are several rest =
    let is : have_one_writer (stores_of test x) ≡ false = ap have_one_writer (sym are) ∙ several in
    sym (step test x count lt ∙ ap (λ b. if b then several_from test (x + 1) (count - (x + 1)) else Some x) is) ∙ rest

all_in : (t : ℕ) (sites : List Site) → list_all (λ (s : Site). s.thread == t) sites ≡ true
    → Each (λ (s : Site). s.thread ≡ t) sites
all_in t [] e = tt
all_in t (s ∷ ss) e =
    let parts = and_parts (s.thread == t) (list_all (λ (s : Site). s.thread == t) ss) e in
    (eqb-true s.thread t parts.0, all_in t ss parts.1)

one_writer : (sites : List Site) → have_one_writer sites ≡ true → (t : ℕ) × Each (λ (s : Site). s.thread ≡ t) sites
one_writer [] e = (0, tt)
one_writer (s ∷ ss) e = (s.thread, (refl, all_in s.thread ss e))

writer_here : (test : LitmusTest) (x more : ℕ) (one : Bool) → have_one_writer (stores_of test x) ≡ one
    → (if one then several_from test (x + 1) more else Some x) ≡ None
    → (have_one_writer (stores_of test x) ≡ true) × (several_from test (x + 1) more ≡ None)
writer_here test x more true is e = (is, e)
writer_here test x more false is e = absurd (cc)

writers_by : (test : LitmusTest) (x more y : ℕ) (later : Bool) → nat_lt x y ≡ later → x ≤ y → y < x + suc more
    → (have_one_writer (stores_of test x) ≡ true) × (several_from test (x + 1) more ≡ None)
    → (x + 1 ≤ y → y < (x + 1) + more → (t : ℕ) × IsWriter test y t) → (t : ℕ) × IsWriter test y t
writers_by test x more y true lt low high here rest = rest (grind (arith, lt)) (omega arith)
writers_by test x more y false lt low high here rest =
    let same : x ≡ y = grind (arith, lt) in
    one_writer (stores_of test y) (ap (λ k. have_one_writer (stores_of test k)) (sym same) ∙ here.0)

writers_from : (test : LitmusTest) (more x : ℕ) → several_from test x more ≡ None → (y : ℕ) → x ≤ y → y < x + more
    → (t : ℕ) × IsWriter test y t
writers_from test zero x e y low high = absurd (let l : ⊥ = omega arith in l)
writers_from test (suc more) x e y low high =
    let here = writer_here test x more (have_one_writer (stores_of test x)) refl e in
    writers_by test x more y (nat_lt x y) refl low high here (λ lo hi. writers_from test more (x + 1) here.1 y lo hi)

-- where no location has stores in several threads, each has a writer
writers_of_none : (test : LitmusTest) → IsTest test → several_writers test ≡ None → HasWriters test
writers_of_none test is e =
    writers_all test (length test.locations) is (omega arith) (λ y lt. writers_from test (length test.locations) 0 e y
    (omega arith) (omega arith))

all_stand : (t u : ℕ) (sites : List Site) → t ≡ u → Each (λ (s : Site). s.thread ≡ t) sites
    → list_all (λ (s : Site). s.thread == u) sites ≡ true
all_stand t u [] e h = refl
all_stand t u (s ∷ ss) e h =
    and_from (s.thread == u) (list_all (λ (s : Site). s.thread == u) ss) (eq-eqb s.thread u (h.0 ∙ e))
    (all_stand t u ss e h.1)

in_one : (t : ℕ) (sites : List Site) → Each (λ (s : Site). s.thread ≡ t) sites → have_one_writer sites ≡ true
in_one t [] h = refl
in_one t (s ∷ ss) h = all_stand t s.thread ss (sym h.0) h.1

none_from : (test : LitmusTest) (more x : ℕ) → HasWriters test → several_from test x more ≡ None
none_from test zero x ws = refl
none_from test (suc more) x ws =
    let w = ws x in
    let one = in_one w.0 (stores_of test x) w.1 in
    ap (λ b. if b then several_from test (x + 1) more else Some x) one ∙ none_from test more (x + 1) ws

some_none : (o : Option ℕ) → IsNone o → o ≡ None
some_none None h = refl
some_none (Some x) h = cc

none_is : (o : Option ℕ) → o ≡ None → IsNone o
none_is None h = refl
none_is (Some x) h = cc

-- exactly there
pub none_iff : (test : LitmusTest) (o : Option ℕ) → IsTest test → o ≡ several_writers test → IsNone o ↔ HasWriters test
none_iff test o is e = (
  λ h. writers_of_none test is (sym e ∙ some_none o h),
  λ ws. none_is o (e ∙ none_from test (length test.locations) 0 ws),
)
