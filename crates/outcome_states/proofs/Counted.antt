-- Which rows satisfy what the condition asks for, and how many.
use Rattle.std.proofs.Common.{◌≡◌, ℕ, zero, suc, ◌+◌, ◌-◌, ◌<◌, Bool, true, false, not, cond, None, Option, Some, List, [], ◌∷◌, filter, length, map, refl, ap, ◌∙◌, subst, inl, inr, arith, eq-eqb}
use Rattle.std.proofs.lemmas.Bool.{and_from, and_parts, eqb-true}
use Rattle.std.proofs.lemmas.List.Elements.{All-from_recursion, recursion_from_All}
use Rattle.std.proofs.lemmas.List.Sums.{length-filter}
use Rattle.std.specs.List.{AllByRecursion as Each, count_by, list_all, range_with_len}
use Rattle.perp_base.proofs.Lists.{any_map, each_weaker}
use Rattle.choice_search.proofs.Finds.{any_found}
use Rattle.x86_subset.specs.Conjunctions.{conjunction_of}
use Rattle.x86_subset.specs.Test.{LitmusTest}
use Rattle.x86_subset.specs.declared.test.Atom.{Atom}
use Rattle.decision.proofs.Hits.{any_range}
use Rattle.outcome_rows.specs.Conditions.{Satisfies, value_in}
use Rattle.outcome_rows.specs.Rows.{Register}
use Rattle.outcome_rows.proofs.Conditioned.{outcomes_are_rows_lem}
use Rattle.outcome_rows.proofs.Members.{In, among_in, filter_in, in_filter, in_from, in_to, map_in}
use Rattle.outcome_states.specs.Counting.{holds_in, is_met, is_value}
use Rattle.outcome_states.specs.Laws.{CountedIsAllowed, CountedRowsSatisfy}
use Rattle.outcome_states.specs.Registers.{registers_of}
use Rattle.outcome_states.proofs.Held.{named_hold, names_among}

-- ---- one row

value_is : (v : ℕ) (o : Option ℕ) → is_value v o ≡ true → o ≡ Some v
value_is v None h = cc
value_is v (Some w) h = ap (λ z. Some z) (eqb-true w v h)

is_value_of : (v : ℕ) (o : Option ℕ) → o ≡ Some v → is_value v o ≡ true
is_value_of v o e = ap (is_value v) e ∙ eq-eqb v v refl

all_each : {X : Type 0} (p : X → Bool) (xs : List X) → list_all p xs ≡ true → Each (λ x. p x ≡ true) xs
all_each p [] h = tt
all_each p (x ∷ xs) h = let k = and_parts (p x) (list_all p xs) h in (k.0, all_each p xs k.1)

each_all : {X : Type 0} (p : X → Bool) (xs : List X) → Each (λ x. p x ≡ true) xs → list_all p xs ≡ true
each_all p [] h = refl
each_all p (x ∷ xs) h = and_from (p x) (list_all p xs) h.0 (each_all p xs h.1)

in_range : (a n c : ℕ) → In c (range_with_len a n) → c < a + n
in_range a zero c h = absurd h
in_range a (suc n) c (inl e) = omega arith
in_range a (suc n) c (inr h) = let k = in_range (a + 1) n c h in omega arith

in_first : (n c : ℕ) → In c (range_with_len 0 n) → c < n
in_first n c h = let k = in_range 0 n c h in omega arith

satisfies_from : (test : LitmusTest) (c : ℕ) (registers : List Register) (values : List ℕ)
    → list_all (holds_in registers values) (conjunction_of test.ends test.atoms c) ≡ true
    → Satisfies test c registers values
satisfies_from test c registers values h =
    let atoms = conjunction_of test.ends test.atoms c in
    let S : Atom → Type 0 = λ atom. value_in registers values atom.thread atom.reg ≡ Some atom.value in
    All-from_recursion S atoms (each_weaker (λ (atom : Atom). holds_in registers values atom ≡ true) S
    (λ atom k. value_is atom.value (value_in registers values atom.thread atom.reg) k) atoms
    (all_each (holds_in registers values) atoms h))

met_from : (test : LitmusTest) (c : ℕ) (registers : List Register) (values : List ℕ)
    → Satisfies test c registers values
    → list_all (holds_in registers values) (conjunction_of test.ends test.atoms c) ≡ true
met_from test c registers values s =
    let atoms = conjunction_of test.ends test.atoms c in
    let S : Atom → Type 0 = λ atom. value_in registers values atom.thread atom.reg ≡ Some atom.value in
    each_all (holds_in registers values) atoms (each_weaker S (λ (atom : Atom). holds_in registers values atom ≡ true)
    (λ atom k. is_value_of atom.value (value_in registers values atom.thread atom.reg) k) atoms
    (recursion_from_All S atoms s))

pub counted_rows_satisfy_lem : CountedRowsSatisfy
counted_rows_satisfy_lem test registers values = (
  λ h.
      let f = any_found p parts h in
      let m = map_in (conjunction_of test.ends test.atoms) range f.here (among_in parts f.here f.among) in
      let P : List Atom → Type 0 = λ l. list_all (holds_in registers values) l ≡ true in (
        m.0,
        in_first (length test.ends) m.0 m.1,
        satisfies_from test m.0 registers values (subst P m.2 f.passes),
      ),
  λ s.
      any_map p (conjunction_of test.ends test.atoms) range
      ∙ any_range (λ c. p (conjunction_of test.ends test.atoms c)) 0 (length test.ends) s.0 (omega arith)
      (let l = s.1 in omega arith) (met_from test s.0 registers values s.2),
)
  where
    p : List Atom → Bool
    p = list_all (holds_in registers values)

    range : List ℕ
    range = range_with_len 0 (length test.ends)

    parts : List (List Atom)
    parts = map (conjunction_of test.ends test.atoms) (range_with_len 0 (length test.ends))

-- ---- how many

first_in : {X : Type 0} (xs : List X) → 0 < length xs → (x : X) × In x xs
first_in [] l = absurd (omega arith)
first_in (x ∷ xs) l = (x, inl refl)

long_from : {X : Type 0} (xs : List X) (x : X) → In x xs → 0 < length xs
long_from [] x h = absurd h
long_from (y ∷ xs) x h = omega arith

count_some : {X : Type 0} (p : X → Bool) (xs : List X) → 0 < count_by p xs → (x : X) × In x xs × (p x ≡ true)
count_some p xs l =
    let e = length-filter p xs in
    let f = first_in (filter p xs) (omega arith) in
    let k = filter_in p xs f.0 f.1 in
    (f.0, k.0, k.1)

count_from : {X : Type 0} (p : X → Bool) (xs : List X) (x : X) → In x xs → p x ≡ true → 0 < count_by p xs
count_from p xs x h k =
    let e = length-filter p xs in
    let l = long_from (filter p xs) x (in_filter p xs x k h) in
    omega arith

pub counted_is_allowed_lem : CountedIsAllowed
counted_is_allowed_lem test rows is none all =
    let registers = registers_of test in
    let holds = named_hold test none in (
      λ h.
          let f = count_some (is_met test registers) rows h in
          let s = (counted_rows_satisfy_lem test registers f.0).0 f.2 in (
            s.0,
            s.1,
            (outcomes_are_rows_lem test s.0 registers is.holds_reads holds (names_among test s.0 none)).1
                (f.0, (all.exact f.0).0 (in_to rows f.0 f.1), s.2),
          ),
      λ a.
          let r = (outcomes_are_rows_lem test a.0 registers is.holds_reads holds (names_among test a.0 none)).0 a.2 in
          count_from (is_met test registers) rows r.0 (in_from rows r.0 ((all.exact r.0).1 r.1))
          ((counted_rows_satisfy_lem test registers r.0).1 (a.0, a.1, r.2)),
    )

kept_step : {X : Type 0} (x : X) (fs gs : List X) (k : ℕ) (b : Bool) → length fs + length gs ≡ k
    → length (cond b (x ∷ fs) fs) + length (cond (not b) (x ∷ gs) gs) ≡ suc k
kept_step x fs gs k true e = omega arith
kept_step x fs gs k false e = omega arith

kept_all : {X : Type 0} (p : X → Bool) (xs : List X)
    → length (filter p xs) + length (filter (λ x. not (p x)) xs) ≡ length xs
kept_all p [] = refl
kept_all p (x ∷ xs) =
    kept_step x (filter p xs) (filter (λ y. not (p y)) xs) (length xs) (p x) (kept_all p xs)

-- all that do not pass are those that are left
pub counted_rest : {X : Type 0} (p : X → Bool) (xs : List X) (n k : ℕ) → n ≡ length xs → k ≡ count_by p xs
    → n - k ≡ count_by (λ x. not (p x)) xs
counted_rest p xs n k e h =
    let a = kept_all p xs in
    let b = length-filter p xs in
    let c = length-filter (λ x. not (p x)) xs in
    omega arith
