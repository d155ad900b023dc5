-- All rows are one list, and there are no fewer than front parts.
use Rattle.std.proofs.Common.{◌≡◌, ℕ, ◌<◌, ◌≤◌, ◌==◌, ◌&&◌, Bool, true, List, [], ◌∷◌, ◌++◌, length, map, nat_lt, refl, sym, ap, ◌∙◌, arith, subst, inl, inr, ◌⊎◌, append_assoc, append-nil, length-append}
use Rattle.std.proofs.lemmas.Bool.{and_parts, eqb-true, ltb-true, or_cases}
use Rattle.std.specs.List.{AllByRecursion as Each}
use Rattle.x86_subset.specs.Test.{HoldsReads, LitmusTest}
use Rattle.perp_base.proofs.Lists.{each_left, each_right}
use Rattle.outcome_rows.specs.Laws.{AllRowsAreOne, FrontsAreFewer, RisingAreOnce}
use Rattle.outcome_rows.specs.Listing.{AreAllRows, AreRising, front_with, gone_on, is_before, risen, values_stored}
use Rattle.outcome_rows.specs.Rows.{HoldReads, HoldsRead, Register}
use Rattle.outcome_rows.proofs.Fronts.{rows_go_on_lem}
use Rattle.outcome_rows.proofs.Listed.{AreRows, row_long, rows_step}
use Rattle.outcome_rows.proofs.Loops.{is_told, told_true}
use Rattle.outcome_rows.proofs.Members.{In, each_in, in_filter, in_from, in_map, in_risen, in_to}
use Rattle.outcome_rows.proofs.Rising.{in_each, rises_risen, rising_gone}
use Rattle.outcome_rows.proofs.Told.{rows_are_told_lem}
use Rattle.outcome_rows.proofs.Valued.{held_read}

-- In order.

not_both : (xs ys : List ℕ) → is_before xs ys ≡ true → is_before ys xs ≡ true → ⊥
not_both [] ys h k = cc
not_both (x ∷ xs) [] h k = cc
not_both (x ∷ xs) (y ∷ ys) h k =
    go (λ m n. not_both xs ys m n) (or_cases (nat_lt x y) ((x == y) && is_before xs ys) h)
    (or_cases (nat_lt y x) ((y == x) && is_before ys xs) k)
  where
    go : (is_before xs ys ≡ true → is_before ys xs ≡ true → ⊥)
        → (nat_lt x y ≡ true) ⊎ (((x == y) && is_before xs ys) ≡ true)
        → (nat_lt y x ≡ true) ⊎ (((y == x) && is_before ys xs) ≡ true) → ⊥
    go rec (inl a) (inl b) = let l : x < y = ltb-true x y a in let m : y < x = ltb-true y x b in omega arith
    go rec (inl a) (inr b) =
        let l : x < y = ltb-true x y a in
        let e : y ≡ x = eqb-true y x ((and_parts (y == x) (is_before ys xs) b).0) in
        omega arith
    go rec (inr a) (inl b) =
        let l : y < x = ltb-true y x b in
        let e : x ≡ y = eqb-true x y ((and_parts (x == y) (is_before xs ys) a).0) in
        omega arith
    go rec (inr a) (inr b) =
        rec ((and_parts (x == y) (is_before xs ys) a).1) ((and_parts (y == x) (is_before ys xs) b).1)

not_self : (xs : List ℕ) → is_before xs xs ≡ true → ⊥
not_self xs h = not_both xs xs h h

pub rising_are_once_lem : RisingAreOnce
rising_are_once_lem [] row middle rest h =
    not_self row (each_right (λ later. is_before row later ≡ true) middle (row ∷ rest) h.0).0
rising_are_once_lem (x ∷ front) row middle rest h = rising_are_once_lem front row middle rest h.1

abbrev Same : List (List ℕ) → List (List ℕ) → Type 0
Same xs ys = (z : List ℕ) → (In z xs → In z ys) × (In z ys → In z xs)

same_head : (x y : List ℕ) (xs ys : List (List ℕ)) → AreRising (x ∷ xs) → AreRising (y ∷ ys)
    → (x ≡ y) ⊎ In x ys → (y ≡ x) ⊎ In y xs → x ≡ y
same_head x y xs ys h k (inl e) b = e
same_head x y xs ys h k (inr a) (inl e) = sym e
same_head x y xs ys h k (inr a) (inr b) =
    absurd (not_both x y (in_each (λ later. is_before x later ≡ true) xs y h.0 b)
    (in_each (λ later. is_before y later ≡ true) ys x k.0 a))

same_tail : (x y : List ℕ) (xs ys : List (List ℕ)) → x ≡ y → AreRising (x ∷ xs) → (z : List ℕ) → In z xs
    → (z ≡ y) ⊎ In z ys → In z ys
same_tail x y xs ys e h z m (inr k) = k
same_tail x y xs ys e h z m (inl q) =
    let P : List ℕ → Type 0 = λ l. is_before x l ≡ true in
    absurd (not_self x (subst P (q ∙ sym e) (in_each P xs z h.0 m)))

rising_same : (xs ys : List (List ℕ)) → AreRising xs → AreRising ys → Same xs ys → xs ≡ ys
rising_same [] [] h k s = refl
rising_same [] (y ∷ ys) h k s = absurd ((s y).1 (inl refl))
rising_same (x ∷ xs) [] h k s = absurd ((s x).0 (inl refl))
rising_same (x ∷ xs) (y ∷ ys) h k s =
    let e = same_head x y xs ys h k ((s x).0 (inl refl)) ((s y).1 (inl refl)) in
    let tail = rising_same xs ys h.1 k.1 (λ z. (
      λ m. same_tail x y xs ys e h z m ((s z).0 (inr m)),
      λ m. same_tail y x ys xs (sym e) k z m ((s z).1 (inr m)),
    )) in
    (λ i. e i ∷ tail i)

pub all_rows_are_one_lem : AllRowsAreOne
all_rows_are_one_lem test registers xs ys h k =
    rising_same xs ys h.rising k.rising (λ z. (
      λ m. in_from ys z ((k.exact z).1 ((h.exact z).0 (in_to xs z m))),
      λ m. in_from xs z ((h.exact z).1 ((k.exact z).0 (in_to ys z m))),
    ))

-- Front parts.

some_long : {X : Type 0} (xs : List X) (y : X) → In y xs → 1 ≤ length xs
some_long [] y h = absurd h
some_long (x ∷ xs) y h = omega arith

gone_long : (p : List ℕ → Bool) (values : List ℕ) (fronts : List (List ℕ))
    → Each (λ front. (v : ℕ) × In v values × (p (front ++ v ∷ []) ≡ true)) fronts
    → length fronts ≤ length (gone_on p values fronts)
gone_long p values [] h = omega arith
gone_long p values (front ∷ fronts) h =
    let a = gone_long p values fronts h.1 in
    let f : ℕ → List ℕ = λ v. front ++ v ∷ [] in
    let one = some_long (front_with p front values) (f h.0.0) (in_filter p (map f values) (f h.0.0) h.0.2
    (in_map f values h.0.0 h.0.1)) in
    let both = length-append (front_with p front values) (gone_on p values fronts) in
    omega arith

abbrev told_of : (test : LitmusTest) (registers : List Register) → HoldsReads test → HoldReads test registers
    → List ℕ → Bool
told_of test registers h holds values = is_told (rows_are_told_lem test registers values h holds)

abbrev column_of : LitmusTest → Register → List ℕ
column_of test register = risen (values_stored test register)

more_rows : (test : LitmusTest) (done : List Register) (register : Register) (fronts : List (List ℕ)) → HoldsReads test
    → HoldReads test (done ++ register ∷ []) → AreAllRows test done fronts
    → (next : List (List ℕ)) × AreAllRows test (done ++ register ∷ []) next × (length fronts ≤ length next)
more_rows test done register fronts h holds all =
    let registers = done ++ register ∷ [] in
    let p = told_of test registers h holds in
    let column = column_of test register in
    let held : HoldsRead test register = (each_right (HoldsRead test) done (register ∷ []) holds).0 in
    let rows : AreRows test done fronts = λ values. (
      λ k. (all.exact values).0 (in_to fronts values k),
      λ r. in_from fronts values ((all.exact values).1 r),
    ) in
    let next : AreRows test registers (gone_on p column fronts) = rows_step test done register fronts p
    (held_read test register h held) (λ values e. told_true (rows_are_told_lem test registers values h holds)) rows in (
      gone_on p column fronts,
      record {
        exact = λ values. (
          λ c. (next values).0 (in_from (gone_on p column fronts) values c),
          λ row. in_to (gone_on p column fronts) values ((next values).1 row),
        );
        rising =
            rising_gone p column (length done) fronts (rises_risen (values_stored test register))
            (each_in (λ front. length front ≡ length done) fronts
            (λ front k. row_long test done front ((rows front).0 k))) all.rising;
      },
      gone_long p column fronts (each_in (λ front. (v : ℕ) × In v column × (p (front ++ v ∷ []) ≡ true)) fronts
          (λ front k.
          let g = rows_go_on_lem test done register front h held ((rows front).0 k) in (
            g.0,
            in_risen (values_stored test register) g.0 (in_from (values_stored test register) g.0 g.1),
            (told_true (rows_are_told_lem test registers (front ++ g.0 ∷ []) h holds)).1 g.2,
          ))),
    )

pub fronts_are_fewer_lem : FrontsAreFewer
fronts_are_fewer_lem test done [] fronts rows h holds a b =
    let P : List Register → Type 0 = λ l. AreAllRows test l rows in
    let e = all_rows_are_one_lem test done fronts rows a (subst P (append-nil done) b) in
    let l = ap length e in
    omega arith
fronts_are_fewer_lem test done (register ∷ rest) fronts rows h holds a b =
    let same = append_assoc done (register ∷ []) rest in
    let H : List Register → Type 0 = λ l. HoldReads test l in
    let P : List Register → Type 0 = λ l. AreAllRows test l rows in
    let all = subst H (sym same) holds in
    let m = more_rows test done register fronts h (each_left (HoldsRead test) (done ++ register ∷ []) rest all) a in
    let r = fronts_are_fewer_lem test (done ++ register ∷ []) rest m.0 rows h all m.1 (subst P (sym same) b) in
    let k = m.2 in
    omega arith
