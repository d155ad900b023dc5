-- The rows, register by register.
use Rattle.std.proofs.Common.{◌≡◌, ◌↔◌, ℕ, zero, suc, ◌+◌, Bool, true, List, [], ◌∷◌, ◌++◌, length, map, take, refl, sym, ap, ◌∙◌, arith, subst, append_assoc, append-nil, length-append, inl, inr, ◌⊎◌}
use Rattle.std.specs.List.{AllByRecursion as Each, AllZip}
use Rattle.x86_subset.specs.Test.{LitmusTest}
use Rattle.outcome_rows.specs.Laws.{RowsAreListed}
use Rattle.outcome_rows.specs.Listing.{AreRising, Decides, gone_on, risen, rows_from, rows_of, values_stored}
use Rattle.outcome_rows.specs.Rows.{EndsWith, IsRow, Register}
use Rattle.outcome_rows.proofs.Fronts.{row_ends, some_execution_lem}
use Rattle.outcome_rows.proofs.Members.{In, each_in, gone_in, in_from, in_gone, in_risen, in_to}
use Rattle.outcome_rows.proofs.Rising.{rises_risen, rising_gone}
use Rattle.outcome_rows.proofs.Valued.{HeldRead, held_reads}

-- the values that can come, in order
abbrev column_of_values : LitmusTest → Register → List ℕ
column_of_values test register = risen (values_stored test register)

-- these front parts are the rows of the first registers
abbrev pub AreRows : LitmusTest → List Register → List (List ℕ) → Type 0
AreRows test registers fronts = (values : List ℕ) → In values fronts ↔ IsRow test registers values

zip_long : {A B : Type 0} (R : A → B → Type 0) (xs : List A) (ys : List B) → AllZip R xs ys → length ys ≡ length xs
zip_long R [] [] z = refl
zip_long R [] (y ∷ ys) z = absurd z
zip_long R (x ∷ xs) [] z = absurd z
zip_long R (x ∷ xs) (y ∷ ys) z = ap suc (zip_long R xs ys z.1)

pub row_long : (test : LitmusTest) (registers : List Register) (values : List ℕ) → IsRow test registers values
    → length values ≡ length registers
row_long test registers values row = zip_long (EndsWith test row.0) registers values row.2

long_more : {X : Type 0} (xs : List X) (x : X) → length (xs ++ x ∷ []) ≡ suc (length xs)
long_more [] x = refl
long_more (y ∷ xs) x = ap suc (long_more xs x)

-- what tells of rows of these registers tells of those of the first and one more
abbrev Tells : LitmusTest → List Register → (List ℕ → Bool) → Type 0
Tells test registers possible =
    (values : List ℕ) → length values ≡ length registers → (possible values ≡ true) ↔ IsRow test registers values

pub rows_step : (test : LitmusTest) (done : List Register) (register : Register) (fronts : List (List ℕ))
    (possible : List ℕ → Bool) → HeldRead test register → Tells test (done ++ register ∷ []) possible
    → AreRows test done fronts
    → AreRows test (done ++ register ∷ []) (gone_on possible (column_of_values test register) fronts)
rows_step test done register fronts possible h tells rows values = (
  λ k.
      let g = gone_in possible (column_of_values test register) fronts values k in
      let row = (rows g.front).0 g.in_fronts in
      let a : length g.front ≡ length done = row_long test done g.front row in
      let b : length values ≡ suc (length g.front) = ap length g.is ∙ long_more g.front g.value in
      let c : length (done ++ register ∷ []) ≡ suc (length done) = long_more done register in
      (tells values (omega arith)).0 g.passes,
  λ row.
      let e = row_ends test done register values h row in
      let passes = (tells values (row_long test (done ++ register ∷ []) values row)).1 row in
      let P : List ℕ → Type 0 = λ l. In l (gone_on possible (column_of_values test register) fronts) in
      subst P (sym e.is) (in_gone possible (column_of_values test register) fronts e.front e.value
      ((rows e.front).1 e.row)
      (in_risen (values_stored test register) e.value (in_from (values_stored test register) e.value e.can_come))
      (sym (ap possible e.is) ∙ passes)),
)

take_none : {X : Type 0} (xs : List X) → take 0 xs ≡ []
take_none [] = refl
take_none (x ∷ xs) = refl

take_first : {X : Type 0} (xs : List X) (x : X) (ys : List X) (n : ℕ) → n ≡ suc (length xs)
    → take n (xs ++ x ∷ ys) ≡ xs ++ x ∷ []
take_first [] x ys zero e = absurd (omega arith)
take_first [] x ys (suc n) e =
    let z : n ≡ 0 = omega arith in (λ i. x ∷ take (z i) ys) ∙ ap (λ l. x ∷ l) (take_none ys)
take_first (z ∷ xs) x ys zero e = absurd (omega arith)
take_first (z ∷ xs) x ys (suc n) e = (λ i. z ∷ take_first xs x ys n (let k : n ≡ suc (length xs) = omega arith in k) i)

tells_next : (test : LitmusTest) (done : List Register) (register : Register) (rest : List Register)
    (possible : List ℕ → Bool) → Decides test (done ++ register ∷ rest) possible
    → Tells test (done ++ register ∷ []) possible
tells_next test done register rest possible decides values e =
    let a : length values ≡ suc (length done) = e ∙ long_more done register in
    let b : length (done ++ register ∷ rest) ≡ length done + suc (length rest) = length-append done (register ∷ rest) in
    let P : List Register → Type 0 = λ l. (possible values ≡ true) ↔ IsRow test l values in
    subst P (take_first done register rest (length values) a) (decides values (omega arith))

rows_go : (test : LitmusTest) (done rest : List Register) (fronts : List (List ℕ)) (possible : List ℕ → Bool)
    → Each (HeldRead test) rest → Decides test (done ++ rest) possible → AreRows test done fronts → AreRising fronts
    → AreRows test (done ++ rest) (rows_from possible (map (column_of_values test) rest) fronts)
    × AreRising (rows_from possible (map (column_of_values test) rest) fronts)
rows_go test done [] fronts possible h decides rows rising =
    let P : List Register → Type 0 = λ l. AreRows test l fronts in
    (subst P (sym (append-nil done)) rows, rising)
rows_go test done (register ∷ rest) fronts possible h decides rows rising =
    let next = gone_on possible (column_of_values test register) fronts in
    let same = append_assoc done (register ∷ []) rest in
    let D : List Register → Type 0 = λ l. Decides test l possible in
    let more = rows_step test done register fronts possible h.0 (tells_next test done register rest possible decides)
    rows in
    let up = rising_gone possible (column_of_values test register) (length done) fronts
    (rises_risen (values_stored test register))
    (each_in (λ front. length front ≡ length done) fronts (λ front k. row_long test done front ((rows front).0 k)))
    rising in
    let r = rows_go test (done ++ register ∷ []) rest next possible h.1 (subst D (sym same) decides) more up in
    let P : List Register → Type 0 = λ l.
    AreRows test l (rows_from possible (map (column_of_values test) rest) next) in
    (subst P same r.0, r.1)

pub rows_are_listed_lem : RowsAreListed
rows_are_listed_lem test registers possible h holds decides =
    let rows = rows_of test registers possible in
    let r = rows_go test [] registers ([] ∷ []) possible (held_reads test registers h holds) decides start (tt, tt) in
    record {
      exact = λ values. (
        λ c. (r.0 values).0 (in_from rows values c),
        λ row. in_to rows values ((r.0 values).1 row),
      );
      rising = r.1;
    }
  where
    start : AreRows test [] ([] ∷ [])
    start values = (
      λ k. from values k,
      λ row. to values (row_long test [] values row),
    )
      where
        from : (values : List ℕ) → (values ≡ []) ⊎ ⊥ → IsRow test [] values
        from values (inl e) =
            let P : List ℕ → Type 0 = λ l. IsRow test [] l in subst P (sym e) (some_execution_lem test)
        from values (inr k) = absurd k

        to : (values : List ℕ) → length values ≡ 0 → (values ≡ []) ⊎ ⊥
        to [] e = inl refl
        to (v ∷ vs) e = absurd (omega arith)
