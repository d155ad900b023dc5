-- More rows than the limit.
use Rattle.std.proofs.Common.{◌≡◌, ◌↔◌, ℕ, suc, ◌+◌, ◌<◌, ◌≤◌, Bool, true, Option, None, List, [], ◌∷◌, ◌++◌, drop, get_or, length, map, take, refl, sym, ap, ◌∙◌, arith, subst, ◌⊎◌}
use Rattle.std.proofs.lemmas.List.{length-map, length-take-le, map-append, take-append-drop, take-take}
use Rattle.std.specs.List.{AllByRecursion as Each}
use Rattle.x86_subset.specs.Test.{HoldsReads, LitmusTest}
use Rattle.perp_base.proofs.Lists.{each_weaker}
use Rattle.run_witness.proofs.Paths.{map_take}
use Rattle.outcome_rows.specs.Limits.{GiveUp, HasMany, IsManyFronts}
use Rattle.outcome_rows.specs.Listing.{AnswersBy, AreAllRows, Decides, columns_of_values, gone_on, risen, rows_from, rows_of, values_stored}
use Rattle.outcome_rows.specs.Rows.{HoldReads, HoldsRead, IsRow, Register}
use Rattle.outcome_rows.proofs.Counting.{fronts_are_fewer_lem}
use Rattle.outcome_rows.proofs.Listed.{rows_are_listed_lem}
use Rattle.outcome_rows.proofs.Loops.{each_take, is_told, rows_long, rows_more, same_bool, take_more, told_true}
use Rattle.outcome_rows.proofs.Told.{rows_are_told_lem}

pub many_rows : (A : List ℕ → Option Bool → Type 0) (limit : ℕ) (columns : List (List ℕ)) (i : ℕ) (column : List ℕ)
    (fronts : List (List ℕ)) → i < length columns → take (i + 1) columns ≡ take i columns ++ column ∷ []
    → ((p : List ℕ → Bool) → AnswersBy A (length columns) p → fronts ≡ rows_from p (take i columns) ([] ∷ []))
    → IsManyFronts A limit fronts column → HasMany A limit columns
many_rows A limit columns i column fronts l seam kept many test registers rows h holds same tells all =
    let f : Register → List ℕ = λ register. risen (values_stored test register) in
    let long : length columns ≡ length registers = ap length same ∙ length-map registers f in
    let p : List ℕ → Bool = λ row. is_told (told row) in
    let by : AnswersBy A (length columns) p = λ row r k a. same_bool r (p row) (IsRow test (take (length row) registers)
    row) (tells row r (omega arith) a) (told_true (told row)) in
    let first : List Register = take (i + 1) registers in
    let size : length first ≡ i + 1 = length-take-le (i + 1) registers (omega arith) in
    let decides : Decides test first p = λ values k.
    (let P : List Register → Type 0 = λ z. (p values ≡ true) ↔ IsRow test z values in
    subst P (sym (take-take (length values) (i + 1) registers (omega arith))) (told_true (told values))) in
    let listed = rows_are_listed_lem test first p h (each_take (HoldsRead test) (i + 1) registers holds) decides in
    let firsts : columns_of_values test first ≡ take (i + 1) columns = map_take f registers (i + 1)
    ∙ ap (take (i + 1)) (sym same) in
    let whole = take-append-drop (i + 1) registers in
    let H : List Register → Type 0 = λ z. HoldReads test z in
    let R : List Register → Type 0 = λ z. AreAllRows test z rows in
    let fewer = fronts_are_fewer_lem test first (drop (i + 1) registers) (rows_of test first p) rows h
    (subst H (sym whole) holds) listed (subst R (sym whole) all) in
    let is : fronts ≡ rows_from p (take i columns) ([] ∷ []) = kept p by in
    let E : List (List ℕ) → Type 0 = λ z. Each (λ (x : List ℕ). length x + 1 ≤ length columns) z in
    let at : length (take i columns) ≡ i = length-take-le i columns (omega arith) in
    let short : E (rows_from p (take i columns) ([] ∷ [])) =
    each_weaker (λ (x : List ℕ). length x ≡ 0 + length (take i columns)) (λ (x : List ℕ). length x + 1 ≤ length columns)
    (λ x k. omega arith) (rows_from p (take i columns) ([] ∷ []))
    (rows_long p (take i columns) ([] ∷ []) 0 (refl, tt)) in
    let big = many (length columns) p (subst E (sym is) short) by in
    let next : gone_on p column fronts ≡ rows_of test first p = ap (gone_on p column) is
    ∙ sym (rows_more p (take i columns) column ([] ∷ []))
    ∙ ap (λ z. rows_from p z ([] ∷ [])) (sym seam ∙ sym firsts) in
    let n = ap length next in
    omega arith
  where
    told : (row : List ℕ) → IsRow test (take (length row) registers) row
        ⊎ (IsRow test (take (length row) registers) row → ⊥)
    told row = rows_are_told_lem test (take (length row) registers) row h
        (each_take (HoldsRead test) (length row) registers
        holds)

pub many_columns : {V : Type 0} (items : V → List ℕ) (A : List ℕ → Option Bool → Type 0) (limit : ℕ) (columns : List V)
    (i : ℕ) (column : V) (values : List ℕ) (rows fronts : List V) → i < length columns
    → column ≡ get_or columns i column → values ≡ items column → fronts ≡ rows
    → ((p : List ℕ → Bool) → AnswersBy A (length columns) p
    → map items rows ≡ rows_from p (map items (take i columns)) ([] ∷ []))
    → IsManyFronts A limit (map items fronts) values → HasMany A limit (map items columns)
many_columns items A limit columns i column values rows fronts l e h q kept many =
    let long = length-map columns items in
    let seam : take (i + 1) (map items columns) ≡ take i (map items columns) ++ items column ∷ [] =
    sym (map_take items columns (i + 1)) ∙ ap (map items) (take_more columns i column column l e)
    ∙ map-append items (take i columns) (column ∷ [])
    ∙ ap (λ z. z ++ items column ∷ []) (map_take items columns i) in
    let M : List ℕ → List _ → Type 0 = λ v z. IsManyFronts A limit (map items z) v in
    let first : IsManyFronts A limit (map items fronts) (items column) = subst (λ v. M v fronts) h many in
    many_rows A limit (map items columns) i (items column) (map items rows) (omega arith) seam
    (λ p a. kept p (let N : ℕ → Type 0 = λ n. AnswersBy A n p in subst N long a)
    ∙ ap (λ z. rows_from p z ([] ∷ [])) (map_take items columns i))
    (subst (λ z. M (items column) z) q first)

short_some : (fronts : List (List ℕ)) → (n : ℕ) × Each (λ (x : List ℕ). length x + 1 ≤ n) fronts
short_some [] = (0, tt)
short_some (x ∷ xs) =
    let r = short_some xs in
    let m = length x + 1 + r.0 in (
      m,
      (
        (let k = r.0 in omega arith),
        each_weaker (λ (y : List ℕ). length y + 1 ≤ r.0) (λ (y : List ℕ). length y + 1 ≤ m)
            (λ y k. omega arith) xs r.1,
      ),
    )

pub gives_up : (A : List ℕ → Option Bool → Type 0) (fronts : List (List ℕ)) → GiveUp A fronts
    → (row : List ℕ) × A row None
gives_up A fronts h = let s = short_some fronts in let r = h s.0 s.1 in (r.0, r.2)

pub fronts_each : {V : Type 0} (items : V → List ℕ) (p : List ℕ → Bool) (columns rows fronts : List V) (i : ℕ)
    → i < length columns → map items rows ≡ rows_from p (map items (take i columns)) ([] ∷ []) → fronts ≡ rows
    → Each (λ (x : List ℕ). length x + 1 ≤ length columns) (map items fronts)
fronts_each items p columns rows fronts i l h e =
    let n = length columns in
    let firsts = map items (take i columns) in
    let long : length firsts ≡ i = length-map (take i columns) items ∙ length-take-le i columns (omega arith) in
    let P : List (List ℕ) → Type 0 = λ z. Each (λ (x : List ℕ). length x + 1 ≤ n) z in
    let short : P (rows_from p firsts ([] ∷ [])) = each_weaker (λ (x : List ℕ). length x ≡ 0 + length firsts)
    (λ (x : List ℕ). length x + 1 ≤ n) (λ x k. omega arith) (rows_from p firsts ([] ∷ []))
    (rows_long p firsts ([] ∷ []) 0 (refl, tt)) in
    let Q : List _ → Type 0 = λ z. P (map items z) in
    subst Q (sym e) (subst P (sym h) short)
