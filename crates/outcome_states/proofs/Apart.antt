-- Two states have one line only where they are one state.
use Rattle.std.proofs.Common.{◌≡◌, ℕ, ◌+◌, ◌^◌, ◌<◌, ◌≤◌, List, [], ◌∷◌, ◌++◌, codes, decimal, length, refl, sym, ◌∙◌, arith, append_assoc}
use Rattle.std.proofs.lemmas.Fmt.{decimal_injective, decimal_is_IsNumeral}
use Rattle.std.proofs.lemmas.Str.Parse.{digit_from_value}
use Rattle.std.specs.List.{AllByRecursion as Each}
use Rattle.std.specs.Str.Parse.{AllDigits}
use Rattle.outcome_rows.specs.Rows.{Register}
use Rattle.report_text.specs.Words.{newline}
use Rattle.outcome_states.specs.Laws.{LinesAreApart}
use Rattle.outcome_states.specs.Text.{before_cell, cell_text, cells_from, register_name}

abbrev IsNoEnd : ℕ → Type 0
IsNoEnd c = c ≡ 59 → ⊥

no_end : (ds : List ℕ) → AllDigits 10 ds → Each IsNoEnd ds
no_end [] d = tt
no_end (c ∷ cs) d =
    let r = digit_from_value c d.0 in
    let b : c ≤ 57 = r.1 in
    ((λ e. omega arith), no_end cs d.1)

cut_at : (xs ys a b : List ℕ) → Each IsNoEnd xs → Each IsNoEnd ys → xs ++ 59 ∷ a ≡ ys ++ 59 ∷ b → (xs ≡ ys) × (a ≡ b)
cut_at [] [] a b h k e = (let t : a ≡ b = cc in (refl, t))
cut_at [] (y ∷ ys) a b h k e = (let q : y ≡ 59 = cc in absurd (k.0 q))
cut_at (x ∷ xs) [] a b h k e = (let q : x ≡ 59 = cc in absurd (h.0 q))
cut_at (x ∷ xs) (y ∷ ys) a b h k e =
    let q : x ≡ y = cc in
    let r : xs ++ 59 ∷ a ≡ ys ++ 59 ∷ b = cc in
    let m = cut_at xs ys a b h.1 k.1 r in
    ((λ i. q i ∷ m.0 i), m.1)

same_rest : (p a b : List ℕ) → p ++ a ≡ p ++ b → a ≡ b
same_rest [] a b e = e
same_rest (x ∷ p) a b e = let r : p ++ a ≡ p ++ b = cc in same_rest p a b r

abbrev front_of : ℕ → Register → List ℕ
front_of k register =
    before_cell k ++ (decimal register.thread ++ (codes ":" ++ (register_name register.reg ++ codes "=")))

cell_split : (k : ℕ) (register : Register) (v : ℕ) (rest t : List ℕ)
    → (before_cell k ++ (cell_text register v ++ rest)) ++ t ≡ front_of k register ++ (decimal v ++ 59 ∷ (rest ++ t))
unfolding cell_text
cell_split k register v rest t =
    split (before_cell k) (decimal register.thread) (codes ":") (register_name register.reg) (codes "=") (decimal v)
    (codes ";") rest t
  where
    split : (b d x n y w z rest t : List ℕ)
        → (b ++ ((((((d ++ x) ++ n) ++ y) ++ w) ++ z) ++ rest)) ++ t
        ≡ (b ++ (d ++ (x ++ (n ++ y)))) ++ (w ++ (z ++ (rest ++ t)))
    split b d x n y w z rest t = simp append_assoc

cells_apart : (k : ℕ) (registers : List Register) (vs ws t : List ℕ) → length vs ≡ length registers
    → length ws ≡ length registers → Each (λ v. v < 2 ^ 64) vs → Each (λ v. v < 2 ^ 64) ws
    → cells_from k registers vs ++ t ≡ cells_from k registers ws ++ t → vs ≡ ws
cells_apart k [] [] [] t l m sv sw e = refl
cells_apart k [] [] (w ∷ ws) t l m sv sw e = absurd (omega arith)
cells_apart k [] (v ∷ vs) ws t l m sv sw e = absurd (omega arith)
cells_apart k (r ∷ rs) [] ws t l m sv sw e = absurd (omega arith)
cells_apart k (r ∷ rs) (v ∷ vs) [] t l m sv sw e = absurd (omega arith)
cells_apart k (r ∷ rs) (v ∷ vs) (w ∷ ws) t l m sv sw e =
    let vs_text = cells_from (k + 1) rs vs in
    let ws_text = cells_from (k + 1) rs ws in
    let c = same_rest (front_of k r) (decimal v ++ 59 ∷ (vs_text ++ t)) (decimal w ++ 59 ∷ (ws_text ++ t))
    (sym (cell_split k r v vs_text t) ∙ e ∙ cell_split k r w ws_text t) in
    let d = cut_at (decimal v) (decimal w) (vs_text ++ t) (ws_text ++ t)
    (no_end (decimal v) (decimal_is_IsNumeral v sv.0).0.1) (no_end (decimal w) (decimal_is_IsNumeral w sw.0).0.1) c in
    let q = decimal_injective v w sv.0 sw.0 d.0 in
    let lv : length vs ≡ length rs = omega arith in
    let lw : length ws ≡ length rs = omega arith in
    let rest = cells_apart (k + 1) rs vs ws t lv lw sv.1 sw.1 d.1 in
    (λ i. q i ∷ rest i)

pub lines_are_apart_lem : LinesAreApart
lines_are_apart_lem registers values others l m sv sw e = cells_apart 0 registers values others newline l m sv sw e
