-- The conjunctions from one on.
use Rattle.std.proofs.Common.{◌≡◌, ℕ, zero, suc, ◌+◌, ◌-◌, ◌<◌, ◌||◌, ◌∙◌, Bool, false, true, refl, List, [], ◌∷◌, length, map, sym, ap, arith}
use Rattle.std.specs.List.{list_any, range_with_len}
use Rattle.x86_subset.specs.Conjunctions.{conjunction_of, conjunctions_of}

abbrev pub rest_of : {A : Type 0} → List ℕ → List A → ℕ → List (List A)
rest_of ends xs c = map (conjunction_of ends xs) (range_with_len c (length ends - c))

pub rest_next : {A : Type 0} (ends : List ℕ) (xs : List A) (c : ℕ) → c < length ends
    → rest_of ends xs c ≡ conjunction_of ends xs c ∷ rest_of ends xs (c + 1)
rest_next ends xs c lt =
    let e : length ends - c ≡ suc (length ends - (c + 1)) = omega arith in
    ap (λ n. map (conjunction_of ends xs) (range_with_len c n)) e

pub rest_end : {A : Type 0} (ends : List ℕ) (xs : List A) (c : ℕ) → c ≡ length ends → rest_of ends xs c ≡ []
rest_end ends xs c h =
    let e : length ends - c ≡ 0 = omega arith in ap (λ n. map (conjunction_of ends xs) (range_with_len c n)) e

-- the first are all
pub rest_first : {A : Type 0} (ends : List ℕ) (xs : List A) → conjunctions_of ends xs ≡ rest_of ends xs 0
rest_first ends xs =
    let e : length ends ≡ length ends - 0 = omega arith in ap (λ n. map (conjunction_of ends xs) (range_with_len 0 n)) e

-- after a conjunction that does not pass
pub any_next : {A : Type 0} (p : List A → Bool) (ends : List ℕ) (xs : List A) (c : ℕ) (group : List A) (whole : Bool)
    → c < length ends → group ≡ conjunction_of ends xs c → p group ≡ false → list_any p (rest_of ends xs c) ≡ whole
    → list_any p (rest_of ends xs (c + 1)) ≡ whole
any_next p ends xs c group whole lt e none h =
    sym (ap (list_any p) (rest_next ends xs c lt)
    ∙ ap (λ b. b || list_any p (rest_of ends xs (c + 1))) (ap p (sym e) ∙ none)) ∙ h

any_range : {A : Type 0} (p : List A → Bool) (ends : List ℕ) (xs : List A) (a n : ℕ)
    → ((i : ℕ) → i < n → p (conjunction_of ends xs (a + i)) ≡ false)
    → list_any p (map (conjunction_of ends xs) (range_with_len a n)) ≡ false
any_range p ends xs a zero h = refl
any_range p ends xs a (suc n) h =
    let first : p (conjunction_of ends xs a) ≡ false = let e : a + 0 ≡ a = omega arith in
    ap (λ k. p (conjunction_of ends xs k)) (sym e) ∙ h 0 (omega arith) in
    let rest = any_range p ends xs (a + 1) n (λ i lt. let e : a + 1 + i ≡ a + suc i = omega arith in
    ap (λ k. p (conjunction_of ends xs k)) e ∙ h (suc i) (omega arith)) in
    ap (λ b. b || list_any p (map (conjunction_of ends xs) (range_with_len (a + 1) n))) first ∙ rest

-- where no conjunction passes
pub any_none : {A : Type 0} (p : List A → Bool) (ends : List ℕ) (xs : List A)
    → ((c : ℕ) → c < length ends → p (conjunction_of ends xs c) ≡ false) → list_any p (conjunctions_of ends xs) ≡ false
any_none p ends xs h =
    any_range p ends xs 0 (length ends) (λ i lt. let e : 0 + i ≡ i = omega arith in
    ap (λ k. p (conjunction_of ends xs k)) e ∙ h i lt)

-- one conjunction alone
or_false : (b : Bool) → (b || false) ≡ b
or_false true = refl
or_false false = refl

pub any_one : {A : Type 0} (p : List A → Bool) (ends : List ℕ) (xs : List A) → length ends ≡ 1
    → list_any p (conjunctions_of ends xs) ≡ p (conjunction_of ends xs 0)
any_one p ends xs e =
    ap (list_any p) (rest_first ends xs ∙ rest_next ends xs 0 (omega arith)
    ∙ ap (λ rest. conjunction_of ends xs 0 ∷ rest) (rest_end ends xs 1 (sym e)))
    ∙ or_false (p (conjunction_of ends xs 0))
