-- The first place at which a test passes, one element at a time.
use Rattle.std.proofs.Common.{◌≡◌, ℕ, suc, ◌+◌, ◌<◌, ◌≤◌, ◌⊎◌, inl, inr, Bool, true, false, cond, not, Option, None, Some, List, ◌∷◌, length, nat_lt, sym, ap, ◌∙◌, arith, one-add, lt-ltb, le-ltb}
use Rattle.std.proofs.lemmas.Bool.{cases_lt}
use Rattle.std.specs.List.{position, position_or_len}
use Rattle.std.specs.Option.{option_map}

-- a place of m places, if it is one
abbrev place_of : ℕ → ℕ → Option ℕ
place_of n m = cond (nat_lt n m) (Some n) None

one_on : (n m : ℕ) → (n < m) ⊎ (m ≤ n) → place_of (suc n) (suc m) ≡ option_map suc (place_of n m)
one_on n m (inl l) =
    ap (λ b. cond b (Some (suc n)) None) (lt-ltb (suc n) (suc m) (omega arith))
    ∙ sym (ap (λ b. option_map suc (cond b (Some n) None)) (lt-ltb n m l))
one_on n m (inr l) =
    ap (λ b. cond b (Some (suc n)) None) (le-ltb (suc n) (suc m) (omega arith))
    ∙ sym (ap (λ b. option_map suc (cond b (Some n) None)) (le-ltb n m l))

pub first_here : {X : Type 0} (p : X → Bool) (x : X) (xs : List X) → p x ≡ true → position p (x ∷ xs) ≡ Some 0
first_here p x xs e =
    let here : position_or_len p (x ∷ xs) ≡ 0 = ap (λ v. cond (not v) (1 + position_or_len p xs) 0) e in
    ap (λ n. place_of n (length (x ∷ xs))) here ∙ ap (λ b. cond b (Some 0) None)
    (lt-ltb 0 (length (x ∷ xs)) (omega arith))

pub first_later : {X : Type 0} (p : X → Bool) (x : X) (xs : List X) → p x ≡ false
    → position p (x ∷ xs) ≡ option_map suc (position p xs)
first_later p x xs e =
    let n = position_or_len p xs in
    let later : position_or_len p (x ∷ xs) ≡ suc n = ap (λ v. cond (not v) (1 + n) 0) e ∙ one-add n in
    ap (λ k. place_of k (length (x ∷ xs))) later ∙ one_on n (length xs) (cases_lt n (length xs))
