-- The test of a value and a bound is the condition. Conditions and conjunctions, one more at a time.
use Rattle.std.proofs.Common.{◌≡◌, ℕ, ◌+◌, ◌<◌, ◌&&◌, ◌||◌, Bool, true, false, List, [], ◌∷◌, length, drop, get_or, refl, ap, ◌∙◌}
use Rattle.std.proofs.lemmas.List.{drop_more}
use Rattle.std.specs.List.{list_all, list_any}
use Rattle.outcome_conv.specs.declared.cond.CondKind.{CondKind}
use Rattle.outcome_conv.specs.declared.cond.CondKind.TheVariants.{AtLeast, Below, Exact}
use Rattle.outcome_conv.specs.Conds.{kind_holds}
use Rattle.frame_count.specs.Row.{bound_of, kind_test}

pub test_holds : (k : CondKind) (v m : ℕ) → kind_test k v (bound_of k m) ≡ kind_holds k v m
test_holds (AtLeast k a) v m = refl
test_holds (Below k) v m = refl
test_holds (Exact k a) v m = refl

and_assoc : (a b c : Bool) → (a && (b && c)) ≡ ((a && b) && c)
and_assoc true b c = refl
and_assoc false b c = refl

or_assoc : (a b c : Bool) → (a || (b || c)) ≡ ((a || b) || c)
or_assoc true b c = refl
or_assoc false b c = refl

and_true : (a : Bool) → (a && true) ≡ a
and_true true = refl
and_true false = refl

or_false : (a : Bool) → (a || false) ≡ a
or_false true = refl
or_false false = refl

-- one more of the conditions
pub all_more : {X : Type 0} (p : X → Bool) (xs : List X) (i : ℕ) (d : X) (a w : Bool) → i < length xs
    → w ≡ (a && list_all p (drop i xs)) → w ≡ ((a && p (get_or xs i d)) && list_all p (drop (i + 1) xs))
all_more p xs i d a w lt e =
    e ∙ ap (λ l. a && list_all p l) (drop_more xs i d lt)
    ∙ and_assoc a (p (get_or xs i d)) (list_all p (drop (i + 1) xs))

pub all_end : {X : Type 0} (p : X → Bool) (rest : List X) (a w : Bool) → rest ≡ [] → w ≡ (a && list_all p rest) → w ≡ a
all_end p rest a w z e = e ∙ ap (λ l. a && list_all p l) z ∙ and_true a

-- one more conjunction
pub some_more : {X : Type 0} (p : X → Bool) (x : X) (xs ys : List X) (a w : Bool) → ys ≡ x ∷ xs
    → w ≡ (a || list_any p ys) → w ≡ ((a || p x) || list_any p xs)
some_more p x xs ys a w z e = e ∙ ap (λ l. a || list_any p l) z ∙ or_assoc a (p x) (list_any p xs)
