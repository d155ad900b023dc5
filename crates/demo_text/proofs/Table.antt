-- Facts on all lists of so many bits, by computing a function at each of them.
use Rattle.std.proofs.Common.{◌≡◌, Bool, true, false, List, [], ◌∷◌, ap}

-- values at the leaves
pub data Tree (A : Type 0) : Type 0 where
  Leaf : A → Tree A
  Fork : Tree A → Tree A → Tree A

abbrev leaf_of : {A : Type 0} → A → Tree A → A
leaf_of d (Leaf x) = x
leaf_of d (Fork l r) = d

abbrev left_of : {A : Type 0} → Tree A → Tree A
left_of (Leaf x) = Leaf x
left_of (Fork l r) = l

abbrev right_of : {A : Type 0} → Tree A → Tree A
right_of (Leaf x) = Leaf x
right_of (Fork l r) = r

-- a function's values at the lists that are as long as this one
abbrev pub every : {A : Type 0} → List Bool → (List Bool → A) → Tree A
every [] f = Leaf (f [])
every (b ∷ bs) f = Fork (every bs (λ cs. f (true ∷ cs))) (every bs (λ cs. f (false ∷ cs)))

-- functions that are the same there are so at this list
pub same_at : {A : Type 0} (bs : List Bool) (f g : List Bool → A) → every bs f ≡ every bs g → f bs ≡ g bs
same_at [] f g e = ap (leaf_of (f [])) e
same_at (true ∷ bs) f g e = same_at bs (λ cs. f (true ∷ cs)) (λ cs. g (true ∷ cs)) (ap left_of e)
same_at (false ∷ bs) f g e = same_at bs (λ cs. f (false ∷ cs)) (λ cs. g (false ∷ cs)) (ap right_of e)
