-- The part of a ring of slots that holds items.
use Rattle.std.proofs.Common.{◌≡◌, ℕ, ◌+◌, ◌-◌, ◌%◌, ◌<◌, ◌≤◌, ◌⊎◌, List, [], ◌∷◌, ◌++◌, length, get_or, drop, set, slice_get, Some, ap, ◌∙◌, inl, inr, mod-eq_of_lt, arith, length-append, length-drop, length-set, length-take-le, get_or-drop, get_or-take}
use native.Mathlib.Nat.{mod-eq-sub-mod, mod-add-mod}
use Rattle.std.proofs.lemmas.List.{same_lists, get_or_append_left, get_or-append_right}
use Rattle.std.proofs.lemmas.Option.{slice_get_within}
use Rattle.std.proofs.lemmas.Bool.{cases_lt}
use Rattle.std.proofs.lemmas.Grind.{common_steps}
use Rattle.store_buffer.specs.Ring.{IsRing, window}

-- a place below 2 n wraps once at most
wraps_once : (n j : ℕ) → j < n + n → ((j < n) × (j % n ≡ j)) ⊎ ((n ≤ j) × (j % n ≡ j - n))
wraps_once n j below = elim (cases_lt j n) [
  | inl low ↦ inl (low, mod-eq_of_lt low)
  | inr high ↦ inr (high, mod-eq-sub-mod high ∙ mod-eq_of_lt (omega arith))
]

module _ {A : Type 0} (n oldest len : ℕ) (slots : List A) (there : oldest < n) (fits : len ≤ n)
    (all : length slots ≡ n) where
  length-window : length (window oldest len slots) ≡ len
  length-window =
      length-take-le len _ (simp (length-append, length-drop) (omega (
        arith,
        length-take-le oldest slots (omega arith),
      )))

  get_or-window : (i : ℕ) (d : A) → i < len → get_or (window oldest len slots) i d ≡ get_or slots ((oldest + i) % n) d
  get_or-window i d within =
      let tail = length-drop oldest slots in
      get_or-take len _ i d within ∙ elim (wraps_once n (oldest + i) (omega arith)) [
        | inl straight ↦ get_or_append_left _ _ d i (omega arith) ∙ get_or-drop oldest slots i d
            ∙ ap (λ j. get_or slots j d) (omega arith)
        | inr wrapped ↦ get_or-append_right _ _ (n - oldest) i d (omega arith) (omega arith)
            ∙ get_or-take oldest slots _ d (omega arith) ∙ ap (λ j. get_or slots j d) (omega arith)
      ]

module _ {A : Type 0} (n oldest len : ℕ) (slots : List A) (there : oldest < n) (fits : len ≤ n)
    (all : length slots ≡ n) where
  -- an item that is written after the last one comes to their end
  window-push : (x : A) → len < n → window oldest (len + 1) (set slots ((oldest + len) % n) x) ≡ window oldest len slots
      ++ x ∷ []
  window-push x room =
      let after = set slots ((oldest + len) % n) x in
      let all_after = length-set slots ((oldest + len) % n) x ∙ all in
      let before = length-window n oldest len slots there fits all in
      let one_more = length-window n oldest (len + 1) after there (omega arith) all_after in
      let written = wraps_once n (oldest + len) (omega arith) in
      same_lists _ _ (grind (arith, common_steps)) (λ i d within. grind (
        arith,
        common_steps,
        wraps_once n (oldest + i) (omega arith),
        get_or-window n oldest len slots there fits all i d,
        get_or-window n oldest (len + 1) after there (omega arith) all_after i d,
      ))

  -- the items from the next slot on are those after the oldest
  window-drop : 0 < len → window ((oldest + 1) % n) (len - 1) slots ≡ drop 1 (window oldest len slots)
  window-drop some =
      let next_there : (oldest + 1) % n < n = grind (arith, wraps_once n (oldest + 1) (omega arith)) in
      let before = length-window n oldest len slots there fits all in
      let one_less = length-window n ((oldest + 1) % n) (len - 1) slots next_there (omega arith) all in
      same_lists _ _ (simp length-drop (omega arith)) (λ i d within. grind (
        arith,
        length-drop 1 (window oldest len slots),
        get_or-drop 1 (window oldest len slots) i d,
        mod-add-mod (oldest + 1) n i,
        get_or-window n oldest len slots there fits all (1 + i) d,
        get_or-window n _ (len - 1) slots next_there (omega arith) all i d,
      ))

-- the same of a ring
module _ {A : Type 0} (capacity oldest len : ℕ) (slots : List A) (ring : IsRing capacity oldest len slots) where
  pub ring_length : length (window oldest len slots) ≡ len
  ring_length = length-window 16 oldest len slots ring.oldest_there (omega arith) ring.all

  pub ring_push : (x : A) → len < capacity → window oldest (len + 1) (set slots ((oldest + len) % 16) x)
      ≡ window oldest len slots ++ x ∷ []
  ring_push x room = window-push 16 oldest len slots ring.oldest_there (omega arith) ring.all x (omega arith)

  pub ring_drop : (x : A) → slice_get (window oldest len slots) 0 ≡ Some x
      → window ((oldest + 1) % 16) (len - 1) slots ≡ drop 1 (window oldest len slots)
  ring_drop x first =
      window-drop 16 oldest len slots ring.oldest_there (omega arith) ring.all
      (omega (arith, ring_length, slice_get_within (window oldest len slots) 0 x first))
