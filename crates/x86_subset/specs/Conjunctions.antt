-- A condition in disjunctive form, as herdtools' litmus format has with \/ and /\: a list of items that is cut into
-- conjunctions by the number of items up to the end of each.
use Rattle.std.specs.Prelude.{◌≡◌, ℕ, zero, suc, ◌≤◌, ◌-◌, Bool, List, length, map, slice_index, slice_range}
use Rattle.std.specs.List.{list_all, list_any, range_with_len}
use Rattle.std.specs.List.Sorted.{IsStrictlyIncreasing}
use Rattle.perp_base.specs.declared.limits.TheConstants.{MOST_CONJUNCTIONS}

-- the ends of one to eight conjunctions, none of them empty, of so many items
pub record AreEnds (ends : List ℕ) (items : ℕ) : Type 0 where
  pub some : 1 ≤ length ends
  pub few : length ends ≤ MOST_CONJUNCTIONS
  pub first : 1 ≤ slice_index ends 0
  pub rising : IsStrictlyIncreasing ends
  pub last : slice_index ends (length ends - 1) ≡ items

-- the place of the first item of conjunction c
abbrev pub from_of : List ℕ → ℕ → ℕ
from_of ends zero = 0
from_of ends (suc c) = slice_index ends c

-- and the place after its last one
abbrev pub to_of : List ℕ → ℕ → ℕ
to_of ends c = slice_index ends c

-- the items of conjunction c
abbrev pub conjunction_of : {A : Type 0} → List ℕ → List A → ℕ → List A
conjunction_of ends items c = slice_range items (from_of ends c) (to_of ends c)

-- the conjunctions in order
abbrev pub conjunctions_of : {A : Type 0} → List ℕ → List A → List (List A)
conjunctions_of ends items = map (conjunction_of ends items) (range_with_len 0 (length ends))

-- whether for at least one conjunction each item passes
abbrev pub some_conjunction : {A : Type 0} → (A → Bool) → List ℕ → List A → Bool
some_conjunction p ends items = list_any (list_all p) (conjunctions_of ends items)
