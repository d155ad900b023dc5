-- Worked pieces: four frames in three pieces are the numbers 0, 1, and 2 with 3.
use Rattle.std.proofs.Common.{◌≡◌, ℕ, ◌-◌, ◌+◌, List, [], ◌∷◌, refl}
use Rattle.std.specs.List.{range_with_len}
use Rattle.frame_count.specs.Count.{cut_at}

abbrev numbers_of_piece : ℕ → ℕ → ℕ → List ℕ
numbers_of_piece all cut j = range_with_len (cut_at all cut j) (cut_at all cut (j + 1) - cut_at all cut j)

four_in_three : (numbers_of_piece 4 3 0 ≡ 0 ∷ []) × (numbers_of_piece 4 3 1 ≡ 1 ∷ [])
    × (numbers_of_piece 4 3 2 ≡ 2 ∷ 3 ∷ [])
four_in_three = (refl, refl, refl)
