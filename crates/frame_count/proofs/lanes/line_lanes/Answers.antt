use Rattle.std.proofs.Common.{◌≡◌, ℕ, ◌%◌, ◌^◌, ◌<◌, List, ◌∷◌, refl, ap, ◌∙◌, arith, mod-eq_of_lt}
use Rattle.frame_count.proofs.lanes.line_lanes.Goals as goal

-- one lane whose sum fits, and the others
lane : (x y : ℕ) (xs ys : List ℕ) → x < 2 ^ 64 → x ≡ y → xs ≡ ys → (x % 2 ^ 64 ∷ xs) ≡ (y ∷ ys)
lane x y xs ys fits e f = ap (λ z. z ∷ xs) (mod-eq_of_lt fits ∙ e) ∙ ap (λ zs. y ∷ zs) f

pub returns : goal.returns
returns c =
    let room = c.requires.2 in
    lane _ _ _ _ (omega arith) (omega arith)
    (lane _ _ _ _ (omega arith) (omega arith)
    (lane _ _ _ _ (omega arith) (omega arith)
    (lane _ _ _ _ (omega arith) (omega arith)
    (lane _ _ _ _ (omega arith) (omega arith) (lane _ _ _ _ (omega arith) (omega arith)
    (lane _ _ _ _ (omega arith) (omega arith) (lane _ _ _ _ (omega arith) (omega arith) refl)))))))
