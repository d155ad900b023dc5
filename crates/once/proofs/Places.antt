-- The place of the first element of a list that passes a test.
use Rattle.std.proofs.Common.{◌≡◌, ℕ, suc, one-add, ◌+◌, ◌<◌, ◌≤◌, Bool, true, false, cond, not, List, [], ◌∷◌, ◌++◌, length, arith}
use Rattle.std.proofs.lemmas.Bool.{or_parts}
use Rattle.std.specs.List.{list_any, position_or_len}

pub place_beyond : {X : Type 0} (p : X → Bool) (fs : List X) (y : X) (cs : List X) → list_any p fs ≡ false → p y ≡ false
    → length fs < position_or_len p (fs ++ y ∷ cs)
place_beyond p [] y cs h k = rw (k, one-add) (omega arith)
place_beyond p (x ∷ fs) y cs h k =
    let q = or_parts (p x) (list_any p fs) h in
    let r = place_beyond p fs y cs q.1 k in
    rw (q.0, one-add) (omega arith)

pub place_past : {X : Type 0} (p : X → Bool) (fs cs : List X) → list_any p fs ≡ false
    → length fs ≤ position_or_len p (fs ++ cs)
place_past p [] cs h = omega arith
place_past p (x ∷ fs) cs h =
    let q = or_parts (p x) (list_any p fs) h in
    let r = place_past p fs cs q.1 in
    rw (q.0, one-add) (omega arith)

at_most_step : (b : Bool) (m k : ℕ) → m ≤ k → cond (not b) (1 + m) 0 ≤ suc k
at_most_step true m k h = omega arith
at_most_step false m k h = omega arith

pub place_at_most : {X : Type 0} (p : X → Bool) (fs : List X) (y : X) (cs : List X) → p y ≡ true
    → position_or_len p (fs ++ y ∷ cs) ≤ length fs
place_at_most p [] y cs h = rw h (omega arith)
place_at_most p (x ∷ fs) y cs h =
    at_most_step (p x) (position_or_len p (fs ++ y ∷ cs)) (length fs) (place_at_most p fs y cs h)
