use Rattle.std.proofs.Common.{◌≡◌, ℕ, Bool, ◌-◌, ◌<◌, ◌&&◌, ◌||◌, drop, length, not}
use Rattle.std.specs.List.{list_all}
use Rattle.frame_count.specs.Row.{holds_along, is_within, own_along, row_along}
use Rattle.frame_count.proofs.reach.reach.Given as goal

-- a, r and o say of the conditions so far that all hold, and that those left of the row and of the last thread's own
-- hold
abbrev pub invariant-loop-cond : goal.invariant-loop-cond
invariant-loop-cond l =
    (a : ℕ → Bool) × (r : ℕ → Bool) × (o : ℕ → Bool)
    × ((m : ℕ) → m < l.n → a m ≡ (is_within l.stretch m && ((not l.stretch.row || r m) && (not l.stretch.own || o m))))
    × ((m : ℕ) → (a m && r m) ≡ a m)
    × ((m : ℕ) → (a m && o m) ≡ a m)
    × ((m : ℕ) → list_all (holds_along l.logs.logs l.frame m) l.conds
    ≡ (a m && list_all (holds_along l.logs.logs l.frame m) (drop l.cond-index l.conds)))
    × ((m : ℕ) → list_all (row_along l.logs.logs l.frame m) l.conds
    ≡ (r m && list_all (row_along l.logs.logs l.frame m) (drop l.cond-index l.conds)))
    × ((m : ℕ) → list_all (own_along l.logs.logs (length l.frame - 1) m) l.conds
    ≡ (o m && list_all (own_along l.logs.logs (length l.frame - 1) m) (drop l.cond-index l.conds)))
