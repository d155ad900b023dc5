use Rattle.std.proofs.Common.{◌≡◌, ℕ, Bool, ◌&&◌, drop}
use Rattle.std.specs.List.{list_all}
use Rattle.frame_count.specs.Row.{left_along, mask_along}
use Rattle.frame_count.proofs.row.left_word.Given as goal

abbrev pub invariant-loop-cond : goal.invariant-loop-cond
invariant-loop-cond l =
    (q : ℕ → Bool) × (l.word ≡ mask_along q l.at 64)
    × ((m : ℕ) → list_all (left_along l.logs.logs l.frame l.stretch m) l.conds
    ≡ (q m && list_all (left_along l.logs.logs l.frame l.stretch m) (drop l.cond-index l.conds)))
