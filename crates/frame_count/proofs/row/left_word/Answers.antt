use Rattle.std.proofs.Common.{◌≡◌, ℕ, ◌+◌, ◌&&◌, true, bit_and, drop, get_or, refl, ap, sym, ◌∙◌, arith}
use Rattle.std.specs.List.{list_all}
use Rattle.frame_count.specs.Row.{left_along, mask_along}
use Rattle.frame_count.proofs.Along.{along_and, along_same, along_all, along_zero}
use Rattle.frame_count.proofs.ByKind.{all_more}
use Rattle.frame_count.proofs.row.left_word.Goals as goal

pub loop-cond-init : goal.loop-cond-init
loop-cond-init c = (λ m. true, along_all (λ m. true) c.args.at (λ m. refl), λ m. refl)

pub loop-cond-preserved : goal.loop-cond-preserved
loop-cond-preserved c =
    let q = c.loop-cond.invariant.0 in
    let xs = c.args.conds.now in
    let i = c.loop-cond.cond-index in (
      λ m. q m && left_along c.args.logs.now.logs c.args.frame.now c.args.stretch m (get_or xs i _),
      ap (λ w. bit_and w c.one_word-word.result) c.loop-cond.invariant.1
          ∙ ap (bit_and (mask_along q c.args.at 64)) c.one_word-word.ensures ∙ along_and q _ c.args.at 64,
      λ m. all_more _ xs i _ (q m) _ (omega arith) (c.loop-cond.invariant.2 m),
    )

pub returns-then-word-eq0 : goal.returns-then-word-eq0
returns-then-word-eq0 c =
    let q = c.loop-cond.invariant.0 in
    let xs = c.args.conds.now in
    let i = c.loop-cond.cond-index in
    let left = λ (m : ℕ). list_all (left_along c.args.logs.now.logs c.args.frame.now c.args.stretch m) in
    let here = λ (m : ℕ). q m && left_along c.args.logs.now.logs c.args.frame.now c.args.stretch m (get_or xs i _) in
    let both = ap (λ w. bit_and w c.one_word-word.result) c.loop-cond.invariant.1
    ∙ ap (bit_and (mask_along q c.args.at 64)) c.one_word-word.ensures ∙ along_and q _ c.args.at 64 in
    let none : mask_along here c.args.at 64 ≡ 0 = sym both ∙ c.if-word-eq0.true in
    sym (along_same (λ m. left m xs) (λ m. here m && left m (drop (i + 1) xs)) c.args.at 64
    (λ m. all_more _ xs i _ (q m) _ (omega arith) (c.loop-cond.invariant.2 m))
    ∙ along_zero here (λ m. left m (drop (i + 1) xs)) c.args.at 64 none)
