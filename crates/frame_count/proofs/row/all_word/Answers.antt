use Rattle.std.proofs.Common.{ℕ, ◌+◌, ◌&&◌, bit_and, sym, ap, ◌∙◌, arith}
use Rattle.std.specs.List.{list_all}
use Rattle.frame_count.specs.Row.{holds_along, is_within, left_along, mask_along}
use Rattle.frame_count.proofs.Along.{along_and, along_zero}
use Rattle.frame_count.proofs.Reaches.{left_settled}
use Rattle.frame_count.proofs.Thresholds.{along_within, and_true}
use Rattle.frame_count.proofs.row.all_word.Goals as goal

pub returns-then-within-eq0 : goal.returns-then-within-eq0
returns-then-within-eq0 c =
    let s = c.args.stretch in
    let left = λ (m : ℕ). list_all (left_along c.args.logs.now.logs c.args.frame.now s m) c.args.conds.now in
    sym (along_within (λ m. list_all (holds_along c.args.logs.now.logs c.args.frame.now m) c.args.conds.now)
    (λ m. is_within s m && left m) c.args.at 64 (λ i lt. c.requires.stretch (c.args.at + i) (omega arith))
    ∙ along_zero (is_within s) left c.args.at 64 (sym c.word-within.ensures ∙ c.if-within-eq0.true))

pub returns-then-is_settled : goal.returns-then-is_settled
returns-then-is_settled c =
    let s = c.args.stretch in
    let settled = c.is_settled.ensures c.if-is_settled.true in
    c.word-within.ensures
    ∙ sym (along_within (λ m. list_all (holds_along c.args.logs.now.logs c.args.frame.now m) c.args.conds.now)
    (is_within s) c.args.at 64
    (λ i lt.
    c.requires.stretch (c.args.at + i) (omega arith)
    ∙ ap (λ b. is_within s (c.args.at + i) && b) (left_settled c.args.logs.now.logs c.args.frame.now s
    (c.args.at + i) c.args.conds.now settled.0 settled.1)
    ∙ and_true (is_within s (c.args.at + i))))

pub returns-else-is_settled : goal.returns-else-is_settled
returns-else-is_settled c =
    let s = c.args.stretch in
    let left = λ (m : ℕ). list_all (left_along c.args.logs.now.logs c.args.frame.now s m) c.args.conds.now in
    ap (λ w. bit_and w c.left_word.result) c.word-within.ensures
    ∙ ap (bit_and (mask_along (is_within s) c.args.at 64)) c.left_word.ensures
    ∙ along_and (is_within s) left c.args.at 64
    ∙ sym (along_within (λ m. list_all (holds_along c.args.logs.now.logs c.args.frame.now m) c.args.conds.now)
    (λ m. is_within s m && left m) c.args.at 64 (λ i lt. c.requires.stretch (c.args.at + i) (omega arith)))
