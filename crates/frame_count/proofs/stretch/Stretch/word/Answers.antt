use Rattle.std.proofs.Common.{◌≡◌, ◌-◌, not, bit_and, nat_lt, ap, ◌∙◌, arith}
use Rattle.frame_count.specs.Row.{is_within, mask_along}
use Rattle.frame_count.proofs.Along.{along_and, along_same}
use Rattle.frame_count.proofs.Stretches.{between_places}
use Rattle.frame_count.proofs.Thresholds.{along_others}
use Rattle.frame_count.proofs.stretch.Stretch.word.Goals as goal

pub returns : goal.returns
returns c =
    let from = c.args.self.from in
    let to = c.args.self.to in
    let others = along_others (λ m. nat_lt m from) c.args.at 64 in
    let below = c.below_word-2.ensures in
    let rest : 18446744073709551615 - c.below_word-2.result
    ≡ mask_along (λ m. not (nat_lt m from)) c.args.at 64 = omega arith in
    ap (λ w. bit_and w (18446744073709551615 - c.below_word-2.result)) c.below_word.ensures
    ∙ ap (bit_and (mask_along (λ m. nat_lt m to) c.args.at 64)) rest
    ∙ along_and (λ m. nat_lt m to) (λ m. not (nat_lt m from)) c.args.at 64
    ∙ along_same _ (is_within c.args.self) c.args.at 64 (between_places from to)
