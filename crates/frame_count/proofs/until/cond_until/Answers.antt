use Rattle.std.proofs.Common.{◌≡◌, ℕ, false, true, ◌+◌, sym, ◌∙◌, arith}
use Rattle.frame_count.specs.Block.{is_settled}
use Rattle.frame_count.specs.Row.{holds_with}
use Rattle.frame_count.proofs.Staying.{settled_here}
use Rattle.frame_count.proofs.until.cond_until.Goals as goal

pub overflow_add-p : goal.overflow_add-p
overflow_add-p c =
    let one = c.requires.frame.2.one_each in
    let thread = c.requires.thread in
    record { fits = omega arith }

pub returns-clause-same : goal.returns-clause-same
returns-clause-same c m le lt ln =
    let x = c.args.cond.now in
    let p = c.args.p in
    let i = c.args.i in
    let test = λ (m : ℕ). holds_with c.args.logs.now.logs c.args.frame.now p m x in
    let early : is_settled p x ≡ false = sym c.settled.ensures ∙ c.if-settled.false in
    let here : is_settled (p + 1) x ≡ true = sym c.settled-2.ensures ∙ c.if-not-settled.false in
    settled_here (is_settled p x) (is_settled (p + 1) x) (test m) early here
    ∙ c.until.ensures.same test c.cond_stretch.ensures.tells m le lt ln
    ∙ sym (settled_here (is_settled p x) (is_settled (p + 1) x) (test i) early here)
