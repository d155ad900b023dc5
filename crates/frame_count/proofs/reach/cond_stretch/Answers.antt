use Rattle.std.proofs.Common.{◌≡◌, ◌-◌, ◌≤◌, ◌==◌, ◌<◌, ◌&&◌, ◌||◌, ℕ, not, true, length, sym, ap, ◌∙◌, arith}
use Rattle.frame_count.specs.Row.{holds_along, holds_with, is_within, left_along, own_along, row_along}
use Rattle.load_log.specs.Values.{value_at}
use Rattle.outcome_conv.specs.Conds.{kind_holds}
use Rattle.frame_count.proofs.Reaches.{own_holds, own_stretch, row_row, row_settled, told_own, told_row, told_settled}
use Rattle.frame_count.proofs.reach.cond_stretch.Goals as goal

-- all is left of a condition of the last thread's own
tells : (c : goal.After-left) → c.args.t ≡ length c.args.frame.now - 1 → (m : ℕ) → m < c.args.n
    → holds_along c.args.logs.now.logs c.args.frame.now m c.args.cond.now
    ≡ (is_within c.left.result m && left_along c.args.logs.now.logs c.args.frame.now c.left.result m
    c.args.cond.now)
tells c e m lt =
    let cond = c.args.cond.now in
    let frame = c.args.frame.now in
    let logs = c.args.logs.now.logs in
    let s = c.left.result in
    let r = c.if-cond-t.false in
    let w = c.if-cond-t-2.false in
    let one : 1 ≤ length frame = (let a = c.requires.frame.2.one_each in let b = c.requires.frame.2.some in omega arith)
    in
    let reader : (cond.reader == length frame - 1) ≡ true = grind arith in
    let writer : (cond.writer == length frame - 1) ≡ true = grind arith in
    own_stretch (holds_along logs frame m cond) (is_within s m)
    (kind_holds cond.kind (value_at logs (length frame - 1) cond.column m) m) (cond.reader == length frame - 1)
    (cond.writer == length frame - 1) s.row s.own
    reader writer (c.left.ensures.within m lt) c.left.ensures.own (own_holds logs frame m cond one (grind arith))

pub returns-then-cond-t : goal.returns-then-cond-t
returns-then-cond-t c =
    let cond = c.args.cond.now in
    let frame = c.args.frame.now in
    let logs = c.args.logs.now.logs in
    let s = c.reader_stays.result in
    let x = c.reader_stays.ensures in
    record {
      tells = λ m lt. told_settled (holds_with logs frame c.args.t m cond) (is_within s m) s.row s.own
          (x.within m lt) x.settled.0 x.settled.1;
      row = λ e m lt. row_settled (holds_along logs frame m cond) (is_within s m) s.row s.own
          (row_along logs frame m cond) (own_along logs (length frame - 1) m cond)
          (sym (ap (λ t. holds_with logs frame t m cond) e) ∙ x.within m lt) x.settled.0 x.settled.1;
    }

pub returns-then-cond-t-2 : goal.returns-then-cond-t-2
returns-then-cond-t-2 c =
    let cond = c.args.cond.now in
    let frame = c.args.frame.now in
    let logs = c.args.logs.now.logs in
    let s = c.writer_stays.result in
    let x = c.writer_stays.ensures in
    let r = c.if-cond-t.false in
    let w = c.if-cond-t-2.true in
    record {
      tells = λ m lt. told_row (holds_with logs frame c.args.t m cond) (is_within s m) s.row s.own
          (x.tells m lt) x.own;
      row = λ e m lt.
          let same = ap (λ t. holds_with logs frame t m cond) e in
          row_row (holds_along logs frame m cond) (is_within s m) s.row s.own (cond.reader == length frame - 1)
          (cond.writer == length frame - 1) (own_along logs (length frame - 1) m cond) (grind arith) (grind arith)
          (sym same ∙ x.tells m lt ∙ ap (λ h. is_within s m && (not s.row || h)) same) x.own;
    }

pub returns-else-cond-t-2 : goal.returns-else-cond-t-2
returns-else-cond-t-2 c =
    let s = c.left.result in
    record {
      tells = λ m lt. told_own (holds_with c.args.logs.now.logs c.args.frame.now c.args.t m c.args.cond.now)
          (is_within s m) s.row s.own (c.left.ensures.within m lt) c.left.ensures.own;
      row = λ e m lt. tells c e m lt;
    }
