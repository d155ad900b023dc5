use Rattle.std.proofs.Common.{◌≡◌, ℕ, ◌-◌, ◌≤◌, ◌==◌, ◌&&◌, ◌||◌, [], drop, true, get_or, length, not, refl, ap, sym, ◌∙◌, arith}
use Rattle.std.proofs.lemmas.List.{drop_all}
use Rattle.std.specs.List.{list_all}
use Rattle.frame_count.specs.Row.{holds_along, is_within, own_along, row_along}
use Rattle.frame_count.proofs.Reaches.{left_splits, one_more, one_more_left, own_passes, row_left}
use Rattle.frame_count.proofs.ByKind.{all_end, all_more}
use Rattle.frame_count.proofs.reach.reach.Goals as goal

pub loop-cond-init : goal.loop-cond-init
loop-cond-init c =
    let s = c.all_or_none-stretch.result in
    let settled = c.all_or_none-stretch.ensures.settled in (
      λ m. true,
      λ m. true,
      λ m. true,
      λ m lt.
          sym (ap (λ b. b && ((not s.row || true) && (not s.own || true))) (c.all_or_none-stretch.ensures.within m lt)
          ∙ ap (λ b. (not b || true) && (not s.own || true)) settled.0
          ∙ ap (λ b. not b || true) settled.1),
      λ m. refl,
      λ m. refl,
      λ m. refl,
      λ m. refl,
      λ m. refl,
    )

pub loop-cond-preserved : goal.loop-cond-preserved
loop-cond-preserved c =
    let a = c.loop-cond.invariant.0 in
    let r = c.loop-cond.invariant.1 in
    let o = c.loop-cond.invariant.2 in
    let xs = c.args.conds.now in
    let i = c.loop-cond.cond-index in
    let logs = c.args.logs.now.logs in
    let frame = c.args.frame.now in
    let last : ℕ = length frame - 1 in
    let holds = holds_along logs frame in
    let row = row_along logs frame in
    let own = own_along logs last in
    let s = c.loop-cond.stretch in
    let t = c.cond_stretch.result in
    let x = get_or xs i _ in
    let one : 1 ≤ length frame = (let e = c.requires.frame.2.one_each in let f = c.requires.frame.2.some in omega arith)
    in
    let row_one : (m : ℕ) → (holds m x && row m x)
    ≡ holds m x = λ m. row_left (holds m x) (x.reader == last && not (x.writer == last)) in
    let own_one : (m : ℕ) → (holds m x && own m x) ≡ holds m x = λ m. own_passes logs frame m x one in (
      λ m. a m && holds m x,
      λ m. r m && row m x,
      λ m. o m && own m x,
      λ m lt.
          one_more (a m) (is_within s m) s.row s.own (r m) (o m) (holds m x) (is_within t m) t.row t.own (row m x)
          (own m x)
          (c.loop-cond.invariant.3 m lt) (c.loop-cond.invariant.4 m) (c.loop-cond.invariant.5 m)
          (c.cond_stretch.ensures.row (let e = c.len.ensures.value in omega arith) m lt) (row_one m) (own_one m)
          ∙ sym (ap (λ z. z && ((not c.meet-stretch.result.row || (r m && row m x))
          && (not c.meet-stretch.result.own || (o m && own m x)))) (c.meet-stretch.ensures.within m)
          ∙ ap (λ z. (is_within s m && is_within t m) && ((not z || (r m && row m x))
          && (not c.meet-stretch.result.own || (o m && own m x)))) c.meet-stretch.ensures.row
          ∙ ap (λ z. (is_within s m && is_within t m) && ((not (s.row || t.row) || (r m && row m x))
          && (not z || (o m && own m x)))) c.meet-stretch.ensures.own),
      λ m. one_more_left (a m) (r m) (holds m x) (row m x) (c.loop-cond.invariant.4 m) (row_one m),
      λ m. one_more_left (a m) (o m) (holds m x) (own m x) (c.loop-cond.invariant.5 m) (own_one m),
      λ m. all_more (holds m) xs i _ (a m) _ (omega arith) (c.loop-cond.invariant.6 m),
      λ m. all_more (row m) xs i _ (r m) _ (omega arith) (c.loop-cond.invariant.7 m),
      λ m. all_more (own m) xs i _ (o m) _ (omega arith) (c.loop-cond.invariant.8 m),
    )

pub returns : goal.returns
returns c m lt =
    let a = c.loop-cond.invariant.0 in
    let r = c.loop-cond.invariant.1 in
    let o = c.loop-cond.invariant.2 in
    let xs = c.args.conds.now in
    let logs = c.args.logs.now.logs in
    let frame = c.args.frame.now in
    let s = c.loop-cond.stretch in
    let rest : drop c.loop-cond.cond-index xs ≡ [] = drop_all c.loop-cond.cond-index xs c.loop-cond-test.false in
    let holds = all_end (holds_along logs frame m) _ (a m) _ rest (c.loop-cond.invariant.6 m) in
    let row = all_end (row_along logs frame m) _ (r m) _ rest (c.loop-cond.invariant.7 m) in
    let own = all_end (own_along logs (length frame - 1) m) _ (o m) _ rest (c.loop-cond.invariant.8 m) in
    holds
    ∙ c.loop-cond.invariant.3 m lt
    ∙ sym (ap (λ b. is_within s m && b) (left_splits logs frame s m xs)
    ∙ ap (λ b. is_within s m && ((not s.row || b) && (not s.own || list_all (own_along logs (length frame - 1) m) xs)))
    row
    ∙ ap (λ b. is_within s m && ((not s.row || r m) && (not s.own || b))) own)
