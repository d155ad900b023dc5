use Rattle.std.proofs.Common.{◌≡◌, ℕ, ◌∙◌, List, None, Some, ap, leb, sym}
use Rattle.std.specs.List.{position}
use Rattle.outcome_states.proofs.Valued.{put_found, put_new, put_none}
use Rattle.outcome_states.proofs.columns.put_value.Goals as goal

pub returns-in_ok-push-in-None : goal.returns-in_ok-push-in-None
returns-in_ok-push-in-None c =
    let v : ℕ = c.args.value in
    let items : List ℕ = c.args.values.now.items in
    let p : position (λ w. leb v w) items ≡ None = ap (position (λ w. leb v w)) (sym c.deref.ensures.value)
    ∙ sym c.place_for.ensures ∙ c.in-None.is in
    c.in_ok-push-in-None.ensures.items ∙ sym (put_none v items p)

pub returns-in_ok-insert-in-Some : goal.returns-in_ok-insert-in-Some
returns-in_ok-insert-in-Some c =
    let v : ℕ = c.args.value in
    let items : List ℕ = c.args.values.now.items in
    let p : position (λ w. leb v w) items ≡ Some c.in-Some.place = ap (position (λ w. leb v w))
    (sym c.deref.ensures.value) ∙ sym c.place_for.ensures ∙ c.in-Some.is in
    c.in_ok-insert-in-Some.ensures.items
    ∙ sym (put_new v items c.in-Some.place c.index.result.now p (λ e. c.if-index-value.true (c.index.ensures ∙ e)))

pub returns-else-index-value : goal.returns-else-index-value
returns-else-index-value c =
    let v : ℕ = c.args.value in
    let items : List ℕ = c.args.values.now.items in
    let p : position (λ w. leb v w) items ≡ Some c.in-Some.place = ap (position (λ w. leb v w))
    (sym c.deref.ensures.value) ∙ sym c.place_for.ensures ∙ c.in-Some.is in
    sym (put_found v items c.in-Some.place c.index.result.now p (sym c.index.ensures ∙ c.if-index-value.false))
