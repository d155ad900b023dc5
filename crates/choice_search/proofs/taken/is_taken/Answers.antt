use Rattle.std.proofs.Common.{◌≡◌, ◌<◌, ◌||◌, ℕ, false, refl, Option, Some, None, sym, ◌∙◌, ap, length, slice_get, get_or, arith}
use Rattle.std.proofs.lemmas.Bool.{or_from}
use Rattle.std.proofs.lemmas.Option.{slice_get-get_or}
use Rattle.choice_search.specs.declared.graph.Choice.{Choice}
use Rattle.choice_search.specs.declared.graph.Side.{Side}
use Rattle.choice_search.specs.Graph.{has_pair, is_pair}
use Rattle.choice_search.specs.Search.{side_of, taken_of, with_side}
use Rattle.choice_search.proofs.Finds.{none_is}
use Rattle.choice_search.proofs.TakenSides.{has_taken_more, taken_here}
use Rattle.choice_search.proofs.taken.is_taken.Goals as goal
use Rattle.choice_search.proofs.taken.is_taken.Goals.{in-Some+else-is, in_default}

pub returns-then-is : goal.returns-then-is
returns-then-is c =
    let choices = c.args.choices.now in
    let sides = c.args.sides.now in
    let i = c.loop-i.i in
    let d : Choice = record { reader = 0; source = 0; other = 0 } in
    let low : i < length choices = c.loop-i-test.true in
    let high : i < length sides = omega arith in
    sym (taken_here choices sides i (get_or choices i d) c.in-Some.side c.args.a c.args.b
    (slice_get-get_or choices i d low)
    (slice_get-get_or sides i None high ∙ ap (λ z. Some z) c.in-Some.is)
    (sym (ap (is_pair c.args.a c.args.b) c.edge.ensures) ∙ (sym c.is.ensures ∙ c.if-is.true)))

pub loop-i-preserved : goal.loop-i-preserved
loop-i-preserved c =
    let choices = c.args.choices.now in
    let sides = c.args.sides.now in
    let i = c.loop-i.i in
    let d : Choice = record { reader = 0; source = 0; other = 0 } in
    let low : i < length choices = c.loop-i-test.true in
    let high : i < length sides = omega arith in
    let here = slice_get-get_or choices i d low in
    let there = slice_get-get_or sides i None high in
    elim c.match-sides-i.branch [
      | in-Some+else-is w ↦
          has_taken_more choices sides i (get_or choices i d) (Some w.in-Some.side) c.args.a c.args.b
          here (there ∙ ap (λ z. Some z) w.in-Some.is) c.loop-i.invariant
          (or_from (is_pair c.args.a c.args.b (side_of (get_or choices i d) w.in-Some.side)) false
          (sym (ap (is_pair c.args.a c.args.b) w.edge.ensures) ∙ (sym w.is.ensures ∙ w.if-is.false)) refl)
      | in_default w ↦
          has_taken_more choices sides i (get_or choices i d) None c.args.a c.args.b
          here (there ∙ ap (λ z. Some z) (none_is (get_or sides i None) w.in_default.not-Some)) c.loop-i.invariant refl
    ]
