use Rattle.std.proofs.Common.{◌≡◌, ◌<◌, ℕ, Option, Some, None, sym, ◌∙◌, ap, length, get_or, arith, Vec, Global, [], ◌∷◌, ◌++◌}
use Rattle.choice_search.specs.declared.graph.Pair.{Pair}
use Rattle.choice_search.proofs.Finds.{none_is}
use Rattle.std.proofs.lemmas.Option.{slice_get-get_or}
use Rattle.choice_search.specs.declared.graph.Choice.{Choice}
use Rattle.choice_search.proofs.TakenSides.{push_none, push_side}
use Rattle.choice_search.proofs.taken.edges_of.Goals as goal
use Rattle.choice_search.proofs.taken.edges_of.Goals.{in-Some+in_ok-push, in_default}

pub loop-i-preserved : goal.loop-i-preserved
loop-i-preserved c =
    let choices = c.args.choices.now in
    let sides = c.args.sides.now in
    let i = c.loop-i.i in
    let d : Choice = record { reader = 0; source = 0; other = 0 } in
    let low : i < length choices = c.loop-i-test.true in
    let high : i < length sides = omega arith in
    let here = slice_get-get_or choices i d low in
    let there = slice_get-get_or sides i None high in
    let so_far = c.loop-i.edges.items in
    elim c.match-sides-i.branch [
      | in-Some+in_ok-push w ↦
          ap (λ (v : Vec Pair Global). v.items) w.edges-is ∙ w.in_ok-push.ensures.items
          ∙ ap (λ p. so_far ++ p ∷ []) w.edge.ensures
          ∙ push_side choices sides i (get_or choices i d) w.in-Some.side so_far here
          (there ∙ ap (λ z. Some z) w.in-Some.is) c.loop-i.invariant
      | in_default w ↦
          ap (λ (v : Vec Pair Global). v.items) w.edges-is
          ∙ push_none choices sides i (get_or choices i d) so_far here
          (there ∙ ap (λ z. Some z) (none_is (get_or sides i None) w.in_default.not-Some)) c.loop-i.invariant
    ]
