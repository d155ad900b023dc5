use Rattle.std.proofs.Common.{◌≡◌, ◌<◌, ◌+◌, ℕ, Bool, not, true, false, Option, MatchOption, Some, None, sym, ◌∙◌, ap, subst, take, length, get_or, arith}
use Rattle.std.proofs.lemmas.Option.{slice_get-get_or}
use Rattle.std.specs.List.{list_all}
use Rattle.choice_search.specs.declared.graph.Choice.{Choice}
use Rattle.choice_search.specs.declared.graph.Side.{Side}
use Rattle.choice_search.specs.declared.search.Pick.{Pick}
use Rattle.choice_search.specs.Search.{IsOpenAt, is_open}
use Rattle.choice_search.proofs.Finds.{all_take, match_none, match_some, none_from}
use Rattle.choice_search.proofs.TakenSides.{some_closed}
use Rattle.choice_search.proofs.search.highest.Goals as goal
use Rattle.choice_search.proofs.search.highest.Goals.{then-is_none+then-is_none-2, then-is_none+else-is_none-2+else-rank_here-best_rank, else-is_none}

pub loop-index-preserved : goal.loop-index-preserved
loop-index-preserved c =
    let choices = c.args.choices.now in
    let sides = c.args.sides.now in
    let i = c.loop-index.index in
    let d : Choice = record { reader = 0; source = 0; other = 0 } in
    let low : i < length choices = c.loop-index-test.true in
    let high : i < length sides = omega arith in
    let here = slice_get-get_or choices i d low in
    let there = slice_get-get_or sides i None high in
    let A : Type 0 = list_all (λ (side : Option Side). not (is_open side)) (take i sides) ≡ true in
    let B : Type 0 = list_all (λ (side : Option Side). not (is_open side)) (take (i + 1) sides) ≡ true in
    let Q : Pick → Type 0 = λ at. IsOpenAt choices sides at.index at.choice in
    let P : Option Pick → Type 0 = λ b. MatchOption b B Q in
    elim c.if-is_none.branch [
      | then-is_none+then-is_none-2 w ↦
          subst P (sym w.best-is) (record {
            here = here;
            free = there ∙ ap (λ z. Some z) (none_from (get_or sides i None) w.if-is_none.ensures);
          })
      | then-is_none+else-is_none-2+else-rank_here-best_rank w ↦
          subst P (sym w.best-is) (match_some A B Q c.loop-index.best w.if-is_none-2.ensures c.loop-index.invariant)
      | else-is_none w ↦
          subst P (sym w.best-is) (match_none A B Q c.loop-index.best
          (λ h. all_take (λ (side : Option Side). not (is_open side)) sides i (get_or sides i None) there h
          (some_closed (get_or sides i None) w.if-is_none.ensures)) c.loop-index.invariant)
    ]
