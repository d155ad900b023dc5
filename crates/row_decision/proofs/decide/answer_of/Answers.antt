use Rattle.std.proofs.Common.{subst}
use Rattle.choice_search.specs.Answers.{IsOutcome}
use Rattle.choice_search.specs.declared.answer.Outcome.{Outcome}
use Rattle.row_decision.proofs.Graphs.{sides_run, tree_none}
use Rattle.row_decision.proofs.decide.answer_of.Goals as goal

pub returns-in-Sides : goal.returns-in-Sides
returns-in-Sides c test readings edges choices most steps is are hides es cs h =
    let P : Outcome → Type 0 = λ o. IsOutcome edges choices most steps o in
    let k = subst P c.in-Sides.is h in
    sides_run test readings edges choices c.in-Sides.field-0.items is are hides es cs k.0 k.1

pub returns-in-Refuted : goal.returns-in-Refuted
returns-in-Refuted c test readings edges choices most steps is are hides es cs h =
    let P : Outcome → Type 0 = λ o. IsOutcome edges choices most steps o in
    let k = subst P c.in-Refuted.is h in
    tree_none test readings edges choices c.in-Refuted.tree are es cs k
