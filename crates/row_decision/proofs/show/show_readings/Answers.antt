use Rattle.std.proofs.Common.{Global, List, MatchOption, Option, Vec, map, ap, arith, subst, sym, ◌∙◌, ◌++◌}
use Rattle.run_judge.specs.Judgement.{event_of}
use Rattle.run_judge.specs.declared.event.RunEvent.{RunEvent}
use Rattle.order_run.specs.Along.{HasCycle, IsRunAlong}
use Rattle.choice_search.specs.declared.graph.Pair.{Pair}
use Rattle.choice_search.specs.declared.graph.Choice.{Choice}
use Rattle.choice_search.specs.declared.answer.Outcome.{Outcome}
use Rattle.choice_search.specs.Answers.{IsOutcome}
use Rattle.row_decision.specs.Seen.{AreChoices, AreEdges, seen}
use Rattle.row_decision.proofs.Graphs.{hidden_none, tree_none}
use Rattle.row_decision.proofs.Runs.{has_sides, none_closed, run_has}
use Rattle.row_decision.proofs.show.show_readings.Goals as goal

pub returns-in-Some : goal.returns-in-Some
returns-in-Some c =
    let k = c.in-Some.ensures in
    record {
      within = omega arith;
      shown = (
        k,
        hidden_none c.args.test.now (map seen c.args.readings.now) c.in-Some.index k.0 c.requires.readings k.1 k.2,
      );
    }

pub unreachable-requires : goal.unreachable-requires
unreachable-requires c =
    let test = c.args.test.now in
    let readings = map seen c.args.readings.now in
    let edges = c.in_ok-edges.edges.items in
    let choices = c.in_ok-choices.choices.items in
    let sides = c.deref-in-Sides.result.now in
    let O : Outcome → Type 0 = λ o. IsOutcome c.deref.result.now c.deref-2.result.now c.args.most
    c.in_ok-found.found.steps o in
    let h = has_sides test readings edges c.deref.result.now choices c.deref-2.result.now sides c.in-Sides.sides.items
    c.threads-threads.ensures.test c.requires.readings c.in_default.ensures c.in_ok-edges.ensures
    c.in_ok-choices.ensures c.deref.ensures.value c.deref-2.ensures.value
    (sym (c.deref-in-Sides.ensures.value ∙ ap (λ (v : Vec Pair Global). v.items) c.in-Sides.sides-is))
    (subst O c.in-Sides.is c.in_ok-found.ensures.outcome) in
    let M : Option (Vec RunEvent Global) → Type 0 = λ o. MatchOption o (HasCycle test (edges ++ sides))
    (λ run. IsRunAlong test (edges ++ sides) (map event_of run.items)) in
    none_closed test readings edges choices sides h (subst M c.in-None.is c.in_ok-run-in-Sides.ensures)

pub returns-in-Some-2 : goal.returns-in-Some-2
returns-in-Some-2 c =
    let test = c.args.test.now in
    let readings = map seen c.args.readings.now in
    let edges = c.in_ok-edges.edges.items in
    let choices = c.in_ok-choices.choices.items in
    let sides = c.deref-in-Sides.result.now in
    let O : Outcome → Type 0 = λ o. IsOutcome c.deref.result.now c.deref-2.result.now c.args.most
    c.in_ok-found.found.steps o in
    let h = has_sides test readings edges c.deref.result.now choices c.deref-2.result.now sides c.in-Sides.sides.items
    c.threads-threads.ensures.test c.requires.readings c.in_default.ensures c.in_ok-edges.ensures
    c.in_ok-choices.ensures c.deref.ensures.value c.deref-2.ensures.value
    (sym (c.deref-in-Sides.ensures.value ∙ ap (λ (v : Vec Pair Global). v.items) c.in-Sides.sides-is))
    (subst O c.in-Sides.is c.in_ok-found.ensures.outcome) in
    let M : Option (Vec RunEvent Global) → Type 0 = λ o. MatchOption o (HasCycle test (edges ++ sides))
    (λ run. IsRunAlong test (edges ++ sides) (map event_of run.items)) in
    record {
      within = c.in_ok-found.ensures.within;
      shown = run_has test readings edges choices sides (map event_of c.in-Some-2.run'.items) h
          (subst M c.in-Some-2.is c.in_ok-run-in-Sides.ensures);
    }

pub returns-in-Refuted : goal.returns-in-Refuted
returns-in-Refuted c =
    let test = c.args.test.now in
    let readings = map seen c.args.readings.now in
    let E : List Pair → Type 0 = λ l. AreEdges test readings l in
    let C : List Choice → Type 0 = λ l. AreChoices test readings l in
    let O : Outcome → Type 0 = λ o. IsOutcome c.deref.result.now c.deref-2.result.now c.args.most
    c.in_ok-found.found.steps o in
    rw c.in-Refuted.tree-is (record {
      within = c.in_ok-found.ensures.within;
      shown = tree_none test readings c.deref.result.now c.deref-2.result.now c.in-Refuted.tree c.requires.readings
          (subst E (sym c.deref.ensures.value) c.in_ok-edges.ensures)
          (subst C (sym c.deref-2.ensures.value) c.in_ok-choices.ensures)
          (subst O c.in-Refuted.is c.in_ok-found.ensures.outcome);
    })
