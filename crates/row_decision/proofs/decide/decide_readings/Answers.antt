use Rattle.std.proofs.Common.{List, map, arith, sym, subst}
use Rattle.choice_search.specs.declared.graph.Pair.{Pair}
use Rattle.choice_search.specs.declared.graph.Choice.{Choice}
use Rattle.row_decision.specs.Seen.{AreChoices, AreEdges, seen}
use Rattle.row_decision.proofs.Graphs.{hidden_none}
use Rattle.row_decision.proofs.decide.decide_readings.Goals as goal

pub returns-in-Some : goal.returns-in-Some
returns-in-Some c =
    let k = c.in-Some.ensures in
    record {
      within = omega arith;
      answer = (
        k,
        hidden_none c.args.test.now (map seen c.args.readings.now) c.in-Some.index k.0 c.requires.readings k.1 k.2,
      );
    }

pub returns : goal.returns
returns c =
    let test = c.args.test.now in
    let readings = map seen c.args.readings.now in
    let P : List Pair → Type 0 = λ l. AreEdges test readings l in
    let Q : List Choice → Type 0 = λ l. AreChoices test readings l in
    record {
      within = c.in_ok-found.ensures.within;
      answer =
          c.answer_of.ensures test readings c.deref.result.now c.deref-2.result.now c.args.most
          c.in_ok-found.found.steps c.threads-threads.ensures.test c.requires.readings c.in_default.ensures
          (subst P (sym c.deref.ensures.value) c.in_ok-edges.ensures)
          (subst Q (sym c.deref-2.ensures.value) c.in_ok-choices.ensures) c.in_ok-found.ensures.outcome;
    }
