use Rattle.std.proofs.Common.{List, ap, map, subst, ◌∙◌}
use Rattle.once.specs.Edges.{Reading}
use Rattle.row_decision.specs.Seen.{seen}
use Rattle.row_decision.specs.Fronts.{IsFrontFrom, register_seen}
use Rattle.row_decision.proofs.Fronted.{front_row}
use Rattle.row_decision.proofs.front.decide_front.Goals as goal

pub returns : goal.returns
returns c =
    let test = c.args.test.now in
    let registers = map register_seen c.args.registers.now in
    let P : List Reading → Type 0 = λ l.
    IsFrontFrom test registers c.args.values.now l c.args.most c.decide_from.new.steps c.in_ok-front.front in
    record {
      within = c.in_ok-front.ensures.steps;
      front =
          front_row test registers c.args.values.now c.args.most c.decide_from.new.steps c.in_ok-front.front
          c.threads-threads.ensures.test c.requires.registers
          (subst P (ap (map seen) (c.deref.ensures.value ∙ c.new-none.ensures.items)) c.in_ok-front.ensures.front);
    }
