use Rattle.std.proofs.Common.{◌<◌, ◌∙◌, arith, length, map, sym}
use Rattle.std.specs.List.{list_all}
use Rattle.x86_subset.specs.Conjunctions.{conjunction_of}
use Rattle.row_decision.specs.Fronts.{register_seen}
use Rattle.outcome_states.specs.Counting.{holds_in}
use Rattle.outcome_states.proofs.Written.{none_met, one_met}
use Rattle.outcome_states.proofs.counting.is_met.Goals as goal

pub returns-then-is_met_by : goal.returns-then-is_met_by
returns-then-is_met_by c =
    let test = c.args.test.now in
    let l : c.loop-conjunction.conjunction < length test.ends =
    (let e = c.conjunctions-conjunction-end.ensures in let t = c.loop-conjunction-test.true in omega arith) in
    one_met (list_all (holds_in (map register_seen c.args.registers.now) c.args.row.now))
    (conjunction_of test.ends test.atoms) (length test.ends) c.loop-conjunction.conjunction l
    (sym c.is_met_by.ensures ∙ c.if-is_met_by.true)

pub loop-conjunction-preserved : goal.loop-conjunction-preserved
loop-conjunction-preserved c =
    let test = c.args.test.now in
    none_met (list_all (holds_in (map register_seen c.args.registers.now) c.args.row.now))
    (conjunction_of test.ends test.atoms) c.loop-conjunction.conjunction c.loop-conjunction.invariant
    (sym c.is_met_by.ensures ∙ c.if-is_met_by.false)
