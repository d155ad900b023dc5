use Rattle.std.proofs.Common.{map, ap, ◌∙◌, arith}
use Rattle.std.proofs.lemmas.List.{take_all}
use Rattle.x86_subset.specs.Conjunctions.{conjunctions_of}
use Rattle.heuristic.specs.Plan.{choices_of}
use Rattle.heuristic.proofs.Finds.{length-cut}
use Rattle.heuristic.proofs.plan.Plan.of.Goals as goal

pub returns : goal.returns
returns c =
    let groups = conjunctions_of c.args.conds.now.ends c.args.conds.now.conds in
    let long = length-cut c.args.conds.now.ends c.args.conds.now.conds in
    record { plan = c.loop-c.invariant ∙ ap (map (choices_of c.args.t)) (take_all c.loop-c.c groups (omega arith)) }
