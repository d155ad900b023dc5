use Rattle.std.proofs.Common.{length, map, sym, ◌∙◌, arith}
use Rattle.load_log.specs.Values.{value_at}
use Rattle.outcome_conv.specs.Picks.{link_by}
use Rattle.heuristic.proofs.Finds.{known_more, known_one}
use Rattle.heuristic.proofs.found.is_known.Goals as goal

pub returns-then-is_find : goal.returns-then-is_find
returns-then-is_find c =
    let links = map (link_by (value_at c.args.logs.now.logs) c.args.n) c.args.conds.now.conds in
    sym (known_one (length c.args.logs.now.logs) c.args.n c.args.conds.now.ends links c.args.c c.loop-earlier.earlier
    c.args.frame.now (omega arith) c.requires.conjunction
    (sym c.is_find.ensures ∙ c.if-is_find.true))

pub loop-earlier-preserved : goal.loop-earlier-preserved
loop-earlier-preserved c =
    let links = map (link_by (value_at c.args.logs.now.logs) c.args.n) c.args.conds.now.conds in
    known_more (length c.args.logs.now.logs) c.args.n c.args.conds.now.ends links c.loop-earlier.earlier
    c.args.frame.now (omega arith)
    (sym c.is_find.ensures ∙ c.if-is_find.false) c.loop-earlier.invariant
