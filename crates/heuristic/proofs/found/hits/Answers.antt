use Rattle.std.proofs.Common.{◌+◌, ◌++◌, length, map, ap, ◌∙◌, arith}
use Rattle.load_log.specs.Values.{value_at}
use Rattle.outcome_conv.specs.Picks.{link_by}
use Rattle.heuristic.proofs.Finds.{listed_after, listed_end, listed_more}
use Rattle.heuristic.proofs.found.hits.Goals as goal

pub overflow_cast-c-end : goal.overflow_cast-c-end
overflow_cast-c-end g c = record { fits = omega arith }

pub loop-c-preserved : goal.loop-c-preserved
loop-c-preserved g c =
    let t = length c.args.logs.now.logs in
    let links = map (link_by (value_at c.args.logs.now.logs) c.args.n) c.args.conds.now.conds in
    ap (λ l. l ++ listed_after t c.args.n c.args.conds.now.ends links (c.loop-c.c + 1)) c.in_ok-append.ensures.items
    ∙ listed_more t c.args.n c.args.conds.now.ends links c.loop-c.c c.loop-c.all.items c.in_ok-some.some.items _
    (omega arith) c.in_ok-some.ensures c.loop-c.invariant

pub returns : goal.returns
returns g c =
    let t = length c.args.logs.now.logs in
    let links = map (link_by (value_at c.args.logs.now.logs) c.args.n) c.args.conds.now.conds in
    record {
      hits = listed_end t c.args.n c.args.conds.now.ends links c.loop-c.c c.loop-c.all.items _
          (omega arith) c.loop-c.invariant;
    }
