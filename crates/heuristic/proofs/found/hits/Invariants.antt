use Rattle.std.proofs.Common.{◌≡◌, ◌++◌, length, map}
use Rattle.load_log.specs.Values.{value_at}
use Rattle.outcome_conv.specs.Picks.{link_by, picked_hits_by}
use Rattle.heuristic.proofs.Finds.{listed_after}
use Rattle.heuristic.proofs.found.hits.Given as goal

abbrev pub invariant-loop-c : goal.invariant-loop-c
invariant-loop-c g l =
    l.all.items ++ listed_after (length l.logs.logs) l.n l.conds.ends
    (map (link_by (value_at l.logs.logs) l.n) l.conds.conds) l.c
    ≡ picked_hits_by (value_at l.logs.logs) (length l.logs.logs) l.n l.conds.ends l.conds.conds
