use Rattle.std.proofs.Common.{◌≡◌, drop}
use Rattle.std.specs.List.{list_all}
use Rattle.frame_count.specs.Block.{test_now}
use Rattle.frame_count.proofs.so_far.pass_now.Given as goal

abbrev pub invariant-loop-cond : goal.invariant-loop-cond
invariant-loop-cond l =
    list_all (test_now l.logs.logs l.p l.frame) (drop l.cond-index l.conds)
    ≡ list_all (test_now l.logs.logs l.p l.frame) l.conds
