use Rattle.std.proofs.Common.{◌<◌, arith}
use Rattle.count_tests.proofs.PairsOfLogs.{frame_two, names_two}
use Rattle.count_tests.proofs.counts.passes_first.Goals as goal

pub holds-requires-clause-frame : goal.holds-requires-clause-frame
holds-requires-clause-frame c =
    let first : 0 < c.args.n = omega arith in (
      c.args.n,
      frame_two c.args.n 1 0 c.args.logs.now.logs c.pair-frame.result c.requires.logs first c.pair-frame.ensures,
    )

pub holds-requires-clause-names : goal.holds-requires-clause-names
holds-requires-clause-names c =
    names_two c.args.n 1 c.args.logs.now.logs c.args.conds.now.conds c.requires.logs c.requires.conds
