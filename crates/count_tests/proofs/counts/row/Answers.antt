use Rattle.count_tests.proofs.PairsOfLogs.{frame_two, names_two}
use Rattle.count_tests.proofs.counts.row.Goals as goal

pub row_count-requires-clause-frame : goal.row_count-requires-clause-frame
row_count-requires-clause-frame c = (
  c.args.n,
  c.requires.row.0,
  c.requires.row.1,
  frame_two c.args.n 1 c.args.first c.args.logs.now.logs c.pair-frame.result c.requires.logs c.requires.first
      c.pair-frame.ensures,
)

pub row_count-requires-clause-names : goal.row_count-requires-clause-names
row_count-requires-clause-names c =
    names_two c.args.n 1 c.args.logs.now.logs c.args.conds.now.conds c.requires.logs c.requires.conds
