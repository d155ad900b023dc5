use Rattle.std.proofs.Common.{arith}
use Rattle.std.proofs.lemmas.Bool.{both_ways}
use Rattle.frame_count.specs.Row.{is_within}
use Rattle.frame_count.proofs.Reaches.{wider}
use Rattle.frame_count.proofs.stretch.Stretch.span.Goals as goal

pub returns-then-is_empty-clause-theirs : goal.returns-then-is_empty-clause-theirs
returns-then-is_empty-clause-theirs c m e =
    absurd (both_ways (is_within c.args.other m) (c.is_empty.ensures c.if-is_empty.true m) e)

pub returns-clause-mine : goal.returns-clause-mine
returns-clause-mine c m e =
    let from = c.min.ensures in
    let to = c.max.ensures in
    wider c.args.self.from c.args.self.to c.min.result c.max.result m (omega arith) (omega arith) e

pub returns-clause-theirs : goal.returns-clause-theirs
returns-clause-theirs c m e =
    let from = c.min.ensures in
    let to = c.max.ensures in
    wider c.args.other.from c.args.other.to c.min.result c.max.result m (omega arith) (omega arith) e
