use Rattle.std.proofs.Common.{◌+◌, ◌-◌, ◌&&◌, nat_lt, sym, ap, ◌∙◌, arith, le-leb, lt-ltb}
use Rattle.std.proofs.lemmas.Bool.{cases_lt}
use Rattle.frame_count.specs.Row.{is_within}
use Rattle.frame_count.proofs.Counts.{count_all, count_around, count_outside}
use Rattle.frame_count.proofs.Reaches.{before, after, none_between}
use Rattle.frame_count.proofs.stretch.Stretch.count.Goals as goal

pub returns-then-first-end : goal.returns-then-first-end
returns-then-first-end c =
    let s = c.args.self in
    let first = c.max-first.result in
    let end = c.min-end.result in
    let low = c.max-first.ensures in
    let high = c.min-end.ensures in
    let some = c.if-first-end.true in
    sym (count_all (is_within s) first (end - first)
    (λ i lt. ap (λ b. b && nat_lt (first + i) s.to) (le-leb s.from (first + i) (omega arith))
    ∙ lt-ltb (first + i) s.to (omega arith)))
    ∙ count_around (is_within s) c.args.from first end c.args.to (omega arith) (omega arith) (omega arith)
    (λ m le lt. before s m (omega arith))
    (λ m le lt. after s m (omega arith))

pub returns-else-first-end : goal.returns-else-first-end
returns-else-first-end c =
    let s = c.args.self in
    let low = c.max-first.ensures in
    let high = c.min-end.ensures in
    let none = c.if-first-end.false in
    count_outside (is_within s) c.args.from c.args.to (λ m le lt. none_between s c.args.from c.args.to m le lt
    (omega arith) (cases_lt m s.from))
