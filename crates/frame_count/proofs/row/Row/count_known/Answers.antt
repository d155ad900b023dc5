use Rattle.std.proofs.Common.{◌≡◌, ℕ, ◌+◌, ◌-◌, ◌*◌, ◌/◌, ◌%◌, ◌<◌, ◌≤◌, Bool, false, get_or, min, slice_index, sym, ap, ◌∙◌, arith}
use Rattle.load_log.specs.Values.{value_at}
use Rattle.frame_count.specs.Rows.{row_holds}
use Rattle.frame_count.specs.Row.{bound_of, kind_test}
use Rattle.frame_count.specs.declared.stretch.Stretch.{Stretch}
use Rattle.frame_count.proofs.Counts.{count_bound, count_moved, count_three}
use Rattle.frame_count.proofs.Knowing.{alone_decides, first_row, first_within, knows_moved}
use Rattle.frame_count.proofs.Reaches.{column_is}
use Rattle.frame_count.proofs.row.Row.count_known.Goals as goal

pub count-middle-requires-clause-known : goal.count-middle-requires-clause-known
count-middle-requires-clause-known c j d lt =
    let cond = c.args.known.now.cond in
    let logs = c.args.self.now.logs.now.logs in
    let names = c.requires.known.good.names in
    let n = c.requires.row.1.frame.0 in
    let high = c.requires.row.1.frame.1 in
    let to = c.min.ensures in
    let end = c.min-end.ensures in
    let value : (m : ℕ) → m < n → slice_index c.column-values.result.now m
    ≡ value_at logs cond.reader cond.column m = λ m l.
    column_is n logs c.at.result.now c.column-values.result.now cond.reader cond.column m c.requires.row.1.frame.2.whole
    names.reader names.column c.at.ensures.log c.column-values.ensures.values l in
    knows_moved cond.kind (value_at logs cond.reader cond.column) (slice_index c.column-values.result.now) (64 * j)
    (get_or c.args.known.now.of j d)
    (λ i l. sym (value (64 * j + i) (omega arith))) (c.requires.known.words j d (omega arith))

-- the counts of the three parts are those of no more iterations than there are
parts_fit : (c : goal.After-count_within-back)
    → c.count_within-front.result + c.count-middle.result + c.count_within-back.result ≤ c.args.to
parts_fit c =
    let p : ℕ → Bool = row_holds c.args.self.now in
    let q : ℕ → Bool = λ m. kind_test c.args.known.now.cond.kind
    (slice_index c.column-values.result.now m) c.bound-bound.result in
    let a : ℕ = 64 * c.div_ceil-first.result in
    let b : ℕ = 64 * c.min-end.result in
    let front = c.count_within-front.ensures in
    let x = count_bound p c.args.from (a - c.args.from) in
    let middle = c.count-middle.ensures in
    let y = count_bound q a (b - a) in
    let back = c.count_within-back.ensures in
    let z = count_bound p b (c.args.to - b) in
    let high = c.requires.row.1.frame.1 in
    let to = c.min.ensures in
    let end = c.min-end.ensures in
    let some = c.if-first-end.false in
    omega arith

pub overflow_add-result : goal.overflow_add-result
overflow_add-result c =
    let fit = parts_fit c in
    let high = c.requires.row.1.frame.1 in
    let few = c.requires.few in
    record { fits = omega arith }

pub overflow_add-result-2 : goal.overflow_add-result-2
overflow_add-result-2 c =
    let fit = parts_fit c in
    let high = c.requires.row.1.frame.1 in
    let few = c.requires.few in
    record { fits = omega arith }

pub returns : goal.returns
returns c =
    let conds = c.args.self.now.conds.now in
    let cond = c.args.known.now.cond in
    let logs = c.args.self.now.logs.now.logs in
    let frame = c.args.self.now.frame.now in
    let names = c.requires.known.good.names in
    let n = c.requires.row.1.frame.0 in
    let p : ℕ → Bool = row_holds c.args.self.now in
    let q : ℕ → Bool = λ m. kind_test cond.kind (slice_index c.column-values.result.now m) c.bound-bound.result in
    let first = c.div_ceil-first.result in
    let a : ℕ = 64 * first in
    let b : ℕ = 64 * c.min-end.result in
    let high = c.requires.row.1.frame.1 in
    let from = c.max.ensures in
    let ceil : first ≡ c.max.result / 64 + min 1 (c.max.result % 64) = c.div_ceil-first.ensures in
    let to = c.min.ensures in
    let end = c.min-end.ensures in
    let some = c.if-first-end.false in
    let one = c.requires.known.one in
    let each = c.requires.row.1.each in
    let long = c.requires.row.1.frame.2.one_each in
    let threads = c.requires.row.1.frame.2.some in
    let d : Stretch = record { from = 0; to = 0; row = false; own = false } in
    let value : (m : ℕ) → m < n → slice_index c.column-values.result.now m
    ≡ value_at logs cond.reader cond.column m = λ m l.
    column_is n logs c.at.result.now c.column-values.result.now cond.reader cond.column m c.requires.row.1.frame.2.whole
    names.reader names.column c.at.ensures.log c.column-values.ensures.values l in
    let decides : (m : ℕ) → a ≤ m → m < b → q m ≡ p m = λ m low lt.
    ap (λ v. kind_test cond.kind v c.bound-bound.result) (value m (omega arith))
    ∙ ap (kind_test cond.kind (value_at logs cond.reader cond.column m))
    (c.bound-bound.ensures ∙ ap (bound_of cond.kind) c.at-2.ensures)
    ∙ alone_decides conds logs frame (get_or c.args.self.now.stretches.now 0 d) c.args.to m cond one (omega arith) long
    (c.requires.row.1.leaves 0 d (omega arith)) (omega arith)
    (first_within c.args.self.now.stretches.now _ d c.args.from c.args.to c.max.result c.min.result m
    (omega arith) c.max.ensures c.min.ensures (omega arith) (omega arith))
    (first_row c.args.self.now.stretches.now _ d (omega arith) c.if-not-stretch.false) c.requires.known.alone in
    count_three p c.args.from a b c.args.to _ _ _ (omega arith) (omega arith) (omega arith) c.count_within-front.ensures
    (c.count-middle.ensures ∙ count_moved q p a a (b - a) (λ i lt. decides (a + i) (omega arith) (omega arith)))
    c.count_within-back.ensures
