use Rattle.std.proofs.Common.{◌≡◌, ℕ, ◌+◌, ◌*◌, ◌<◌, ◌&&◌, get_or, length, slice_set, slice_index, take, sym, ap, ◌∙◌, arith}
use Rattle.std.proofs.lemmas.Bool.{eqb-false, eqb-true}
use Rattle.std.proofs.lemmas.List.{get_or-take, get_or_default, length-take}
use Rattle.load_log.specs.Values.{Values, value_at}
use Rattle.outcome_conv.specs.Conds.{kind_holds}
use Rattle.outcome_conv.specs.Holds.{iteration_in}
use Rattle.frame_count.specs.Row.{bound_of, holds_with, is_within, kind_test, residue_fits}
use Rattle.frame_count.proofs.Reaches.{in_column, moves_at, settles, stays_at, value_there}
use Rattle.frame_count.proofs.ByKind.{test_holds}
use Rattle.frame_count.proofs.reach.writer_stays.Goals as goal

-- the log has a value of the column in each iteration
there_of : (c : goal.After-column) (m : ℕ) → m < c.args.n
    → m * c.at-log.result.now.columns + c.args.cond.now.column < length c.at-log.result.now.values
there_of c m lt =
    let names = c.requires.frame.3.names in
    let few = c.requires.frame.1 in
    value_there c.requires.frame.0 c.args.logs.now.logs c.at-log.result.now c.args.cond.now.reader
    c.args.cond.now.column m c.requires.frame.2.whole names.reader names.column c.at-log.ensures.log (omega arith)

-- the column holds the values of the reader
value_of : (c : goal.After-column) (m : ℕ) → m < c.args.n
    → slice_index c.column.result.now m ≡ slice_index c.at-log.result.now.values
    (m * c.at-log.result.now.columns + c.args.cond.now.column)
value_of c m lt = c.column.ensures.values m (there_of c m lt)

-- and so do the iterations in front
front_of : (c : goal.After-column) (m d : ℕ) → m < length (take c.args.n c.column.result.now)
    → get_or (take c.args.n c.column.result.now) m d
    ≡ slice_index c.at-log.result.now.values (m * c.at-log.result.now.columns + c.args.cond.now.column)
front_of c m d lt =
    let long = length-take c.args.n c.column.result.now in
    get_or-take c.args.n c.column.result.now m d (omega arith) ∙ get_or_default c.column.result.now m d 0 (omega arith)
    ∙ value_of c m (omega arith)

pub of_values-requires-clause-order : goal.of_values-requires-clause-order
of_values-requires-clause-order c i j d le lt =
    let n = c.requires.frame.0 in
    let log = c.at-log.result.now in
    let cond = c.args.cond.now in
    let first = front_of c i d (omega arith) in
    let second = front_of c j d lt in
    let rises = c.if-rises.ensures.yes i j le (there_of c j (let long = length-take c.args.n c.column.result.now in
    omega arith)) in
    omega arith

-- the condition by the stretch and its residue
tells : (c : goal.After-of_values) (m : ℕ) → m < c.args.n
    → holds_with c.args.logs.now.logs c.args.frame.now c.args.t m c.args.cond.now
    ≡ (is_within c.of_values.result m && residue_fits c.args.cond.now.kind
    (value_at c.args.logs.now.logs c.args.cond.now.reader c.args.cond.now.column m))
tells c m lt =
    let cond = c.args.cond.now in
    let frame = c.args.frame.now in
    let values = value_at c.args.logs.now.logs cond.reader cond.column in
    let taken = take c.args.n c.column.result.now in
    let last : cond.reader ≡ c.args.t = eqb-true _ _ c.requires.reader in
    let log = c.at-log.result.now in
    let room = c.column.ensures.room in
    let there = in_column m log.columns cond.column (length c.column.result.now) (length log.values)
    (there_of c.before m lt) (omega arith) in
    let long : m < length taken = let e = length-take c.args.n c.column.result.now in omega arith in
    let value : slice_index taken m ≡ values m = front_of c.before m 0 long
    ∙ ap (λ (log : Values). slice_index log.values (m * log.columns + cond.column)) c.at-log.ensures.log in
    let bound : bound_of cond.kind (slice_index frame cond.writer)
    ≡ c.bound-bound.result = sym (c.bound-bound.ensures ∙ ap (bound_of cond.kind) c.at.ensures) in
    ap (λ i. kind_holds cond.kind (values i) (iteration_in (slice_set frame c.args.t m) cond.writer))
    (moves_at frame c.args.t cond.reader m last c.requires.thread)
    ∙ ap (kind_holds cond.kind (values m)) (stays_at frame c.args.t cond.writer m (eqb-false _ _ c.requires.writer))
    ∙ sym (test_holds cond.kind (values m) (slice_index frame cond.writer))
    ∙ ap (kind_test cond.kind (values m)) bound
    ∙ ap (λ v. kind_test cond.kind v c.bound-bound.result) (sym value)
    ∙ c.of_values.ensures.within m long
    ∙ ap (λ v. is_within c.of_values.result m && residue_fits cond.kind v) value

pub returns-then-rises : goal.returns-then-rises
returns-then-rises c = record {
  tells =
      λ m lt. settles _ _ (residue_fits c.args.cond.now.kind (value_at c.args.logs.now.logs c.args.cond.now.reader
      c.args.cond.now.column m)) _ (tells c m lt) (λ e. c.of_values.ensures.settled e _);
  own = c.of_values.ensures.own;
}
