use Rattle.std.proofs.Common.{slice_index, slice_set, sym, ap, ◌∙◌, arith}
use Rattle.std.proofs.lemmas.Bool.{eqb-false}
use Rattle.load_log.specs.Values.{value_at}
use Rattle.outcome_conv.specs.Conds.{kind_holds}
use Rattle.outcome_conv.specs.Holds.{iteration_in}
use Rattle.frame_count.proofs.Reaches.{moves_at, stays_at}
use Rattle.frame_count.proofs.reach.reader_stays.Goals as goal

pub returns-then-writer-t-clause-within : goal.returns-then-writer-t-clause-within
returns-then-writer-t-clause-within c m lt =
    let cond = c.args.cond.now in
    let frame = c.args.frame.now in
    let values = value_at c.args.logs.now.logs cond.reader cond.column in
    let w = c.requires.frame.3.names.writer in
    let one = c.requires.frame.2.one_each in
    ap (λ i. kind_holds cond.kind (values i) (iteration_in (slice_set frame c.args.t m) cond.writer))
    (stays_at frame c.args.t cond.reader m (eqb-false _ _ c.requires.reader))
    ∙ ap (kind_holds cond.kind (values (slice_index frame cond.reader)))
    (moves_at frame c.args.t cond.writer m (omega arith) c.requires.thread)
    ∙ ap (λ v. kind_holds cond.kind v m) (sym (c.logged-value.ensures ∙ ap values c.at.ensures))
    ∙ c.of_writer.ensures.within m lt

pub returns-else-writer-t-clause-within : goal.returns-else-writer-t-clause-within
returns-else-writer-t-clause-within c m lt =
    let cond = c.args.cond.now in
    let frame = c.args.frame.now in
    let values = value_at c.args.logs.now.logs cond.reader cond.column in
    ap (λ i. kind_holds cond.kind (values i) (iteration_in (slice_set frame c.args.t m) cond.writer))
    (stays_at frame c.args.t cond.reader m (eqb-false _ _ c.requires.reader))
    ∙ ap (kind_holds cond.kind (values (slice_index frame cond.reader)))
    (stays_at frame c.args.t cond.writer m (λ same. omega arith))
    ∙ ap (λ v. kind_holds cond.kind v (slice_index frame cond.writer))
    (sym (c.logged-value.ensures ∙ ap values c.at.ensures))
    ∙ ap (kind_holds cond.kind c.logged-value.result) (sym c.at-else-writer-t.ensures)
    ∙ sym c.holds.ensures
    ∙ sym (c.all_or_none.ensures.within m lt)
