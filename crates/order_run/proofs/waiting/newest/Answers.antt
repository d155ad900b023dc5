use Rattle.std.proofs.Common.{◌≡◌, ◌∙◌, arith, ap, map, sym}
use Rattle.tso_machine.specs.Machine.{newest}
use Rattle.run_witness.specs.Marks.{loop_of, waiting}
use Rattle.run_witness.specs.Stage.{slot_write}
use Rattle.decision.proofs.Courses.{newest_kept, newest_none, newest_stored}
use Rattle.order_run.proofs.waiting.newest.Goals.{then-is_store_to, else-is_store_to}
use Rattle.order_run.proofs.waiting.newest.Goals as goal

pub loop-place-init : goal.loop-place-init
loop-place-init c = newest_none c.args.test.now c.args.t c.args.own.drained c.args.loc

pub loop-place-preserved : goal.loop-place-preserved
loop-place-preserved c = elim c.if-is_store_to.branch [
  | then-is_store_to w ↦
      newest_stored c.args.test.now c.args.sequences.now c.args.t c.args.own.drained c.loop-place.place c.args.loc
      w.value.result c.action_of.result c.if-is_store_to.found c.requires.same c.loop-place.auto.place
      c.action_of.ensures
      (sym c.is_store_to.ensures ∙ w.if-is_store_to.true) w.found-is w.value.ensures
  | else-is_store_to w ↦
      newest_kept c.args.test.now c.args.t c.args.own.drained c.loop-place.place c.args.loc c.action_of.result
      c.if-is_store_to.found c.loop-place.auto.place c.action_of.ensures
      (sym c.is_store_to.ensures ∙ w.if-is_store_to.false) (w.found-is ∙ c.loop-place.invariant)
]

pub returns : goal.returns
returns c =
    let within = c.loop-place.auto.place-end c.requires.order in
    let last = c.loop-place-test.false in
    let end : c.loop-place.place ≡ c.args.own.done = omega arith in
    c.loop-place.invariant ∙ ap (λ z. newest c.args.loc (map (slot_write c.args.test.now c.args.t)
    (waiting (loop_of c.args.test.now 1 c.args.t) c.args.own.drained z))) end
