use Rattle.std.proofs.Common.{◌∙◌, arith, sym}
use Rattle.decision.proofs.Asks.{loop_slot}
use Rattle.order_run.proofs.Steps.{none_more}
use Rattle.order_run.proofs.waiting.oldest.Goals as goal

pub loop-place-init : goal.loop-place-init
loop-place-init c = λ i s l m at. absurd (omega arith)

pub loop-place-preserved : goal.loop-place-preserved
loop-place-preserved c =
    none_more c.args.test.now c.args.t c.args.own.drained c.loop-place.place c.action_of.result c.loop-place.invariant
    c.action_of.ensures (sym c.is_storing.ensures ∙ c.if-is_storing.false)

pub returns-then-is_storing : goal.returns-then-is_storing
returns-then-is_storing c = (
  record { iteration = 0; place = c.loop-place.place; action = c.action_of.result },
  record {
    stands = loop_slot c.args.test.now c.args.t c.loop-place.place c.action_of.result c.action_of.ensures;
    storing = sym c.is_storing.ensures ∙ c.if-is_storing.true;
    after = c.loop-place.auto.place;
    below = c.loop-place-test.true;
    none_before = c.loop-place.invariant;
  },
)

pub returns : goal.returns
returns c = λ i s l m at. c.loop-place.invariant i s l (let last = c.loop-place-test.false in omega arith) at
