use Rattle.std.proofs.Common.{◌∙◌, Vec, Global, ap, sym, true, false}
use Rattle.row_decision.specs.declared.front.Register.{Register}
use Rattle.outcome_states.specs.Registers.{all_registers, is_named}
use Rattle.outcome_states.proofs.Written.{registers_step}
use Rattle.outcome_states.proofs.registers.push_registers.Goals as goal
use Rattle.outcome_states.proofs.registers.push_registers.Goals.{then-is_named+in_ok-push, else-is_named}

pub loop-reg-preserved : goal.loop-reg-preserved
loop-reg-preserved c =
    let old = c.args.registers.now.items in
    let before = c.loop-reg.registers.items in
    let after = c.if-is_named.registers.items in
    elim c.if-is_named.branch [
      | then-is_named+in_ok-push w ↦
          registers_step (is_named c.args.test.now) c.args.thread all_registers c.loop-reg.reg-index _ old before after
          true c.loop-reg-test.true c.loop-reg.invariant (sym c.is_named.ensures ∙ w.if-is_named.true)
          (ap (λ (z : Vec Register Global). z.items) w.registers-is ∙ w.in_ok-push.ensures.items)
      | else-is_named w ↦
          registers_step (is_named c.args.test.now) c.args.thread all_registers c.loop-reg.reg-index _ old before after
          false c.loop-reg-test.true c.loop-reg.invariant (sym c.is_named.ensures ∙ w.if-is_named.false)
          (ap (λ (z : Vec Register Global). z.items) w.registers-is)
    ]
