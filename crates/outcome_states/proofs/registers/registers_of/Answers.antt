use Rattle.outcome_states.specs.Registers.{is_named}
use Rattle.outcome_states.proofs.Written.{threads_step}
use Rattle.outcome_states.proofs.registers.registers_of.Goals as goal

pub loop-thread-preserved : goal.loop-thread-preserved
loop-thread-preserved c =
    threads_step (is_named c.args.test.now) c.loop-thread.thread c.loop-thread.registers.items
    c.push_registers.new.registers.items c.loop-thread.invariant c.in_ok-push_registers.ensures
