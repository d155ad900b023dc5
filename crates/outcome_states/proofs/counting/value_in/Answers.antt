use Rattle.std.proofs.Common.{◌∙◌, sym}
use Rattle.x86_subset.specs.declared.instr.Reg.TheVariants.{Eax}
use Rattle.row_decision.specs.declared.front.Register.{Register}
use Rattle.outcome_states.proofs.Written.{value_more, value_short}
use Rattle.outcome_states.proofs.counting.value_in.Goals as goal

abbrev none : Register
none = record { thread = 0; reg = Eax }

pub returns-then-k-row : goal.returns-then-k-row
returns-then-k-row c =
    value_short c.args.registers.now c.args.row.now c.loop-k.k c.args.atom.thread c.args.atom.reg _ c.if-k-row.true
    c.loop-k.invariant

pub loop-k-preserved : goal.loop-k-preserved
loop-k-preserved c =
    value_more c.args.registers.now c.args.row.now c.loop-k.k none c.args.atom.thread c.args.atom.reg _
    c.loop-k-test.true c.if-k-row.false c.loop-k.invariant (sym c.names.ensures ∙ c.if-names.false)
