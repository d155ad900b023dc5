use Rattle.std.proofs.Common.{List, map, subst, ◌∙◌, sym}
use Rattle.std.proofs.lemmas.Bool.{both_ways}
use Rattle.std.proofs.lemmas.List.{take_all}
use Rattle.x86_subset.specs.declared.instr.Reg.TheVariants.{Eax}
use Rattle.outcome_rows.specs.Rows.{HoldReads}
use Rattle.row_decision.specs.Fronts.{register_seen}
use Rattle.row_decision.specs.declared.front.Register.{Register}
use Rattle.row_decision.proofs.Fronted.{holds_more, holds_none}
use Rattle.row_decision.proofs.front.hold_reads.Goals as goal

abbrev none : Register
none = record { thread = 0; reg = Eax }

pub loop-register-preserved : goal.loop-register-preserved
loop-register-preserved c =
    holds_more c.args.test.now c.args.registers.now c.loop-register.register-index none c.loop-register-test.true
    c.loop-register.invariant (sym c.holds_read.ensures ∙ c.if-not-holds_read.false)

pub returns-clause-yes : goal.returns-clause-yes
returns-clause-yes c h =
    let P : List Register → Type 0 = λ z. HoldReads c.args.test.now (map register_seen z) in
    subst P (take_all c.loop-register.register-index c.args.registers.now c.loop-register-test.false)
    c.loop-register.invariant

pub returns-then-not-holds_read-clause-no : goal.returns-then-not-holds_read-clause-no
returns-then-not-holds_read-clause-no c h =
    holds_none c.args.test.now c.args.registers.now c.loop-register.register-index none c.loop-register-test.true
    (λ k. both_ways c.holds_read.result c.if-not-holds_read.true (c.holds_read.ensures ∙ k))
