use Rattle.std.proofs.Common.{ℕ, ◌∙◌, List, Vec, Global, ap, map}
use Rattle.std.proofs.lemmas.List.{take_all}
use Rattle.x86_subset.specs.declared.instr.Reg.TheVariants.{Eax}
use Rattle.outcome_rows.specs.Listing.{columns_of_values}
use Rattle.row_decision.specs.Fronts.{register_seen}
use Rattle.row_decision.specs.declared.front.Register.{Register}
use Rattle.outcome_states.proofs.Valued.{columns_more, register_reads}
use Rattle.outcome_states.proofs.columns.columns.Goals as goal

abbrev none : Register
none = record { thread = 0; reg = Eax }

pub column_of-requires-clause-read : goal.column_of-requires-clause-read
column_of-requires-clause-read c =
    register_reads c.args.test.now c.args.registers.now c.loop-register.register-index none c.loop-register-test.true
    c.requires.reads

pub loop-register-preserved : goal.loop-register-preserved
loop-register-preserved c =
    let items : Vec ℕ Global → List ℕ = λ column. column.items in
    columns_more c.args.test.now register_seen items c.args.registers.now c.loop-register.register-index none
    c.loop-register.columns.items c.push.new.self.items c.in_ok-column.column c.loop-register-test.true
    c.loop-register.invariant c.in_ok-column.ensures c.in_ok-push.ensures.items

pub returns : goal.returns
returns c =
    c.loop-register.invariant ∙ ap (λ z. columns_of_values c.args.test.now (map register_seen z))
    (take_all c.loop-register.register-index c.args.registers.now c.loop-register-test.false)
