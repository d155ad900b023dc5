use Rattle.std.proofs.Common.{◌≡◌, ◌-◌, Some, None, ◌∙◌, arith, ap, length, sym}
use Rattle.run_witness.specs.Order.{several_from}
use Rattle.run_witness.proofs.OneWriter.{none_iff, passes, stops}
use Rattle.run_witness.proofs.fits.several_writers.Goals as goal

pub loop-x-preserved : goal.loop-x-preserved
loop-x-preserved c =
    let b = ap length c.locations-x-end.ensures in
    passes c.args.test.now c.loop-x.x (length c.args.test.now.locations) c.sites.result.now _
    (let l = c.loop-x-test.true in omega arith)
    (c.sites.ensures ∙ c.requires.stores c.loop-x.x (let l = c.loop-x-test.true in omega arith))
    (sym c.have_one_writer.ensures ∙ c.if-not-have_one_writer.false) c.loop-x.invariant

pub returns-then-not-have_one_writer-clause-none : goal.returns-then-not-have_one_writer-clause-none
returns-then-not-have_one_writer-clause-none c =
    let b = ap length c.locations-x-end.ensures in
    none_iff c.args.test.now (Some c.loop-x.x) c.threads-threads.ensures.test
    (stops c.args.test.now c.loop-x.x (length c.args.test.now.locations) c.sites.result.now _
    (let l = c.loop-x-test.true in omega arith)
    (c.sites.ensures ∙ c.requires.stores c.loop-x.x (let l = c.loop-x-test.true in omega arith))
    (sym c.have_one_writer.ensures ∙ c.if-not-have_one_writer.true) c.loop-x.invariant)

pub returns-clause-none : goal.returns-clause-none
returns-clause-none c =
    let b = ap length c.locations-x-end.ensures in
    let f = c.loop-x-test.false in
    let none : length c.args.test.now.locations - c.loop-x.x ≡ 0 = omega arith in
    none_iff c.args.test.now None c.threads-threads.ensures.test
    (sym (ap (several_from c.args.test.now c.loop-x.x) none) ∙ c.loop-x.invariant)
