use Rattle.std.proofs.Common.{List, map, subst, sym, ap, ◌∙◌}
use Rattle.x86_subset.specs.Test.{LitmusTest}
use Rattle.seq_conv.specs.Numbers.{AreOf}
use Rattle.once.specs.Edges.{Reading}
use Rattle.once.specs.Sources.{AreReadings}
use Rattle.once.proofs.Conjoined.{readings_are}
use Rattle.row_decision.specs.Seen.{seen}
use Rattle.row_decision.proofs.Conjoined.{ok_shown}
use Rattle.row_decision.proofs.conjunction.show_conjunction.Goals as goal

pub show_readings-requires-clause-same : goal.show_readings-requires-clause-same
show_readings-requires-clause-same c =
    let P : LitmusTest → Type 0 = λ z. AreOf z c.args.sequences.now in
    subst P (sym c.test-test.ensures.is) c.requires.same

pub show_readings-requires-clause-readings : goal.show_readings-requires-clause-readings
show_readings-requires-clause-readings c =
    let e = ap (map seen) c.deref.ensures.value ∙ c.in_ok-readings.ensures in
    let Q : List Reading → Type 0 = λ l. AreReadings c.args.checked.now.test l in
    let R : LitmusTest → Type 0 = λ z. AreReadings z (map seen c.deref.result.now) in
    subst R (sym c.test-test.ensures.is)
    (subst Q (sym e) (readings_are c.args.checked.now c.args.conjunction c.test-test.ensures.checked))

pub returns : goal.returns
returns c =
    ok_shown c.args.checked.now c.args.conjunction c.args.most c.test-test.result.now (map seen c.deref.result.now)
    c.show_readings.result c.test-test.ensures.checked c.test-test.ensures.is
    (ap (map seen) c.deref.ensures.value ∙ c.in_ok-readings.ensures) c.show_readings.ensures
