use Rattle.std.proofs.Common.{◌∙◌, None, ap, map}
use Rattle.std.proofs.lemmas.List.{take_all}
use Rattle.once.specs.Edges.{choices_among}
use Rattle.row_decision.specs.Seen.{seen}
use Rattle.row_decision.specs.declared.reading.Reading.{Reading}
use Rattle.row_decision.proofs.Adding.{choices_step, reading_at}
use Rattle.row_decision.proofs.graph.choices_of.Goals as goal

abbrev none : Reading
none = record { reader = record { thread = 0; place = 0 }; location = 0; source = None }

pub add_choices-requires-clause-reading : goal.add_choices-requires-clause-reading
add_choices-requires-clause-reading c =
    reading_at c.args.test.now c.args.readings.now c.loop-reading.reading-index none c.loop-reading-test.true
    c.requires.readings

pub loop-reading-preserved : goal.loop-reading-preserved
loop-reading-preserved c =
    choices_step c.args.test.now c.args.readings.now c.loop-reading.reading-index none c.loop-reading.choices.items
    c.add_choices.new.choices.items c.loop-reading-test.true c.loop-reading.invariant c.in_ok-add_choices.ensures

pub returns : goal.returns
returns c =
    c.loop-reading.invariant ∙ ap (λ z. choices_among c.args.test.now (map seen z))
    (take_all c.loop-reading.reading-index c.args.readings.now c.loop-reading-test.false)
