use Rattle.std.proofs.Common.{◌∙◌, None, sym, get_or}
use Rattle.once.specs.Sources.{is_hidden_source}
use Rattle.row_decision.specs.Seen.{seen}
use Rattle.row_decision.specs.declared.reading.Reading.{Reading}
use Rattle.row_decision.proofs.Adding.{none_more, reading_at, seen_at}
use Rattle.row_decision.proofs.decide.hidden.Goals as goal

abbrev none : Reading
none = record { reader = record { thread = 0; place = 0 }; location = 0; source = None }

pub is_hidden-requires-clause-reading : goal.is_hidden-requires-clause-reading
is_hidden-requires-clause-reading c =
    reading_at c.args.test.now c.args.readings.now c.loop-index.index none c.loop-index-test.true c.requires.readings

pub returns-then-is_hidden : goal.returns-then-is_hidden
returns-then-is_hidden c = (
  seen (get_or c.args.readings.now c.loop-index.index none),
  seen_at c.args.readings.now c.loop-index.index none c.loop-index-test.true,
  sym c.is_hidden.ensures ∙ c.if-is_hidden.true,
)

pub loop-index-preserved : goal.loop-index-preserved
loop-index-preserved c =
    none_more (is_hidden_source c.args.test.now) c.args.readings.now c.loop-index.index none c.loop-index-test.true
    c.loop-index.invariant (sym c.is_hidden.ensures ∙ c.if-is_hidden.false)
