use Rattle.std.proofs.Common.{◌∙◌}
use Rattle.decision.proofs.Courses.{held_shows}
use Rattle.decision.proofs.conjunctions.run_of.Goals as goal

pub returns-in-None : goal.returns-in-None
returns-in-None c =
    held_shows c.args.checked.now c.args.sequences.now c.args.conjunction c.as_slice.result.now c.run.course
    (record {
      within = c.test-test.ensures.checked;
      sequences = c.requires.same;
      ordered = c.requires.ordered;
      atoms = c.as_slice.ensures.value ∙ c.asked_in-asked.ensures;
    })
    c.requires.none c.run.invariant c.in-None.ensures
