use Rattle.std.proofs.Common.{length, map, ap, refl, ◌∙◌}
use Rattle.x86_subset.specs.Test.{LitmusTest}
use Rattle.run_judge.specs.Judgement.{event_of}
use Rattle.verdict.specs.Edges.{kinds_in}
use Rattle.decision.proofs.Courses.{course_begins}
use Rattle.decision.proofs.course.begin.Goals as goal

pub returns : goal.returns
returns c =
    course_begins c.args.checked.now.test (kinds_in c.args.checked.now c.args.conjunction) c.in_ok-vec.field-0.items _
    (map event_of c.new.result.items) c.threads-count.result (c.in_ok-vec.ensures.items_if_clones_equal (λ y h. h))
    (c.threads-count.ensures.is ∙ ap (λ (t : LitmusTest). length t.bodies) c.test.ensures.is) refl
    (ap (map event_of) c.new.ensures.items)
