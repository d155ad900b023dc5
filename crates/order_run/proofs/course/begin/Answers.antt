use Rattle.std.proofs.Common.{map, ap, refl}
use Rattle.run_judge.specs.Judgement.{event_of}
use Rattle.order_run.proofs.Steps.{course_begins}
use Rattle.order_run.proofs.course.begin.Goals as goal

pub returns : goal.returns
returns c = λ edges.
    course_begins c.args.test.now edges c.in_ok-vec.field-0.items _ (map event_of c.new.result.items)
    c.threads-count.result (c.in_ok-vec.ensures.items_if_clones_equal (λ y h. h)) c.threads-count.ensures.is refl
    (ap (map event_of) c.new.ensures.items)
