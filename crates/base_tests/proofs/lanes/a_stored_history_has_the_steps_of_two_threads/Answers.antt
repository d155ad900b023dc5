use Rattle.std.proofs.Common.{◌+◌, ◌≤◌, length, sym, ap, ◌∙◌, subst, arith}
use Rattle.tso_words.specs.Traces.{Trace, HasRoom}
use Rattle.base_tests.proofs.lanes.a_stored_history_has_the_steps_of_two_threads.Goals as goal

pub load-requires-clause-ready : goal.load-requires-clause-ready
load-requires-clause-ready g c =
    let made = c.in_ok-reserve.ensures.made in
    let first : HasRoom c.port-one.result 3 = subst (λ (t : Trace). length t.history + 3 ≤ t.room)
    (sym c.port-one.ensures.1) (omega (arith, ap length made.0, made.2)) in
    let second : HasRoom c.drain.new.self 2 = c.drain.ensures.left 2 first in
    subst (λ (t : Trace). length t.history + 1 ≤ t.room) (sym (c.port-two.ensures.1 ∙ c.traced.ensures.same))
    (omega (arith, second))

pub swap-requires-clause-ready : goal.swap-requires-clause-ready
swap-requires-clause-ready g c =
    let made = c.in_ok-reserve.ensures.made in
    let first : HasRoom c.port-one.result 3 = subst (λ (t : Trace). length t.history + 3 ≤ t.room)
    (sym c.port-one.ensures.1) (omega (arith, ap length made.0, made.2)) in
    let second : HasRoom c.drain.new.self 2 = c.drain.ensures.left 2 first in
    c.load.ensures.left 1 (subst (λ (t : Trace). length t.history + 2 ≤ t.room)
    (sym (c.port-two.ensures.1 ∙ c.traced.ensures.same)) second)
