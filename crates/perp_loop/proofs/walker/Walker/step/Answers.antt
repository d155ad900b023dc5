use Rattle.std.proofs.Common.{◌≡◌, ◌+◌, ◌*◌, ◌≤◌, refl, inl, inr, [], length, subst, arith}
use Rattle.x86_subset.specs.Test.{body_of}
use Rattle.perp_loop.specs.Walking.{IsFinished, TakesTurn, owed}
use Rattle.perp_loop.proofs.Taken.{finished, owes_turn, room_for, sound_action, sound_last, takes_action, takes_drain, walking}
use Rattle.perp_loop.proofs.walker.Walker.step.Goals as goal

pub take_turn-requires-clause-room : goal.take_turn-requires-clause-room
take_turn-requires-clause-room g c =
    room_for c.self.invariant c.if-self.true c.body-body.result.now c.body-body.ensures

pub take_turn-requires-clause-ready : goal.take_turn-requires-clause-ready
take_turn-requires-clause-ready g c =
    let need = length c.self.inside.buffer.entries + 1 in
    let owes = owes_turn c.self.invariant c.if-self.true c.body-body.result.now c.body-body.ensures in
    let enough : need ≤ owed c.args.self.now = subst (λ w. need ≤ owed w) c.self.view_is owes in
    elim c.requires [
      | inl h ↦ inl (g.met.P.Port.ready_for_fewer c.args.port.now need (owed c.args.self.now) enough h)
      | inr h ↦ inr h
    ]

pub invariant_of-self : goal.invariant_of-self
invariant_of-self g c =
    let next = c.next_position-next in
    sound_action c.self.invariant c.if-self.true c.body-body.result.now c.body-body.ensures next.result.0 next.result.1
    next.ensures.further c.take_turn.ensures c.next-asks.ensures.rest
    (next.ensures.stands c.self.inside.options.iterations c.if-self.true)

pub invariant_of-self-else-is_empty : goal.invariant_of-self-else-is_empty
invariant_of-self-else-is_empty g c = sound_last c.self.invariant c.drain.ensures.rest

pub returns-then-self : goal.returns-then-self
returns-then-self g c =
    let a = c.self.inside in
    let next = c.next_position-next in
    let made = next.result.0 * length (body_of a.test.now a.thread) + next.result.1 in
    let new = walking a.test.now a.sequences.now a.options a.thread made c.take_turn.new.buffer c.take_turn.new.log in
    let port = c.take_turn.new.port in
    subst (λ w. TakesTurn g.P.Port.steps g.P.Port.ready g.P.Port.kept w c.args.port.now new port) c.self.view_is
    (takes_action c.self.invariant c.if-self.true c.body-body.result.now c.body-body.ensures next.result.0 next.result.1
    next.ensures.further c.take_turn.ensures c.next-asks.ensures.asks)

pub returns-then-is_empty : goal.returns-then-is_empty
returns-then-is_empty g c =
    let place = c.self.invariant.position in
    let last : c.self.inside.iteration ≡ c.self.inside.options.iterations = omega arith in
    (subst IsFinished c.self.view_is (finished c.self.invariant last (c.if-is_empty.ensures.0 refl)), refl, refl)

pub returns-else-is_empty : goal.returns-else-is_empty
returns-else-is_empty g c =
    let a = c.self.inside in
    let place = c.self.invariant.position in
    let last : a.iteration ≡ a.options.iterations = omega arith in
    let made = a.iteration * length (body_of a.test.now a.thread) + a.place in
    let new = walking a.test.now a.sequences.now a.options a.thread made c.drain.new.buffer a.log in
    let some : a.buffer.entries ≡ [] → ⊥ = λ h. let t = c.if-is_empty.ensures.1 h in cc in
    subst (λ w. TakesTurn g.P.Port.steps g.P.Port.ready g.P.Port.kept w c.args.port.now new c.drain.new.port)
    c.self.view_is
    (takes_drain c.self.invariant last c.drain.ensures.rest some c.drain.ensures.steps)
