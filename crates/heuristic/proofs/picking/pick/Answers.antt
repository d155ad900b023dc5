use Rattle.std.proofs.Common.{length, get_or, replicate, sym, ap, ◌∙◌, arith}
use Rattle.x86_subset.specs.Conjunctions.{conjunction_of}
use Rattle.load_log.specs.Values.{value_at}
use Rattle.outcome_conv.specs.Plans.{plan_from}
use Rattle.heuristic.specs.Steps.{frame_along}
use Rattle.heuristic.proofs.Along.{picked_none, picked_some}
use Rattle.heuristic.proofs.Groups.{good_order, length-plan, order_by, plan_at, within_of}
use Rattle.heuristic.proofs.picking.pick.Goals as goal

pub at-choices-requires : goal.at-choices-requires
at-choices-requires c =
    let l = length-plan (length c.args.logs.now.logs) c.args.conds.now in
    let e = ap length c.requires.plan in omega arith

pub along-requires-clause-good : goal.along-requires-clause-good
along-requires-clause-good c =
    let t = length c.args.logs.now.logs in
    let group = conjunction_of c.args.conds.now.ends c.args.conds.now.conds c.args.conjunction in
    let part = c.at-choices.ensures ∙ ap (λ p. get_or p c.args.conjunction c.at-choices.result.now) c.requires.plan
    ∙ plan_at t c.args.conds.now c.args.conjunction c.at-choices.result.now c.requires.conjunction in
    let base = sym (c.base.ensures ∙ ap (λ p. p.base) part) ∙ c.in-Some.is in
    let order = c.order.ensures.value ∙ ap (λ p. p.order) part ∙ order_by t group c.in-Some.field-0 base in
    good_order c.args.logs.now.logs c.args.conds.now c.args.conjunction c.in-Some.field-0 c.order.result.now
    c.requires.logs.names order c.order.ensures.kinds

pub returns-in-None-clause-value : goal.returns-in-None-clause-value
returns-in-None-clause-value c =
    let logs = c.args.logs.now.logs in
    let part = c.at-choices.ensures ∙ ap (λ p. get_or p c.args.conjunction c.at-choices.result.now) c.requires.plan
    ∙ plan_at (length logs) c.args.conds.now c.args.conjunction c.at-choices.result.now c.requires.conjunction in
    let base = sym (c.base.ensures ∙ ap (λ p. p.base) part) ∙ c.in-None.is in
    sym (picked_none (value_at logs) (length logs) c.args.n c.args.conds.now.ends c.args.conds.now.conds
    c.args.conjunction c.args.iteration (within_of logs c.args.conds.now.conds c.requires.logs.names) base)

pub returns-in-Some-clause-value : goal.returns-in-Some-clause-value
returns-in-Some-clause-value c =
    let logs = c.args.logs.now.logs in
    let t = length logs in
    let group = conjunction_of c.args.conds.now.ends c.args.conds.now.conds c.args.conjunction in
    let part = c.at-choices.ensures ∙ ap (λ p. get_or p c.args.conjunction c.at-choices.result.now) c.requires.plan
    ∙ plan_at t c.args.conds.now c.args.conjunction c.at-choices.result.now c.requires.conjunction in
    let base = sym (c.base.ensures ∙ ap (λ p. p.base) part) ∙ c.in-Some.is in
    let order = c.order.ensures.value ∙ ap (λ p. p.order) part ∙ order_by t group c.in-Some.field-0 base in
    let frame = c.filled.ensures ∙ ap (λ k. replicate k c.args.iteration) c.len.ensures in
    c.along.ensures.value
    ∙ ap (λ o. frame_along (value_at logs) c.args.n o c.filled.result) order
    ∙ ap (λ f. frame_along (value_at logs) c.args.n (plan_from group c.in-Some.field-0) f) frame
    ∙ sym (picked_some (value_at logs) t c.args.n c.args.conds.now.ends c.args.conds.now.conds c.args.conjunction
    c.args.iteration c.in-Some.field-0 (within_of logs c.args.conds.now.conds c.requires.logs.names) base)
