use Rattle.std.proofs.Common.{◌≡◌, length, sym, ap, ◌∙◌, arith}
use Rattle.outcome_conv.specs.Picks.{finds_of, is_among}
use Rattle.load_log.specs.Values.{value_at}
use Rattle.heuristic.specs.Steps.{links_of}
use Rattle.heuristic.proofs.Finds.{found_at, is_frame, is_frame_none, is_frame_some, not_found}
use Rattle.heuristic.proofs.Groups.{IsBased, base_at, based, length-plan, within_of}
use Rattle.heuristic.proofs.found.is_find.Goals as goal
use Rattle.heuristic.proofs.found.is_find.Goals.{After-find, In-Some}

pub at-requires : goal.at-requires
at-requires c =
    let l = length-plan (length c.args.logs.now.logs) c.args.conds.now in
    let e = ap length c.requires.plan in omega arith

-- the conjunction's base, which is a thread of the frame
own_base : (c : In-Some) → IsBased c.args.logs.now.logs c.args.n c.args.conds.now c.args.c c.args.frame.now
    c.in-Some.base
own_base c =
    based c.args.logs.now.logs c.args.n c.args.conds.now c.args.c c.args.frame.now c.in-Some.base c.requires.frame
    (base_at (length c.args.logs.now.logs) c.args.conds.now c.args.c _ _ _ c.requires.plan c.requires.conjunction
    c.at.ensures c.base.ensures ∙ c.in-Some.is)

pub at-requires-in-Some : goal.at-requires-in-Some
at-requires-in-Some c = (own_base c).there

pub find-requires-clause-iteration : goal.find-requires-clause-iteration
find-requires-clause-iteration c =
    let early = (own_base c.before).early in
    let e = c.at-in-Some.ensures in
    omega arith

pub returns-in-None : goal.returns-in-None
returns-in-None c =
    let logs = c.args.logs.now.logs in
    let is = base_at (length logs) c.args.conds.now c.args.c _ _ _
    c.requires.plan c.requires.conjunction c.at.ensures c.base.ensures ∙ c.in-None.is in
    sym (not_found (value_at logs) (length logs) c.args.n c.args.conds.now.ends c.args.conds.now.conds c.args.c
    c.args.frame.now (within_of logs c.args.conds.now.conds c.requires.logs.names) is)

-- the frame is a find of the conjunction where it is that of its own base's iteration
own_find : (c : After-find) → is_among (finds_of (length c.args.logs.now.logs) c.args.n
    (links_of c.args.conds.now c.args.logs.now.logs c.args.n c.args.c)) c.args.frame.now
    ≡ is_frame c.args.frame.now c.find.result
own_find c =
    let logs = c.args.logs.now.logs in
    let base = own_base c.before.before in
    let early = base.early in
    let e = c.at-in-Some.ensures in
    found_at (value_at logs) (length logs) c.args.n c.args.conds.now.ends c.args.conds.now.conds c.args.c
    c.args.frame.now c.in-Some.base c.at-in-Some.result
    (within_of logs c.args.conds.now.conds c.requires.logs.names) base.is e (omega arith)
    ∙ ap (is_frame c.args.frame.now) (sym c.find.ensures.value)

pub returns-in-None-find : goal.returns-in-None-find
returns-in-None-find c = sym (own_find c.before ∙ is_frame_none c.args.frame.now c.find.result c.in-None-find.is)

pub returns-in-Some-find : goal.returns-in-Some-find
returns-in-Some-find c =
    c.is.ensures
    ∙ sym (own_find c.before.before.before
    ∙ is_frame_some c.args.frame.now c.in-Some-find.own c.find.result c.in-Some-find.is)
