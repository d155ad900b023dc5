use Rattle.std.proofs.Common.{◌<◌, length, get_or, ◌∙◌, arith}
use Rattle.perp_loop.specs.Crews.{IsFresh, IsLent}
use Rattle.perp_loop.proofs.Rows.{done_more, rest_same, same_more, Lends-more, lent_here, claims_fresh}
use Rattle.perp_loop.proofs.threads.lend_all.Goals as goal

pub loop-i-preserved : goal.loop-i-preserved
loop-i-preserved c =
    let inv = c.loop-i.invariant in
    let i = c.loop-i.i in
    let member = get_or c.loop-i.members i c.index-members-i.result in
    let lt : i < length c.loop-i.members = omega arith in
    let fresh : IsFresh i member = inv.fresh i c.index-members-i.result (omega arith) lt in
    let identity = c.lend-lane.ensures.identity in
    record {
      same =
          same_more c.args.members.now c.loop-i.members i c.put.new.self c.index-members-i.result c.loop-i.auto.members
          lt inv.same c.put.ensures.1;
      identity = identity.0 ∙ inv.identity;
      home = Lends-more i c.loop-i.home.parts _ inv.home c.lend-lane.ensures.home;
      lent =
          done_more (IsLent c.args.words.now) c.loop-i.members i c.put.new.self lt inv.lent
          (lent_here c.args.words.now i member c.put.new.self c.lend-lane.result fresh c.put.ensures.0
          c.put.ensures.1 (identity.1 ∙ inv.identity));
      fresh = rest_same IsFresh c.loop-i.members i c.put.new.self inv.fresh;
    }

pub put-requires-clause-steps : goal.put-requires-clause-steps
put-requires-clause-steps c =
    let inv = c.loop-i.invariant in
    let i = c.loop-i.i in
    let member = get_or c.loop-i.members i c.index-members-i.result in
    let lt : i < length c.loop-i.members = omega arith in
    let few = c.requires.few in
    let len = c.loop-i.auto.members in
    let fresh : IsFresh i member = inv.fresh i c.index-members-i.result (omega arith) lt in
    claims_fresh member.walker i c.loop-i.home.parts c.lend-lane.result.steps fresh.2
    (inv.home.1 i (omega arith) (omega arith)) c.lend-lane.ensures.lane.1
