use Rattle.std.proofs.Common.{rules, ◌≡◌, Some}
use Rattle.perp_loop.proofs.Claimed.{fits_walked}
use Rattle.perp_loop.proofs.member.Member.work.Goals as goal

pub invariant_of-self : goal.invariant_of-self
invariant_of-self g c =
    let there : c.self.inside.lane ≡ Some c.unwrap-lane.result = search rules in
    fits_walked c.self.inside.walker c.walk.new.self c.unwrap-lane.result c.new-post.result c.walk.new.port
    c.lane.result c.self.inside.lane c.walk.ensures.walks there c.new-post.ensures c.lane.ensures c.self.invariant
