use Rattle.std.proofs.Common.{ap, arith}
use Rattle.load_log.specs.Values.{Lists}
use Rattle.perp_loop.specs.Crews.{Job}
use Rattle.perp_loop.specs.Walking.{Walking}
use Rattle.perp_loop.proofs.Rows.{crew_more}
use Rattle.perp_loop.proofs.crew.Crew.new.Goals as goal

pub loop-t-preserved : goal.loop-t-preserved
loop-t-preserved c =
    let inv = c.loop-t.invariant in
    let made = c.in_ok-walker.ensures.made in
    let job : Job = record { test = c.args.test.now; sequences = c.args.sequences.now; options = c.args.options.now } in
    let more =
    crew_more job c.loop-t.members.items c.push.new.self.items c.loop-t.t c.new-in-loop-t.result c.in_ok-walker.walker
    inv.count inv.fresh inv.of_job c.in_ok-push.ensures.items c.new-in-loop-t.ensures c.in_ok-walker.ensures.stands
    (ap (λ (w : Walking). w.test) made) (ap (λ (w : Walking). w.options) made)
    (ap (λ (w : Walking). w.sequences) made) (ap (λ (w : Walking). w.thread) made)
    in record { count = more.0; fresh = more.1; of_job = more.2 }

pub invariant_of-result : goal.invariant_of-result
invariant_of-result c =
    let inv = c.loop-t.invariant in
    let end = c.threads-t-end.ensures.is in
    let made = c.in_ok-logs.ensures.made in
    let len = c.len.ensures in
    let spare = ap (λ (r : Lists). r.spare) made in
    let count = inv.count in
    record {
      is_test = c.threads-t-end.ensures.test;
      sequences = c.requires.sequences;
      options = c.requires.limits;
      count = omega arith;
      fresh = inv.fresh;
      of_job = inv.of_job;
      none = ap (λ (r : Lists). r.logs) made;
      room = omega arith;
    }
