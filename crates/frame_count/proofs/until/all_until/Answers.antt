use Rattle.std.proofs.Common.{arith}
use Rattle.frame_count.proofs.Staying.{stays_more, stays_none, stays_one}
use Rattle.frame_count.proofs.until.all_until.Goals as goal
use Rattle.frame_count.proofs.until.all_until.Goals.{then-before-c, else-before-c}

pub loop-c-preserved : goal.loop-c-preserved
loop-c-preserved c =
    let conds = c.args.conds.now in
    let logs = c.args.logs.now.logs in
    let f = c.args.frame.now in
    let p = c.args.p in
    let i = c.args.i in
    let now = c.args.now.now in
    let k = c.loop-c.c in
    let x = c.loop-c.invariant in
    let more = x.more in
    let end = c.conjunctions-c-end.ensures.value in
    let test = c.loop-c-test.true in
    let long = c.requires.long in
    elim c.if-before-c.branch [
      | then-before-c w ↦
          let g = w.group.ensures.value in
          let is = w.until-is in
          let min = w.min-until.ensures in
          let later = w.stays_until.ensures.more in
          record {
            more = omega arith;
            alike = λ m le lt ln.
                stays_more conds logs p f i m now k
                (stays_one conds logs p f i m now k _ (omega arith) c.requires.now c.requires.here (omega arith)
                (rw g at (w.stays_until.ensures.same m le (omega arith) ln))
                (rw g at (w.stays_until.ensures.alike m le (omega arith))))
                (x.alike m le (omega arith) ln);
          }
      | else-before-c w ↦
          let is = w.until-is in
          record {
            more = omega arith;
            alike = λ m le lt ln.
                stays_more conds logs p f i m now k
                (λ d. stays_none conds logs p f i m c.args.before.now now k d _ c.requires.before c.requires.now (omega arith)
                w.if-before-c.false)
                (x.alike m le (omega arith) ln);
          }
    ]

pub returns-clause-alike : goal.returns-clause-alike
returns-clause-alike c m le lt ln j d l =
    let done = c.loop-c-test.false in
    let end = c.conjunctions-c-end.ensures.value in
    c.loop-c.invariant.alike m le lt ln j d (omega arith)
