use Rattle.std.proofs.Common.{◌≡◌, ◌<◌, length, get_or, length-set, sym, ap, ◌∙◌, subst, arith}
use Rattle.perp_loop.specs.Walking.{Walking, IsFinished}
use Rattle.perp_loop.specs.Crews.{Claims, IsBack, IsEnded}
use Rattle.perp_loop.proofs.Rows.{done_more, rest_same, same_more, home_same, home_else, back_kept}
use Rattle.perp_loop.proofs.threads.take_back_all.Goals as goal

pub loop-i-preserved : goal.loop-i-preserved
loop-i-preserved c =
    let inv = c.loop-i.invariant in
    let i = c.loop-i.i in
    let members = c.loop-i.members in
    let member = get_or members i c.index-members-i.result in
    let new = c.take-lane.new.self in
    let lane = c.take-lane.result in
    let parts = c.loop-i.home.parts in
    let now = c.take_back.new.self.parts in
    let lt : i < length members = omega arith in
    let n = length-set members i new in
    let done : IsEnded c.args.words.now i member = inv.left i c.index-members-i.result (omega arith) lt in
    let fits = c.take-lane.ensures.fits in
    let walker = c.take-lane.ensures.left.1 in
    let thread : lane.thread ≡ i = fits.0 ∙ done.0.1 in
    let is = c.take_back.ensures.home in
    record {
      same =
          same_more c.args.members.now c.loop-i.members i new c.index-members-i.result c.loop-i.auto.members lt inv.same
          walker;
      identity = c.take_back.ensures.identity ∙ inv.identity;
      back = done_more (IsBack now) members i new lt
          (λ k d h. back_kept lane.thread i k parts now lane.steps (get_or members k d) is thread (λ e. omega arith)
          (inv.back k d h)) (
            lane.steps,
            home_same lane.thread i parts now lane.steps is thread (inv.away i (omega arith) lt),
            subst (λ (w : Walking). Claims w lane.steps) (sym walker) fits.1,
          );
      ended =
          done_more (λ k p. (p.walker.thread ≡ k) × IsFinished p.walker) members i new lt inv.ended
          (ap (λ (w : Walking). w.thread) walker ∙ done.0.1, subst IsFinished (sym walker) done.1);
      away =
          λ k above within. home_else lane.thread i k parts now lane.steps is thread (λ e. omega arith)
          ∙ inv.away k (omega arith) (omega arith);
      idle =
          λ k above small. home_else lane.thread i k parts now lane.steps is thread (λ e. omega arith)
          ∙ inv.idle k (omega arith) small;
      left = rest_same (IsEnded c.args.words.now) members i new inv.left;
    }
