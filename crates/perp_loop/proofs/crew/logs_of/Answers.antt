use Rattle.std.proofs.Common.{◌≡◌, ◌∷◌, [], ◌++◌, length, sym, ap, subst, ◌∙◌, append_assoc, append-nil, arith}
use Rattle.std.specs.Vec.Iter.{into_iter_items}
use Rattle.std.proofs.lemmas.List.Elements.{All-tail}
use Rattle.load_log.specs.Values.{Lists}
use Rattle.perp_loop.specs.Walking.{IsFinished}
use Rattle.perp_loop.specs.Crews.{Enrolled, AllFinished, AreLogs, IsLogOf}
use Rattle.perp_base.proofs.Lists.{zip_push}
use Rattle.perp_loop.proofs.Rows.{nothing_left}
use Rattle.perp_loop.proofs.crew.logs_of.Goals as goal

pub loop-member-preserved : goal.loop-member-preserved
loop-member-preserved c =
    let at = c.loop-member in
    let x = c.in-Some.member in
    let steps : into_iter_items at.member-iterator ≡ x ∷ into_iter_items c.next.new.self = c.in-Some.ensures.steps.0 in
    let left : AllFinished (x ∷ into_iter_items c.next.new.self) = subst AllFinished steps at.invariant.finished in
    let was = at.invariant.counted in
    let gone = c.in-Some.ensures.steps.1 in
    let short = ap length steps in
    let added = c.add.ensures.appended in
    let spare = ap (λ (r : Lists). r.spare) added in
    let room = at.invariant.room in
    record {
      all = append_assoc at.yielded (x ∷ []) _ ∙ rw (← steps) at.invariant.all;
      logs =
          subst (AreLogs (at.yielded ++ x ∷ [])) (sym (ap (λ (r : Lists). r.logs) added))
          (zip_push (λ (p : Enrolled) log. IsLogOf p.walker log) at.yielded at.logs.logs x c.log.result
          at.invariant.logs c.log.ensures);
      counted = omega arith;
      finished = All-tail (λ (p : Enrolled). IsFinished p.walker) x (into_iter_items c.next.new.self) left;
      room = omega arith;
    }

pub returns : goal.returns
returns c =
    let at = c.loop-member in
    let none = c.in-None.ensures.steps in
    let empty : into_iter_items at.member-iterator ≡ [] = nothing_left _ (sym at.invariant.counted ∙ none.0) in
    let all = sym (append-nil at.yielded) ∙ rw empty at at.invariant.all
    ∙ c.into_iter-member-iterator.ensures.into_iter_gives.0 in
    subst (λ ps. AreLogs ps at.logs.logs) all at.invariant.logs
