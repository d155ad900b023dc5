use Rattle.std.proofs.Common.{◌≡◌, ℕ, ◌-◌, Bool, count_by, get_or, ap, sym, ◌∙◌, arith, subst}
use Rattle.std.proofs.lemmas.List.{get_or-take, length-take}
use Rattle.std.specs.List.{range_with_len}
use Rattle.x86_subset.specs.Conjunctions.{conjunction_of}
use Rattle.frame_count.specs.Count.{frame_holds, with_last}
use Rattle.frame_count.specs.Counted.{LeaveSteady}
use Rattle.frame_count.specs.Row.{Leaves}
use Rattle.frame_count.specs.declared.stretch.Stretch.{Stretch}
use Rattle.frame_count.proofs.Remembered.{counts_alike}
use Rattle.frame_count.proofs.counted.Counted.next.Goals as goal

-- the stretches are those of the row before, which leave nothing of the row
steady : (c : goal.Then-count_alike) → LeaveSteady c.args.conds.now c.args.logs.now.logs c.args.self.now.to
    c.args.self.now.stretches c.args.frame.now
steady c j d lt =
    let now = c.reaches-stretches.result in
    let k = c.conjunctions.result in
    let count = c.conjunctions.ensures.value in
    let each = c.reaches-stretches.ensures.each in
    let long = length-take k now in
    let alike = c.count_alike.ensures c.if-count_alike.true j d (omega arith) in
    let same : get_or c.args.self.now.stretches j d ≡ get_or now j d = alike.0 ∙ get_or-take k now j d (omega arith) in
    let bound = c.if-self-to.true in
    let P : Stretch → Type 0 = Leaves c.args.self.now.to c.args.logs.now.logs c.args.frame.now
    (conjunction_of c.args.conds.now.ends c.args.conds.now.conds j) in
    let leaves : P (get_or now j d) = λ m l. c.reaches-stretches.ensures.leave j d lt m (omega arith) in
    (subst P (sym same) leaves, alike.1)

hits : (c : goal.Then-count_alike) → c.args.self.now.hits
    ≡ count_by (λ m. frame_holds c.args.conds.now c.args.logs.now.logs (with_last c.args.frame.now m))
    (range_with_len c.args.from (c.args.to - c.args.from))
hits c =
    let row = c.args.self.now in
    let bound = c.if-self-to.true in
    let p : ℕ → Bool = λ m. frame_holds c.args.conds.now c.args.logs.now.logs (with_last c.args.frame.now m) in
    let high = c.requires.frame.2 in
    c.requires.counts c.requires.frame.0 c.args.frame.now (omega arith) c.requires.frame.3 (steady c)
    ∙ ap (λ k. count_by p (range_with_len k (row.to - k))) c.if-self-from.true
    ∙ ap (λ k. count_by p (range_with_len c.args.from (k - c.args.from))) c.if-self-to.true

pub returns-then-count_alike-clause-hits : goal.returns-then-count_alike-clause-hits
returns-then-count_alike-clause-hits c = hits c

-- the next row is remembered
pub returns-then-not-is_empty-clause-counts : goal.returns-then-not-is_empty-clause-counts
returns-then-not-is_empty-clause-counts c =
    counts_alike c.args.conds.now c.args.logs.now.logs c.requires.frame.0 c.args.frame.now
    (record {
      from = c.args.from;
      to = c.args.to;
      stretches = c.reaches-stretches.result;
      hits = c.count-hits.result;
    })
    c.requires.frame.1 c.requires.frame.3 c.reaches-stretches.ensures.leave c.count-hits.ensures
