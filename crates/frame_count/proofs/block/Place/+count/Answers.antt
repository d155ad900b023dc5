use Rattle.std.proofs.Common.{◌≡◌, ℕ, ◌+◌, ◌*◌, ◌-◌, ◌/◌, count_by, slice_set, subst, take, sym, ap, ◌∙◌, arith, refl, ◌≤◌, List}
use Rattle.std.proofs.lemmas.Nat.{div-add-mod', mod_below}
use Rattle.std.specs.List.{range_with_len}
use Rattle.frame_count.specs.Block.{Alive, StayAlike, block_count, block_holds}
use Rattle.frame_count.proofs.BlockCounts.{counted_none, front_less, inner_block, loop_digit, row_size, same_count, set_frame, set_front, step_size, step_some}
use Rattle.frame_count.proofs.Blocks.{alive_same}
use Rattle.frame_count.proofs.Counts.{count_bound, counted_fits, counted_more}
use Rattle.frame_count.proofs.Staying.{block_times, set_again, times_fit, times_here}
use Rattle.frame_count.proofs.block.Place.+count.Goals as goal

pub last-hits-requires-clause-numbers : goal.last-hits-requires-clause-numbers
last-hits-requires-clause-numbers t c =
    let b = c.requires.block in
    let size = row_size c.args.task.now.n c.args.task.now.threads c.args.p c.args.size b.size_is c.if-p-task.true in
    let numbers = c.requires.numbers in
    (numbers.0, omega arith)

pub remember-requires-clause-hits : goal.remember-requires-clause-hits
remember-requires-clause-hits t c =
    c.last-hits.ensures.hits
    ∙ ap (λ f. block_count c.args.task.now c.args.p f c.args.from c.args.to) (sym c.last-hits.ensures.frame)

pub nonzero_div-i : goal.nonzero_div-i
nonzero_div-i t c =
    let b = c.requires.block in
    step_some c.args.task.now.n c.args.task.now.threads c.args.p c.args.size c.requires.task.some b.more b.size_is

pub nonzero_rem-start : goal.nonzero_rem-start
nonzero_rem-start t c =
    let b = c.requires.block in
    step_some c.args.task.now.n c.args.task.now.threads c.args.p c.args.size c.requires.task.some b.more b.size_is

pub loop-at-init : goal.loop-at-init
loop-at-init t c =
    let b = c.requires.block in
    let task = c.args.task.now in
    let some = step_some task.n task.threads c.args.p c.args.size c.requires.task.some b.more b.size_is in
    let step = c.args.size / task.n in
    let whole = div-add-mod' c.args.from step in
    record {
      within = c.requires.numbers.0;
      here = λ _. (omega arith, mod_below c.args.from step some);
      kept = b.kept;
      remembered = c.requires.blocks;
      front = refl;
      counted =
          counted_none (block_holds task.conds.now task.logs.now.logs task.n c.args.p c.args.self.now.frame) c.args.from;
    }

pub left-now-requires-clause-frame : goal.left-now-requires-clause-frame
left-now-requires-clause-frame t c =
    let b = c.requires.block in
    let here = c.loop-at.invariant.here c.loop-at-test.true in
    let digit = loop_digit c.args.task.now c.args.p c.args.size c.loop-at.i c.loop-at.start c.loop-at.at c.args.to c.requires.task
    b.more b.size_is here.0 c.loop-at-test.true c.requires.numbers.1 in (
      c.args.task.now.n,
      rw c.set.ensures (set_frame c.args.task.now.logs.now.logs c.args.task.now.n c.args.p c.loop-at.i
          c.loop-at.self.frame c.loop-at.invariant.kept.frame digit),
    )

pub left-now-requires-clause-before : goal.left-now-requires-clause-before
left-now-requires-clause-before t c =
    alive_same c.args.task.now.conds.now c.args.task.now.logs.now.logs c.args.p c.args.self.now.frame c.set.new.self
    c.args.alive
    (sym (ap (take c.args.p) c.set.ensures
    ∙ set_front c.args.p c.loop-at.i c.loop-at.self.frame c.args.self.now.frame c.loop-at.invariant.front))
    c.requires.block.alive_is

pub count-hits-requires : goal.count-hits-requires
count-hits-requires t c =
    let b = c.requires.block in
    let d = c.decreases in
    let more = b.more in
    let other = c.if-p-task.false in
    let here = c.loop-at.invariant.here c.loop-at-test.true in
    let min = c.min-some.ensures in
    let digit = loop_digit c.args.task.now c.args.p c.args.size c.loop-at.i c.loop-at.start c.loop-at.at c.args.to c.requires.task
    b.more b.size_is here.0 c.loop-at-test.true c.requires.numbers.1 in (
      omega arith,
      (
        c.requires.task,
        (
          inner_block c.args.task.now c.loop-at.self c.set.new.self c.left-now.result c.args.p c.args.size c.loop-at.i
              c.requires.task c.loop-at.invariant.kept c.set.ensures digit more other b.size_is c.left-now.ensures,
          (c.loop-at.invariant.remembered, (omega arith, omega arith)),
        ),
      ),
    )

-- the hits of all blocks that count alike
all_hits : (t : ℕ) (c : goal.After-blocks-in-loop-at-1 t) → c.how_many_alike-times.result * c.count-hits.result
    ≡ count_by (block_holds c.args.task.now.conds.now c.args.task.now.logs.now.logs c.args.task.now.n c.args.p
    c.args.self.now.frame) (range_with_len c.loop-at.at (c.how_many_alike-times.result * c.min-some.result))
all_hits t c =
    let b = c.requires.block in
    let task = c.args.task.now in
    let x = c.loop-at.invariant in
    let within = x.within in
    let test = c.loop-at-test.true in
    let numbers = c.requires.numbers.1 in
    let here = x.here test in
    let frame = c.loop-at.self.frame in
    let set = c.set.ensures in
    let digit = loop_digit task c.args.p c.args.size c.loop-at.i c.loop-at.start c.loop-at.at c.args.to c.requires.task
    b.more b.size_is here.0 test numbers in
    let alive : Alive task.conds.now task.logs.now.logs (c.args.p + 1) (slice_set frame c.args.p c.loop-at.i)
    c.left-now.result = rw (sym set) c.left-now.ensures in
    block_times task.conds.now task.logs.now.logs task.n task.threads c.args.p c.args.size (c.args.size / task.n)
    c.loop-at.i c.loop-at.start c.min-some.result (c.args.to - c.loop-at.at) c.loop-at.at
    c.how_many_alike-times.result c.count-hits.result c.args.self.now.frame frame c.left-now.result
    c.requires.task.some b.more (c.requires.task.threads ∙ sym b.kept.frame.one_each)
    (b.kept.frame.one_each ∙ sym x.kept.frame.one_each) b.size_is refl
    (step_size task.n task.threads c.args.p c.args.size c.requires.task.some b.more b.size_is) here.0 (omega arith)
    c.min-some.ensures digit here.1 x.front c.how_many_alike-times.ensures.whole alive
    (λ m more less early j d l.
    let S : List ℕ → Type 0 = λ f. StayAlike task.conds.now task.logs.now.logs c.args.p f c.loop-at.i (c.loop-at.i + m)
    c.left-now.result j d in
    subst S set (c.how_many_alike-times.ensures.alike m more less early j d l))
    (c.count-hits.ensures.hits
    ∙ ap (λ f. block_count task (c.args.p + 1) f c.loop-at.start (c.loop-at.start + c.min-some.result)) set)

-- they are within the numbers that are left
fits : (t : ℕ) (c : goal.After-blocks-in-loop-at-1 t) → c.how_many_alike-times.result * c.min-some.result
    ≤ c.args.to - c.loop-at.at
fits t c =
    times_fit c.how_many_alike-times.result c.min-some.result (c.args.size / c.args.task.now.n) c.loop-at.start
    (c.args.to - c.loop-at.at) c.how_many_alike-times.ensures.some c.min-some.ensures
    c.how_many_alike-times.ensures.whole

pub how_many_alike-times-requires-clause-frame : goal.how_many_alike-times-requires-clause-frame
how_many_alike-times-requires-clause-frame t c =
    let b = c.requires.block in
    let here = c.loop-at.invariant.here c.loop-at-test.true in
    let digit = loop_digit c.args.task.now c.args.p c.args.size c.loop-at.i c.loop-at.start c.loop-at.at c.args.to c.requires.task
    b.more b.size_is here.0 c.loop-at-test.true c.requires.numbers.1 in
    rw c.set.ensures (set_frame c.args.task.now.logs.now.logs c.args.task.now.n c.args.p c.loop-at.i
    c.loop-at.self.frame c.loop-at.invariant.kept.frame digit)

pub how_many_alike-times-requires-clause-iteration : goal.how_many_alike-times-requires-clause-iteration
how_many_alike-times-requires-clause-iteration t c =
    let b = c.requires.block in
    let here = c.loop-at.invariant.here c.loop-at-test.true in
    loop_digit c.args.task.now c.args.p c.args.size c.loop-at.i c.loop-at.start c.loop-at.at c.args.to c.requires.task
    b.more b.size_is here.0 c.loop-at-test.true c.requires.numbers.1

pub how_many_alike-times-requires-clause-step : goal.how_many_alike-times-requires-clause-step
how_many_alike-times-requires-clause-step t c =
    let b = c.requires.block in
    step_some c.args.task.now.n c.args.task.now.threads c.args.p c.args.size c.requires.task.some b.more b.size_is

pub how_many_alike-times-requires-clause-here : goal.how_many_alike-times-requires-clause-here
how_many_alike-times-requires-clause-here t c =
    let p = c.args.p in
    let i = c.loop-at.i in
    c.set.ensures ∙ sym (set_again c.loop-at.self.frame p i) ∙ ap (λ f. slice_set f p i) (sym c.set.ensures)

pub how_many_alike-times-requires-clause-before : goal.how_many_alike-times-requires-clause-before
how_many_alike-times-requires-clause-before t c =
    alive_same c.args.task.now.conds.now c.args.task.now.logs.now.logs c.args.p c.args.self.now.frame c.set.new.self
    c.args.alive
    (sym (ap (take c.args.p) c.set.ensures
    ∙ set_front c.args.p c.loop-at.i c.loop-at.self.frame c.args.self.now.frame c.loop-at.invariant.front))
    c.requires.block.alive_is

pub overflow_mul-total : goal.overflow_mul-total
overflow_mul-total t c =
    let all = all_hits t c in
    let few = count_bound (block_holds c.args.task.now.conds.now c.args.task.now.logs.now.logs c.args.task.now.n
    c.args.p c.args.self.now.frame) c.loop-at.at (c.how_many_alike-times.result * c.min-some.result) in
    let room = fits t c in
    let high = c.ranges.to.fits in
    record { fits = omega arith }

pub overflow_add-at : goal.overflow_add-at
overflow_add-at t c =
    let room = fits t c in
    let test = c.loop-at-test.true in
    let high = c.ranges.to.fits in
    record { fits = omega arith }

pub overflow_add-total : goal.overflow_add-total
overflow_add-total t c =
    let few = counted_fits (block_holds c.args.task.now.conds.now c.args.task.now.logs.now.logs c.args.task.now.n
    c.args.p c.args.self.now.frame) c.args.from c.loop-at.at (c.how_many_alike-times.result * c.min-some.result) _ _
    c.loop-at.invariant.counted (all_hits t c) in
    let room = fits t c in
    let test = c.loop-at-test.true in
    let high = c.ranges.to.fits in
    record { fits = omega arith }

pub loop-at-preserved : goal.loop-at-preserved
loop-at-preserved t c =
    let task = c.args.task.now in
    let b = c.requires.block in
    let x = c.loop-at.invariant in
    let test = c.loop-at-test.true in
    let here = x.here test in
    let room = fits t c in
    let some = step_some task.n task.threads c.args.p c.args.size c.requires.task.some b.more b.size_is in
    record {
      within = omega arith;
      here = λ more. (
        times_here c.how_many_alike-times.result c.min-some.result (c.args.size / task.n) c.loop-at.start
            (c.args.to - c.loop-at.at) c.loop-at.i c.loop-at.at c.how_many_alike-times.ensures.some c.min-some.ensures here.1
            c.how_many_alike-times.ensures.whole here.0 (omega arith),
        some,
      );
      kept = c.count-hits.ensures.place;
      remembered = c.count-hits.ensures.blocks;
      front =
          front_less c.args.p c.count-hits.new.self.frame c.set.new.self c.count-hits.ensures.front
          ∙ ap (take c.args.p) c.set.ensures
          ∙ set_front c.args.p c.loop-at.i c.loop-at.self.frame c.args.self.now.frame x.front;
      counted =
          counted_more (block_holds task.conds.now task.logs.now.logs task.n c.args.p c.args.self.now.frame)
          c.args.from c.loop-at.at (c.how_many_alike-times.result * c.min-some.result) _ _ x.counted (all_hits t c);
    }

pub remember-requires-2-clause-block : goal.remember-requires-2-clause-block
remember-requires-2-clause-block t c =
    let b = c.requires.block in
    let x = c.loop-at.invariant in
    record {
      kept = x.kept;
      more = b.more;
      size_is = b.size_is;
      alive_is =
          alive_same c.args.task.now.conds.now c.args.task.now.logs.now.logs c.args.p c.args.self.now.frame
          c.loop-at.self.frame c.args.alive (sym x.front) b.alive_is;
    }

pub remember-requires-2-clause-hits : goal.remember-requires-2-clause-hits
remember-requires-2-clause-hits t c =
    let task = c.args.task.now in
    let b = c.requires.block in
    let x = c.loop-at.invariant in
    let within = x.within in
    let done = c.loop-at-test.false in
    let end : c.loop-at.at ≡ c.args.to = omega arith in
    x.counted.total
    ∙ ap (λ k. count_by (block_holds task.conds.now task.logs.now.logs task.n c.args.p c.args.self.now.frame)
    (range_with_len c.args.from (k - c.args.from))) end
    ∙ same_count task.conds.now task.logs.now.logs task.n c.args.p c.args.from (c.args.to - c.args.from)
    c.args.self.now.frame c.loop-at.self.frame (sym x.front) (b.kept.frame.one_each ∙ sym x.kept.frame.one_each)
