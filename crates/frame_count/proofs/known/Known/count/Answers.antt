use Rattle.std.proofs.Common.{◌≡◌, ℕ, ◌+◌, ◌*◌, Bool, count_by, slice_index, ap, ◌∙◌, arith, subst}
use Rattle.std.specs.Int.RustNames.{count_ones}
use Rattle.std.specs.List.{range_with_len}
use Rattle.frame_count.specs.Row.{kind_test}
use Rattle.frame_count.proofs.Along.{along_ones}
use Rattle.frame_count.proofs.Counts.{IsCountedTo, counted_fits, counted_more}
use Rattle.frame_count.proofs.known.Known.count.Goals as goal

abbrev passes : goal.After-word → ℕ → Bool
passes c m = kind_test c.args.self.now.cond.kind (slice_index c.args.values.now m) c.args.bound

-- how many values of this word pass
word : (c : goal.After-word) → count_ones c.word.result ≡ count_by (passes c) (range_with_len (64 * c.loop-j.j) 64)
word c = ap count_ones c.word.ensures ∙ along_ones (passes c) (64 * c.loop-j.j) 64

pub overflow_add-total : goal.overflow_add-total
overflow_add-total c =
    let few = counted_fits (passes c) (64 * c.args.from) (64 * c.loop-j.j) 64 _ _ c.loop-j.invariant (word c) in
    let most = c.requires.words.1 in
    record { fits = omega arith }

pub loop-j-preserved : goal.loop-j-preserved
loop-j-preserved c =
    let next : 64 * c.loop-j.j + 64 ≡ 64 * (c.loop-j.j + 1) = omega arith in
    subst (λ at. IsCountedTo (passes c) (64 * c.args.from) at (c.loop-j.total + count_ones c.word.result)) next
    (counted_more (passes c) (64 * c.args.from) (64 * c.loop-j.j) 64 _ _ c.loop-j.invariant (word c))
