use Rattle.std.proofs.Common.{◌≡◌, ◌∙◌, ◌+◌, ◌++◌, [], ◌∷◌, refl, sym, ap, ap₂, arith, map}
use Rattle.std.specs.List.{range_with_len}
use Rattle.std.proofs.lemmas.List.FromFn.{map-range_with_len_more}
use Rattle.rand_core.specs.Steps.{stream_of, steps_u64_high}
use Rattle.rand_xoshiro.specs.Xoshiro256.{plus_plus}
use Rattle.store_buffer.specs.Generator.{generator_after, generator_word}
use Rattle.store_buffer.proofs.Asked.{words_start, words_next}
use Rattle.demo_text.specs.Demo.{draw_by, threads_by}
use Rattle.demo_text.proofs.text.draws.Goals as goal

pub loop-thread-init : goal.loop-thread-init
loop-thread-init c =
    let start = words_start c.args.k c.seed_from_u64-generator.result c.seed_from_u64-generator.ensures in
    (c.new-draws.ensures.items, (words_next c.args.k 0 _ _ _ start c.next_u64.ensures).1)

pub loop-thread-preserved : goal.loop-thread-preserved
loop-thread-preserved c =
    let next =
    words_next c.args.k (1 + c.loop-thread._thread) _ _ _ c.loop-thread.invariant.1
    c.next_u64-in-loop-thread.ensures in (
      c.in_ok-push.ensures.items ∙ ap₂ (λ ds d. ds ++ d ∷ []) c.loop-thread.invariant.0
          (c.draw_of.ensures ∙ ap draw_by next.0)
          ∙ sym (map-range_with_len_more (λ j. draw_by (generator_word c.args.k j)) 1 c.loop-thread._thread
          (1 + c.loop-thread._thread) refl),
      next.1 ∙ ap (λ j. stream_of (steps_u64_high plus_plus) (generator_after c.args.k j)) (omega arith),
    )

pub returns : goal.returns
returns c =
    let start = words_start c.args.k c.seed_from_u64-generator.result c.seed_from_u64-generator.ensures in
    let first = (words_next c.args.k 0 _ _ _ start c.next_u64.ensures).0 in
    let whole : c.loop-thread._thread ≡ threads_by c.next_u64.result = omega arith in
    c.loop-thread.invariant.0 ∙ ap (λ n. map (λ j. draw_by (generator_word c.args.k j)) (range_with_len 1 n))
    (whole ∙ ap threads_by first)
