use Rattle.std.proofs.Common.{◌≡◌, ◌+◌, map}
use Rattle.std.specs.List.{range_with_len}
use Rattle.rand_core.specs.Steps.{stream_of, steps_u64_high}
use Rattle.rand_xoshiro.specs.Xoshiro256.{plus_plus}
use Rattle.store_buffer.specs.Generator.{generator_after, generator_word}
use Rattle.demo_text.specs.Demo.{draw_by}
use Rattle.demo_text.proofs.text.draws.Given as goal

-- as many words are drawn after the first one as the loop has made turns
abbrev pub invariant-loop-thread : goal.invariant-loop-thread
invariant-loop-thread l =
    (l.draws.items ≡ map (λ j. draw_by (generator_word l.k j)) (range_with_len 1 l._thread))
    × (stream_of (steps_u64_high plus_plus) l.generator
    ≡ stream_of (steps_u64_high plus_plus) (generator_after l.k (1 + l._thread)))
