use Rattle.std.proofs.Common.{◌<◌, List, length, IfSome, subst, sym, ap, ◌∙◌, get_or, slice_get, arith}
use Rattle.std.proofs.lemmas.Option.{slice_get-get_or}
use Rattle.x86_subset.specs.declared.instr.Instr.{Instr}
use Rattle.x86_subset.specs.Instr.{location_of}
use Rattle.x86_subset.specs.Test.{body_of}
use Rattle.seq_conv.proofs.Numbering.{body_short, located_at}
use Rattle.seq_conv.proofs.sequences.row_of.Goals as goal

pub overflow_cast-site : goal.overflow_cast-site
overflow_cast-site c = record { fits = omega (arith, c.requires.test.few_threads, c.requires.thread) }

pub overflow_cast-site-in-loop-place : goal.overflow_cast-site-in-loop-place
overflow_cast-site-in-loop-place c =
    record {
      fits = omega (
        arith,
        body_short c.args.test.now c.args.thread c.requires.test,
        ap length c.body-body.ensures,
      );
    }

pub action_number-requires-clause-located : goal.action_number-requires-clause-located
action_number-requires-clause-located c =
    let lt : c.loop-place.place < length (body_of c.args.test.now c.args.thread) = omega (
      arith,
      ap length c.body-body.ensures,
    ) in
    subst (λ (b : List Instr). IfSome (location_of (get_or b c.loop-place.place _))
    (λ x. x < length c.args.test.now.locations)) (sym c.body-body.ensures)
    (located_at c.args.test.now c.args.thread c.loop-place.place _ c.requires.test lt)

pub action_number-requires-clause-site : goal.action_number-requires-clause-site
action_number-requires-clause-site c =
    ap (λ (b : List Instr). slice_get b c.loop-place.place) (sym c.body-body.ensures)
    ∙ slice_get-get_or c.body-body.result.now c.loop-place.place _ (omega arith)
