use Rattle.std.proofs.Common.{ap, map, arith}
use Rattle.std.proofs.lemmas.List.Sums.{count_by-le-length}
use Rattle.x86_subset.specs.Instr.{is_reading}
use Rattle.x86_subset.specs.Test.{body_of}
use Rattle.store_buffer.specs.Contents.{Contents}
use Rattle.load_log.specs.Values.{Values}
use Rattle.seq_conv.proofs.Numbering.{body_short}
use Rattle.perp_loop.specs.Actions.{write_from}
use Rattle.perp_loop.proofs.New.{none_made, sound_new, stands_new}
use Rattle.perp_loop.proofs.walker.Walker.new.Goals as goal

pub reserve-requires : goal.reserve-requires
reserve-requires c =
    let is = c.columns.ensures in
    let few = count_by-le-length is_reading (body_of c.args.test.now c.args.t) in
    let short = body_short c.args.test.now c.args.t c.threads-threads.ensures.test in
    record { few = omega (arith, is, few, short) }

pub invariant_of-result : goal.invariant_of-result
invariant_of-result c =
    sound_new c.body-body.result.now c.body-body.ensures c.first_iteration.ensures.first c.threads-threads.ensures.test
    c.requires.sequences c.requires.thread c.requires.limits c.first_iteration.ensures.stands c.columns.ensures
    c.new.ensures c.new-2.ensures c.in_ok-log.ensures.made

pub returns-clause-stands : goal.returns-clause-stands
returns-clause-stands c =
    let first = c.first_iteration in
    stands_new c.requires.limits.low_buffer
    (none_made c.args.test.now c.args.t first.result c.body-body.result.now c.body-body.ensures first.ensures.first)
    c.new-2.ensures c.in_ok-log.ensures.made

pub returns-clause-made : goal.returns-clause-made
returns-clause-made c =
    let first = c.first_iteration in
    let none = none_made c.args.test.now c.args.t first.result c.body-body.result.now c.body-body.ensures
    first.ensures.first in
    let buffer = ap (λ (b : Contents). map write_from b.entries) c.new-2.ensures in
    let log = ap (λ (l : Values). l.values) c.in_ok-log.ensures.made in
    λ j. record {
      test = c.args.test.now;
      sequences = c.args.sequences.now;
      options = c.args.options.now;
      thread = c.args.t;
      made = none j;
      buffer = buffer j;
      log = log j;
    }
