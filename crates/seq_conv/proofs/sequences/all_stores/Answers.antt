use Rattle.std.proofs.Common.{Vec, Global, ap, length, arith}
use Rattle.seq_conv.specs.Sequence.{Site, stores_of}
use Rattle.seq_conv.proofs.Numbering.{lists_more}
use Rattle.seq_conv.proofs.sequences.all_stores.Goals as goal

pub overflow_cast-loc : goal.overflow_cast-loc
overflow_cast-loc c = record {
  fits = omega (
    arith,
    c.threads-threads.ensures.test.few_locations,
    ap length c.locations-loc-end.ensures,
  );
}

pub loop-loc-preserved : goal.loop-loc-preserved
loop-loc-preserved c =
    lists_more (λ (v : Vec Site Global). v.items) c.loop-loc.all.items c.push.new.self.items c.in_ok-stores_of.field-0
    (stores_of c.args.test.now) c.loop-loc.loc
    c.in_ok-push.ensures.items c.in_ok-stores_of.ensures c.loop-loc.invariant
