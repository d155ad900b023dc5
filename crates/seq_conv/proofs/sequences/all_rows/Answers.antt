use Rattle.std.proofs.Common.{Vec, Global, All, arith, sym, subst}
use Rattle.std.proofs.lemmas.List.Elements.{All-push}
use Rattle.seq_conv.specs.declared.number.Number.{Number}
use Rattle.seq_conv.specs.Numbers.{IsSmall, numbers_in_bodies}
use Rattle.seq_conv.proofs.Numbering.{rows_goes}
use Rattle.seq_conv.proofs.sequences.all_rows.Goals as goal

pub loop-thread-preserved : goal.loop-thread-preserved
loop-thread-preserved c =
    let row = c.in_ok-row_of.field-0 in
    record {
      told =
          rows_goes (λ (v : Vec Number Global). v.items) c.args.test.now c.loop-thread.thread c.loop-thread.rows.items
          c.push.new.self.items row
          (numbers_in_bodies c.args.test.now 0 c.args.test.now.bodies)
          (omega arith) c.in_ok-row_of.ensures.is c.in_ok-push.ensures.items c.loop-thread.invariant.told;
      small = subst (All (λ (v : Vec Number Global). All IsSmall v.items)) (sym c.in_ok-push.ensures.items)
          (All-push (λ (v : Vec Number Global). All IsSmall v.items) c.loop-thread.rows.items row
          c.loop-thread.invariant.small c.in_ok-row_of.ensures.small);
    }
