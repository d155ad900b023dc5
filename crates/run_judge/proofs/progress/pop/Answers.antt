use Rattle.std.proofs.Common.{refl, arith}
use Rattle.run_judge.proofs.Kept.{kept_pop}
use Rattle.run_judge.proofs.progress.pop.Goals as goal

pub returns-clause-kept : goal.returns-clause-kept
returns-clause-kept c =
    kept_pop c.args.own.now _ c.in_ok-oldest.oldest _ c.pop_front.new.self.items c.requires.kept
    c.in_ok-oldest.ensures.items refl refl
