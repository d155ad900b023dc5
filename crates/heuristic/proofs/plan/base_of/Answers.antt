use Rattle.std.proofs.Common.{◌==◌, sym, ◌∙◌, arith}
use Rattle.std.specs.List.{list_any}
use Rattle.outcome_conv.specs.declared.cond.Cond.{Cond}
use Rattle.heuristic.proofs.Ordered.{base_found, base_missed, base_none}
use Rattle.heuristic.proofs.plan.base_of.Goals as goal

pub returns-then-reads : goal.returns-then-reads
returns-then-reads c =
    sym (base_found (λ t. list_any (λ (c : Cond). c.reader == t) c.args.conds.now) c.loop-thread.thread c.args.threads
    (omega arith) (sym c.reads.ensures ∙ c.if-reads.true)) ∙ c.loop-thread.invariant

pub loop-thread-preserved : goal.loop-thread-preserved
loop-thread-preserved c =
    base_missed (λ t. list_any (λ (c : Cond). c.reader == t) c.args.conds.now) c.loop-thread.thread c.args.threads
    (omega arith) (sym c.reads.ensures ∙ c.if-reads.false) ∙ c.loop-thread.invariant

pub returns : goal.returns
returns c =
    sym (base_none (λ t. list_any (λ (c : Cond). c.reader == t) c.args.conds.now) c.loop-thread.thread c.args.threads
    (omega arith)) ∙ c.loop-thread.invariant
