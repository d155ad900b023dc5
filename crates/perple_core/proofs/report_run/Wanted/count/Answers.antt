use Rattle.perple_core.proofs.Reporting.{asked_count, conditions_name_logs, few_asked}
use Rattle.perple_core.proofs.report_run.Wanted.count.Goals as goal

pub count-requires-clause-few : goal.count-requires-clause-few
count-requires-clause-few g c κs within =
    few_asked c.args.checked.now.test c.args.self.now.options c.args.self.now.count c.threads.result
    c.asks_for_exhaustive.result c.asks_for_exhaustive.ensures c.if-asks_for_exhaustive.true
    (rw c.test.ensures.is at c.threads.ensures.is) c.requires.wanted.few_frames

pub count-requires-clause-names : goal.count-requires-clause-names
count-requires-clause-names g c κs within =
    conditions_name_logs c.args.checked.now c.args.self.now.options.iterations c.args.logs.now.logs
    c.args.counters.now.conds c.requires.counters.is_checked c.requires.counters.conds c.requires.whole

pub returns-then-asks_for_exhaustive-clause-count : goal.returns-then-asks_for_exhaustive-clause-count
returns-then-asks_for_exhaustive-clause-count g c =
    asked_count c.args.checked.now c.args.self.now.options c.args.self.now.count c.args.logs.now.logs
    c.args.counters.now.conds c.count.result c.threads.result c.asks_for_exhaustive.result
    c.asks_for_exhaustive.ensures c.if-asks_for_exhaustive.true
    (rw c.test.ensures.is at c.threads.ensures.is) c.requires.counters.is_checked c.requires.counters.conds
    c.requires.wanted.options c.count.ensures
