use Rattle.perple_core.proofs.Reporting.{asked_hits, can_pick}
use Rattle.perple_core.proofs.report_run.Wanted.hits.Goals as goal

pub hits-requires-clause-logs : goal.hits-requires-clause-logs
hits-requires-clause-logs g c κs within =
    can_pick c.args.checked.now c.args.self.now.options.iterations c.args.logs.now.logs c.args.counters.now.conds
    c.requires.counters.is_checked c.requires.counters.conds c.requires.whole
    c.requires.wanted.options.high_iterations

pub returns-in_ok-found-clause-hits : goal.returns-in_ok-found-clause-hits
returns-in_ok-found-clause-hits g c =
    asked_hits c.args.checked.now c.args.self.now.options c.args.self.now.count c.args.logs.now.logs
    c.args.counters.now.conds c.in_ok-found.found.items c.asks_for_hits.result
    c.asks_for_hits.ensures c.if-asks_for_hits.true c.requires.counters.is_checked c.requires.counters.conds
    c.in_ok-found.ensures.hits
