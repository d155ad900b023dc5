use Rattle.std.proofs.Common.{◌≡◌, ◌≤◌, subst}
use Rattle.load_log.specs.Values.{value_at}
use Rattle.outcome_conv.specs.Conds.{count_of}
use Rattle.command_words.specs.Job.{AskedCount}
use Rattle.tool_core.proofs.Counted.{conditions_name_logs, within_is}
use Rattle.tool_core.proofs.counting.within.Goals as goal

pub count-requires-clause-names : goal.count-requires-clause-names
count-requires-clause-names g c κs within =
    conditions_name_logs c.args.checked.now c.args.job.now.options c.args.logs.now.logs c.args.counters.now.conds
    c.requires.counters.is_checked c.requires.counters.conds c.requires.logs

pub returns : goal.returns
returns g c =
    let conds = c.args.counters.now.conds in
    let logs = c.args.logs.now.logs in
    within_is c.args.checked.now c.args.job.now.options logs conds c.threads.result c.count.result
    c.requires.counters.is_checked c.requires.counters.conds
    (subst (λ (j : AskedCount). 1 ≤ j.options.iterations) c.job.view_is c.job.invariant.run.low_iterations)
    (rw c.test-test.ensures.is at c.threads.ensures.is)
    (subst (λ (j : AskedCount). c.count.result ≡ count_of (value_at logs) conds.ends conds.conds j.options.iterations
    c.threads.result) c.job.view_is c.count.ensures)
