use Rattle.std.proofs.Common.{◌∙◌, Some, ap, drop, map, string_bytes, sym}
use Rattle.command_words.specs.Job.{Asked}
use Rattle.command_words.proofs.Iterations.{iterations_some}
use Rattle.command_words.proofs.reading.read_iterations.Goals as goal

pub returns-clause-ok : goal.returns-clause-ok
returns-clause-ok c =
    iterations_some (drop 1 (map (λ w. string_bytes w) c.args.words.now)) c.in_ok-job.job c.in_ok-job.ensures.ok
    ∙ ap (λ (j : Asked). Some j.options.iterations) (sym c.job.view_is)
