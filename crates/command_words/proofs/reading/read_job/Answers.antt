use Rattle.std.proofs.Common.{◌∙◌, drop, map, string_bytes}
use Rattle.clap.specs.Walk.{texts}
use Rattle.clap.specs.Words.{first_value, found_of}
use Rattle.command_words.specs.Words.{job_of}
use Rattle.command_words.proofs.JobLemmas.{none_read, ok_read, read_taken}
use Rattle.command_words.proofs.reading.read_job.Goals as goal

pub returns-in-Ok-clause-ok : goal.returns-in-Ok-clause-ok
returns-in-Ok-clause-ok c =
    ok_read c.job_from.result _ c.ok_or.result
    (c.job_from.ensures ∙ read_taken job_of (texts c.args.names.now) (drop 1 (map (λ w. string_bytes w) c.args.words.now))
    (first_value (found_of c.in-Ok.matches)) c.in-Ok.ensures.ok) c.ok_or.ensures.value

pub returns-in-Ok-clause-usage : goal.returns-in-Ok-clause-usage
returns-in-Ok-clause-usage c = λ e.
    none_read c.job_from.result _ c.ok_or.result
    (c.job_from.ensures ∙ read_taken job_of (texts c.args.names.now) (drop 1 (map (λ w. string_bytes w) c.args.words.now))
    (first_value (found_of c.in-Ok.matches)) c.in-Ok.ensures.ok) c.ok_or.ensures.value e
