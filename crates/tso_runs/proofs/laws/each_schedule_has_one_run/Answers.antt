use Rattle.tso_runs.proofs.Fitting.{scheduled_run}
use Rattle.tso_runs.proofs.Scheduled as lemmas
use Rattle.tso_runs.proofs.laws.each_schedule_has_one_run.Goals as goal

pub returns : goal.returns
returns c = record { one = lemmas.each_schedule_has_one_run; performs = scheduled_run }
