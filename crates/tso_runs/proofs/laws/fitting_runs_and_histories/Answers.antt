use Rattle.tso_runs.proofs.Fitting.{fitting_run, fitting_runs_make_histories, histories_fit}
use Rattle.tso_runs.proofs.laws.fitting_runs_and_histories.Goals as goal

pub returns : goal.returns
returns c = record { made = fitting_runs_make_histories; fit = histories_fit; performs = fitting_run }
