use Rattle.std.proofs.Common.{slice_index, ap}
use Rattle.outcome_conv.specs.declared.cond.CondKind.{CondKind}
use Rattle.frame_count.specs.Row.{residue_fits}
use Rattle.frame_count.proofs.Along.{along_all}
use Rattle.frame_count.proofs.lanes.fitting_word.Goals as goal

pub returns-in-Below : goal.returns-in-Below
returns-in-Below c =
    along_all _ c.args.at
    (λ m. ap (λ (t : CondKind). residue_fits t (slice_index c.args.values.now m)) c.in-Below.is)

pub returns-in-Exact : goal.returns-in-Exact
returns-in-Exact c =
    along_all _ c.args.at
    (λ m. ap (λ (t : CondKind). residue_fits t (slice_index c.args.values.now m)) c.in-Exact.is)
