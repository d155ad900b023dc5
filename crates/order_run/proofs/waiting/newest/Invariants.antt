use Rattle.std.proofs.Common.{◌≡◌, map}
use Rattle.tso_machine.specs.Machine.{newest}
use Rattle.run_witness.specs.Marks.{loop_of, waiting}
use Rattle.run_witness.specs.Stage.{slot_write}
use Rattle.order_run.proofs.waiting.newest.Given as goal

abbrev pub invariant-loop-place : goal.invariant-loop-place
invariant-loop-place l =
    l.found ≡ newest l.loc (map (slot_write l.test l.t) (waiting (loop_of l.test 1 l.t) l.fn.own.drained l.place))
