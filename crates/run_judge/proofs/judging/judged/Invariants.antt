use Rattle.std.proofs.Common.{◌≡◌, drop, take, map, All}
use Rattle.run_judge.specs.Judgement.{event_of, judgement_from}
use Rattle.run_judge.specs.Progress.{IsKept}
use Rattle.run_judge.specs.Written.{judgement_with, reached_by, written_with}
use Rattle.run_judge.proofs.Shown.{Shows}
use Rattle.run_judge.proofs.judging.judged.Given as goal

abbrev pub invariant-loop-i : goal.invariant-loop-i
invariant-loop-i l = record {
  later : judgement_with (written_with l.test l.values) l.test l.n (map event_of l.events)
      ≡ judgement_from (reached_by (written_with l.test l.values) l.test) l.test l.n (map event_of
      (take l.i l.events)) (map event_of (drop l.i l.events));
  shows : Shows (written_with l.test l.values) l.test (map event_of (take l.i l.events)) l.memory l.threads.items;
  kept : All IsKept l.threads.items;
}
