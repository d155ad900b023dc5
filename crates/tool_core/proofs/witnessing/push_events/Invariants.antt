use Rattle.std.proofs.Common.{◌≡◌, ◌++◌, string_bytes, take}
use Rattle.std.specs.List.{flat_map}
use Rattle.run_judge.specs.Line.{line_of}
use Rattle.tool_core.proofs.witnessing.push_events.Given as goal

abbrev pub invariant-loop-event : goal.invariant-loop-event
invariant-loop-event l =
    string_bytes l.out ≡ string_bytes l.initial.out ++ flat_map line_of (take l.event-index l.events)
