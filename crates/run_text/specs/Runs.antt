-- A written run: the section that tells it. This project's own.
use Rattle.std.specs.Prelude.{ℕ, List, ◌++◌, codes}
use Rattle.std.specs.List.{flat_map}
use Rattle.report_text.specs.Words.{number_line}
use Rattle.run_judge.specs.Line.{line_of}
use Rattle.run_judge.specs.declared.event.RunEvent.{RunEvent}

-- a section that tells a run: its section line, and a line for each event
unfoldable pub run_text_of : ℕ → List RunEvent → List ℕ
run_text_of n events = number_line (codes "%events") n ++ flat_map line_of events
