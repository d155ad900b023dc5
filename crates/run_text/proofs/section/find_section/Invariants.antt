use Rattle.std.proofs.Common.{◌≡◌, ◌+◌, ◌-◌, ◌≤◌, length}
use Rattle.run_text.specs.Sections.{split_of}
use Rattle.run_text.proofs.Sections.{from_place}
use Rattle.run_text.proofs.section.find_section.Given as goal

abbrev pub invariant-loop-at : goal.invariant-loop-at
invariant-loop-at l = record {
  within : l.at ≤ length l.text;
  line : l.line ≤ l.at + 1;
  low : 1 ≤ l.line;
  left : from_place l.heading l.text l.line l.at ≡ split_of l.heading l.text;
}

abbrev pub decreases-loop-at : goal.decreases-loop-at
decreases-loop-at l = length l.text - l.at
