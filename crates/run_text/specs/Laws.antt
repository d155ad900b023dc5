-- What is written is read back, and what a section's parts are. This project's own.
use Rattle.std.specs.Prelude.{◌≡◌, ℕ, ◌+◌, ◌<◌, ◌≤◌, ◌^◌, false, List, [], ◌∷◌, ◌++◌, Ok, Some, All, codes, length, map}
use Rattle.std.specs.List.{concat}
use Rattle.perp_base.specs.declared.limits.TheConstants.{MOST_ITERATIONS}
use Rattle.litmus_reader.specs.Front.{words}
use Rattle.run_judge.specs.Line.{line_of}
use Rattle.run_judge.specs.declared.event.RunEvent.{RunEvent}
use Rattle.run_judge.specs.declared.event.RunKind.{RunKind}
use Rattle.run_judge.specs.declared.event.RunKind.TheVariants.{Push, Drain, Fence, Read, Exchange}
use Rattle.run_text.specs.Events.{event_of, events_of}
use Rattle.run_text.specs.Lines.{lines_of}
use Rattle.run_text.specs.Runs.{run_text_of}
use Rattle.run_text.specs.Sections.{Split, is_section_line, iterations_of, split_of}

-- the value of a kind that has one has 64 bits
abbrev pub HasWidth : RunKind → Type 0
HasWidth Push = Unit {0}
HasWidth Drain = Unit {0}
HasWidth Fence = Unit {0}
HasWidth (Read v) = v < 2 ^ 64
HasWidth (Exchange v) = v < 2 ^ 64

-- the numbers of an event have 32 bits, and its value 64
pub record IsOfWidth (e : RunEvent) : Type 0 where
  pub thread : e.thread < 2 ^ 32
  pub iteration : e.iteration < 2 ^ 32
  pub place : e.place < 2 ^ 32
  pub value : HasWidth e.kind

-- law: the line of an event tells that event
abbrev pub EventsAreReadBack : Type 0
EventsAreReadBack = (e : RunEvent) → IsOfWidth e → event_of (words (line_of e)) ≡ Some e

-- none of the lines of a text is a section line of this heading
abbrev pub HasNoSection : List ℕ → List ℕ → Type 0
HasNoSection heading text = All (λ line. is_section_line heading line ≡ false) (lines_of text)

-- An input is the litmus part, a section line and the lines of the section. The section line is one line and the first
-- of its heading; it tells the number of iterations, and the first line of the section has the number after its own.
pub record IsParted (heading input : List ℕ) (s : Split) : Type 0 where
  pub section : List ℕ
  pub whole : input ≡ s.litmus ++ (section ++ concat s.lines)
  pub one : lines_of section ≡ section ∷ []
  pub tells : iterations_of heading (words section) ≡ Some s.iterations
  pub first : HasNoSection heading s.litmus
  pub line : s.line ≡ length (lines_of s.litmus) + 2
  pub lines : lines_of (concat s.lines) ≡ s.lines

-- law: an input that has a section is put together of its parts
abbrev pub SectionsPartInputs : Type 0
SectionsPartInputs = (heading input : List ℕ) (s : Split) → split_of heading input ≡ Some s → IsParted heading input s

-- the text ends with a line feed
pub record EndsLine (text : List ℕ) : Type 0 where
  pub front : List ℕ
  pub is : text ≡ front ++ 10 ∷ []

-- a litmus text to which a written run can be added
pub record CanLead (litmus : List ℕ) : Type 0 where
  pub ends : EndsLine litmus
  pub plain : HasNoSection (codes "%events") litmus

-- the parts of a litmus text and a written run after it
abbrev pub run_parts : List ℕ → ℕ → List RunEvent → Split
run_parts litmus n events = record {
  litmus = litmus;
  iterations = n;
  line = length (lines_of litmus) + 2;
  lines = map line_of events;
}

-- a written run after a litmus text is parted from it, and its lines tell its events
pub record IsReadBack (litmus : List ℕ) (n : ℕ) (events : List RunEvent) : Type 0 where
  pub parts : split_of (codes "%events") (litmus ++ run_text_of n events) ≡ Some (run_parts litmus n events)
  pub tells : (line : ℕ) → events_of line (map line_of events) ≡ Ok events

-- law: a run that is written after a litmus text is read back
abbrev pub RunsAreReadBack : Type 0
RunsAreReadBack = (litmus : List ℕ) (n : ℕ) (events : List RunEvent)
    → CanLead litmus → 1 ≤ n → n ≤ MOST_ITERATIONS → All IsOfWidth events → IsReadBack litmus n events
