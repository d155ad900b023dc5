-- The lines of a section of events. The format is this project's own; what the events are is x86-TSO's
-- (Sewell, Sarkar, Owens, Zappa Nardelli and Myreen, CACM 2010).
use Rattle.std.specs.Prelude.{ℕ, ◌+◌, ◌&&◌, Bool, List, [], ◌∷◌, Option, None, Some, Result, if◌then◌else◌, codes, is_none, option_map}
use Rattle.std.specs.List.{filter_map, position}
use Rattle.std.specs.Str.{bytes_eq}
use Rattle.litmus_reader.specs.Front.{words}
use Rattle.run_judge.specs.declared.event.RunEvent.{RunEvent}
use Rattle.run_judge.specs.declared.event.RunKind.{RunKind}
use Rattle.run_judge.specs.declared.event.RunKind.TheVariants.{Push, Drain, Fence, Read, Exchange}
use Rattle.run_text.specs.Lines.{has_words, unless_refused}
use Rattle.run_text.specs.declared.event_lines.Form.{Form}
use Rattle.run_text.specs.declared.event_lines.Form.TheVariants.{Run, Execution}
use Rattle.run_text.specs.Numbers.{large_number, small_number, thread_of}

-- a kind without a value, and one with a value
abbrev pub plain_kind : List ℕ → Option RunKind
plain_kind verb =
    if bytes_eq verb (codes "push") then Some Push else if bytes_eq verb (codes "drain") then Some Drain
    else if bytes_eq verb (codes "fence") then Some Fence else None

abbrev pub valued_kind : List ℕ → ℕ → Option RunKind
valued_kind verb v =
    if bytes_eq verb (codes "read") then Some (Read v)
    else if bytes_eq verb (codes "exchange") then Some (Exchange v) else None

abbrev pub kind_with : List ℕ → Option ℕ → Option RunKind
kind_with verb None = None
kind_with verb (Some v) = valued_kind verb v

-- the kind that a word and the words after it tell
abbrev pub kind_of : List ℕ → List (List ℕ) → Option RunKind
kind_of verb [] = plain_kind verb
kind_of verb (v ∷ []) = kind_with verb (large_number v)
kind_of verb (v ∷ w ∷ more) = None

abbrev pub event_by : Option ℕ → Option ℕ → Option ℕ → Option RunKind → Option RunEvent
event_by (Some t) (Some n) (Some p) (Some k) = Some (record { thread = t; iteration = n; place = p; kind = k })
event_by _ _ _ _ = None

-- the event of a line with these words: `P<t> <n> <place>` and a kind
abbrev pub event_of : List (List ℕ) → Option RunEvent
event_of (t ∷ n ∷ p ∷ verb ∷ more) = event_by (thread_of t) (small_number n) (small_number p) (kind_of verb more)
event_of _ = None

-- the event of a line of an execution, which has no iterations: `P<t> <place>` and a kind
abbrev pub execution_event_of : List (List ℕ) → Option RunEvent
execution_event_of (t ∷ p ∷ verb ∷ more) = event_by (thread_of t) (Some 0) (small_number p) (kind_of verb more)
execution_event_of _ = None

-- what the words of a line of this form tell
abbrev pub event_by_form : Form → List (List ℕ) → Option RunEvent
event_by_form Run ws = event_of ws
event_by_form Execution ws = execution_event_of ws

-- whether a line has words, and not the form of an event, where words tell these events
abbrev pub lacks_form_of : (List (List ℕ) → Option RunEvent) → List ℕ → Bool
lacks_form_of tells line = has_words line && is_none (tells (words line))

-- the events of lines, the first of which has this number: lines without words are skipped, and the first that lacks
-- the form is refused
abbrev pub events_by : (List (List ℕ) → Option RunEvent) → ℕ → List (List ℕ) → Result (List RunEvent) ℕ
events_by tells line lines =
    unless_refused (option_map (λ k. line + k) (position (lacks_form_of tells) lines))
    (filter_map (λ l. tells (words l)) lines)

-- the event that a line of a run tells, if it tells one
abbrev pub event_in : List ℕ → Option RunEvent
event_in line = event_of (words line)

abbrev pub lacks_form : List ℕ → Bool
lacks_form line = lacks_form_of event_of line

-- the events of the lines of a run
abbrev pub events_of : ℕ → List (List ℕ) → Result (List RunEvent) ℕ
events_of line lines = events_by event_of line lines

-- and those of the lines of an execution
abbrev pub execution_events_of : ℕ → List (List ℕ) → Result (List RunEvent) ℕ
execution_events_of line lines = events_by execution_event_of line lines
