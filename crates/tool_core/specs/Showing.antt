-- What the command show writes: a run in which a conjunction holds, or why it gives none. Runs are those of x86-TSO
-- (Sewell, Sarkar, Owens, Zappa Nardelli and Myreen, CACM 2010); the texts are this project's own.
use Rattle.std.specs.Prelude.{◌≡◌, ℕ, ◌+◌, ◌<◌, true, None, Some, List, [], ◌∷◌, ◌++◌, codes, decimal, length, map, slice_get}
use Rattle.x86_subset.specs.Test.{LitmusTest}
use Rattle.profile_check.specs.Kinds.{AreKinds}
use Rattle.profile_check.specs.Profile.{CheckedTest}
use Rattle.profile_check.specs.declared.kind.AtomKind.{AtomKind}
use Rattle.report_text.specs.Words.{newline, number_line}
use Rattle.run_judge.specs.Judgement.{event_of}
use Rattle.run_judge.specs.declared.event.RunEvent.{RunEvent}
use Rattle.run_text.specs.Runs.{run_text_of}
use Rattle.verdict.specs.Edges.{edge_in, is_cycle_of}
use Rattle.verdict.specs.Verdicts.{HasCycle, HasNoCycle}
use Rattle.decision.specs.Hidden.{hidden_in}
use Rattle.decision.specs.Shown.{IsOrdered, Shows}
use Rattle.decision.specs.declared.hidden.HiddenRead.{HiddenRead}
use Rattle.litmus_outcomes.specs.Outcome.{IsPossible}
use Rattle.tool_core.specs.RuledOut.{IsRuledOut}
use Rattle.tool_core.specs.declared.reasons.Reason.{Reason}
use Rattle.tool_core.specs.declared.reasons.Reason.TheVariants.{Cycle, Hidden}
use Rattle.tool_core.specs.declared.reasons.Unshown.{Unshown}
use Rattle.tool_core.specs.declared.reasons.Unshown.TheVariants.{Forbidden, Undecided}
use Rattle.tool_core.specs.Texts.{cycle_line, node_text}

-- ---- a run

-- conjunction c is ordered, its edges have no cycle, and these events show it; so it is an outcome of the test
pub record IsShownBy (checked : CheckedTest) (c : ℕ) (events : List RunEvent) : Type 0 where
  pub ordered : IsOrdered checked c
  pub none : HasNoCycle checked c
  pub shows : Shows checked c (map event_of events)
  pub possible : IsPossible checked.test c

-- of the first so many conjunctions, each that is ordered has a cycle of edges
abbrev pub NoneIsShown : CheckedTest → ℕ → Type 0
NoneIsShown checked count = (c : ℕ) → c < count → IsOrdered checked c → HasCycle checked c

-- these events show a conjunction, the first that is ordered and has no cycle
pub record IsFirstShown (checked : CheckedTest) (events : List RunEvent) : Type 0 where
  pub c : ℕ
  pub there : c < length checked.test.ends
  pub shown : IsShownBy checked c events
  pub earlier : NoneIsShown checked c

-- ---- why no run is shown

-- why conjunction c never holds: a cycle of its edges; or, where they have none, the first hidden store that one of its
-- atoms names
abbrev pub IsReason : CheckedTest → ℕ → Reason → Type 0
IsReason checked c (Cycle nodes) = is_cycle_of (edge_in checked c) nodes.items ≡ true
IsReason checked c (Hidden read) = HasNoCycle checked c × (hidden_in checked c ≡ Some read)

-- one reason for each of the first so many conjunctions, in order
pub record AreReasons (checked : CheckedTest) (count : ℕ) (reasons : List Reason) : Type 0 where
  pub one_each : length reasons ≡ count
  pub right : (c : ℕ) (reason : Reason) → slice_get reasons c ≡ Some reason → IsReason checked c reason

-- its edges have no cycle, and none of its atoms names a hidden store
pub record IsOpen (checked : CheckedTest) (c : ℕ) : Type 0 where
  pub no_cycle : HasNoCycle checked c
  pub no_hidden : hidden_in checked c ≡ None

-- conjunction c is open, and of each before it there is a reason why it never holds
pub record IsFirstUndecided (checked : CheckedTest) (c : ℕ) : Type 0 where
  pub there : c < length checked.test.ends
  pub is_open : IsOpen checked c
  pub earlier : (b : ℕ) → b < c → (reason : Reason) × IsReason checked b reason

-- what is said in place of a run is true of the test
abbrev pub IsUnshown : CheckedTest → Unshown → Type 0
IsUnshown checked (Forbidden reasons) = AreReasons checked (length checked.test.ends) reasons.items
IsUnshown checked (Undecided c) = IsFirstUndecided checked c

-- ---- the text

-- the line of the hidden store that an atom of conjunction c names, and of its read
unfoldable pub hidden_line : ℕ → HiddenRead → List ℕ
hidden_line c read = codes "Hidden " ++ decimal c ++ node_text read.store ++ node_text read.read ++ newline

-- the line of the reason of conjunction c
abbrev pub reason_line : ℕ → Reason → List ℕ
reason_line c (Cycle nodes) = cycle_line c nodes.items
reason_line c (Hidden read) = hidden_line c read

-- the lines of reasons, which are numbered from c
abbrev pub reason_lines : ℕ → List Reason → List ℕ
reason_lines c [] = []
reason_lines c (reason ∷ reasons) = reason_line c reason ++ reason_lines (c + 1) reasons

unfoldable pub reasons_text : List Reason → List ℕ
reasons_text reasons = codes "Forbidden\n" ++ reason_lines 0 reasons

-- the text where no run is shown
abbrev pub unshown_text_of : Unshown → List ℕ
unshown_text_of (Forbidden reasons) = reasons_text reasons.items
unshown_text_of (Undecided c) = number_line (codes "Undecided") c

-- The text tells a run that shows the first conjunction that is ordered and has no cycle; or one reason for each
-- conjunction, and then the condition is ruled out; or, where there is neither, the first conjunction without a reason.
pub data IsShowingOn (checked : CheckedTest) (text : List ℕ) : Type 0 where
  run : (events : List RunEvent) → IsFirstShown checked events → text ≡ run_text_of 1 events → IsShowingOn checked text
  forbidden : (reasons : List Reason) → AreReasons checked (length checked.test.ends) reasons → IsRuledOut checked
      → text ≡ reasons_text reasons → IsShowingOn checked text
  undecided : (c : ℕ) → IsFirstUndecided checked c → NoneIsShown checked (length checked.test.ends)
      → text ≡ number_line (codes "Undecided") c → IsShowingOn checked text

-- the text is right for a test each of whose atoms has a kind
pub record IsShowingText (test : LitmusTest) (text : List ℕ) : Type 0 where
  pub kinds : List AtomKind
  pub are : AreKinds test kinds
  pub is : IsShowingOn (record { test = test; kinds = kinds }) text
