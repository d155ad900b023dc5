-- Each input has one refusal that is due, or none; and which statuses are refusals of an input.
use Rattle.std.proofs.Common.{◌≡◌, ◌⊎◌, inl, inr, ℕ, ◌≤◌, ◌+◌, Bool, true, false, List, [], ◌∷◌, length, Some, None, Result, Ok, Err, nat_lt, if◌then◌else◌, MatchBool, option_map, refl, sym, ap, subst, ◌∙◌, arith}
use Rattle.std.specs.declared.option.Option.{Option}
use Rattle.x86_subset.specs.Test.{LitmusTest}
use Rattle.x86_subset.specs.declared.test.Shape.{Shape}
use Rattle.x86_subset.specs.declared.test.Shape.TheVariants as shapes
use Rattle.litmus_reader.specs.Answer.{Answer, Accepted, Refused as Unread, Over as TooLarge}
use Rattle.litmus_reader.specs.Reading.{Reads}
use Rattle.litmus_reader.proofs.ReadingLaws.{same_reading}
use Rattle.profile_check.specs.Kinds.{kind_number}
use Rattle.profile_check.specs.Profile.{Profile, inside, outside, profile_of}
use Rattle.profile_check.specs.declared.kind.ProfileKind.{ProfileKind}
use Rattle.profile_check.specs.declared.kind.ProfileKind.TheVariants.{NoSuchThread, NotLoaded}
use Rattle.outcome_states.specs.Registers.{unread_by, unread_from, unread_kind}
use Rattle.outcome_states.specs.declared.registers.Refused.{Refused as Unanswered}
use Rattle.x86_subset.specs.declared.test.Atom.{Atom}
use Rattle.tool_core.specs.Outcomes.{status_of}
use Rattle.report_text.specs.declared.status.Over.{Over}
use Rattle.report_text.specs.declared.status.Over.TheVariants.{Input, Threads, Locations, Instructions, Atoms, Frames}
use Rattle.report_text.specs.declared.status.Status.{Status}
use Rattle.report_text.specs.declared.status.Status.TheVariants.{Whole, Memory, Usage, ReadFault, WriteFault, NotLitmus, OutsideProfile, Limit}
use Rattle.run_text.specs.Events.{events_of}
use Rattle.run_text.specs.Sections.{Split}
use Rattle.program_edge.specs.Form.{due_for_atoms, due_for_form, over_of}
use Rattle.tool_core.specs.Due.{IsDue, StopsAt, IsDueForParts, IsDueForText, due_for_events, due_for_frames, due_for_lines, due_for_reading, due_for_test, due_for_witness, due_for_writers, first_due, most_events_of, parts_of, section_logs}
use Rattle.tool_core.specs.Counting.{frame_count_of}
use Rattle.tool_core.specs.Top.{AsksForFrames, AsksForKind}
use Rattle.tool_core.specs.declared.words.Command.{Command}
use Rattle.tool_core.specs.declared.words.Command.TheVariants.{Judge, Order, Witness, Verdict, Show, Outcomes, Faithful, Skew, Count, Replay}
use Rattle.tool_core.specs.declared.status.ToolStatus.{ToolStatus}
use Rattle.tool_core.specs.declared.status.ToolStatus.TheVariants.{Core, NoSection, BadLine, TooLong, Events, SeveralWriters, States, Steps}

-- ---- one refusal

one_due_text : (command : Command) (parts : Split) (a b : Option ToolStatus) → IsDueForText command parts a
    → IsDueForText command parts b → a ≡ b
one_due_text command parts a b p q =
    sym p.is ∙ ap (due_for_reading command parts) (same_reading parts.litmus p.answer q.answer p.reads q.reads) ∙ q.is

one_due_by : (command : Command) (parts : Split) (long : Bool) (a b : Option ToolStatus)
    → MatchBool long (a ≡ Some (Core (Limit Input))) (IsDueForText command parts a)
    → MatchBool long (b ≡ Some (Core (Limit Input))) (IsDueForText command parts b) → a ≡ b
one_due_by command parts true a b p q = p ∙ sym q
one_due_by command parts false a b p q = one_due_text command parts a b p q

one_due_parts : (command : Command) (parts : Option Split) (a b : Option ToolStatus) → IsDueForParts command parts a
    → IsDueForParts command parts b → a ≡ b
one_due_parts command None a b p q = p ∙ sym q
one_due_parts command (Some parts) a b p q = one_due_by command parts (nat_lt 65536 (length parts.litmus)) a b p q

pub one_due : (command : Command) (input : List ℕ) (a b : Option ToolStatus) → IsDue command input a
    → IsDue command input b → a ≡ b
one_due command input a b p q = one_due_parts command (parts_of command input) a b p q

-- ---- the statuses of an input that is refused, by the command

abbrev pub IsOfText : Command → Over → Type 0
IsOfText command Input = Unit {0}
IsOfText command Threads = Unit {0}
IsOfText command Locations = Unit {0}
IsOfText command Instructions = Unit {0}
IsOfText command Atoms = Unit {0}
IsOfText command Frames = AsksForFrames command

abbrev pub IsOfInput : Command → ToolStatus → Type 0
IsOfInput command (Core Whole) = ⊥
IsOfInput command (Core Memory) = ⊥
IsOfInput command (Core Usage) = ⊥
IsOfInput command (Core ReadFault) = ⊥
IsOfInput command (Core WriteFault) = ⊥
IsOfInput command (Core (NotLitmus kind line)) = Unit {0}
IsOfInput command (Core (OutsideProfile atom kind)) = AsksForKind command kind
IsOfInput command (Core (Limit over)) = IsOfText command over
IsOfInput command NoSection = Unit {0}
IsOfInput command (BadLine line) = Unit {0}
IsOfInput command TooLong = ⊥
IsOfInput command Events = Unit {0}
IsOfInput command (SeveralWriters location) = Unit {0}
IsOfInput command States = ⊥
IsOfInput command Steps = ⊥

some_of : (command : Command) (s t : ToolStatus) → Some s ≡ Some t → IsOfInput command s → IsOfInput command t
some_of command s t e of = let same : s ≡ t = cc in subst (IsOfInput command) same of

-- whatever is due is such a status
abbrev pub Gives : Command → Option ToolStatus → Type 0
Gives command due = (s : ToolStatus) → due ≡ Some s → IsOfInput command s

of_none : (command : Command) → Gives command None
of_none command s e = absurd (cc)

of_first : (command : Command) (a b : Option ToolStatus) → Gives command a → Gives command b
    → Gives command (first_due a b)
of_first command None b p q = q
of_first command (Some t) b p q = p

of_lines : {X : Type 0} (command : Command) (r : Result X ℕ) → Gives command (due_for_lines r)
of_lines command (Ok x) = of_none command
of_lines command (Err line) = λ s e. some_of command (BadLine line) s e tt

of_location : (command : Command) (o : Option ℕ) → Gives command (option_map SeveralWriters o)
of_location command None = of_none command
of_location command (Some x) = λ s e. some_of command (SeveralWriters x) s e tt

of_count : (command : Command) (many : Bool) → Gives command (if many then Some Events else None)
of_count command true = λ s e. some_of command Events s e tt
of_count command false = of_none command

of_witness : (command : Command) (test : LitmusTest) (n : ℕ) → Gives command (due_for_witness test n)
of_witness command test n =
    of_first command (due_for_writers test) (due_for_events test n)
    (of_location command _) (of_count command (nat_lt 1000000 (most_events_of test n)))

of_profile : (command : Command) (profile : Profile) → ((kind : ℕ) → AsksForKind command kind)
    → Gives command (option_map Core (due_for_atoms profile))
of_profile command inside counts = of_none command
of_profile command (outside atom kind) counts = λ s e.
    some_of command (Core (OutsideProfile atom _)) s e (counts (kind_number kind))

-- an atom that asks for no read is refused with one of the first two kinds
of_unread_kind : (kind : Option ProfileKind) (n : ℕ) (rest : Option Unanswered)
    → ((k : ProfileKind) → kind ≡ Some k → kind_number k ≤ 2) → Gives Outcomes (option_map status_of rest)
    → Gives Outcomes (option_map status_of (unread_by kind n rest))
of_unread_kind None n rest low gives = gives
of_unread_kind (Some k) n rest low gives = λ s e.
    some_of Outcomes (Core (OutsideProfile n (kind_number k))) s e (low k refl)

low_by : (none read : Bool) (k : ProfileKind)
    → (if none then Some NoSuchThread else if read then None else Some NotLoaded) ≡ Some k → kind_number k ≤ 2
low_by true read k e = let same : NoSuchThread ≡ k = cc in subst (λ (x : ProfileKind). kind_number x ≤ 2) same (grind (arith))
low_by false true k e = absurd (cc)
low_by false false k e = let same : NotLoaded ≡ k = cc in subst (λ (x : ProfileKind). kind_number x ≤ 2) same (grind (arith))

of_unread : (test : LitmusTest) (n : ℕ) (atoms : List Atom)
    → Gives Outcomes (option_map status_of (unread_from test n atoms))
of_unread test n [] = of_none Outcomes
of_unread test n (atom ∷ atoms) =
    of_unread_kind (unread_kind test atom) n (unread_from test (n + 1) atoms) (λ k. low_by _ _ k)
    (of_unread test (n + 1) atoms)

of_frames : (command : Command) (many : Bool) → AsksForFrames command
    → Gives command (if many then Some (Core (Limit Frames)) else None)
of_frames command true counts = λ s e. some_of command (Core (Limit Frames)) s e counts
of_frames command false counts = of_none command

of_test : (command : Command) (test : LitmusTest) (parts : Split) → Gives command (due_for_test command test parts)
of_test Judge test parts = of_lines Judge (events_of parts.line parts.lines)
of_test Order test parts =
    of_first Order (due_for_witness test parts.iterations) (due_for_lines (section_logs test parts))
    (of_witness Order test parts.iterations) (of_lines Order (section_logs test parts))
of_test (Witness n) test parts = of_witness (Witness n) test n
of_test Verdict test parts = of_profile Verdict (profile_of test) (λ _. tt)
of_test Show test parts = of_profile Show (profile_of test) (λ _. tt)
of_test Outcomes test parts = of_unread test 1 test.atoms
of_test Faithful test parts = of_profile Faithful (profile_of test) (λ _. tt)
of_test (Skew n) test parts = of_none (Skew n)
of_test (Count job) test parts =
    of_first (Count job) (option_map Core (due_for_atoms (profile_of test))) (due_for_frames test job.options)
    (of_profile (Count job) (profile_of test) (λ _. tt))
    (of_frames (Count job) (nat_lt 4294967296 (frame_count_of test job.options)) tt)
of_test (Replay job) test parts =
    of_count (Replay job) (nat_lt 1000000 (most_events_of test job.options.iterations))

of_shape : (command : Command) (shape : Shape) → IsOfText command (over_of shape)
of_shape command shapes.Threads = tt
of_shape command shapes.Locations = tt
of_shape command shapes.Instrs = tt
of_shape command shapes.Atoms = tt

of_reading : (command : Command) (parts : Split) (answer : Answer)
    → Gives command (due_for_reading command parts answer)
of_reading command parts (Unread refusal) = λ s e. some_of command (Core (NotLitmus _ refusal.line)) s e tt
of_reading command parts (TooLarge limit) = λ s e. some_of command (Core (Limit _)) s e (of_shape command limit)
of_reading command parts (Accepted test) = of_test command test parts

of_parts_by : (command : Command) (parts : Split) (long : Bool) (s : ToolStatus)
    → MatchBool long (Some s ≡ Some (Core (Limit Input))) (IsDueForText command parts (Some s)) → IsOfInput command s
of_parts_by command parts true s due = some_of command (Core (Limit Input)) s (sym due) tt
of_parts_by command parts false s due = of_reading command parts due.answer s due.is

of_parts : (command : Command) (parts : Option Split) (s : ToolStatus) → IsDueForParts command parts (Some s)
    → IsOfInput command s
of_parts command None s due = some_of command NoSection s (sym due) tt
of_parts command (Some parts) s due = of_parts_by command parts (nat_lt 65536 (length parts.litmus)) s due

pub of_input : (command : Command) (input : List ℕ) (s : ToolStatus) → IsDue command input (Some s)
    → IsOfInput command s
of_input command input s due = of_parts command (parts_of command input) s due

-- ---- limits

-- no status of the first program is a limit of a list
pub core_is_no_stop : (command : Command) (test : LitmusTest) (status : Status) → StopsAt command test (Core status) → ⊥
core_is_no_stop Outcomes test status stops = stops
core_is_no_stop _ test status stops = stops

-- only a list of outcomes stops at a limit
pub stop_is_of_outcomes : (command : Command) (test : LitmusTest) (status : ToolStatus) → StopsAt command test status
    → command ≡ Outcomes
stop_is_of_outcomes Outcomes test status stops = refl
stop_is_of_outcomes _ test status stops = absurd stops

-- ---- what is due for the parts of an input is due for the input

short_is : (n : ℕ) → n ≤ 65536 → nat_lt 65536 n ≡ false
short_is n h = grind (arith)

pub due_for_text : (command : Command) (input : List ℕ) (parts : Split) (due : Option ToolStatus)
    → parts_of command input ≡ Some parts → length parts.litmus ≤ 65536
    → IsDueForText command parts due → IsDue command input due
due_for_text command input parts due e short is =
    subst (λ (p : Option Split). IsDueForParts command p due) (sym e)
    (subst (λ (long : Bool). MatchBool long (due ≡ Some (Core (Limit Input))) (IsDueForText command parts due))
    (sym (short_is (length parts.litmus) short)) is)

due_of_form : (command : Command) (parts : Split) (answer : Answer) (status : Status)
    → due_for_form answer ≡ Some status → due_for_reading command parts answer ≡ Some (Core status)
due_of_form command parts (Unread refusal) status e = ap (option_map Core) e
due_of_form command parts (TooLarge limit) status e = ap (option_map Core) e
due_of_form command parts (Accepted test) status e = absurd (cc)

pub test_is_due : (command : Command) (parts : Split) (test : LitmusTest) (due : Option ToolStatus)
    → Reads parts.litmus (Accepted test)
    → due_for_test command test parts ≡ due → IsDueForText command parts due
test_is_due command parts test due reads e = record { answer = Accepted test; reads = reads; is = e }
