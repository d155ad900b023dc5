-- Written runs of the x86-TSO machine (Sewell, Sarkar, Owens, Zappa Nardelli and Myreen, CACM 2010), over what stores
-- write: the values k*n + a of perpetual loops (PerpLE: Melissaris, Markakis, Shaw and Martonosi, MICRO 2020), or the
-- numbers of the litmus text. The machine is that of `tso_machine`, with these values in place of its own.
use Rattle.std.specs.Prelude.{◌≡◌, ℕ, ◌<◌, All, Some, List, [], ◌∷◌, ◌++◌, drop, length, slice_get}
use Rattle.std.specs.Option.{option_map_or}
use Rattle.x86_subset.specs.Test.{LitmusTest}
use Rattle.x86_subset.specs.declared.instr.Instr.{Instr}
use Rattle.x86_subset.specs.declared.instr.Instr.TheVariants.{Store, Load, Fence, Exchange}
use Rattle.seq_conv.specs.Numbers.{AreOf, value_at}
use Rattle.seq_conv.specs.Sequence.{Site, action_at, site_location, value_of}
use Rattle.tso_machine.specs.Event.{Event, Kind, Push, Drain, Read, Fenced, Exchanged, event_location, site_of}
use Rattle.tso_machine.specs.Machine.{State, Write, initial, readable, updated}
use Rattle.tso_machine.specs.Part.{Performs, part_of}
use Rattle.run_judge.specs.Judgement.{judgement_from}
use Rattle.run_judge.specs.declared.judgement.Judgement.{Judgement}
use Rattle.run_judge.specs.declared.values.Values.{Values}
use Rattle.run_judge.specs.declared.values.Values.TheVariants.{Loops, Text}

-- what the store at a site writes in an iteration
abbrev pub Writes : Type 0
Writes = Site → ℕ → ℕ

-- in perpetual loops: k*n + a
abbrev pub sequence_value : LitmusTest → Writes
sequence_value test s n = value_of test (site_location test s) s n

-- the number that a store or an exchange has in the text; 0 where the action is none
abbrev pub number_of : Instr → ℕ
number_of (Store loc written) = written
number_of (Load reg loc) = 0
number_of Fence = 0
number_of (Exchange loc written reg) = written

-- as the text has it
abbrev pub text_value : LitmusTest → Writes
text_value test s n = option_map_or number_of (action_at test s) 0

-- the write of an event
abbrev pub write_by : Writes → LitmusTest → Event → Write
write_by writes test e = record {
  location = event_location test e;
  value = writes (site_of e) e.iteration;
  iteration = e.iteration;
  place = e.place;
}

-- the state after an event of this kind
abbrev pub after_by_as : Writes → Kind → LitmusTest → State → Event → State
after_by_as writes Push test s e =
    record s { buffer = updated s.buffer e.thread (s.buffer e.thread ++ write_by writes test e ∷ []) }
after_by_as writes Drain test s e = record {
  memory = updated s.memory (event_location test e) (writes (site_of e) e.iteration);
  buffer = updated s.buffer e.thread (drop 1 (s.buffer e.thread));
}
after_by_as writes (Read v) test s e = s
after_by_as writes Fenced test s e = s
after_by_as writes (Exchanged v) test s e =
    record s { memory = updated s.memory (event_location test e) (writes (site_of e) e.iteration) }

abbrev pub after_by : Writes → LitmusTest → State → Event → State
after_by writes test s e = after_by_as writes e.kind test s e

-- the state to which events lead
abbrev pub all_after_by : Writes → LitmusTest → State → List Event → State
all_after_by writes test s [] = s
all_after_by writes test s (e ∷ es) = all_after_by writes test (after_by writes test s e) es

abbrev pub reached_by : Writes → LitmusTest → List Event → State
reached_by writes test events = all_after_by writes test initial events

-- what an event of this kind needs of the state before it
abbrev pub NeedsBy : Writes → Kind → LitmusTest → State → Event → Type 0
NeedsBy writes Push test s e = Unit {0}
NeedsBy writes Drain test s e = slice_get (s.buffer e.thread) 0 ≡ Some (write_by writes test e)
NeedsBy writes (Read v) test s e = v ≡ readable s e.thread (event_location test e)
NeedsBy writes Fenced test s e = s.buffer e.thread ≡ []
NeedsBy writes (Exchanged v) test s e = (s.buffer e.thread ≡ []) × (v ≡ s.memory (event_location test e))

-- the events lead, step by step, from the state
abbrev pub StepsBy : Writes → LitmusTest → State → List Event → Type 0
StepsBy writes test s [] = Unit {0}
StepsBy writes test s (e ∷ es) = NeedsBy writes e.kind test s e × StepsBy writes test (after_by writes test s e) es

-- a legal run of the test's threads alone, whose stores write so, in which each performs its body n times
pub record IsRunWith (writes : Writes) (test : LitmusTest) (n : ℕ) (run : List Event) : Type 0 where
  pub steps : StepsBy writes test initial run
  pub drained : (t : ℕ) → (reached_by writes test run).buffer t ≡ []
  pub performs : (t : ℕ) → t < length test.bodies → Performs test n t (part_of t run)
  pub threads : All (λ e. e.thread < length test.bodies) run

-- The judgement of a run whose stores write so: as `judgement_of`, which is that of the stores of perpetual loops.
abbrev pub judgement_with : Writes → LitmusTest → ℕ → List Event → Judgement
judgement_with writes test n run = judgement_from (reached_by writes test) test n [] run

-- what the code is told of these values: the table is that of the test
abbrev pub AreValuesOf : LitmusTest → Values → Type 0
AreValuesOf test (Loops sequences) = AreOf test sequences.now
AreValuesOf test Text = Unit {0}

-- what stores write, by these values
abbrev pub written_with : LitmusTest → Values → Writes
written_with test (Loops sequences) = sequence_value test
written_with test Text = text_value test

-- what is looked up for a place
abbrev pub value_given : LitmusTest → Values → ℕ → ℕ → ℕ → ℕ
value_given test (Loops sequences) t p n = value_at sequences.now t p n
value_given test Text t p n = text_value test (record { thread = t; place = p }) n
