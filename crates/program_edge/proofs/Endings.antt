-- What follows from how a call ended, whatever its commands and its statuses are.
use Rattle.std.proofs.Common.{◌≡◌, ◌⊎◌, ℕ, ◌+◌, ◌<◌, ◌≤◌, List, ◌++◌, length, take, drop, Some, None, Result, Ok, Err, String, string_bytes, Global, IfOk, IfErr, inl, inr, refl, sym, subst}
use Rattle.std.specs.declared.option.Option.{Option}
use Rattle.tso_words.specs.Seats.{Ended as Closed}
use Rattle.report_text.specs.declared.status.Status.{Status}
use Rattle.report_text.specs.declared.status.Status.TheVariants.{Whole, Memory, Usage, ReadFault, WriteFault}
use Rattle.perp_base.specs.Bytes.{GaveAll, IsOver}
use Rattle.perp_base.specs.Causes.{Rose}
use Rattle.perp_base.specs.View.{View}
use Rattle.program_edge.specs.Ending.{Call, Ended, IsOutOfMemory, IsStillOr, IsUsage, Refused}
use Rattle.program_edge.specs.Ending.Ended.{ended_refused, ended_whole, ended_part}
use Rattle.program_edge.specs.Ending.Refused.{no_memory, no_command, no_reading, too_long, no_input, at_limit}
use Rattle.program_edge.specs.Field.{IsStill}
use Rattle.program_edge.specs.View.{WroteAs}
use Rattle.program_edge.proofs.Bytes.{appended_is, dropped_is, long_is_not_given, over_is_not_within}

-- the status is that of a text, of which all or a part was written
abbrev pub HasText : {S : Type 0} → (Status → S) → S → Type 0
HasText core status = (status ≡ core Whole) ⊎ (status ≡ core WriteFault)

-- a refusal that only an input has
pub record IsOfInput {S : Type 0} (core : Status → S) (status : S) : Type 0 where
  pub text : HasText core status → ⊥
  pub usage : status ≡ core Usage → ⊥

text_by : {S : Type 0} (core : Status → S) (P : S → Type 0) → (P (core Whole) → ⊥) → (P (core WriteFault) → ⊥)
    → (status : S) → P status → HasText core status → ⊥
text_by core P whole part status p (inl e) = whole (subst P e p)
text_by core P whole part status p (inr e) = part (subst P e p)

-- a predicate that none of those three meets tells so
pub is_of_input : {S : Type 0} (core : Status → S) (P : S → Type 0) → (P (core Whole) → ⊥) → (P (core WriteFault) → ⊥)
    → (P (core Usage) → ⊥) → (status : S) → P status → IsOfInput core status
is_of_input core P whole part usage status p = record {
  text = text_by core P whole part status p;
  usage = λ e. usage (subst P e p);
}

-- what a command took, for which nothing is due
pub record Accepted {C S : Type 0} (call : Call C S) : Type 0 where
  pub command : C
  pub input : List ℕ
  pub took : call.took command input
  pub none_due : call.due command input None

-- What the endings of a program rest on. `told` holds of the command and of the input that it is to take.
pub record IsLawful {C S : Type 0} (call : Call C S) (answers : List ℕ → Type 0)
    (told : C → List ℕ → Type 0) : Type 0 where
  pub core_one : (a b : Status) → call.core a ≡ call.core b → a ≡ b
  pub long_input : IsOfInput call.core call.long
  pub due_input : (c : C) (input : List ℕ) (status : S) → call.due c input (Some status) → IsOfInput call.core status
  pub stop_input : (c : C) (input : List ℕ) (status : S) → call.stops c input status → IsOfInput call.core status
  pub due_one : (c : C) (input : List ℕ) (a b : Option S) → call.due c input a → call.due c input b → a ≡ b
  pub accepted : (text : List ℕ) → answers text → Accepted call
  pub took_is : (c : C) (input : List ℕ) → call.took c input → call.command ≡ Some c
  pub took_all : (c : C) (input : List ℕ) → call.took c input → call.reads c
      → GaveAll call.old.bytes call.new.bytes input × (length input ≤ call.limit)
  pub told_is : (c : C) (input : List ℕ) → told c input → call.command ≡ Some c
  pub told_left : (c : C) (input : List ℕ) → told c input → call.reads c → call.old.bytes ≡ Some input
  pub told_one : (c : C) (input taken : List ℕ) → told c input → call.took c taken → taken ≡ input

-- the command of the words is one
one_command : {C : Type 0} (command : Option C) (c d : C) → command ≡ Some c → command ≡ Some d → d ≡ c
one_command command c d is was = cc

module _ {C S : Type 0} {call : Call C S} {answers : List ℕ → Type 0} {ran : Type 0} {done : Closed}
    {out_old out_new : View} {untouched : Type 0} where
  -- a refusal or a text, and what was written of it
  pub ended_from : (text : Result (String Global) S) (status : S)
      → IfOk text (λ t. answers (string_bytes t)) → IfErr text (Refused call)
      → IfErr text (IsStillOr call.core done ran) → IfErr text (λ s. (status ≡ s) × untouched)
      → IfOk text (λ t. (wrote : Status) × (status ≡ call.core wrote)
      × WroteAs wrote out_old out_new (string_bytes t))
      → Ended call answers ran done out_old out_new untouched status
  ended_from (Ok t) status answer _ _ _ (wrote, is, inl whole) =
      rw (is, whole.0) (ended_whole (string_bytes t) answer whole.1)
  ended_from (Ok t) status answer _ _ _ (wrote, is, inr part) =
      rw (is, part.0) (ended_part (string_bytes t) answer part.1 part.2)
  ended_from (Err s) status _ refused leaves kept _ =
      subst (Ended call answers ran done out_old out_new untouched) (sym kept.0) (ended_refused s refused leaves kept.1)

  pub still_of : ((text : List ℕ) → answers text → IsStill done) → (ran → IsStill done) → (status : S)
      → Ended call answers ran done out_old out_new untouched status → IsStill done
  still_of texts runs _ (ended_whole text answer written) = texts text answer
  still_of texts runs _ (ended_part text answer rose written) = texts text answer
  still_of texts runs _ (ended_refused status why (inl still) kept) = still
  still_of texts runs _ (ended_refused status why (inr out) kept) = runs out.1

  pub other_status_of : (status : S) → Ended call answers ran done out_old out_new untouched status
      → (status ≡ call.core Whole → ⊥) → (status ≡ call.core WriteFault → ⊥) → (status ≡ call.core Memory → ⊥)
      → IsStill done
  other_status_of _ (ended_whole text answer written) = λ a b c. absurd (a refl)
  other_status_of _ (ended_part text answer rose written) = λ a b c. absurd (b refl)
  other_status_of _ (ended_refused status why (inl still) kept) = λ a b c. still
  other_status_of _ (ended_refused status why (inr out) kept) = λ a b c. absurd (c out.0)

-- ---- refusals

module _ {C S : Type 0} {call : Call C S} {answers : List ℕ → Type 0} {told : C → List ℕ → Type 0}
    (laws : IsLawful call answers told) where
  core_has_no_text : (s : Status) → (s ≡ Whole → ⊥) → (s ≡ WriteFault → ⊥)
      → HasText call.core (call.core s) → ⊥
  core_has_no_text s whole part (inl e) = whole (laws.core_one s Whole e)
  core_has_no_text s whole part (inr e) = part (laws.core_one s WriteFault e)

  refused_has_no_text : (status : S) → Refused call status → HasText call.core status → ⊥
  refused_has_no_text _ no_memory = core_has_no_text Memory (λ e. cc) (λ e. cc)
  refused_has_no_text _ (no_command none same) = core_has_no_text Usage (λ e. cc) (λ e. cc)
  refused_has_no_text _ (no_reading c is reads rose) = core_has_no_text ReadFault (λ e. cc) (λ e. cc)
  refused_has_no_text _ (too_long c is reads over) = laws.long_input.text
  refused_has_no_text _ (no_input status c input took due) = (laws.due_input c input status due).text
  refused_has_no_text _ (at_limit status c input took none stops) = (laws.stop_input c input status stops).text

  -- what is due for what was taken is due for what was told
  same_due : (c d : C) (input taken : List ℕ) (a b : Option S) → told c input
      → call.took d taken → call.due d taken a → call.due c input b → a ≡ b
  same_due c d input taken a b tells took due_taken due_told =
      let same = one_command call.command c d (laws.told_is c input tells) (laws.took_is d taken took) in
      let took_c : call.took c taken = subst (λ (x : C). call.took x taken) same took in
      let due_c : call.due c taken a = subst (λ (x : C). call.due x taken a) same due_taken in
      laws.due_one c input a b
      (subst (λ (xs : List ℕ). call.due c xs a) (laws.told_one c input taken tells took_c) due_c) due_told

  -- a limit that the work on what was taken met is one of what was told
  same_stop : (c d : C) (input taken : List ℕ) (status : S) → told c input → call.took d taken
      → call.stops d taken status → call.stops c input status
  same_stop c d input taken status tells took stops =
      let same = one_command call.command c d (laws.told_is c input tells) (laws.took_is d taken took) in
      let took_c : call.took c taken = subst (λ (x : C). call.took x taken) same took in
      subst (λ (xs : List ℕ). call.stops c xs status) (laws.told_one c input taken tells took_c)
      (subst (λ (x : C). call.stops x taken status) same stops)

  not_due : (c : C) (input text : List ℕ) (refusal : S) → answers text → told c input
      → call.due c input (Some refusal) → ⊥
  not_due c input text refusal answer tells due =
      let a = laws.accepted text answer in
      let same : None ≡ Some refusal = same_due c a.command input a.input None (Some refusal) tells a.took
      a.none_due due in
      cc

  not_over : (c d : C) (input : List ℕ) → told c input → call.command ≡ Some d
      → call.reads d → IsOver call.old.bytes call.new.bytes call.limit → (call.reads c → length input ≤ call.limit) → ⊥
  not_over c d input tells is reads over short =
      let same = one_command call.command c d (laws.told_is c input tells) is in
      let reads_c : call.reads c = subst call.reads same reads in
      over_is_not_within call.old.bytes call.new.bytes input call.limit (laws.told_left c input tells reads_c) over
      (short reads_c)

  -- what was taken is within the limit
  not_taken : (c d : C) (input taken : List ℕ) → call.command ≡ Some c → call.reads c
      → call.old.bytes ≡ Some input → call.limit < length input → call.took d taken → ⊥
  not_taken c d input taken is reads left long took =
      let same = one_command call.command d c (laws.took_is d taken took) is in
      let all = laws.took_all d taken took (subst call.reads same reads) in
      long_is_not_given call.old.bytes call.new.bytes input taken call.limit left long all.0 all.1

-- ---- endings

module _ {C S : Type 0} {call : Call C S} {answers : List ℕ → Type 0} {told : C → List ℕ → Type 0}
    (laws : IsLawful call answers told)
    {ran : Type 0} {done : Closed} {out_old out_new : View} {untouched : Type 0} where
  pub answer_of : (status : S)
      → Ended call answers ran done out_old out_new untouched status → HasText call.core status
      → (text : List ℕ) × answers text
  answer_of _ (ended_whole text answer written) = λ _. (text, answer)
  answer_of _ (ended_part text answer rose written) = λ _. (text, answer)
  answer_of _ (ended_refused status why leaves kept) = λ has. absurd (refused_has_no_text laws status why has)

  pub whole_of : (status : S)
      → Ended call answers ran done out_old out_new untouched status → (before : List ℕ) → out_old.bytes ≡ Some before
      → status ≡ call.core Whole → (text : List ℕ) × answers text × (out_new.bytes ≡ Some (before ++ text))
  whole_of _ (ended_whole text answer written) = λ before told_out _.
      (text, answer, appended_is out_old.bytes out_new.bytes before text told_out written)
  whole_of _ (ended_part text answer rose written) = λ _ _ e.
      let same : WriteFault ≡ Whole = laws.core_one WriteFault Whole e in absurd (cc)
  whole_of _ (ended_refused status why leaves kept) = λ _ _ e. absurd (refused_has_no_text laws status why (inl e))

  pub part_of : (status : S)
      → Ended call answers ran done out_old out_new untouched status → (before : List ℕ) → out_old.bytes ≡ Some before
      → status ≡ call.core WriteFault → (text : List ℕ) × answers text
      × (n : ℕ) × (n < length text) × (out_new.bytes ≡ Some (before ++ take n text))
  part_of _ (ended_whole text answer written) = λ _ _ e.
      let same : Whole ≡ WriteFault = laws.core_one Whole WriteFault e in absurd (cc)
  part_of _ (ended_part text answer rose (n, less, written)) = λ before told_out _.
      (text, answer, n, less, appended_is out_old.bytes out_new.bytes before (take n text) told_out written)
  part_of _ (ended_refused status why leaves kept) = λ _ _ e. absurd (refused_has_no_text laws status why (inr e))

  pub memory_of : (status : S)
      → Ended call answers ran done out_old out_new untouched status → IsOutOfMemory call.core done ran status
  memory_of _ (ended_whole text answer written) = λ e.
      let same : Whole ≡ Memory = laws.core_one Whole Memory e in absurd (cc)
  memory_of _ (ended_part text answer rose written) = λ e.
      let same : WriteFault ≡ Memory = laws.core_one WriteFault Memory e in absurd (cc)
  memory_of _ (ended_refused status why (inl still) kept) = λ _. inl still
  memory_of _ (ended_refused status why (inr out) kept) = λ _. inr out.1

  -- ---- words that are no command

  pub usage_only : (status : S)
      → Ended call answers ran done out_old out_new untouched status → status ≡ call.core Usage
      → (call.command ≡ None) × (call.new ≡ call.old)
  usage_only _ (ended_whole text answer written) = λ e.
      let same : Whole ≡ Usage = laws.core_one Whole Usage e in absurd (cc)
  usage_only _ (ended_part text answer rose written) = λ e.
      let same : WriteFault ≡ Usage = laws.core_one WriteFault Usage e in absurd (cc)
  usage_only _ (ended_refused _ no_memory leaves kept) = λ e.
      let same : Memory ≡ Usage = laws.core_one Memory Usage e in absurd (cc)
  usage_only _ (ended_refused _ (no_command none same) leaves kept) = λ _. (none, same)
  usage_only _ (ended_refused _ (no_reading c is reads rose) leaves kept) = λ e.
      let same : ReadFault ≡ Usage = laws.core_one ReadFault Usage e in absurd (cc)
  usage_only _ (ended_refused _ (too_long c is reads over) leaves kept) = λ e. absurd (laws.long_input.usage e)
  usage_only _ (ended_refused _ (no_input status c input took due) leaves kept) = λ e.
      absurd ((laws.due_input c input status due).usage e)
  usage_only _ (ended_refused _ (at_limit status c input took none stops) leaves kept) = λ e.
      absurd ((laws.stop_input c input status stops).usage e)

  usage_each : (status : S) → Ended call answers ran done out_old out_new untouched status
      → call.command ≡ None → (status ≡ call.core Usage) ⊎ (status ≡ call.core Memory)
  usage_each _ (ended_whole text answer written) = λ none.
      let a = laws.accepted text answer in let is = laws.took_is a.command a.input a.took in absurd (cc)
  usage_each _ (ended_part text answer rose written) = λ none.
      let a = laws.accepted text answer in let is = laws.took_is a.command a.input a.took in absurd (cc)
  usage_each _ (ended_refused _ no_memory leaves kept) = λ _. inr refl
  usage_each _ (ended_refused _ (no_command none same) leaves kept) = λ _. inl refl
  usage_each _ (ended_refused _ (no_reading c is reads rose) leaves kept) = λ none. absurd (cc)
  usage_each _ (ended_refused _ (too_long c is reads over) leaves kept) = λ none. absurd (cc)
  usage_each _ (ended_refused _ (no_input status c input took due) leaves kept) = λ none.
      let is = laws.took_is c input took in absurd (cc)
  usage_each _ (ended_refused _ (at_limit status c input took none_due stops) leaves kept) = λ none.
      let is = laws.took_is c input took in absurd (cc)

  pub usage_of : (status : S)
      → Ended call answers ran done out_old out_new untouched status → IsUsage call.core call.command status
  usage_of status ended = record {
    only = λ e. (usage_only status ended e).0;
    each = usage_each status ended;
  }

  -- ---- what is due

  pub completes_of : (status : S)
      → Ended call answers ran done out_old out_new untouched status → (c : C) (input : List ℕ) → told c input
      → (call.reads c → length input ≤ call.limit) → call.due c input None
      → (call.reads c → Rose call.old.faults call.new.faults → ⊥) → (Rose out_old.faults out_new.faults → ⊥)
      → (status ≡ call.core Whole) ⊎ ((status ≡ call.core Memory) ⊎ call.stops c input status)
  completes_of _ (ended_whole text answer written) = λ _ _ _ _ _ _ _. inl refl
  completes_of _ (ended_part text answer rose written) = λ _ _ _ _ _ _ still. absurd (still rose)
  completes_of _ (ended_refused _ no_memory leaves kept) = λ _ _ _ _ _ _ _. inr (inl refl)
  completes_of _ (ended_refused _ (no_command none same) leaves kept) = λ c input tells _ _ _ _.
      let is = laws.told_is c input tells in absurd (cc)
  completes_of _ (ended_refused _ (no_reading d is reads rose) leaves kept) = λ c input tells _ _ still _.
      absurd (still (subst call.reads (one_command call.command c d (laws.told_is c input tells) is) reads) rose)
  completes_of _ (ended_refused _ (too_long d is reads over) leaves kept) = λ c input tells short _ _ _.
      absurd (not_over laws c d input tells is reads over short)
  completes_of _ (ended_refused _ (no_input status d taken took due) leaves kept) = λ c input tells _ none _ _.
      let same : Some status ≡ None = same_due laws c d input taken (Some status) None tells took due none in
      absurd (cc)
  completes_of _ (ended_refused _ (at_limit status d taken took _ stops) leaves kept) = λ c input tells _ none _ _.
      inr (inr (same_stop laws c d input taken status tells took stops))

  pub due_of : (status : S)
      → Ended call answers ran done out_old out_new untouched status → (c : C) (input : List ℕ) (refusal : S)
      → told c input → (call.reads c → length input ≤ call.limit) → call.due c input (Some refusal)
      → (status ≡ refusal) ⊎ ((status ≡ call.core Memory)
      ⊎ ((status ≡ call.core ReadFault) × Rose call.old.faults call.new.faults))
  due_of _ (ended_whole text answer written) = λ c input refusal tells _ due.
      absurd (not_due laws c input text refusal answer tells due)
  due_of _ (ended_part text answer rose written) = λ c input refusal tells _ due.
      absurd (not_due laws c input text refusal answer tells due)
  due_of _ (ended_refused _ no_memory leaves kept) = λ _ _ _ _ _ _. inr (inl refl)
  due_of _ (ended_refused _ (no_command none same) leaves kept) = λ c input _ tells _ _.
      let is = laws.told_is c input tells in absurd (cc)
  due_of _ (ended_refused _ (no_reading d is reads rose) leaves kept) = λ _ _ _ _ _ _. inr (inr (refl, rose))
  due_of _ (ended_refused _ (too_long d is reads over) leaves kept) = λ c input _ tells short _.
      absurd (not_over laws c d input tells is reads over short)
  due_of _ (ended_refused _ (no_input status d taken took is_due) leaves kept) = λ c input refusal tells _ due.
      let same : Some status ≡ Some refusal = same_due laws c d input taken (Some status) (Some refusal) tells took
      is_due due in
      inl (cc)
  due_of _ (ended_refused _ (at_limit status d taken took none stops) leaves kept) = λ c input refusal tells _ due.
      let same : None ≡ Some refusal = same_due laws c d input taken None (Some refusal) tells took none due in
      absurd (cc)

  pub too_long_of : (status : S)
      → Ended call answers ran done out_old out_new untouched status → (c : C) (input : List ℕ) → call.command ≡ Some c
      → call.reads c → call.old.bytes ≡ Some input → call.limit < length input
      → ((status ≡ call.long) × (call.new.bytes ≡ Some (drop (call.limit + 1) input)))
      ⊎ ((status ≡ call.core Memory) ⊎ ((status ≡ call.core ReadFault) × Rose call.old.faults call.new.faults))
  too_long_of _ (ended_whole text answer written) = λ c input is reads left long.
      let a = laws.accepted text answer in absurd (not_taken laws c a.command input a.input is reads left long a.took)
  too_long_of _ (ended_part text answer rose written) = λ c input is reads left long.
      let a = laws.accepted text answer in absurd (not_taken laws c a.command input a.input is reads left long a.took)
  too_long_of _ (ended_refused _ no_memory leaves kept) = λ _ _ _ _ _ _. inr (inl refl)
  too_long_of _ (ended_refused _ (no_command none same) leaves kept) = λ _ _ is _ _ _. absurd (cc)
  too_long_of _ (ended_refused _ (no_reading d was reads rose) leaves kept) = λ _ _ _ _ _ _.
      inr (inr (refl, rose))
  too_long_of _ (ended_refused _ (too_long d was reads over) leaves kept) = λ _ input _ _ left _.
      inl (refl, dropped_is call.old.bytes call.new.bytes input call.limit left over)
  too_long_of _ (ended_refused _ (no_input status d taken took due) leaves kept) = λ c input is reads left long.
      absurd (not_taken laws c d input taken is reads left long took)
  too_long_of _ (ended_refused _ (at_limit status d taken took none stops) leaves kept) = λ c input is reads left long.
      absurd (not_taken laws c d input taken is reads left long took)

  -- ---- what is left after

  -- a status that comes only after the reading tells what was taken, and a refusal was due for it, or its work met a limit
  pub taken_of : (P : S → Type 0) → (P (call.core Memory) → ⊥) → (P (call.core Usage) → ⊥)
      → (P (call.core ReadFault) → ⊥) → (P call.long → ⊥) → (status : S)
      → Ended call answers ran done out_old out_new untouched status → P status → (c : C) × (input : List ℕ)
      × call.took c input × (HasText call.core status ⊎ (call.due c input (Some status) ⊎ call.stops c input status))
  taken_of P memory usage fault long _ (ended_whole text answer written) = λ _.
      let a = laws.accepted text answer in (a.command, a.input, a.took, inl (inl refl))
  taken_of P memory usage fault long _ (ended_part text answer rose written) = λ _.
      let a = laws.accepted text answer in (a.command, a.input, a.took, inl (inr refl))
  taken_of P memory usage fault long _ (ended_refused _ no_memory leaves kept) = λ p. absurd (memory p)
  taken_of P memory usage fault long _ (ended_refused _ (no_command none same) leaves kept) = λ p. absurd (usage p)
  taken_of P memory usage fault long _ (ended_refused _ (no_reading c is reads rose) leaves kept) = λ p.
      absurd (fault p)
  taken_of P memory usage fault long _ (ended_refused _ (too_long c is reads over) leaves kept) = λ p.
      absurd (long p)
  taken_of P memory usage fault long _ (ended_refused _ (no_input status c input took due) leaves kept) = λ _.
      (c, input, took, inr (inl due))
  taken_of P memory usage fault long _ (ended_refused _ (at_limit status c input took none stops) leaves kept) = λ _.
      (c, input, took, inr (inr stops))
