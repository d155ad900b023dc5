-- What a text is read as is a test: it is within the limits, and its registers hold constants and what its bodies read.
use Rattle.std.proofs.Common.{◌≡◌, ℕ, Bool, true, false, All, List, [], ◌∷◌, ◌++◌, length, Some, None, Ok, refl, subst, ltb-false}
use Rattle.std.specs.Prelude.{if◌then◌else◌}
use Rattle.std.specs.List.{list_any}
use Rattle.std.proofs.lemmas.List.Elements.{All-set, All-replicate, All-from_recursion}
use Rattle.x86_subset.specs.declared.instr.Instr.TheVariants as instr
use Rattle.x86_subset.specs.declared.body.Held.{Held}
use Rattle.x86_subset.specs.declared.body.Held.TheVariants as held
use Rattle.x86_subset.specs.declared.test.Shape.TheVariants.{Threads as TooManyThreads, Locations, Instrs, Atoms}
use Rattle.x86_subset.specs.Cell.{Form, Blank, Fence, StoreNumber, StoreRegister, Load, Constant, Exchange, Threads, adding, code_after, empty_code, held_by, location_number, reading, with_constant}
use Rattle.x86_subset.specs.Registers.{AreHeld, IsHeld, register_number}
use Rattle.x86_subset.specs.Shape.{IsTest, is_long, limit_of}
use Rattle.x86_subset.specs.Test.{Code, HoldsReads, LitmusTest}
use Rattle.x86_subset.specs.Token.{Lexeme}
use Rattle.x86_subset.proofs.HeldLaws.{are_held_more, are_held_read, are_held_set}
use Rattle.x86_subset.proofs.ShapeLaws.{short_all}
use Rattle.litmus_reader.specs.Answer.{Accepted}
use Rattle.litmus_reader.specs.Draft.{IsFit}
use Rattle.litmus_reader.specs.Reading.{Reads, read_text, sections_at}
use Rattle.litmus_reader.specs.Rows.{column_code, cells, threads_after}
use Rattle.litmus_reader.proofs.RowsKeep.{body_has, threads_keep}
use Rattle.litmus_reader.proofs.FitLaws.{sections_fit}
use Rattle.litmus_reader.proofs.ReadingLaws.{accepted_is, one_reading}

-- ---- what registers hold

-- the registers of a body hold constants and what it reads
abbrev IsHolding : Code → Type 0
IsHolding code = AreHeld code.actions code.registers

empty_holds : IsHolding empty_code
empty_holds = All-from_recursion (IsHeld []) empty_code.registers (tt, (tt, (tt, (tt, (tt, (tt, tt))))))

some_code : (c d : Code) → Some c ≡ Some d → IsHolding c → IsHolding d
some_code c d e h = let same : c ≡ d = cc in subst IsHolding same h

module _ (locations : List (List ℕ)) (code : Code) (h : IsHolding code) where
  more : (i : _) → IsHolding (adding code i)
  more i = are_held_more code.actions (i ∷ []) code.registers h

  code_holds : (form : Form) (next : Code) → code_after locations form code ≡ Some next → IsHolding next
  code_holds Blank next e = some_code _ next e h
  code_holds Fence next e = some_code _ next e (more instr.Fence)
  code_holds (StoreNumber x n) next e = some_code _ next e (more (instr.Store (location_number locations x) n))
  code_holds (StoreRegister x r) next e = go (held_by code r) e
    where
      go : (v : Held) → with_constant v (λ n. adding code (instr.Store (location_number locations x) n)) ≡ Some next
          → IsHolding next
      go (held.Constant n) k = some_code _ next k (more (instr.Store (location_number locations x) n))
      go (held.Read place) k = absurd cc
  code_holds (Load r x) next e =
      let i = instr.Load r (location_number locations x) in
      some_code _ next e (are_held_read code.actions (code.actions ++ i ∷ []) i code.registers (register_number r)
      (length code.actions) refl refl refl h)
  code_holds (Constant r n) next e =
      some_code _ next e (are_held_set code.actions code.registers (register_number r) (held.Constant n) tt h)
  code_holds (Exchange x r) next e = go (held_by code r) e
    where
      go : (v : Held) → with_constant v (λ n. reading code r (instr.Exchange (location_number locations x) n r))
          ≡ Some next
          → IsHolding next
      go (held.Constant n) k =
          let i = instr.Exchange (location_number locations x) n r in
          some_code _ next k (are_held_read code.actions (code.actions ++ i ∷ []) i code.registers (register_number r)
          (length code.actions) refl refl refl h)
      go (held.Read place) k = absurd cc

-- ---- the threads that are read

abbrev AreHolding : Threads → Type 0
AreHolding s = All IsHolding s.bodies

acted_holds : (i : ℕ) (s : Threads) (form : Form) (code : Code)
    → code_after s.locations form (column_code i s) ≡ Some code
    → AreHolding s
    → AreHolding (threads_after i form s code)
acted_holds i s form code k h =
    All-set IsHolding s.bodies i code (code_holds s.locations (column_code i s)
    (body_has IsHolding empty_holds i s h) form code k) h

sections_hold : (text : List ℕ) (test : LitmusTest) → sections_at text ≡ Ok test → HoldsReads test
sections_hold text test e =
    let start = λ (row : List Lexeme). All-replicate IsHolding (length (cells row)) empty_code empty_holds in
    let k = (threads_keep AreHolding start acted_holds text test e).kept in
    subst HoldsReads k.is k.good

-- ---- the whole text

-- no limit is passed
none_passed : (threads locations actions atoms : Bool)
    → (if threads then Some TooManyThreads else if locations then Some Locations else if actions then Some Instrs
    else if atoms then Some Atoms else None) ≡ None
    → (threads ≡ false) × (locations ≡ false) × (actions ≡ false) × (atoms ≡ false)
none_passed true locations actions atoms e = absurd cc
none_passed false true actions atoms e = absurd cc
none_passed false false true atoms e = absurd cc
none_passed false false false true e = absurd cc
none_passed false false false false e = (refl, refl, refl, refl)

fit_test : (test : LitmusTest) → limit_of test ≡ None → IsFit test → HoldsReads test → IsTest test
unfolding limit_of
fit_test test none fit holds =
    let within = none_passed _ _ (list_any is_long test.bodies) _ none in record {
      some_threads = fit.threads;
      few_threads = ltb-false 8 (length test.bodies) within.0;
      few_locations = ltb-false 16 (length test.locations) within.1;
      few_actions = short_all test.bodies within.2;
      some_atoms = fit.atoms;
      few_atoms = ltb-false 32 (length test.atoms) within.3;
      located = fit.located;
      holds_reads = holds;
      ends = fit.ends;
    }

pub reads_tests : (text : List ℕ) (test : LitmusTest) → Reads text (Accepted test) → IsTest test
unfolding read_text
reads_tests text test reading =
    let a = accepted_is (sections_at text) test ((one_reading text).1 (Accepted test) reading) in
    fit_test test a.1 (sections_fit text test a.0) (sections_hold text test a.0)
