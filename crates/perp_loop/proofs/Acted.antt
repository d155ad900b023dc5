-- An action of the code is an event of the machine.
use Rattle.std.proofs.Common.{◌≡◌, refl, sym, ap, ◌∙◌, subst, ℕ, ◌+◌, ◌≤◌, ◌<◌, ◌==◌, Bool, if◌then◌else◌, Option, None, Some, List, [], ◌∷◌, ◌++◌, length, map, eq-eqb, arith}
use Rattle.std.specs.Prelude.{All, IfSome, is_some, unwrap_or, slice_get}
use Rattle.std.specs.Option.{option_and_then, option_or}
use Rattle.std.specs.List.{filter_map}
use Rattle.std.proofs.lemmas.List.{length-append, map-append}
use Rattle.std.proofs.lemmas.List.Elements.{All-push}
use Rattle.std.proofs.Math.Seq.{drop-length}
use Rattle.x86_subset.specs.Test.{LitmusTest, body_of}
use Rattle.x86_subset.specs.declared.instr.Instr.{Instr}
use Rattle.x86_subset.specs.declared.instr.Instr.TheVariants.{Store as DoStore, Load as DoLoad, Fence, Exchange}
use Rattle.seq_conv.specs.Numbers.{Table, AreOf, value_at}
use Rattle.x86_subset.specs.Instr.{location_of}
use Rattle.seq_conv.specs.Sequence.{value_of}
use Rattle.tso_machine.specs.Event.{Event, Kind, Push, Drain, Read, Exchanged, event_location, written_value}
use Rattle.tso_machine.specs.Log.{value_read}
use Rattle.tso_machine.specs.Machine.{write_of, newest}
use Rattle.tso_machine.specs.Part.{Agrees, own_after}
use Rattle.tso_words.specs.declared.step.Step.TheVariants.{Load, Swap}
use Rattle.store_buffer.specs.declared.entry.Entry.{Entry}
use Rattle.store_buffer.specs.Contents.{Contents, newest_value}
use Rattle.tso_runs.specs.Drained.{kind_as}
use Rattle.perp_loop.specs.Actions.{write_from, AreInRange, IsInRange, entries_after, own_steps, logged, ReadsNewest, left_by_drains}
use Rattle.tso_runs.specs.SharedSteps.{steps_of}
use Rattle.perp_loop.specs.Sound.{IsWriteOf}
use Rattle.tso_runs.proofs.Rest.{event}

pub newest-writes : (x : ℕ) (es : List Entry) → newest x (map write_from es) ≡ newest_value x es
newest-writes x [] = refl
newest-writes x (e ∷ es) = ap (λ o. option_or o (if e.loc == x then Some e.value else None)) (newest-writes x es)

-- a fence and an exchange find nothing after their drains
abbrev IsEmptyFor : Instr → List Entry → Type 0
IsEmptyFor (DoStore loc written) es = Unit {0}
IsEmptyFor (DoLoad reg loc) es = Unit {0}
IsEmptyFor Fence es = es ≡ []
IsEmptyFor (Exchange loc written reg) es = es ≡ []

pub empty_after : (action : Instr) (asks : Bool) (buffer : Contents) → IsEmptyFor action (left_by_drains action asks buffer)
empty_after (DoStore loc written) asks buffer = tt
empty_after (DoLoad reg loc) asks buffer = tt
empty_after Fence asks buffer = drop-length buffer.entries
empty_after (Exchange loc written reg) asks buffer = drop-length buffer.entries

pub values-event : (t i p : ℕ) (action : Instr) (v : ℕ)
    → filter_map value_read (event t i p (kind_as action v) ∷ []) ≡ logged action v
values-event t i p (DoStore loc written) v = refl
values-event t i p (DoLoad reg loc) v = refl
values-event t i p Fence v = refl
values-event t i p (Exchange loc written reg) v = refl

length_read : (o : Option ℕ) (loc v : ℕ) → length (if is_some o then [] else (Load loc v ∷ [])) ≤ 1
length_read None loc v = omega arith
length_read (Some x) loc v = omega arith

-- an action makes no more steps and entries than one
pub weight_of_action : (action : Instr) (w v i p : ℕ) (es : List Entry)
    → length (entries_after action w i p es) + length (own_steps action w v es) ≤ length es + 1
weight_of_action (DoStore loc written) w v i p es = simp length-append (omega arith)
weight_of_action (DoLoad reg loc) w v i p es = omega (arith, length_read (newest_value loc es) loc v)
weight_of_action Fence w v i p es = omega arith
weight_of_action (Exchange loc written reg) w v i p es = omega arith

module _ (test : LitmusTest) (table : Table) (t i p : ℕ) (numbers : AreOf test table) where
  -- the event at this site, which reads v
  abbrev pub at_site : Instr → ℕ → Event
  at_site action v = event t i p (kind_as action v)

  -- the value that the store at this site writes
  abbrev pub written : ℕ
  written = value_at table t p i

  location_is : (action : Instr) (loc : ℕ) (k : Kind) → slice_get (body_of test t) p ≡ Some action
      → location_of action ≡ Some loc → event_location test (event t i p k) ≡ loc
  location_is action loc k at e = ap (λ o. unwrap_or (option_and_then location_of o) 0) at ∙ ap (λ o. unwrap_or o 0) e

  store_is : (loc w : ℕ) (k : Kind) → slice_get (body_of test t) p ≡ Some (DoStore loc w)
      → written_value test (event t i p k) ≡ written
  store_is loc w k at =
      ap (λ x. value_of test x (record { thread = t; place = p }) i) (location_is (DoStore loc w) loc k at refl)
      ∙ sym (numbers.values t p loc i (DoStore loc w) at (eq-eqb loc loc refl))

  exchange_is : (loc w : ℕ) (reg : _) (k : Kind) → slice_get (body_of test t) p ≡ Some (Exchange loc w reg)
      → written_value test (event t i p k) ≡ written
  exchange_is loc w reg k at =
      ap (λ x. value_of test x (record { thread = t; place = p }) i) (location_is (Exchange loc w reg) loc k at refl)
      ∙ sym (numbers.values t p loc i (Exchange loc w reg) at (eq-eqb loc loc refl))

  pub agrees-action : (action : Instr) (v : ℕ) (es : List Entry) → slice_get (body_of test t) p ≡ Some action
      → ReadsNewest action v es → IsEmptyFor action es →
      Agrees test (map write_from es) (at_site action v)
  agrees-action (DoStore loc w) v es at reads empty = tt
  agrees-action (DoLoad reg loc) v es at reads empty =
      let o : newest_value loc es ≡ newest (event_location test (at_site (DoLoad reg loc) v)) (map write_from es) =
      sym (ap (λ x. newest x (map write_from es)) (location_is (DoLoad reg loc) loc (Read v) at refl)
      ∙ newest-writes loc es) in
      subst (λ o. IfSome o (λ w. v ≡ w)) o reads
  agrees-action Fence v es at reads empty = ap (map write_from) empty
  agrees-action (Exchange loc w reg) v es at reads empty = ap (map write_from) empty

  pub steps-action : (action : Instr) (v : ℕ) (es : List Entry) → slice_get (body_of test t) p ≡ Some action →
      own_steps action written v es ≡ steps_of test (map write_from es) (at_site action v)
  steps-action (DoStore loc w) v es at = refl
  steps-action (DoLoad reg loc) v es at =
      let x : loc ≡ event_location test (at_site (DoLoad reg loc) v) = sym
      (location_is (DoLoad reg loc) loc (Read v) at refl) in
      ap (λ o. if is_some o then [] else (Load loc v ∷ [])) (sym (newest-writes loc es))
      ∙ ap (λ x. if is_some (newest x (map write_from es)) then [] else (Load x v ∷ [])) x
  steps-action Fence v es at = refl
  steps-action (Exchange loc w reg) v es at =
      let x : loc ≡ event_location test (at_site (Exchange loc w reg) v) = sym
      (location_is (Exchange loc w reg) loc (Exchanged v) at refl) in
      let y : written ≡ written_value test (at_site (Exchange loc w reg) v) = sym
      (exchange_is loc w reg (Exchanged v) at) in
      λ j. Swap (x j) (y j) v ∷ []

  -- the write of a store
  write_is : (loc w : ℕ) (k : Kind) → slice_get (body_of test t) p ≡ Some (DoStore loc w) →
      write_of test (event t i p k) ≡ write_from (record { loc = loc; value = written; iteration = i; place = p })
  write_is loc w k at =
      let x = location_is (DoStore loc w) loc k at refl in
      let y = store_is loc w k at in
      λ j. record { location = x j; value = y j; iteration = i; place = p }

  pub buffer-action : (action : Instr) (v : ℕ) (es : List Entry) → slice_get (body_of test t) p ≡ Some action →
      map write_from (entries_after action written i p es) ≡ own_after test (map write_from es) (at_site action v)
  buffer-action (DoStore loc w) v es at =
      map-append write_from es _ ∙ ap (λ x. map write_from es ++ x ∷ []) (sym (write_is loc w Push at))
  buffer-action (DoLoad reg loc) v es at = refl
  buffer-action Fence v es at = refl
  buffer-action (Exchange loc w reg) v es at = refl

  pub own-action : (action : Instr) (es : List Entry) → slice_get (body_of test t) p ≡ Some action
      → All (λ e. IsWriteOf test t (write_from e)) es →
      All (λ e. IsWriteOf test t (write_from e)) (entries_after action written i p es)
  own-action (DoStore loc w) es at own =
      All-push (λ e. IsWriteOf test t (write_from e)) es _ own (write_is loc w Drain at)
  own-action (DoLoad reg loc) es at own = own
  own-action Fence es at own = own
  own-action (Exchange loc w reg) es at own = own

  pub in_range-action : (action : Instr) (es : List Entry) → IsInRange action → AreInRange es
      → AreInRange (entries_after action written i p es)
  in_range-action (DoStore loc w) es here range = All-push (λ e. e.loc < 16) es _ range here
  in_range-action (DoLoad reg loc) es here range = range
  in_range-action Fence es here range = range
  in_range-action (Exchange loc w reg) es here range = range
