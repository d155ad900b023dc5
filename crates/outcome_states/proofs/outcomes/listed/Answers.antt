use Rattle.std.proofs.Common.{◌≡◌, ℕ, ◌∙◌, All, List, Vec, Global, ap, length, map, subst, sym}
use Rattle.std.proofs.lemmas.List.{length-map}
use Rattle.outcome_rows.specs.Rows.{HoldReads, Register}
use Rattle.row_decision.specs.Fronts.{register_seen}
use Rattle.outcome_states.specs.Registers.{registers_of}
use Rattle.outcome_states.specs.States.{AreFewStates}
use Rattle.outcome_states.specs.Text.{outcomes_text}
use Rattle.outcome_states.proofs.Held.{named_hold}
use Rattle.outcome_states.proofs.Listed.{ok_of, rows_long}
use Rattle.outcome_states.proofs.outcomes.listed.Goals as goal

pub states_of-requires : goal.states_of-requires
states_of-requires c =
    let P : List Register → Type 0 = λ z. HoldReads c.args.test.now z in
    record {
      reads = subst P (sym (ap (map register_seen) c.deref.ensures.value ∙ c.in_ok-registers.ensures))
          (named_hold c.args.test.now c.requires.read);
    }

pub text_of-requires-clause-lengths : goal.text_of-requires-clause-lengths
text_of-requires-clause-lengths c =
    let items : Vec ℕ Global → List ℕ = λ row. row.items in
    let n : ℕ = length c.deref-in-Ok.result.now in
    let few = ok_of c.in_ok-rows.field-0 c.in-Ok.rows _ _ c.in-Ok.is c.in_ok-rows.ensures in
    let P : List (Vec ℕ Global) → Type 0 = λ z. All (λ row. length (items row) ≡ n) z in
    subst P (sym c.deref-in-Ok-2.ensures.value) (rows_long items c.args.test.now (map register_seen c.deref.result.now)
    n c.in-Ok.rows.items (length-map c.deref.result.now register_seen
    ∙ ap length (c.deref.ensures.value ∙ sym c.deref-in-Ok.ensures.value)) few.0)

pub returns-in-Ok : goal.returns-in-Ok
returns-in-Ok c =
    let items : Vec ℕ Global → List ℕ = λ row. row.items in
    let test = c.args.test.now in
    let rows : List (List ℕ) = map items c.in-Ok.rows.items in
    let few = ok_of c.in_ok-rows.field-0 c.in-Ok.rows _ _ c.in-Ok.is c.in_ok-rows.ensures in
    let P : List Register → Type 0 = λ z. AreFewStates test z rows in
    let named : map register_seen c.deref-in-Ok.result.now ≡ registers_of test = ap (map register_seen)
    c.deref-in-Ok.ensures.value ∙ c.in_ok-registers.ensures in
    record {
      read = c.requires.read;
      rows = rows;
      states = subst P (ap (map register_seen) c.deref.ensures.value ∙ c.in_ok-registers.ensures) few;
      text_is = c.in_ok-text-in-Ok.ensures
          ∙ (λ i. outcomes_text test (named i) (map items (c.deref-in-Ok-2.ensures.value i)));
    }
