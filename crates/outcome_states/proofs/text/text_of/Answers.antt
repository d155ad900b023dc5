use Rattle.std.proofs.Common.{◌≡◌, ◌++◌, ◌-◌, ℕ, ◌∙◌, List, Vec, Global, ap, codes, length, map, string_bytes, sym}
use Rattle.std.proofs.lemmas.List.{length-map, take_all}
use Rattle.std.specs.List.{flat_map}
use Rattle.report_text.specs.Words.{number_line}
use Rattle.row_decision.specs.Fronts.{register_seen}
use Rattle.outcome_states.specs.Counting.{count_unmet, is_met}
use Rattle.outcome_states.specs.Text.{head_line, observation_line, state_line}
use Rattle.outcome_states.proofs.Counted.{counted_rest}
use Rattle.outcome_states.proofs.Written.{joined}
use Rattle.outcome_states.proofs.text.text_of.Goals as goal

pub returns : goal.returns
returns c =
    let test = c.args.test.now in
    let registers = map register_seen c.args.registers.now in
    let items : Vec ℕ Global → List ℕ = λ row. row.items in
    let rows : List (Vec ℕ Global) = c.args.rows.now in
    let met : ℕ = c.count_met-met.result in
    let unmet : ℕ = length rows - met in
    let lines : List ℕ = flat_map (state_line registers) (map items rows) in
    let listed : string_bytes c.loop-row.out ≡ string_bytes c.push_states.new.out ++ lines = c.loop-row.invariant
    ∙ ap (λ z. string_bytes c.push_states.new.out ++ flat_map (state_line registers) (map items z))
    (take_all c.loop-row.row-index rows c.loop-row-test.false) in
    let rest : unmet ≡ count_unmet test registers (map items rows) = counted_rest (is_met test registers)
    (map items rows) (length rows) met (sym (length-map rows items)) c.count_met-met.ensures in
    joined (string_bytes c.new-out.result) (string_bytes c.push_head.new.out) (string_bytes c.push_states.new.out)
    (string_bytes c.loop-row.out) (string_bytes c.push_observation.new.out)
    (head_line c.name.result.now c.quantifier.result) (number_line (codes "States") (length rows)) lines
    (observation_line c.name-2.result.now met unmet) c.new-out.ensures.bytes c.in_ok-push_head.ensures
    c.in_ok-push_states.ensures listed c.in_ok-push_observation.ensures
    ∙ (λ i. head_line (c.name.ensures i) (c.quantifier.ensures i)
    ++ (number_line (codes "States") (sym (length-map rows items) i)
    ++ (lines ++ observation_line (c.name-2.ensures i) (c.count_met-met.ensures i) (rest i))))
