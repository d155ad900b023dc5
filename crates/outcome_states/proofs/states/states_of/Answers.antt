use Rattle.std.proofs.Common.{◌≡◌, ℕ, ◌∙◌, Bool, None, Some, List, Vec, Global, ap, map, subst}
use Rattle.outcome_rows.specs.Listing.{columns_of_values}
use Rattle.outcome_rows.specs.Rows.{Register}
use Rattle.row_decision.specs.Fronts.{register_seen}
use Rattle.outcome_states.specs.States.{IsTold}
use Rattle.outcome_states.proofs.Listed.{if_ok_more, match_more, stop_at}
use Rattle.outcome_states.proofs.states.states_of.Goals as goal

pub returns : goal.returns
returns c =
    let test = c.args.test.now in
    let registers : List Register = map register_seen c.args.registers.now in
    let items : Vec ℕ Global → List ℕ = λ row. row.items in
    let reads = c.threads-threads.ensures.test.holds_reads in
    let same : map items c.deref.result.now ≡ columns_of_values test registers = ap (map items) c.deref.ensures.value
    ∙ c.in_ok-columns.ensures in
    let P : Bool → List ℕ → Type 0 = λ r z. IsTold test registers z (Some r) in
    let Q : List ℕ → Type 0 = λ z. IsTold test registers z None in
    if_ok_more _ _ c.list_rows.result (λ found h.
    match_more _ _ _ _ found
    (λ rows k. (k.0 test registers reads c.requires.reads same (λ row r l a. subst (P r) a.shows a.says.met), k.1))
    (λ why s. stop_at test registers _ _ why
    (λ many rows all. many test registers rows reads c.requires.reads same
    (λ row r l a. subst (P r) a.shows a.says.met) all)
    (λ gave. (gave.0, subst Q gave.1.shows gave.1.says.met)) s) h) c.list_rows.ensures
