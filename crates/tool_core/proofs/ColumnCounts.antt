-- How many columns the logs of a test have.
use Rattle.std.proofs.Common.{◌≡◌, ℕ, ◌+◌, ◌≤◌, All, List, [], ◌∷◌, ◌++◌, length, map, sym, ap, subst, ◌∙◌, arith}
use Rattle.std.specs.List.{range_with_len}
use Rattle.std.proofs.lemmas.List.Elements.{All-push}
use Rattle.std.proofs.lemmas.List.FromFn.{map-range_with_len_more}
use Rattle.std.proofs.lemmas.List.Sums.{count_by-le-length}
use Rattle.x86_subset.specs.Instr.{is_reading}
use Rattle.x86_subset.specs.Shape.{IsTest}
use Rattle.x86_subset.specs.Test.{LitmusTest, body_of, columns_of}
use Rattle.perp_base.specs.declared.limits.TheConstants.{MOST_ACTIONS}
use Rattle.seq_conv.proofs.Numbering.{body_short}

few_columns : (test : LitmusTest) (t : ℕ) → IsTest test → columns_of test t ≤ MOST_ACTIONS
few_columns test t is =
    let short : length (body_of test t) ≤ 16 = body_short test t is in
    let less = count_by-le-length is_reading (body_of test t) in
    omega arith

pub columns_more : (test : LitmusTest) (t column : ℕ) (old new : List ℕ) → new ≡ old ++ column ∷ []
    → column ≡ columns_of test t
    → old ≡ map (columns_of test) (range_with_len 0 t) → new ≡ map (columns_of test) (range_with_len 0 (t + 1))
columns_more test t column old new e is before =
    e ∙ ap (λ k. old ++ k ∷ []) is ∙ ap (λ l. l ++ columns_of test t ∷ []) before
    ∙ sym (map-range_with_len_more (columns_of test) 0 t t (omega arith))

pub few_more : (test : LitmusTest) (t column : ℕ) (old new : List ℕ) → IsTest test → new ≡ old ++ column ∷ []
    → column ≡ columns_of test t
    → All (λ c. c ≤ MOST_ACTIONS) old → All (λ c. c ≤ MOST_ACTIONS) new
few_more test t column old new test_is e is few =
    subst (All (λ c. c ≤ MOST_ACTIONS)) (sym e) (All-push (λ c. c ≤ MOST_ACTIONS) old column few
    (subst (λ k. k ≤ MOST_ACTIONS) (sym is) (few_columns test t test_is)))
