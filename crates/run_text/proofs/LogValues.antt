-- The numbers of a line, one by one.
use Rattle.std.proofs.Common.{◌≡◌, ◌≢◌, ℕ, ◌*◌, Option, None, Some, List, [], ◌∷◌, ◌++◌, cond, length, refl, ap, append-nil, append_assoc, eq-eqb, sym, ◌∙◌}
use Rattle.std.proofs.lemmas.Bool.{ne_eqb}
use Rattle.std.specs.Option.{option_and_then}
use Rattle.load_log.specs.Values.{Values}
use Rattle.run_text.specs.Logs.{as_log, in_front, numbers_of}
use Rattle.run_text.specs.Numbers.{large_number}

-- numbers after these
abbrev pub after : List ℕ → Option (List ℕ) → Option (List ℕ)
after done None = None
after done (Some vs) = Some (done ++ vs)

after_one : (done : List ℕ) (v : ℕ) (o : Option (List ℕ))
    → after done (in_front (Some v) o) ≡ after (done ++ v ∷ []) o
after_one done v None = refl
after_one done v (Some vs) = ap Some (sym (append_assoc done (v ∷ []) vs))

-- one number more
pub one_more : (done : List ℕ) (v : ℕ) (w : List ℕ) (ws words : List (List ℕ)) (all : Option (List ℕ))
    → Some v ≡ large_number w → words ≡ w ∷ ws → after done (numbers_of words) ≡ all
    → after (done ++ v ∷ []) (numbers_of ws) ≡ all
one_more done v w ws words all h e left =
    sym (after_one done v (numbers_of ws)) ∙ ap (λ o. after done (in_front o (numbers_of ws))) h
    ∙ ap (λ ws. after done (numbers_of ws)) (sym e) ∙ left

abbrev LogOf : ℕ → ℕ → Option (List ℕ) → Option Values
LogOf columns n all = option_and_then (as_log columns n) all

no_log : (columns n : ℕ) (vs : List ℕ) → length vs ≢ columns * n → as_log columns n vs ≡ None
no_log columns n vs ne =
    ap (λ b. cond b (Some (record { columns = columns; values = vs; spare = 0 })) None)
    (ne_eqb (length vs) (columns * n) ne)

-- a word that is no number
pub no_number : (columns n : ℕ) (done : List ℕ) (w : List ℕ) (ws words : List (List ℕ)) (all : Option (List ℕ))
    → None ≡ large_number w → words ≡ w ∷ ws → after done (numbers_of words) ≡ all → None ≡ LogOf columns n all
no_number columns n done w ws words all h e left =
    let none : all ≡ None = sym left ∙ ap (λ ws. after done (numbers_of ws)) e
    ∙ ap (λ o. after done (in_front o (numbers_of ws))) (sym h) in
    sym (ap (LogOf columns n) none)

ended : (done : List ℕ) (words : List (List ℕ)) (all : Option (List ℕ)) → words ≡ []
    → after done (numbers_of words) ≡ all → all ≡ Some done
ended done words all e left = sym left ∙ ap (λ ws. after done (numbers_of ws)) e ∙ ap Some (append-nil done)

-- exactly as many
pub exactly : (columns n : ℕ) (log : Values) (words : List (List ℕ)) (all : Option (List ℕ)) → log.columns ≡ columns
    → log.spare ≡ 0 → length log.values ≡ columns * n → words ≡ [] → after log.values (numbers_of words) ≡ all
    → Some log ≡ LogOf columns n all
exactly columns n log words all c s long e left =
    let made : log ≡ record { columns = columns; values = log.values; spare = 0 } = λ i. record {
      columns = c i;
      values = log.values;
      spare = s i;
    } in
    ap Some made
    ∙ sym (ap (λ b. cond b (Some (record { columns = columns; values = log.values; spare = 0 })) None)
    (eq-eqb (length log.values) (columns * n) long))
    ∙ sym (ap (LogOf columns n) (ended log.values words all e left))
