-- What lines say, after what the lines in front of them said.
use Rattle.std.proofs.Common.{◌≡◌, ℕ, Option, None, Some, List, [], ◌∷◌, ◌++◌, Result, Ok, Err, refl, sym, ap, append_assoc}
use Rattle.run_text.specs.Lines.{unless_refused}

-- what later lines say, after these
abbrev pub onto_all : {X : Type 0} → List X → Result (List X) ℕ → Result (List X) ℕ
onto_all done (Ok more) = Ok (done ++ more)
onto_all done (Err bad) = Err bad

pub onto_none : {X : Type 0} (r : Result (List X) ℕ) → onto_all [] r ≡ r
onto_none (Ok more) = refl
onto_none (Err bad) = refl

pub onto_one : {X : Type 0} (done : List X) (x : X) (r : Result (List X) ℕ)
    → onto_all done (onto_all (x ∷ []) r) ≡ onto_all (done ++ x ∷ []) r
onto_one done x (Ok more) = ap Ok (sym (append_assoc done (x ∷ []) more))
onto_one done x (Err bad) = refl

pub one_first : {X : Type 0} (o : Option ℕ) (x : X) (xs : List X)
    → unless_refused o (x ∷ xs) ≡ onto_all (x ∷ []) (unless_refused o xs)
one_first None x xs = refl
one_first (Some line) x xs = refl
