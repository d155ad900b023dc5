-- Where no option has a name, the words of a job are the number of iterations alone.
use Rattle.std.proofs.Common.{◌≡◌, ◌∙◌, ◌&&◌, ℕ, Bool, codes, true, false, refl, sym, ap, List, [], ◌∷◌, Option, Some, None, option_map, if◌then◌else◌}
use Rattle.std.specs.Prelude.{option_and_then}
use Rattle.std.proofs.lemmas.Bool.{eqb-true}
use Rattle.perp_base.specs.declared.options.Options.{Options}
use Rattle.command_words.specs.Job.{Asked}
use Rattle.command_words.specs.declared.job.Count.TheVariants.{Exhaustive}
use Rattle.command_words.specs.Words.{Given, Text, given_by, is_hyphenated, is_number, is_option, is_once, iterations_in, job_in, job_of, number_within, value_given, with_given}

last_false : (x y : Bool) → (x && (y && false)) ≡ false
last_false true true = refl
last_false true false = refl
last_false false y = refl

-- a number does not begin with a hyphen
pub no_number : (word : Text) → is_hyphenated word ≡ true → is_number word ≡ false
no_number [] hyphenated = refl
no_number (b ∷ bs) hyphenated = rw (eqb-true b 45 hyphenated) (last_false _ _)

no_iterations : (word : Text) → is_hyphenated word ≡ true → number_within 1 100000 word ≡ None
no_iterations word hyphenated = rw (no_number word hyphenated) refl

-- without names an option gives nothing
given_hyphenated : (word : Text) (rest : List Text) → is_hyphenated word ≡ true → given_by [] None (word ∷ rest) ≡ None
given_hyphenated word rest hyphenated = rw hyphenated (go (is_option word))
  where
    go : (b : Bool) → ◌≡◌ {A = Option (List Given)} (if b then None else None) None
    go true = refl
    go false = refl

given_plain : (word : Text) (rest : List Text) → is_hyphenated word ≡ false
    → given_by [] None (word ∷ rest) ≡ with_given (codes "N") word (given_by [] None rest)
given_plain word rest plain = rw plain refl

abbrev its_iterations : Option Asked → Option ℕ
its_iterations job = option_map (λ (j : Asked). j.options.iterations) job

abbrev usual : ℕ → Options
usual n = record { iterations = n; seed = 0; rate = 64; buffer = 8 }

abbrev with_usual : Options → Asked
with_usual options = record { options = options; count = Exhaustive; cut = 4096; order = None }

of_usual : (o : Option ℕ)
    → its_iterations (option_and_then (λ options. Some (with_usual options))
    (option_and_then (λ n. Some (usual n)) o)) ≡ o
of_usual None = refl
of_usual (Some n) = refl

one_word : (word : Text) (hyphenated : Bool) → is_hyphenated word ≡ hyphenated
    → its_iterations (job_in [] (word ∷ [])) ≡ number_within 1 100000 word
one_word word true is = rw (given_hyphenated word [] is) (sym (no_iterations word is))
one_word word false is = rw (given_plain word [] is) (of_usual (number_within 1 100000 word))

-- two numbers of iterations are too many
twice : (first second : Text) (more : Option (List Given))
    → option_and_then (λ gs. job_of (value_given gs)) (option_and_then (λ gs. if is_once gs then Some gs else None)
    (with_given (codes "N") first (with_given (codes "N") second more))) ≡ None
twice first second None = refl
twice first second (Some gs) = refl

two_words : (first second : Text) (rest : List Text) (one other : Bool) → is_hyphenated first ≡ one
    → is_hyphenated second ≡ other
    → job_in [] (first ∷ second ∷ rest) ≡ None
two_words first second rest true other is and_is = rw (given_hyphenated first (second ∷ rest) is) refl
two_words first second rest false true is and_is =
    rw (given_plain first (second ∷ rest) is) (rw (given_hyphenated second rest and_is) refl)
two_words first second rest false false is and_is =
    rw (given_plain first (second ∷ rest) is) (rw (given_plain second rest and_is)
    (twice first second (given_by [] None rest)))

job_alone : (words : List Text) → its_iterations (job_in [] words) ≡ iterations_in words
job_alone [] = refl
job_alone (word ∷ []) = one_word word (is_hyphenated word) refl
job_alone (first ∷ second ∷ rest) =
    ap its_iterations (two_words first second rest (is_hyphenated first) (is_hyphenated second) refl refl)

pub iterations_some : (words : List Text) (job : Asked) → job_in [] words ≡ Some job
    → iterations_in words ≡ Some job.options.iterations
iterations_some words job is = sym (job_alone words) ∙ ap its_iterations is
