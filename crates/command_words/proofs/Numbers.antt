-- What std's `parse` gives of a text of digits.
use Rattle.std.proofs.Common.{◌≡◌, ◌<◌, ◌^◌, ℕ, Bool, true, false, refl, ap, rules, List, length, nat_lt, Some, None, Result, Ok, Err, ltb-true, lt-ltb}
use Rattle.std.specs.Char.{is_ascii_digit}
use Rattle.std.specs.List.{list_all}
use Rattle.std.specs.Result.{OkIff, result_ok}
use Rattle.std.specs.Str.Parse.{ParsesUnsigned, digits_value}
use Rattle.std.proofs.lemmas.Bool.{and_parts}
use Rattle.std.proofs.lemmas.Str.Parse.{IsNumeralModel, numerals_by_value, parse_digits}
use Rattle.command_words.specs.Words.{is_number, number_of}

own : IsNumeralModel (λ ds. list_all is_ascii_digit ds ≡ true) (digits_value 10)
own = numerals_by_value _ (search rules)

given_back : {E : Type 0} (r : Result ℕ E) (text : List ℕ) → is_number text ≡ true → 0 < length text
    → OkIff r ((0 < length text) × (digits_value 10 text < 2 ^ 64)) (digits_value 10 text)
    → result_ok r ≡ number_of text
given_back (Ok n) text is some h =
    let fits : nat_lt (digits_value 10 text) (2 ^ 64) ≡ true = lt-ltb _ _ h.0.1 in
    rw (is, fits) (ap Some h.1)
given_back (Err e) text is some h = go (nat_lt (digits_value 10 text) (2 ^ 64)) refl
  where
    go : (b : Bool) → nat_lt (digits_value 10 text) (2 ^ 64) ≡ b → None ≡ number_of text
    go true fits = absurd (h (some, ltb-true _ _ fits))
    go false fits = rw (is, fits) refl

-- a text of 1 to 20 digits parses as its number, where 64 bits hold it
pub parse-number : {E : Type 0} (r : Result ℕ E) (text : List ℕ) → is_number text ≡ true → ParsesUnsigned 64 10 text r
    → result_ok r ≡ number_of text
parse-number r text is h =
    let parts = and_parts _ _ is in
    let digits = (and_parts _ _ parts.1).1 in
    given_back r text is (ltb-true _ _ parts.0) (parse_digits own 64 text r h digits)
