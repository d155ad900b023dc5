-- The words of a text that is put together by blanks, and the numbers among them.
use Rattle.std.proofs.Common.{◌≡◌, ℕ, ◌^◌, ◌<◌, ◌≤◌, ◌==◌, Bool, true, false, not, Some, List, [], ◌∷◌, ◌++◌, All, decimal, filter, length, refl, ap, ◌∙◌, arith, le-leb, lt-ltb}
use Rattle.std.proofs.lemmas.Bool.{and_from, ne_eqb, not-true}
use Rattle.std.proofs.lemmas.Fmt.{decimal_is_IsNumeral, decimal_nonempty, length-decimal-le}
use Rattle.std.proofs.lemmas.List.Elements.{All-weaker}
use Rattle.std.proofs.lemmas.List.Splits.{slice_split_at}
use Rattle.std.proofs.lemmas.List.Sums.{AllPass-from_list_all}
use Rattle.std.proofs.lemmas.Str.Parse.{digit_from_value}
use Rattle.std.specs.Char.{is_ascii_digit}
use Rattle.std.specs.List.{list_all, slice_split}
use Rattle.std.specs.Str.Parse.{AllDigits}
use Rattle.x86_subset.specs.Token.{is_blank}
use Rattle.litmus_reader.specs.Front.{words}
use Rattle.run_text.specs.Numbers.{large_number, number_up_to, small_number}
use Rattle.run_text.proofs.FirstWord.{is_word_byte, kept}

-- a word: some bytes, none of which is a blank
pub record IsWord (w : List ℕ) : Type 0 where
  pub some : 0 < length w
  pub plain : list_all is_word_byte w ≡ true

pub is_word : (b : ℕ) (bs : List ℕ) → list_all is_word_byte (b ∷ bs) ≡ true → IsWord (b ∷ bs)
is_word b bs h = record { some = omega arith; plain = h }

-- a word in front of a blank
pub cut : (w : List ℕ) (b : ℕ) (rest : List ℕ) → IsWord w → is_blank b ≡ true → words (w ++ b ∷ rest) ≡ w ∷ words rest
cut w b rest h e =
    let pass = AllPass-from_list_all is_word_byte w h.plain in
    let plain : All (λ x. is_blank x ≡ false) w =
    All-weaker (λ x. is_word_byte x ≡ true) (λ x. is_blank x ≡ false) (λ x p. not-true (is_blank x) p) w pass in
    ap (filter (λ v. not (length v == 0))) (slice_split_at is_blank w b rest plain e)
    ∙ kept w (slice_split is_blank rest) h.some

-- what holds of each digit holds of the bytes of a decimal
pub by_digits : (p : ℕ → Bool) → ((c : ℕ) → 48 ≤ c → c ≤ 57 → p c ≡ true) → (ds : List ℕ) → AllDigits 10 ds
    → list_all p ds ≡ true
by_digits p h [] d = refl
by_digits p h (c ∷ cs) d =
    let r = digit_from_value c d.0 in
    and_from (p c) (list_all p cs) (h c r.0 r.1) (by_digits p h cs d.1)

digit_is_word : (c : ℕ) → 48 ≤ c → c ≤ 57 → is_word_byte c ≡ true
unfolding is_blank
digit_is_word c h k =
    let other : (b : ℕ) → b < 48 → (c == b) ≡ false = λ b l. ne_eqb c b (λ e. absurd (omega arith)) in
    rw (other 32 (omega arith), other 9 (omega arith), other 13 (omega arith), other 10 (omega arith)) refl

digit_is_digit : (c : ℕ) → 48 ≤ c → c ≤ 57 → is_ascii_digit c ≡ true
digit_is_digit c h k = rw (le-leb 48 c h, le-leb c 57 k) refl

pub decimal_is_word : (n : ℕ) → n < 2 ^ 64 → IsWord (decimal n)
decimal_is_word n h = record {
  some = decimal_nonempty n h;
  plain = by_digits is_word_byte digit_is_word (decimal n) (decimal_is_IsNumeral n h).0.1;
}

-- a decimal is read as its number
pub number_back : (most n : ℕ) → n ≤ most → n < 2 ^ 64 → number_up_to most (decimal n) ≡ Some n
number_back most n h k =
    let digits : list_all is_ascii_digit (decimal n) ≡ true =
    by_digits is_ascii_digit digit_is_digit (decimal n) (decimal_is_IsNumeral n k).0.1 in
    let value = (decimal_is_IsNumeral n k).1 in
    let some = decimal_nonempty n k in
    let short = length-decimal-le 20 n (omega arith) (omega arith) k in
    let long = length (decimal n) in
    rw (lt-ltb 0 long some, le-leb long 20 short, digits, value, lt-ltb n (2 ^ 64) k, le-leb n most h) refl

-- a number of 32 bits has 64
pub wide : (n : ℕ) → n < 2 ^ 32 → n < 2 ^ 64
wide n h = omega arith

pub small_back : (n : ℕ) → n < 2 ^ 32 → small_number (decimal n) ≡ Some n
small_back n h = number_back 4294967295 n (omega arith) (wide n h)

pub large_back : (n : ℕ) → n < 2 ^ 64 → large_number (decimal n) ≡ Some n
large_back n h = number_back 18446744073709551615 n (omega arith) h
