-- The first line of a demo text, and its name.
use Rattle.std.proofs.Common.{◌≡◌, ◌∙◌, ℕ, zero, suc, ◌+◌, ◌%◌, ◌<◌, ◌^◌, ◌++◌, cond, true, false, All, List, [], ◌∷◌, length, refl, ap, arith, Some, None, Ok}
use Rattle.std.specs.Prelude.{codes, decimal, not, ◌==◌}
use Rattle.std.specs.Char.{is_ascii_graphic}
use Rattle.std.specs.List.{list_all, filter}
use Rattle.std.specs.Str.{IsAscii}
use Rattle.std.proofs.Math.Nat.{mod-lt}
use Rattle.std.proofs.lemmas.Bool.{and_parts, and_from}
use Rattle.std.proofs.lemmas.Bool.Decides.{nat_tests}
use Rattle.std.proofs.lemmas.List.Folds.{list_all-append}
use Rattle.std.proofs.lemmas.List.Splits.{slice_split_at}
use Rattle.std.proofs.lemmas.Fmt.{decimal_by_steps}
use Rattle.x86_subset.specs.Token.{is_blank, start, after_bytes}
use Rattle.litmus_reader.specs.Front.{rest_at, is_no_feed, words, is_x86, name_of, fed, named, first_line}
use Rattle.litmus_reader.proofs.FrontLaws.{first_only}
use Rattle.demo_text.specs.Demo.{demo_name}

-- ---- printed bytes

printed_no_blank : (b : ℕ) → is_ascii_graphic b ≡ true → is_blank b ≡ false
unfolding is_blank
printed_no_blank b h = grind (arith, nat_tests)

printed_no_feed : (b : ℕ) → is_ascii_graphic b ≡ true → is_no_feed b ≡ true
printed_no_feed b h = grind (arith, nat_tests)

printed_small : (b : ℕ) → is_ascii_graphic b ≡ true → b < 128
printed_small b h = grind (arith, nat_tests)

digit_printed : (d : ℕ) → d < 10 → is_ascii_graphic (48 + d) ≡ true
digit_printed d h = grind (arith, nat_tests)

no_blanks : (bs : List ℕ) → list_all is_ascii_graphic bs ≡ true → All (λ b. is_blank b ≡ false) bs
no_blanks [] h k d lt = absurd (omega arith)
no_blanks (b ∷ bs) h zero d lt = printed_no_blank b (and_parts _ _ h).0
no_blanks (b ∷ bs) h (suc k) d lt = no_blanks bs (and_parts _ _ h).1 k d (omega arith)

no_feeds : (bs : List ℕ) → list_all is_ascii_graphic bs ≡ true → list_all is_no_feed bs ≡ true
no_feeds [] h = refl
no_feeds (b ∷ bs) h = let parts = and_parts _ _ h in and_from _ _ (printed_no_feed b parts.0) (no_feeds bs parts.1)

pub printed_ascii : (bs : List ℕ) → list_all is_ascii_graphic bs ≡ true → IsAscii bs
printed_ascii [] h i = omega arith
printed_ascii (b ∷ bs) h zero = printed_small b (and_parts _ _ h).0
printed_ascii (b ∷ bs) h (suc i) = printed_ascii bs (and_parts _ _ h).1 i

-- ---- the name

decimal_printed : (k : ℕ) → k < 2 ^ 64 → list_all is_ascii_graphic (decimal k) ≡ true
decimal_printed =
    decimal_by_steps (λ n ds. list_all is_ascii_graphic ds ≡ true)
    (λ n h. and_from _ _ (digit_printed n h) refl)
    (λ n ds h more. list_all-append is_ascii_graphic ds ((48 + n % 10) ∷ [])
    ∙ and_from _ _ more (and_from _ _ (digit_printed (n % 10) (mod-lt n (omega arith))) refl))

pub name_printed : (k : ℕ) → k < 2 ^ 64 → list_all is_ascii_graphic (demo_name k) ≡ true
name_printed k h = decimal_printed k h

-- ---- the line

some_bytes : (b : ℕ) (bs : List ℕ) → (length (b ∷ bs) == 0) ≡ false
some_bytes b bs = grind (arith, nat_tests)

words_are : (b : ℕ) (bs : List ℕ) → list_all is_ascii_graphic (b ∷ bs) ≡ true
    → words (codes "X86 " ++ ((b ∷ bs) ++ 10 ∷ [])) ≡ codes "X86" ∷ (b ∷ bs) ∷ []
unfolding is_blank
words_are b bs h =
    ap (λ parts. filter (λ w. not (length w == 0)) (codes "X86" ∷ parts))
    (slice_split_at is_blank (b ∷ bs) 10 [] (no_blanks (b ∷ bs) h) refl)
    ∙ ap (λ v. codes "X86" ∷ cond (not v) ((b ∷ bs) ∷ []) []) (some_bytes b bs)

-- a first line with a printed name is read as that name
pub first_is : (b : ℕ) (bs rest : List ℕ) → list_all is_ascii_graphic (b ∷ bs) ≡ true
    → first_line (codes "X86 " ++ ((b ∷ bs) ++ 10 ∷ rest))
    ≡ Ok ((b ∷ bs), rest_at (after_bytes start (codes "X86 " ++ ((b ∷ bs) ++ 10 ∷ []))) rest)
first_is b bs rest h =
    first_only (codes "X86 " ++ ((b ∷ bs) ++ 10 ∷ rest))
    (named (codes "X86 " ++ ((b ∷ bs) ++ 10 ∷ [])) (fed (codes "X86 " ++ (b ∷ bs)) rest (no_feeds (b ∷ bs) h))
    (ap is_x86 (words_are b bs h))
    (ap name_of (words_are b bs h) ∙ ap (λ v. cond v (Some (b ∷ bs)) None) h))
