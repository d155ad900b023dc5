-- What a source that tells its bytes gave, and what a sink that tells them got.
use Rattle.std.proofs.Common.{◌≡◌, ℕ, ◌+◌, ◌<◌, ◌≤◌, List, ◌++◌, length, drop, Some, None, sym, ap, subst, ◌∙◌, append-nil, arith}
use Rattle.std.specs.declared.option.Option.{Option}
use Rattle.std.specs.Io.KnownBytes.{Appends}
use Rattle.perp_base.specs.Bytes.{GaveAll, IsOver}

-- a source that tells its bytes gave them
pub given_bytes : (old new : Option (List ℕ)) (bytes given : List ℕ) → old ≡ Some bytes → GaveAll old new given
    → given ≡ bytes
given_bytes None new bytes given told gave = absurd (cc)
given_bytes (Some left) None bytes given told gave = absurd gave.given
given_bytes (Some left) (Some rest) bytes given told gave =
    let same : left ≡ bytes = cc in
    sym (append-nil given) ∙ ap (λ l. given ++ l) (sym gave.ended) ∙ sym gave.given ∙ same

-- and where it was over the limit it had more of them
pub over_is_long : (old new : Option (List ℕ)) (bytes : List ℕ) (limit : ℕ) → old ≡ Some bytes → IsOver old new limit
    → limit < length bytes
over_is_long None new bytes limit told over = absurd (cc)
over_is_long (Some left) new bytes limit told over =
    let same : left ≡ bytes = cc in subst (λ xs. limit < length xs) same over.0

-- of which it gave one more than the limit
pub dropped_is : (old new : Option (List ℕ)) (text : List ℕ) (limit : ℕ) → old ≡ Some text → IsOver old new limit
    → new ≡ Some (drop (limit + 1) text)
dropped_is None new text limit told over = absurd (cc)
dropped_is (Some left) new text limit told over =
    let same : left ≡ text = cc in
    over.1 ∙ ap (λ xs. Some (drop (limit + 1) xs)) same

-- a sink that tells its bytes has these more
pub appended_is : (old new : Option (List ℕ)) (before text : List ℕ) → old ≡ Some before → Appends old new text
    → new ≡ Some (before ++ text)
appended_is None new before text told appends = absurd (cc)
appended_is (Some held) None before text told appends = absurd appends
appended_is (Some held) (Some now) before text told appends =
    let same : held ≡ before = cc in
    ap Some (appends ∙ ap (λ l. l ++ text) same)

-- a source that is over a limit has no text within it
pub over_is_not_within : (old new : Option (List ℕ)) (text : List ℕ) (limit : ℕ) → old ≡ Some text
    → IsOver old new limit → length text ≤ limit → ⊥
over_is_not_within old new text limit told over within =
    let long : limit < length text = over_is_long old new text limit told over in omega arith

-- and what was taken within it is no longer text
pub long_is_not_given : (old new : Option (List ℕ)) (text given : List ℕ) (limit : ℕ) → old ≡ Some text
    → limit < length text → GaveAll old new given
    → length given ≤ limit → ⊥
long_is_not_given old new text given limit told long gave within =
    let short : length text ≤ limit = subst (λ xs. length xs ≤ limit)
    (given_bytes old new text given told gave) within in
    omega arith
