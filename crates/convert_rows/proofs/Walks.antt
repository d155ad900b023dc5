-- Lemmas on rows that are made by a walk over a test.
use Rattle.std.proofs.Common.{◌≡◌, ◌∙◌, ℕ, zero, suc, ◌+◌, ◌<◌, true, Option, None, Some, List, [], ◌∷◌, ◌++◌, length, map, take, drop, slice_get, unwrap_or, All, sym, ap, subst, arith, append_assoc, eq-eqb}
use Rattle.std.proofs.Math.Seq.{take-suc}
use Rattle.std.proofs.lemmas.List.{map-append}
use Rattle.std.proofs.lemmas.List.Elements.{All-from_recursion, recursion_from_All}
use Rattle.std.proofs.lemmas.Option.{get_or_from_slice_get, slice_get_within}
use Rattle.std.proofs.lemmas.Str.Ascii.{IsAscii-nil}
use Rattle.std.specs.List.{AllByRecursion as Each}
use Rattle.std.specs.Option.{option_map_or}
use Rattle.std.specs.Str.{IsAscii}
use Rattle.x86_subset.specs.Instr.{is_store_to}
use Rattle.x86_subset.specs.Test.{Code, LitmusTest, body_of}
use Rattle.x86_subset.specs.declared.instr.Instr.{Instr}
use Rattle.x86_subset.specs.declared.instr.Instr.TheVariants.{Store, Load, Fence, Exchange}
use Rattle.seq_conv.specs.declared.site.Site.{Site}
use Rattle.perp_base.proofs.Lists.{each_append}
use Rattle.seq_conv.proofs.Numbering.{next_item}
use Rattle.convert_rows.specs.Rows.{location_written, name_of, row_by, rows_in_bodies, rows_in_body}

-- one image more
pub map_more : {X Y : Type 0} (f : X → Y) (xs : List X) (i : ℕ) (x : X) (ys zs : List Y) (y : Y)
    → slice_get xs i ≡ Some x → zs ≡ ys ++ y ∷ [] → y ≡ f x →
    ys ≡ map f (take i xs) → zs ≡ map f (take (i + 1) xs)
map_more f xs i x ys zs y at e g h =
    let lt = slice_get_within xs i x at in
    let here = get_or_from_slice_get xs i x x at in
    let one : i + 1 ≡ suc i = omega arith in
    let whole : take (i + 1) xs ≡ take i xs ++ x ∷ [] = ap (λ n. take n xs) one ∙ take-suc xs i x lt
    ∙ ap (λ z. take i xs ++ z ∷ []) here in
    e ∙ ap (λ l. l ++ y ∷ []) h ∙ ap (λ z. map f (take i xs) ++ z ∷ []) g ∙ sym (map-append f (take i xs) (x ∷ []))
    ∙ ap (map f) (sym whole)

-- the rows of one thread more
pub thread_more : {X : Type 0} (rows : Site → Instr → List X) (test : LitmusTest) (t : ℕ) (old new whole : List X)
    → t < length test.bodies →
    new ≡ old ++ rows_in_body rows t 0 (body_of test t) → old ++ rows_in_bodies rows t (drop t test.bodies) ≡ whole →
    new ++ rows_in_bodies rows (t + 1) (drop (t + 1) test.bodies) ≡ whole
thread_more rows test t old new whole lt e w =
    let s = next_item test.bodies t lt in
    let b : body_of test t ≡ s.here.actions = ap (λ o. option_map_or (λ (code : Code). code.actions) o []) s.at in
    let left = rows_in_bodies rows (t + 1) (drop (t + 1) test.bodies) in
    ap (λ l. l ++ left) e ∙ ap (λ l. (old ++ rows_in_body rows t 0 l) ++ left) b
    ∙ append_assoc old (rows_in_body rows t 0 s.here.actions) left
    ∙ ap (λ l. old ++ rows_in_bodies rows t l) (sym s.cut) ∙ w

-- what writes to x is a store to it
pub written_store : (action : Instr) (x : ℕ) → location_written action ≡ Some x → is_store_to x action ≡ true
written_store (Store loc written) x e = let same : loc ≡ x = cc in eq-eqb loc x same
written_store (Load reg loc) x e = cc
written_store Fence x e = cc
written_store (Exchange loc written reg) x e = let same : loc ≡ x = cc in eq-eqb loc x same

-- What holds of each row.

row_holds : {X : Type 0} (P : X → Type 0) (row : ℕ → X) (o : Option ℕ) → ((x : ℕ) → P (row x)) → Each P (row_by row o)
row_holds P row None h = tt
row_holds P row (Some x) h = (h x, tt)

body_holds : {X : Type 0} (P : X → Type 0) (rows : Site → Instr → List X) (t p : ℕ) (body : List Instr)
    → ((s : Site) (a : Instr) → Each P (rows s a)) →
    Each P (rows_in_body rows t p body)
body_holds P rows t p [] h = tt
body_holds P rows t p (a ∷ body) h =
    each_append P (rows (record { thread = t; place = p }) a) (rows_in_body rows t (p + 1) body)
    (h (record { thread = t; place = p }) a) (body_holds P rows t (p + 1) body h)

bodies_hold : {X : Type 0} (P : X → Type 0) (rows : Site → Instr → List X) (t : ℕ) (codes : List Code)
    → ((s : Site) (a : Instr) → Each P (rows s a)) →
    Each P (rows_in_bodies rows t codes)
bodies_hold P rows t [] h = tt
bodies_hold P rows t (code ∷ codes) h =
    each_append P (rows_in_body rows t 0 code.actions) (rows_in_bodies rows (t + 1) codes)
    (body_holds P rows t 0 code.actions h) (bodies_hold P rows (t + 1) codes h)

name_by : (names : List (List ℕ)) (x : ℕ) → Each IsAscii names → IsAscii (unwrap_or (slice_get names x) [])
name_by [] x h = IsAscii-nil
name_by (name ∷ names) zero h = h.0
name_by (name ∷ names) (suc x) h = name_by names x h.1

ascii_name : (test : LitmusTest) (x : ℕ) → All IsAscii test.locations → IsAscii (name_of test x)
ascii_name test x h = name_by test.locations x (recursion_from_All IsAscii test.locations h)

-- rows whose location is this field of theirs, of a test that is this one
pub ascii_rows : {X : Type 0} (loc : X → List ℕ) (row : LitmusTest → Site → ℕ → X) (at : Instr → Option ℕ)
    (rows : List X) (same test : LitmusTest) → ((s : Site) (x : ℕ) → loc (row test s x) ≡ name_of test x)
    → rows ≡ rows_in_bodies (λ s a. row_by (row same s) (at a)) 0 same.bodies
    → same ≡ test → All IsAscii test.locations → All (λ y. IsAscii (loc y)) rows
ascii_rows loc row at rows same test named r e h =
    subst (All (λ y. IsAscii (loc y)))
    (sym (r ∙ ap (λ (t : LitmusTest). rows_in_bodies (λ s a. row_by (row t s) (at a)) 0 t.bodies) e))
    (All-from_recursion (λ y. IsAscii (loc y)) (rows_in_bodies (λ s a. row_by (row test s) (at a)) 0 test.bodies)
    (bodies_hold (λ y. IsAscii (loc y)) (λ s a. row_by (row test s) (at a)) 0 test.bodies
    (λ s a. row_holds (λ y. IsAscii (loc y)) (row test s) (at a)
    (λ x. subst IsAscii (sym (named s x)) (ascii_name test x h)))))
