-- The lines of a text that is put together of lines.
use Rattle.std.proofs.Common.{◌≡◌, ℕ, zero, suc, ◌<◌, ◌==◌, Bool, true, false, cond, List, [], ◌∷◌, ◌++◌, drop, get_or, length, map, take, refl, sym, ap, ◌∙◌, append-nil, arith, drop-cons}
use Rattle.std.proofs.lemmas.Bool.{and_parts, eqb-true}
use Rattle.std.specs.List.{concat, flat_map, list_all, onto_first}
use Rattle.litmus_reader.specs.Front.{is_no_feed}
use Rattle.run_text.specs.Lines.{lines_of}

-- what a byte in front adds to the lines
with_byte : (b : ℕ) (bs : List ℕ) → (b == 10) ≡ false → lines_of (b ∷ bs) ≡ onto_first b (lines_of bs)
with_byte b bs e = ap (λ v. cond v ((10 ∷ []) ∷ lines_of bs) (onto_first b (lines_of bs))) e

with_feed : (b : ℕ) (bs : List ℕ) → (b == 10) ≡ true → lines_of (b ∷ bs) ≡ (10 ∷ []) ∷ lines_of bs
with_feed b bs e = ap (λ v. cond v ((10 ∷ []) ∷ lines_of bs) (onto_first b (lines_of bs))) e

-- the lines of a text, put together
pub lines_together : (text : List ℕ) → concat (lines_of text) ≡ text
lines_together [] = refl
lines_together (b ∷ bs) = by_byte (lines_together bs) (b == 10) refl
  where
    onto : (ls : List (List ℕ)) → concat (onto_first b ls) ≡ b ∷ concat ls
    onto [] = refl
    onto (l ∷ ls) = refl

    by_byte : concat (lines_of bs) ≡ bs → (v : Bool) → (b == 10) ≡ v → concat (lines_of (b ∷ bs)) ≡ b ∷ bs
    by_byte h true e = ap concat (with_feed b bs e) ∙ ap (λ x. 10 ∷ x) h ∙ ap (λ x. x ∷ bs) (sym (eqb-true b 10 e))
    by_byte h false e = ap concat (with_byte b bs e) ∙ onto (lines_of bs) ∙ ap (λ x. b ∷ x) h

-- The lines at the front of a text, put together, have those lines; and so have those after them.

abbrev Cuts : List (List ℕ) → Type 0
Cuts ls = lines_of (concat ls) ≡ ls

take_onto : (b k : ℕ) (ls : List (List ℕ)) → (b == 10) ≡ false → Cuts (take k ls) → Cuts (take k (onto_first b ls))
take_onto b zero ls e h = refl
take_onto b (suc zero) [] e h = with_byte b [] e
take_onto b (suc (suc k)) [] e h = with_byte b [] e
take_onto b (suc k) (l ∷ ls) e h = with_byte b (l ++ concat (take k ls)) e ∙ ap (onto_first b) h

pub front_cuts : (text : List ℕ) (k : ℕ) → Cuts (take k (lines_of text))
front_cuts [] zero = refl
front_cuts [] (suc k) = refl
front_cuts (b ∷ bs) k = by_byte (λ n. front_cuts bs n) (b == 10) refl k
  where
    feed : ((n : ℕ) → Cuts (take n (lines_of bs))) → (k : ℕ) → Cuts (take k ((10 ∷ []) ∷ lines_of bs))
    feed h zero = refl
    feed h (suc k) = ap (λ ls. (10 ∷ []) ∷ ls) (h k)

    by_byte : ((n : ℕ) → Cuts (take n (lines_of bs))) → (v : Bool) → (b == 10) ≡ v → (k : ℕ)
        → Cuts (take k (lines_of (b ∷ bs)))
    by_byte h true e k =
        ap (λ ls. lines_of (concat (take k ls))) (with_feed b bs e) ∙ feed h k ∙ ap (take k) (sym (with_feed b bs e))
    by_byte h false e k =
        ap (λ ls. lines_of (concat (take k ls))) (with_byte b bs e) ∙ take_onto b k (lines_of bs) e (h k)
        ∙ ap (take k) (sym (with_byte b bs e))

whole_cuts : (text : List ℕ) → Cuts (lines_of text)
whole_cuts text = ap lines_of (lines_together text)

no_cuts : (k : ℕ) → Cuts (drop k [])
no_cuts zero = refl
no_cuts (suc k) = refl

pub rest_cuts : (text : List ℕ) (k : ℕ) → Cuts (drop k (lines_of text))
rest_cuts text zero = whole_cuts text
rest_cuts [] (suc k) = refl
rest_cuts (b ∷ bs) (suc k) = by_byte (rest_cuts bs k) (rest_cuts bs (suc k)) (b == 10) refl
  where
    onto : (ls : List (List ℕ)) → Cuts (drop (suc k) ls) → Cuts (drop (suc k) (onto_first b ls))
    onto [] h = no_cuts k
    onto (l ∷ ls) h = h

    by_byte : Cuts (drop k (lines_of bs)) → Cuts (drop (suc k) (lines_of bs)) → (v : Bool) → (b == 10) ≡ v
        → Cuts (drop (suc k) (lines_of (b ∷ bs)))
    by_byte h more true e =
        ap (λ ls. lines_of (concat (drop (suc k) ls))) (with_feed b bs e) ∙ h
        ∙ ap (drop (suc k)) (sym (with_feed b bs e))
    by_byte h more false e =
        ap (λ ls. lines_of (concat (drop (suc k) ls))) (with_byte b bs e) ∙ onto (lines_of bs) more
        ∙ ap (drop (suc k)) (sym (with_byte b bs e))

-- each line is one
pub line_cuts : (text : List ℕ) (k : ℕ) → k < length (lines_of text)
    → lines_of (get_or (lines_of text) k []) ≡ get_or (lines_of text) k [] ∷ []
line_cuts text k lt =
    let ls = lines_of text in
    let l = get_or ls k [] in
    let from : drop k ls ≡ l ∷ drop (suc k) ls = drop-cons ls k [] lt in
    let here : lines_of (concat (drop k ls)) ≡ l ∷ drop (suc k) ls = rest_cuts text k ∙ from in
    sym (ap lines_of (append-nil l)) ∙ ap (λ m. lines_of (concat (take 1 m))) (sym here)
    ∙ front_cuts (concat (drop k ls)) 1 ∙ ap (take 1) here

-- A text that ends with a line feed, and one after it.

onto_more : (b : ℕ) (ls more : List (List ℕ)) → 0 < length ls → onto_first b (ls ++ more) ≡ onto_first b ls ++ more
onto_more b [] more h = absurd (omega arith)
onto_more b (l ∷ ls) more h = refl

some_line : (front : List ℕ) → 0 < length (lines_of (front ++ 10 ∷ []))
some_line [] = omega arith
some_line (b ∷ bs) = by_byte (b == 10)
  where
    onto : (ls : List (List ℕ)) → 0 < length (onto_first b ls)
    onto [] = omega arith
    onto (l ∷ ls) = omega arith

    by_byte : (v : Bool)
        → 0 < length (cond v ((10 ∷ []) ∷ lines_of (bs ++ 10 ∷ [])) (onto_first b (lines_of (bs ++ 10 ∷ []))))
    by_byte true = omega arith
    by_byte false = onto (lines_of (bs ++ 10 ∷ []))

pub lines_after : (front rest : List ℕ)
    → lines_of ((front ++ 10 ∷ []) ++ rest) ≡ lines_of (front ++ 10 ∷ []) ++ lines_of rest
lines_after [] rest = refl
lines_after (b ∷ bs) rest = by_byte (lines_after bs rest) (b == 10) refl
  where
    by_byte : lines_of ((bs ++ 10 ∷ []) ++ rest) ≡ lines_of (bs ++ 10 ∷ []) ++ lines_of rest
        → (v : Bool) → (b == 10) ≡ v
        → lines_of (b ∷ ((bs ++ 10 ∷ []) ++ rest)) ≡ lines_of (b ∷ (bs ++ 10 ∷ [])) ++ lines_of rest
    by_byte h true e =
        with_feed b ((bs ++ 10 ∷ []) ++ rest) e ∙ ap (λ ls. (10 ∷ []) ∷ ls) h
        ∙ ap (λ ls. ls ++ lines_of rest) (sym (with_feed b (bs ++ 10 ∷ []) e))
    by_byte h false e =
        with_byte b ((bs ++ 10 ∷ []) ++ rest) e ∙ ap (onto_first b) h
        ∙ onto_more b (lines_of (bs ++ 10 ∷ [])) (lines_of rest) (some_line bs)
        ∙ ap (λ ls. ls ++ lines_of rest) (sym (with_byte b (bs ++ 10 ∷ []) e))

-- A text that is one line with its line feed.

abbrev pub IsFed : List ℕ → Type 0
IsFed line = (rest : List ℕ) → lines_of (line ++ rest) ≡ line ∷ lines_of rest

pub after_plain : (front line : List ℕ) → list_all is_no_feed front ≡ true → IsFed line → IsFed (front ++ line)
after_plain [] line h f rest = f rest
after_plain (b ∷ bs) line h f rest =
    let p = and_parts (is_no_feed b) (list_all is_no_feed bs) h in
    with_byte b ((bs ++ line) ++ rest) (no_feed (b == 10) p.0) ∙ ap (onto_first b) (after_plain bs line p.1 f rest)
  where
    no_feed : (v : Bool) → cond v false true ≡ true → v ≡ false
    no_feed true e = cc
    no_feed false e = refl

pub fed_lines : {X : Type 0} (line : X → List ℕ) (xs : List X)
    → ((x : X) (k : ℕ) → k < length xs → IsFed (line (get_or xs k x))) → lines_of (flat_map line xs) ≡ map line xs
fed_lines line [] h = refl
fed_lines line (x ∷ xs) h =
    h x 0 (omega arith) (flat_map line xs)
    ∙ ap (λ ls. line x ∷ ls) (fed_lines line xs (λ y k lt. h y (suc k) (omega arith)))
