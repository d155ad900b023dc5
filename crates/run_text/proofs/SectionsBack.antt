-- An input that has a section, and its parts.
use Rattle.std.proofs.Common.{◌≡◌, ℕ, ◌+◌, ◌<◌, true, false, cond, Option, None, Some, List, [], ◌∷◌, ◌++◌, All, drop, get_or, length, nat_lt, position, take, option_map, option_and_then, refl, sym, ap, ◌∙◌, subst, add-one, arith, drop-cons, get_or-take, length-append, length-take, lt-ltb, take-append-drop, take_at}
use Rattle.std.proofs.Math.ListN.{get_or-append}
use Rattle.std.proofs.Math.Seq.{drop-append-add, get_or-append_seam}
use Rattle.std.proofs.lemmas.List.Elements.{All-from_get_or, All-same}
use Rattle.std.proofs.lemmas.List.Folds.{concat-append}
use Rattle.std.proofs.lemmas.List.Quantifiers.{position-Some}
use Rattle.std.proofs.lemmas.List.Sums.{position_or_len_is}
use Rattle.std.specs.List.{concat, position_or_len}
use Rattle.litmus_reader.specs.Front.{words}
use Rattle.run_text.specs.Laws.{IsParted, SectionsPartInputs}
use Rattle.run_text.specs.Lines.{lines_of}
use Rattle.run_text.specs.Sections.{Split, is_section_line, iterations_of, parted, parted_at}
use Rattle.run_text.proofs.LinesBack.{front_cuts, line_cuts, lines_together, rest_cuts}

-- the lines in front of the first section line, it, and those after it
put_together : (lines : List (List ℕ)) (k : ℕ) → k < length lines
    → concat lines ≡ concat (take k lines) ++ (get_or lines k [] ++ concat (drop (k + 1) lines))
put_together lines k lt =
    let after : drop k lines ≡ get_or lines k [] ∷ drop (k + 1) lines =
    drop-cons lines k [] lt ∙ ap (λ m. get_or lines k [] ∷ drop m lines) (sym (add-one k)) in
    ap concat (sym (take-append-drop k lines)) ∙ concat-append (take k lines) (drop k lines)
    ∙ ap (λ ls. concat (take k lines) ++ concat ls) after

parted_so : (heading input : List ℕ) (k n : ℕ) → position (is_section_line heading) (lines_of input) ≡ Some k
    → iterations_of heading (words (get_or (lines_of input) k [])) ≡ Some n
    → IsParted heading input (parted_at (lines_of input) k n)
parted_so heading input k n e t =
    let lines = lines_of input in
    let f = position-Some (is_section_line heading) lines k [] e in
    let few : length (take k lines) ≡ k = length-take k lines ∙ (let l = f.0 in omega arith) in
    let front : lines_of (concat (take k lines)) ≡ take k lines = front_cuts input k in
    let plain : All (λ l. is_section_line heading l ≡ false) (take k lines) =
    All-from_get_or (λ l. is_section_line heading l ≡ false) (take k lines) [] (λ i lt.
    let here : get_or (take k lines) i [] ≡ get_or lines i [] = get_or-take k lines i [] (omega arith) in
    ap (is_section_line heading) here ∙ f.2 i (omega arith)) in
    record {
      section = get_or lines k [];
      whole = sym (lines_together input) ∙ put_together lines k f.0;
      one = line_cuts input k f.0;
      tells = t;
      first =
          All-same (λ l. is_section_line heading l ≡ false) (lines_of (concat (take k lines)))
          (take k lines) front plain;
      line = sym (ap (λ ls. length ls + 2) front ∙ ap (λ m. m + 2) few);
      lines = rest_cuts input (k + 1);
    }

by_line : (heading input : List ℕ) (s : Split) (k : ℕ) (n : Option ℕ)
    → position (is_section_line heading) (lines_of input) ≡ Some k
    → iterations_of heading (words (get_or (lines_of input) k [])) ≡ n
    → option_map (parted_at (lines_of input) k) n ≡ Some s → IsParted heading input s
by_line heading input s k None e t h = cc
by_line heading input s k (Some n) e t h =
    subst (IsParted heading input) (let same : parted_at (lines_of input) k n ≡ s = cc in same)
    (parted_so heading input k n e t)

by_place : (heading input : List ℕ) (s : Split) (o : Option ℕ) → position (is_section_line heading) (lines_of input) ≡ o
    → option_and_then (λ k. option_map (parted_at (lines_of input) k)
    (iterations_of heading (words (get_or (lines_of input) k [])))) o ≡ Some s → IsParted heading input s
by_place heading input s None e h = cc
by_place heading input s (Some k) e h =
    by_line heading input s k (iterations_of heading (words (get_or (lines_of input) k []))) e refl h

pub parts_of_input : SectionsPartInputs
parts_of_input heading input s h = by_place heading input s (position (is_section_line heading) (lines_of input)) refl h

-- lines of which this is the first section line
place_after : (heading : List ℕ) (front : List (List ℕ)) (l : List ℕ) (more : List (List ℕ))
    → All (λ m. is_section_line heading m ≡ false) front → is_section_line heading l ≡ true
    → position (is_section_line heading) (front ++ l ∷ more) ≡ Some (length front)
place_after heading front l more h e =
    let p = is_section_line heading in
    let all = front ++ l ∷ more in
    let long : length front < length all = omega (arith, length-append front (l ∷ more)) in
    let place : position_or_len p all ≡ length front = position_or_len_is p all (length front) [] (omega arith)
    (λ k lt. ap p (get_or-append front (l ∷ more) [] k lt) ∙ h k [] lt)
    (λ lt. ap p (get_or-append_seam front l more []) ∙ e) in
    ap (λ k. cond (nat_lt k (length all)) (Some k) None) place
    ∙ ap (λ b. cond b (Some (length front)) None) (lt-ltb (length front) (length all) long)

pub parted_here : (heading : List ℕ) (front : List (List ℕ)) (l : List ℕ) (more : List (List ℕ)) (n : ℕ)
    → All (λ m. is_section_line heading m ≡ false) front → iterations_of heading (words l) ≡ Some n
    → parted heading (front ++ l ∷ more) ≡ Some (record {
      litmus = concat front;
      iterations = n;
      line = length front + 2;
      lines = more;
    })
parted_here heading front l more n h e =
    let all = front ++ l ∷ more in
    let k = length front in
    let at : get_or all k [] ≡ l = get_or-append_seam front l more [] in
    let tells : iterations_of heading (words (get_or all k [])) ≡ Some n =
    ap (λ m. iterations_of heading (words m)) at ∙ e in
    let section : is_section_line heading l ≡ true = rw e refl in
    let before : take k all ≡ front = take_at front (l ∷ more) k refl in
    let after : drop (k + 1) all ≡ more = drop-append-add front (l ∷ more) 1 in
    ap (option_and_then (λ i. option_map (parted_at all i) (iterations_of heading (words (get_or all i [])))))
    (place_after heading front l more h section)
    ∙ ap (option_map (parted_at all k)) tells
    ∙ ap (λ ls. Some (record { litmus = concat ls; iterations = n; line = k + 2; lines = drop (k + 1) all })) before
    ∙ ap (λ ls. Some (record { litmus = concat front; iterations = n; line = k + 2; lines = ls })) after
