-- One line of the search for a section line.
use Rattle.std.proofs.Common.{◌≡◌, ℕ, suc, ◌+◌, ◌-◌, ◌<◌, ◌≤◌, Option, None, Some, List, [], ◌∷◌, ◌++◌, drop, get_or, length, take, refl, sym, ap, ◌∙◌, arith, append-nil, append_assoc, drop-drop, length-drop, take-add}
use Rattle.std.proofs.lemmas.List.{take_all}
use Rattle.std.specs.List.{concat, position}
use Rattle.std.specs.Option.{is_some, option_and_then, option_map}
use Rattle.litmus_reader.specs.Front.{words}
use Rattle.run_text.specs.Lines.{lines_of}
use Rattle.run_text.specs.Sections.{Split, is_section_line, iterations_of, parted, parted_at}
use Rattle.run_text.proofs.FirstPlace.{first_here, first_later}
use Rattle.run_text.proofs.Lines.{first_line, line_end, line_within}

abbrev tail_of : List ℕ → ℕ → List ℕ
tail_of text at = take (length text - at) (drop at text)

tail_is : (text : List ℕ) (at : ℕ) → tail_of text at ≡ drop at text
tail_is text at = take_all (length text - at) (drop at text) (let l = length-drop at text in omega arith)

pub len_within : (text : List ℕ) (at n : ℕ) → at < length text → n ≡ line_end (tail_of text at)
    → (0 < n) × (at + n ≤ length text)
len_within text at n lt e =
    let same = ap length (tail_is text at) in
    let l = length-drop at text in
    let w = line_within (tail_of text at) (omega arith) in
    (omega arith, omega arith)

-- the lines from a place on: the line there, and those after it
pub lines_from : (text : List ℕ) (at n : ℕ) → at < length text → n ≡ line_end (tail_of text at)
    → lines_of (drop at text) ≡ take n (drop at text) ∷ lines_of (drop (at + n) text)
lines_from text at n lt e =
    let l = length-drop at text in
    let end : n ≡ line_end (drop at text) = e ∙ ap line_end (tail_is text at) in
    first_line (drop at text) n (omega arith) end ∙ ap (λ t. take n (drop at text) ∷ lines_of t) (drop-drop n at text)

-- this is the line at a place, with its end
pub record IsLine (text this : List ℕ) (at n : ℕ) : Type 0 where
  within : at < length text
  len : n ≡ line_end (tail_of text at)
  cut : this ≡ take n (drop at text)

pub line_at : (text : List ℕ) (at n : ℕ) → at < length text → n ≡ line_end (tail_of text at)
    → IsLine text (take (at + n - at) (drop at text)) at n
line_at text at n lt e =
    let same : at + n - at ≡ n = omega arith in
    record { within = lt; len = e; cut = ap (λ k. take k (drop at text)) same }

pub lines_at : (text this : List ℕ) (at n : ℕ) → IsLine text this at n
    → lines_of (drop at text) ≡ this ∷ lines_of (drop (at + n) text)
lines_at text this at n is =
    lines_from text at n is.within is.len ∙ ap (λ l. l ∷ lines_of (drop (at + n) text)) (sym is.cut)

-- ---- the section of lines, by their first

-- a section of the lines after this one
abbrev one_after : List ℕ → Split → Split
one_after l s = record { litmus = l ++ s.litmus; iterations = s.iterations; line = s.line + 1; lines = s.lines }

-- the section after the line at place k
abbrev told_at : List ℕ → List (List ℕ) → ℕ → Option Split
told_at heading lines k = option_map (parted_at lines k) (iterations_of heading (words (get_or lines k [])))

parted_here : (heading l : List ℕ) (ls : List (List ℕ)) (n : ℕ) → iterations_of heading (words l) ≡ Some n
    → parted heading (l ∷ ls) ≡ Some (record { litmus = []; iterations = n; line = 2; lines = ls })
parted_here heading l ls n e =
    ap (option_and_then (told_at heading (l ∷ ls))) (first_here (is_section_line heading) l ls (ap is_some e))
    ∙ ap (option_map (parted_at (l ∷ ls) 0)) e

one_on : (l : List ℕ) (ls : List (List ℕ)) (k : ℕ) (o : Option ℕ)
    → option_map (parted_at (l ∷ ls) (suc k)) o ≡ option_map (one_after l) (option_map (parted_at ls k) o)
one_on l ls k None = refl
one_on l ls k (Some n) =
    let line : suc k + 2 ≡ k + 2 + 1 = omega arith in
    let place : suc k + 1 ≡ suc (k + 1) = omega arith in
    λ i. Some (record {
      litmus = l ++ concat (take k ls);
      iterations = n;
      line = line i;
      lines = drop (place i) (l ∷ ls);
    })

later_by : (heading l : List ℕ) (ls : List (List ℕ)) (o : Option ℕ)
    → option_and_then (told_at heading (l ∷ ls)) (option_map suc o)
    ≡ option_map (one_after l) (option_and_then (told_at heading ls) o)
later_by heading l ls None = refl
later_by heading l ls (Some k) = one_on l ls k (iterations_of heading (words (get_or ls k [])))

parted_later : (heading l : List ℕ) (ls : List (List ℕ)) → iterations_of heading (words l) ≡ None
    → parted heading (l ∷ ls) ≡ option_map (one_after l) (parted heading ls)
parted_later heading l ls e =
    ap (option_and_then (told_at heading (l ∷ ls))) (first_later (is_section_line heading) l ls (ap is_some e))
    ∙ later_by heading l ls (position (is_section_line heading) ls)

-- ---- the search from a place on

-- a section of lines, the first of which has this number, after this text
abbrev pub after : ℕ → List ℕ → Split → Split
after line front s =
    record { litmus = front ++ s.litmus; iterations = s.iterations; line = line + s.line - 1; lines = s.lines }

one_more_after : (line : ℕ) (front l : List ℕ) (o : Option Split)
    → option_map (after line front) (option_map (one_after l) o) ≡ option_map (after (line + 1) (front ++ l)) o
one_more_after line front l None = refl
one_more_after line front l (Some s) =
    let number : line + (s.line + 1) - 1 ≡ line + 1 + s.line - 1 = omega arith in
    let text : front ++ (l ++ s.litmus) ≡ (front ++ l) ++ s.litmus = sym (append_assoc front l s.litmus) in
    λ i. Some (record { litmus = text i; iterations = s.iterations; line = number i; lines = s.lines })

-- what the lines from a place on give, after the text in front of it
abbrev pub from_place : List ℕ → List ℕ → ℕ → ℕ → Option Split
from_place heading text line at = option_map (after line (take at text)) (parted heading (lines_of (drop at text)))

pub section_here : (heading text this : List ℕ) (at n line it : ℕ) (all : Option Split) → IsLine text this at n
    → Some it ≡ iterations_of heading (words this) → from_place heading text line at ≡ all
    → Some (record {
      litmus = take at text;
      iterations = it;
      line = line + 1;
      lines = lines_of (tail_of text (at + n));
    })
    ≡ all
section_here heading text this at n line it all is e left =
    let ls = lines_of (drop (at + n) text) in
    let first : Split = record { litmus = []; iterations = it; line = 2; lines = ls } in
    let found : from_place heading text line at ≡ Some (after line (take at text) first)
    = ap (λ ls. option_map (after line (take at text)) (parted heading ls)) (lines_at text this at n is)
    ∙ ap (option_map (after line (take at text))) (parted_here heading this ls it (sym e)) in
    let front : take at text ≡ take at text ++ [] = sym (append-nil (take at text)) in
    let number : line + 1 ≡ line + 2 - 1 = omega arith in
    let rest = tail_is text (at + n) in
    (λ i. Some (record { litmus = front i; iterations = it; line = number i; lines = lines_of (rest i) })) ∙ sym found
    ∙ left

pub section_later : (heading text this : List ℕ) (at n line : ℕ) (all : Option Split) → IsLine text this at n
    → None ≡ iterations_of heading (words this) → from_place heading text line at ≡ all
    → from_place heading text (line + 1) (at + n) ≡ all
section_later heading text this at n line all is e left =
    let ls = lines_of (drop (at + n) text) in
    let front : take (at + n) text ≡ take at text ++ this
    = take-add at n text ∙ ap (λ l. take at text ++ l) (sym is.cut) in
    ap (λ front. option_map (after (line + 1) front) (parted heading ls)) front
    ∙ sym (one_more_after line (take at text) this (parted heading ls))
    ∙ sym (ap (option_map (after line (take at text))) (parted_later heading this ls (sym e)))
    ∙ sym (ap (λ ls. option_map (after line (take at text)) (parted heading ls)) (lines_at text this at n is))
    ∙ left
