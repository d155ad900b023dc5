-- One line of a section of events.
use Rattle.std.proofs.Common.{◌≡◌, ℕ, suc, ◌+◌, ◌≤◌, ◌&&◌, true, false, Option, None, Some, List, [], ◌∷◌, ◌++◌, Result, Ok, Err, drop, length, refl, sym, ap, ◌∙◌, arith, append-nil}
use Rattle.std.proofs.lemmas.Bool.{and_left, and_right}
use Rattle.std.proofs.lemmas.List.{drop_all}
use Rattle.std.specs.List.{cons_option, filter_map, position}
use Rattle.std.specs.Option.{is_none, option_map}
use Rattle.litmus_reader.specs.Front.{words}
use Rattle.run_judge.specs.declared.event.RunEvent.{RunEvent}
use Rattle.run_text.specs.Events.{events_by, lacks_form_of}
use Rattle.run_text.specs.Lines.{has_words, lines_of, unless_refused}
use Rattle.run_text.proofs.FirstPlace.{first_here, first_later}
use Rattle.run_text.proofs.Onto.{one_first, onto_all, onto_none, onto_one}
use Rattle.run_text.proofs.Sections.{IsLine, lines_at}

abbrev Told : Type 0
Told = Result (List RunEvent) ℕ

-- ---- the events of lines, by the first

-- the number of the line at this place after the first
abbrev number : ℕ → Option ℕ → Option ℕ
number line place = option_map (λ k. line + k) place

one_later : (line : ℕ) (place : Option ℕ) → number line (option_map suc place) ≡ number (line + 1) place
one_later line None = refl
one_later line (Some k) = let same : line + suc k ≡ line + 1 + k = omega arith in ap Some same

later : (tells : List (List ℕ) → Option RunEvent) (line : ℕ) (l : List ℕ) (ls : List (List ℕ))
    → lacks_form_of tells l ≡ false
    → events_by tells line (l ∷ ls)
    ≡ unless_refused (number (line + 1) (position (lacks_form_of tells) ls)) (cons_option (tells (words l))
    (filter_map (λ m. tells (words m)) ls))
later tells line l ls e =
    ap (λ o. unless_refused o (cons_option (tells (words l)) (filter_map (λ m. tells (words m)) ls)))
    (ap (number line) (first_later (lacks_form_of tells) l ls e) ∙ one_later line (position (lacks_form_of tells) ls))

blank_first : (tells : List (List ℕ) → Option RunEvent) (line : ℕ) (l : List ℕ) (ls : List (List ℕ))
    → tells (words l) ≡ None → has_words l ≡ false
    → events_by tells line (l ∷ ls) ≡ events_by tells (line + 1) ls
blank_first tells line l ls e w =
    let wrong = number (line + 1) (position (lacks_form_of tells) ls) in
    later tells line l ls (and_left (has_words l) (is_none (tells (words l))) w)
    ∙ ap (λ o. unless_refused wrong (cons_option o (filter_map (λ m. tells (words m)) ls))) e

event_first : (tells : List (List ℕ) → Option RunEvent) (line : ℕ) (l : List ℕ) (ls : List (List ℕ))
    (event : RunEvent) → tells (words l) ≡ Some event
    → events_by tells line (l ∷ ls) ≡ onto_all (event ∷ []) (events_by tells (line + 1) ls)
event_first tells line l ls event e =
    let wrong = number (line + 1) (position (lacks_form_of tells) ls) in
    later tells line l ls (and_right (has_words l) (is_none (tells (words l))) (ap is_none e))
    ∙ ap (λ o. unless_refused wrong (cons_option o (filter_map (λ m. tells (words m)) ls))) e
    ∙ one_first wrong event (filter_map (λ m. tells (words m)) ls)

fault_first : (tells : List (List ℕ) → Option RunEvent) (line : ℕ) (l : List ℕ) (ls : List (List ℕ))
    → tells (words l) ≡ None → has_words l ≡ true
    → events_by tells line (l ∷ ls) ≡ Err line
fault_first tells line l ls e w =
    let lacks : lacks_form_of tells l ≡ true = ap (λ v. v && is_none (tells (words l))) w ∙ ap is_none e in
    let here : line + 0 ≡ line = omega arith in
    ap (λ o. unless_refused (number line o) (cons_option (tells (words l)) (filter_map (λ m. tells (words m)) ls)))
    (first_here (lacks_form_of tells) l ls lacks)
    ∙ ap Err here

-- ---- the lines from a place on

-- the events of the lines from a place on
abbrev pub events_from : (List (List ℕ) → Option RunEvent) → List ℕ → ℕ → ℕ → Told
events_from tells text line at = events_by tells line (lines_of (drop at text))

pub from_start : (tells : List (List ℕ) → Option RunEvent) (line : ℕ) (text : List ℕ)
    → onto_all [] (events_from tells text line 0) ≡ events_by tells line (lines_of text)
from_start tells line text = onto_none (events_by tells line (lines_of text))

step : (tells : List (List ℕ) → Option RunEvent) (text this : List ℕ) (at n line : ℕ) → IsLine text this at n
    → events_from tells text line at ≡ events_by tells line (this ∷ lines_of (drop (at + n) text))
step tells text this at n line is = ap (events_by tells line) (lines_at text this at n is)

pub nothing_told : (tells : List (List ℕ) → Option RunEvent) (text this : List ℕ) (at n line : ℕ)
    (es : List RunEvent) (all : Told) → IsLine text this at n
    → None ≡ tells (words this) → false ≡ has_words this → onto_all es (events_from tells text line at) ≡ all
    → onto_all es (events_from tells text (line + 1) (at + n)) ≡ all
nothing_told tells text this at n line es all is e w left =
    let blank = blank_first tells line this (lines_of (drop (at + n) text)) (sym e) (sym w) in
    sym (ap (onto_all es) (step tells text this at n line is ∙ blank)) ∙ left

pub one_told : (tells : List (List ℕ) → Option RunEvent) (text this : List ℕ) (at n line : ℕ) (es : List RunEvent)
    (event : RunEvent) (all : Told)
    → IsLine text this at n
    → Some event ≡ tells (words this) → onto_all es (events_from tells text line at) ≡ all
    → onto_all (es ++ event ∷ []) (events_from tells text (line + 1) (at + n)) ≡ all
one_told tells text this at n line es event all is e left =
    let one = event_first tells line this (lines_of (drop (at + n) text)) event (sym e) in
    sym (onto_one es event (events_from tells text (line + 1) (at + n)))
    ∙ sym (ap (onto_all es) (step tells text this at n line is ∙ one)) ∙ left

pub no_form : (tells : List (List ℕ) → Option RunEvent) (text this : List ℕ) (at n line : ℕ) (es : List RunEvent)
    (all : Told) → IsLine text this at n
    → None ≡ tells (words this) → true ≡ has_words this → onto_all es (events_from tells text line at) ≡ all
    → all ≡ Err line
no_form tells text this at n line es all is e w left =
    let fault = fault_first tells line this (lines_of (drop (at + n) text)) (sym e) (sym w) in
    sym left ∙ ap (onto_all es) (step tells text this at n line is ∙ fault)

pub all_told : (tells : List (List ℕ) → Option RunEvent) (text : List ℕ) (at line : ℕ) (es : List RunEvent)
    (all : Told) → length text ≤ at
    → onto_all es (events_from tells text line at) ≡ all → all ≡ Ok es
all_told tells text at line es all le left =
    sym left ∙ ap (λ t. onto_all es (events_by tells line (lines_of t))) (drop_all at text le) ∙ ap Ok (append-nil es)
