-- A run that is written after a litmus text is read back.
use Rattle.std.proofs.Common.{◌≡◌, ℕ, ◌+◌, ◌^◌, ◌<◌, ◌≤◌, ◌&&◌, true, false, cond, None, Some, List, [], ◌∷◌, ◌++◌, All, codes, decimal, get_or, is_none, length, map, nat_le, position, filter_map, Ok, option_map, refl, sym, ap, ◌∙◌, subst, arith, le-leb, le-ltb}
use Rattle.std.proofs.lemmas.Bool.{and_right, ne_eqb}
use Rattle.std.proofs.lemmas.Fmt.{decimal_is_IsNumeral}
use Rattle.std.proofs.lemmas.List.Elements.{All-head, All-tail}
use Rattle.std.specs.List.{cons_option, flat_map, onto_first, position_or_len}
use Rattle.x86_subset.specs.Token.{is_blank}
use Rattle.litmus_reader.specs.Front.{is_no_feed, words}
use Rattle.report_text.specs.Words.{number_line}
use Rattle.run_judge.specs.Line.{kind_text, line_of}
use Rattle.run_judge.specs.declared.event.RunEvent.{RunEvent}
use Rattle.run_judge.specs.declared.event.RunKind.{RunKind}
use Rattle.run_judge.specs.declared.event.RunKind.TheVariants.{Push, Drain, Fence, Read, Exchange}
use Rattle.run_text.specs.Events.{event_in, events_of, lacks_form}
use Rattle.run_text.specs.Laws.{CanLead, EndsLine, HasWidth, IsOfWidth, RunsAreReadBack, run_parts}
use Rattle.run_text.specs.Lines.{has_words, lines_of, unless_refused}
use Rattle.run_text.specs.Runs.{run_text_of}
use Rattle.run_text.specs.Sections.{iterations_of, parted, split_of, within_iterations}
use Rattle.run_text.proofs.EventsBack.{event_back}
use Rattle.run_text.proofs.LinesBack.{IsFed, after_plain, fed_lines, lines_after, lines_together}
use Rattle.run_text.proofs.SectionsBack.{parted_here}
use Rattle.run_text.proofs.WordsBack.{by_digits, cut, decimal_is_word, is_word, large_back, wide}

-- ---- each line of a written run is one line

digit_is_no_feed : (c : ℕ) → 48 ≤ c → c ≤ 57 → is_no_feed c ≡ true
digit_is_no_feed c h k = rw (ne_eqb c 10 (λ e. absurd (omega arith))) refl

after_decimal : (n : ℕ) (line : List ℕ) → n < 2 ^ 64 → IsFed line → IsFed (decimal n ++ line)
after_decimal n line h f =
    after_plain (decimal n) line (by_digits is_no_feed digit_is_no_feed (decimal n) (decimal_is_IsNumeral n h).0.1) f

feed_fed : IsFed (codes "\n")
feed_fed rest = refl

kind_fed : (k : RunKind) → HasWidth k → IsFed (kind_text k)
kind_fed Push h = λ rest. refl
kind_fed Drain h = λ rest. refl
kind_fed Fence h = λ rest. refl
kind_fed (Read v) h =
    after_plain (codes " read ") (decimal v ++ codes "\n") refl (after_decimal v (codes "\n") h feed_fed)
kind_fed (Exchange v) h =
    after_plain (codes " exchange ") (decimal v ++ codes "\n") refl (after_decimal v (codes "\n") h feed_fed)

-- a number and a blank in front of a line
number_fed : (n : ℕ) (line : List ℕ) → n < 2 ^ 32 → IsFed line → IsFed (decimal n ++ (codes " " ++ line))
number_fed n line h f = after_decimal n (codes " " ++ line) (wide n h) (λ rest. ap (onto_first 32) (f rest))

line_fed : (e : RunEvent) → IsOfWidth e → IsFed (line_of e)
line_fed e h =
    let place = after_decimal e.place (kind_text e.kind) (wide e.place h.place) (kind_fed e.kind h.value) in
    let iteration = number_fed e.iteration (decimal e.place ++ kind_text e.kind) h.iteration place in
    let thread = number_fed e.thread (decimal e.iteration ++ (codes " " ++ (decimal e.place ++ kind_text e.kind)))
    h.thread iteration in
    λ rest. ap (onto_first 80) (thread rest)

-- ---- the section line

abbrev section_line : ℕ → List ℕ
section_line n = codes "%events " ++ (decimal n ++ codes "\n")

section_fed : (n : ℕ) → n < 2 ^ 64 → IsFed (section_line n)
section_fed n h =
    after_plain (codes "%events ") (decimal n ++ codes "\n") refl (after_decimal n (codes "\n") h feed_fed)

section_words : (n : ℕ) → n < 2 ^ 64 → words (section_line n) ≡ codes "%events" ∷ decimal n ∷ []
unfolding is_blank
section_words n h =
    cut (codes "%events") 32 (decimal n ++ codes "\n") (is_word _ _ refl) refl
    ∙ ap (λ ws. codes "%events" ∷ ws) (cut (decimal n) 10 [] (decimal_is_word n h) refl)

section_tells : (n : ℕ) → 1 ≤ n → n ≤ 100000 → iterations_of (codes "%events") (words (section_line n)) ≡ Some n
section_tells n low high =
    let small : n < 2 ^ 64 = omega arith in
    ap (iterations_of (codes "%events")) (section_words n small) ∙ ap (within_iterations 100000) (large_back n small)
    ∙ ap (λ b. cond (b && nat_le n 100000) (Some n) None) (le-leb 1 n low)
    ∙ ap (λ b. cond b (Some n) None) (le-leb n 100000 high)

-- ---- the lines of a written run

run_lines : (n : ℕ) (events : List RunEvent) → n < 2 ^ 64 → All IsOfWidth events
    → lines_of (run_text_of n events) ≡ section_line n ∷ map line_of events
unfolding run_text_of number_line
run_lines n events h w =
    section_fed n h (flat_map line_of events)
    ∙ ap (λ ls. section_line n ∷ ls) (fed_lines line_of events (λ e k lt. line_fed (get_or events k e) (w k e lt)))

after_litmus : (litmus rest : List ℕ) → EndsLine litmus → lines_of (litmus ++ rest) ≡ lines_of litmus ++ lines_of rest
after_litmus litmus rest h =
    subst (λ l. lines_of (l ++ rest) ≡ lines_of l ++ lines_of rest) (sym h.is) (lines_after h.front rest)

parts_back : (litmus : List ℕ) (n : ℕ) (events : List RunEvent) → CanLead litmus → 1 ≤ n → n ≤ 100000
    → All IsOfWidth events
    → split_of (codes "%events") (litmus ++ run_text_of n events) ≡ Some (run_parts litmus n events)
parts_back litmus n events h low high w =
    let front = lines_of litmus in
    let lines : lines_of (litmus ++ run_text_of n events) ≡ front ++ section_line n ∷ map line_of events =
    after_litmus litmus (run_text_of n events) h.ends ∙ ap (λ ls. front ++ ls) (run_lines n events (omega arith) w) in
    ap (parted (codes "%events")) lines
    ∙ parted_here (codes "%events") front (section_line n) (map line_of events) n h.plain (section_tells n low high)
    ∙ ap (λ l. Some (record { litmus = l; iterations = n; line = length front + 2; lines = map line_of events }))
    (lines_together litmus)

-- ---- its events

has_form : (e : RunEvent) → IsOfWidth e → lacks_form (line_of e) ≡ false
has_form e h = and_right (has_words (line_of e)) (is_none (event_in (line_of e))) (ap is_none (event_back e h))

none_lacks : (events : List RunEvent) → All IsOfWidth events
    → position_or_len lacks_form (map line_of events) ≡ length (map line_of events)
none_lacks [] w = refl
none_lacks (e ∷ es) w =
    let here = has_form e (All-head IsOfWidth e es w) in
    let later = none_lacks es (All-tail IsOfWidth e es w) in
    rw here (omega (arith, later))

all_told : (events : List RunEvent) → All IsOfWidth events → filter_map event_in (map line_of events) ≡ events
all_told [] w = refl
all_told (e ∷ es) w =
    ap (λ o. cons_option o (filter_map event_in (map line_of es))) (event_back e (All-head IsOfWidth e es w))
    ∙ ap (λ fs. e ∷ fs) (all_told es (All-tail IsOfWidth e es w))

events_told : (events : List RunEvent) (line : ℕ) → All IsOfWidth events
    → events_of line (map line_of events) ≡ Ok events
events_told events line w =
    let ls = map line_of events in
    let none : position lacks_form ls ≡ None =
    rw (none_lacks events w, le-ltb (length ls) (length ls) (omega arith)) refl in
    ap (λ o. unless_refused (option_map (λ k. line + k) o) (filter_map event_in ls)) none ∙ ap Ok (all_told events w)

pub runs_back : RunsAreReadBack
runs_back litmus n events h low high w = record {
  parts = parts_back litmus n events h low high w;
  tells = λ line. events_told events line w;
}
