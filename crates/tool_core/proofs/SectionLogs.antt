-- The logs of a section are logs of the test.
use Rattle.std.proofs.Common.{◌≡◌, ℕ, zero, suc, ◌+◌, ◌*◌, ◌<◌, ◌≤◌, ◌==◌, Bool, true, false, ◌⊎◌, inl, inr, List, [], ◌∷◌, ◌++◌, Some, None, Result, Ok, Err, drop, get_or, if◌then◌else◌, length, map, slice_get, option_and_then, codes, decimal, refl, sym, ap, subst, ◌∙◌, arith}
use Rattle.std.specs.declared.option.Option.{Option}
use Rattle.std.specs.List.{range_with_len}
use Rattle.std.specs.Option.{IfSome}
use Rattle.std.specs.Str.{bytes_eq}
use Rattle.std.proofs.lemmas.Bool.{cases_lt, eqb-true}
use Rattle.std.proofs.lemmas.List.{drop_all}
use Rattle.std.proofs.lemmas.List.Elements.{All-cons, All-nil}
use Rattle.std.proofs.lemmas.List.FromFn.{get_or-map-range_with_len, length-map-range_with_len}
use Rattle.x86_subset.specs.Test.{LitmusTest, columns_of}
use Rattle.load_log.specs.Values.{AreWhole, Values, log_at}
use Rattle.litmus_reader.specs.Front.{words}
use Rattle.run_text.specs.Lines.{has_words}
use Rattle.run_text.specs.Logs.{as_log, log_for, log_of, numbers_of}
use Rattle.run_text.specs.Sections.{Split}
use Rattle.run_text.proofs.Logging.{blank_first, fault_first, from_first_thread, log_first, logs_from, none_left, some_left}
use Rattle.run_text.proofs.Onto.{onto_all}
use Rattle.run_witness.specs.Order.{AreLogsFor}
use Rattle.tool_core.specs.Due.{section_logs}

-- logs of n iterations, with these columns
abbrev pub Fit : ℕ → List ℕ → List Values → Type 0
Fit n [] [] = Unit {0}
Fit n [] (l ∷ ls) = ⊥
Fit n (c ∷ cs) [] = ⊥
Fit n (c ∷ cs) (l ∷ ls) = (l.columns ≡ c) × (length l.values ≡ n * l.columns) × Fit n cs ls

-- ---- one line

-- what it is that a line tells a log of thread t
abbrev IsTold : List ℕ → ℕ → ℕ → Option Values → Type 0
IsTold columns n t told =
    IfSome told (λ log. (c : ℕ) × (slice_get columns t ≡ Some c) × (log.columns ≡ c)
    × (length log.values ≡ n * log.columns))

told_count : (columns : List ℕ) (n t c : ℕ) (vs : List ℕ) (whole : Bool) → (length vs == c * n) ≡ whole
    → slice_get columns t ≡ Some c
    → IsTold columns n t (if whole then Some (record { columns = c; values = vs; spare = 0 }) else None)
told_count columns n t c vs true is e =
    (c, e, refl, let same : length vs ≡ c * n = eqb-true (length vs) (c * n) is in omega arith)
told_count columns n t c vs false is e = tt

told_numbers : (columns : List ℕ) (n t c : ℕ) (vs : Option (List ℕ)) → slice_get columns t ≡ Some c
    → IsTold columns n t (option_and_then (as_log c n) vs)
told_numbers columns n t c None e = tt
told_numbers columns n t c (Some vs) e = told_count columns n t c vs (length vs == c * n) refl e

told_columns : (columns : List ℕ) (n t : ℕ) (ws : List (List ℕ)) (count : Option ℕ) → slice_get columns t ≡ count
    → IsTold columns n t (option_and_then (λ c. log_of c n ws) count)
told_columns columns n t ws None e = tt
told_columns columns n t ws (Some c) e = told_numbers columns n t c (numbers_of ws) e

told_named : (columns : List ℕ) (n t : ℕ) (ws : List (List ℕ)) (named : Bool)
    → IsTold columns n t (if named then option_and_then (λ c. log_of c n ws) (slice_get columns t) else None)
told_named columns n t ws true = told_columns columns n t ws (slice_get columns t) refl
told_named columns n t ws false = tt

told : (columns : List ℕ) (n t : ℕ) (ws : List (List ℕ)) → IsTold columns n t (log_for columns n t ws)
told columns n t [] = tt
told columns n t (w ∷ ws) = told_named columns n t ws (bytes_eq w (codes "P" ++ decimal t))

-- ---- all lines

drop_at : (columns : List ℕ) (t c : ℕ) → slice_get columns t ≡ Some c
    → (t < length columns) × (drop t columns ≡ c ∷ drop (t + 1) columns)
drop_at [] t c e = absurd (cc)
drop_at (x ∷ xs) zero c e = let same : x ≡ c = cc in (omega arith, ap (λ k. k ∷ xs) same)
drop_at (x ∷ xs) (suc t) c e =
    let later = drop_at xs t c e in
    let lt : t < length xs = later.0 in
    let place : suc t + 1 ≡ suc (t + 1) = omega arith in
    (omega arith, rw place later.1)

fit_end : (columns : List ℕ) (n line t : ℕ) (logs : List Values) → (t < length columns) ⊎ (length columns ≤ t)
    → logs_from columns n line t [] ≡ Ok logs → Fit n (drop t columns) logs
fit_end columns n line t logs (inl short) e = let missing = some_left columns n line t short in absurd (cc)
fit_end columns n line t logs (inr past) e =
    let whole = none_left columns n line t past in
    let none : [] ≡ logs = cc in
    rw (drop_all t columns past) (subst (Fit n []) none tt)

fit_more : (columns : List ℕ) (n t : ℕ) (log : Values) (more logs : List Values) → IsTold columns n t (Some log)
    → Fit n (drop (t + 1) columns) more → log ∷ more ≡ logs → Fit n (drop t columns) logs
fit_more columns n t log more logs is fit e =
    subst (Fit n (drop t columns)) e (rw (drop_at columns t is.0 is.1).1 (is.2, is.3, fit))

fit_later : (columns : List ℕ) (n t : ℕ) (log : Values) (logs : List Values) (later : Result (List Values) ℕ)
    → IsTold columns n t (Some log)
    → ((more : List Values) → later ≡ Ok more → Fit n (drop (t + 1) columns) more)
    → onto_all (log ∷ []) later ≡ Ok logs → Fit n (drop t columns) logs
fit_later columns n t log logs (Ok more) is fit e = fit_more columns n t log more logs is (fit more refl) (cc)
fit_later columns n t log logs (Err bad) is fit e = absurd (cc)

-- by what the first line says, where this holds of the others
fit_line : (columns : List ℕ) (n line t : ℕ) (l : List ℕ) (ls : List (List ℕ)) (logs : List Values) (some : Bool)
    (log : Option Values) → has_words l ≡ some → log_for columns n t (words l) ≡ log
    → ((from : ℕ) (more : List Values) → logs_from columns n (line + 1) from ls ≡ Ok more
    → Fit n (drop from columns) more)
    → logs_from columns n line t (l ∷ ls) ≡ Ok logs → Fit n (drop t columns) logs
fit_line columns n line t l ls logs false log w h rest e = rest t logs (sym (blank_first columns n line t l ls w) ∙ e)
fit_line columns n line t l ls logs true None w h rest e =
    let fault = fault_first columns n line t l ls w h in absurd (cc)
fit_line columns n line t l ls logs true (Some log) w h rest e =
    fit_later columns n t log logs (logs_from columns n (line + 1) (t + 1) ls)
    (subst (IsTold columns n t) h (told columns n t (words l))) (rest (t + 1))
    (sym (log_first columns n line t l ls log w h) ∙ e)

logs_fit : (columns : List ℕ) (n line t : ℕ) (lines : List (List ℕ)) (logs : List Values)
    → logs_from columns n line t lines ≡ Ok logs → Fit n (drop t columns) logs
logs_fit columns n line t [] logs e = fit_end columns n line t logs (cases_lt t (length columns)) e
logs_fit columns n line t (l ∷ ls) logs e =
    fit_line columns n line t l ls logs (has_words l) (log_for columns n t (words l)) refl refl
    (λ from more is. logs_fit columns n (line + 1) from ls more is) e

-- ---- what fits is logs of the test

fit_count : (n : ℕ) (cs : List ℕ) (ls : List Values) → Fit n cs ls → length ls ≡ length cs
fit_count n [] [] fit = refl
fit_count n [] (l ∷ ls) fit = absurd fit
fit_count n (c ∷ cs) [] fit = absurd fit
fit_count n (c ∷ cs) (l ∷ ls) fit = ap suc (fit_count n cs ls fit.2)

fit_whole : (n : ℕ) (cs : List ℕ) (ls : List Values) → Fit n cs ls → AreWhole n ls
fit_whole n [] [] fit = All-nil (λ (log : Values). length log.values ≡ n * log.columns)
fit_whole n [] (l ∷ ls) fit = absurd fit
fit_whole n (c ∷ cs) [] fit = absurd fit
fit_whole n (c ∷ cs) (l ∷ ls) fit =
    All-cons (λ (log : Values). length log.values ≡ n * log.columns) l ls fit.1 (fit_whole n cs ls fit.2)

fit_columns : (n : ℕ) (cs : List ℕ) (ls : List Values) → Fit n cs ls → (t : ℕ) → t < length ls
    → (log_at ls t).columns ≡ get_or cs t 0
fit_columns n [] [] fit t lt = absurd (let none : ⊥ = omega arith in none)
fit_columns n [] (l ∷ ls) fit t lt = absurd fit
fit_columns n (c ∷ cs) [] fit t lt = absurd fit
fit_columns n (c ∷ cs) (l ∷ ls) fit zero lt = fit.0
fit_columns n (c ∷ cs) (l ∷ ls) fit (suc t) lt = fit_columns n cs ls fit.2 t (omega arith)

pub section_logs_are : (test : LitmusTest) (parts : Split) (logs : List Values) → section_logs test parts ≡ Ok logs
    → AreLogsFor test parts.iterations logs
section_logs_are test parts logs e =
    let count = length test.bodies in
    let columns = map (columns_of test) (range_with_len 0 count) in
    let fit : Fit parts.iterations columns logs = logs_fit columns parts.iterations parts.line 0 parts.lines logs
    (from_first_thread columns parts.iterations parts.line parts.lines ∙ e) in
    let long : length logs ≡ count = fit_count parts.iterations columns logs fit
    ∙ length-map-range_with_len (columns_of test) 0 count in
    record {
      count = long;
      columns = λ t lt.
          fit_columns parts.iterations columns logs fit t (subst (λ k. t < k) (sym long) lt)
          ∙ get_or-map-range_with_len (columns_of test) 0 count t t 0 lt (omega arith);
      whole = fit_whole parts.iterations columns logs fit;
    }
