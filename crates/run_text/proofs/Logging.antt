-- One line of a section of logs.
use Rattle.std.proofs.Common.{◌≡◌, ℕ, suc, ◌+◌, ◌-◌, ◌<◌, ◌≤◌, Bool, true, false, cond, Option, None, Some, List, [], ◌∷◌, ◌++◌, Result, Ok, Err, drop, length, nat_lt, slice_get, refl, sym, ap, ◌∙◌, arith, codes, decimal, le-ltb, lt-ltb}
use Rattle.std.proofs.lemmas.List.{length_push}
use Rattle.std.proofs.lemmas.Option.{slice_get_within}
use Rattle.std.specs.List.{cons_option, enumerate_from, filter, filter_map, find}
use Rattle.std.specs.Option.{is_none, option_and_then, option_map, option_or}
use Rattle.std.specs.Str.{bytes_eq}
use Rattle.load_log.specs.Values.{Values}
use Rattle.litmus_reader.specs.Front.{words}
use Rattle.run_text.specs.Lines.{has_words, lines_of, unless_refused}
use Rattle.run_text.specs.Logs.{Numbered, log_for, log_in, log_of, logs_of, wrong_line}
use Rattle.run_text.proofs.Onto.{one_first, onto_all, onto_none, onto_one}
use Rattle.run_text.proofs.Sections.{IsLine, lines_at}

abbrev Said : Type 0
Said = Result (List Values) ℕ

-- ---- the logs of the threads from t on, by the first line

-- the lines with words, for the threads from t on
abbrev rows_of : ℕ → ℕ → List (List ℕ) → List Numbered
rows_of t line ls = enumerate_from t (filter (λ l. has_words l.1) (enumerate_from line ls))

-- the last line, where so many threads have a line, and fewer than there are
abbrev missing : List ℕ → ℕ → ℕ → Option ℕ
missing columns last count = cond (nat_lt count (length columns)) (Some last) None

-- what such lines say, where this is the number of the last line of all
abbrev given : List ℕ → ℕ → ℕ → ℕ → List Numbered → Said
given columns n last t rows =
    unless_refused (option_or (wrong_line columns n rows) (missing columns last (t + length rows)))
    (filter_map (log_in columns n) rows)

abbrev pub logs_from : List ℕ → ℕ → ℕ → ℕ → List (List ℕ) → Said
logs_from columns n line t ls = given columns n (line + length ls - 1) t (rows_of t line ls)

pub from_first_thread : (columns : List ℕ) (n line : ℕ) (ls : List (List ℕ))
    → logs_from columns n line 0 ls ≡ logs_of columns n line ls
from_first_thread columns n line ls =
    let rows = rows_of 0 line ls in
    let count : 0 + length rows ≡ length rows = omega arith in
    let last = line + length ls - 1 in
    ap (λ k. unless_refused (option_or (wrong_line columns n rows) (missing columns last k))
    (filter_map (log_in columns n) rows))
    count

last_is : (line : ℕ) (ls : List (List ℕ)) → line + suc (length ls) - 1 ≡ line + 1 + length ls - 1
last_is line ls = omega arith

pub blank_first : (columns : List ℕ) (n line t : ℕ) (l : List ℕ) (ls : List (List ℕ)) → has_words l ≡ false
    → logs_from columns n line t (l ∷ ls) ≡ logs_from columns n (line + 1) t ls
blank_first columns n line t l ls w =
    let F = filter (λ (l : ℕ × List ℕ). has_words l.1) (enumerate_from (line + 1) ls) in
    ap (λ b. given columns n (line + suc (length ls) - 1) t (enumerate_from t (cond b ((line, l) ∷ F) F))) w
    ∙ ap (λ last. given columns n last t (enumerate_from t F)) (last_is line ls)

-- a line with words is the first row
row_first : (columns : List ℕ) (n line t : ℕ) (l : List ℕ) (ls : List (List ℕ)) → has_words l ≡ true
    → logs_from columns n line t (l ∷ ls)
    ≡ given columns n (line + 1 + length ls - 1) t ((t, (line, l)) ∷ rows_of (t + 1) (line + 1) ls)
row_first columns n line t l ls w =
    let F = filter (λ (l : ℕ × List ℕ). has_words l.1) (enumerate_from (line + 1) ls) in
    ap (λ b. given columns n (line + suc (length ls) - 1) t (enumerate_from t (cond b ((line, l) ∷ F) F))) w
    ∙ ap (λ last. given columns n last t ((t, (line, l)) ∷ rows_of (t + 1) (line + 1) ls)) (last_is line ls)

-- what rows say, by what the first of them tells
abbrev by_told : List ℕ → ℕ → ℕ → ℕ → Numbered → List Numbered → Option Values → Said
by_told columns n last count row rows told =
    let wrong = find (λ (l : Numbered). is_none (log_in columns n l)) rows in
    let first = option_map (λ (l : Numbered). l.1.0) (cond (is_none told) (Some row) wrong) in
    unless_refused (option_or first (missing columns last count))
    (cons_option told (filter_map (log_in columns n) rows))

told_first : (columns : List ℕ) (n last t : ℕ) (row : Numbered) (rows : List Numbered) (log : Values)
    → log_in columns n row ≡ Some log → given columns n last t (row ∷ rows)
    ≡ onto_all (log ∷ []) (given columns n last (t + 1) rows)
told_first columns n last t row rows log e =
    let count : t + suc (length rows) ≡ t + 1 + length rows = omega arith in
    ap (by_told columns n last (t + suc (length rows)) row rows) e
    ∙ ap (λ k. by_told columns n last k row rows (Some log)) count
    ∙ one_first (option_or (wrong_line columns n rows) (missing columns last (t + 1 + length rows))) log
    (filter_map (log_in columns n) rows)

pub log_first : (columns : List ℕ) (n line t : ℕ) (l : List ℕ) (ls : List (List ℕ)) (log : Values) → has_words l ≡ true
    → log_for columns n t (words l) ≡ Some log
    → logs_from columns n line t (l ∷ ls) ≡ onto_all (log ∷ []) (logs_from columns n (line + 1) (t + 1) ls)
log_first columns n line t l ls log w e =
    row_first columns n line t l ls w
    ∙ told_first columns n (line + 1 + length ls - 1) t (t, (line, l)) (rows_of (t + 1) (line + 1) ls) log e

pub fault_first : (columns : List ℕ) (n line t : ℕ) (l : List ℕ) (ls : List (List ℕ)) → has_words l ≡ true
    → log_for columns n t (words l) ≡ None → logs_from columns n line t (l ∷ ls) ≡ Err line
fault_first columns n line t l ls w e =
    let rows = rows_of (t + 1) (line + 1) ls in
    row_first columns n line t l ls w
    ∙ ap (by_told columns n (line + 1 + length ls - 1) (t + suc (length rows)) (t, (line, l)) rows) e

pub none_left : (columns : List ℕ) (n line t : ℕ) → length columns ≤ t → logs_from columns n line t [] ≡ Ok []
none_left columns n line t full =
    ap (λ b. unless_refused (cond b (Some (line + 0 - 1)) None) []) (le-ltb (t + 0) (length columns) (omega arith))

pub some_left : (columns : List ℕ) (n line t : ℕ) → t < length columns → logs_from columns n line t [] ≡ Err (line - 1)
some_left columns n line t short =
    let last : line + 0 - 1 ≡ line - 1 = omega arith in
    ap (λ b. unless_refused (cond b (Some (line + 0 - 1)) None) []) (lt-ltb (t + 0) (length columns) (omega arith))
    ∙ ap Err last

-- ---- the lines from a place on

-- what the lines from a place on say, after these logs
abbrev pub from_place : List ℕ → ℕ → List ℕ → ℕ → List Values → ℕ → Said
from_place columns k text line done at =
    onto_all done (logs_from columns k line (length done) (lines_of (drop at text)))

pub from_start : (columns : List ℕ) (k : ℕ) (text : List ℕ) (line : ℕ)
    → from_place columns k text line [] 0 ≡ logs_of columns k line (lines_of text)
from_start columns k text line =
    onto_none (logs_from columns k line 0 (lines_of text)) ∙ from_first_thread columns k line (lines_of text)

step : (columns : List ℕ) (k : ℕ) (text this : List ℕ) (at n line t : ℕ) → IsLine text this at n
    → logs_from columns k line t (lines_of (drop at text))
    ≡ logs_from columns k line t (this ∷ lines_of (drop (at + n) text))
step columns k text this at n line t is = ap (logs_from columns k line t) (lines_at text this at n is)

pub nothing_said : (columns : List ℕ) (k : ℕ) (text this : List ℕ) (at n line : ℕ) (done : List Values) (all : Said)
    → IsLine text this at n → false ≡ has_words this
    → from_place columns k text line done at ≡ all → from_place columns k text (line + 1) done (at + n) ≡ all
nothing_said columns k text this at n line done all is w left =
    let t = length done in
    let blank = blank_first columns k line t this (lines_of (drop (at + n) text)) (sym w) in
    sym (ap (onto_all done) (step columns k text this at n line t is ∙ blank)) ∙ left

pub one_said : (columns : List ℕ) (k : ℕ) (text this : List ℕ) (at n line : ℕ) (done : List Values) (log : Values)
    (all : Said)
    → IsLine text this at n → true ≡ has_words this → Some log ≡ log_for columns k (length done) (words this)
    → from_place columns k text line done at ≡ all
    → from_place columns k text (line + 1) (done ++ log ∷ []) (at + n) ≡ all
one_said columns k text this at n line done log all is w h left =
    let t = length done in
    let ls = lines_of (drop (at + n) text) in
    let one = log_first columns k line t this ls log (sym w) (sym h) in
    ap (λ m. onto_all (done ++ log ∷ []) (logs_from columns k (line + 1) m ls)) (length_push done log)
    ∙ sym (onto_one done log (logs_from columns k (line + 1) (t + 1) ls))
    ∙ sym (ap (onto_all done) (step columns k text this at n line t is ∙ one)) ∙ left

pub no_form : (columns : List ℕ) (k : ℕ) (text this : List ℕ) (at n line : ℕ) (done : List Values) (all : Said)
    → IsLine text this at n → true ≡ has_words this → None ≡ log_for columns k (length done) (words this)
    → from_place columns k text line done at ≡ all → all ≡ Err line
no_form columns k text this at n line done all is w h left =
    let t = length done in
    let fault = fault_first columns k line t this (lines_of (drop (at + n) text)) (sym w) (sym h) in
    sym left ∙ ap (onto_all done) (step columns k text this at n line t is ∙ fault)

-- ---- a log is that of a thread that there is

has_columns : (columns : List ℕ) (n t : ℕ) (ws : List (List ℕ)) (log : Values) (o : Option ℕ) → slice_get columns t ≡ o
    → option_and_then (λ c. log_of c n ws) o ≡ Some log → t < length columns
has_columns columns n t ws log None e h = cc
has_columns columns n t ws log (Some c) e h = slice_get_within columns t c e

named_by : (columns : List ℕ) (n t : ℕ) (ws : List (List ℕ)) (log : Values) (b : Bool)
    → Some log ≡ cond b (option_and_then (λ c. log_of c n ws) (slice_get columns t)) None → t < length columns
named_by columns n t ws log true h = has_columns columns n t ws log (slice_get columns t) refl (sym h)
named_by columns n t ws log false h = cc

pub one_within : (columns : List ℕ) (n t : ℕ) (ws : List (List ℕ)) (log : Values)
    → Some log ≡ log_for columns n t ws → t < length columns
one_within columns n t [] log h = cc
one_within columns n t (w ∷ ws) log h = named_by columns n t ws log (bytes_eq w (codes "P" ++ decimal t)) h
