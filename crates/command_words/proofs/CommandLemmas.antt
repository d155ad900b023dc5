-- What clap answers, by the command that `run` and `replay` are read with.
use Rattle.std.proofs.Common.{◌≡◌, ◌∙◌, ◌&&◌, inl, inr, ℕ, Bool, codes, true, false, refl, sym, ap, ap₂, subst, List, [], ◌∷◌, map, drop, is_some, Option, Some, None, ◌<◌, ◌+◌, ◌++◌, length, take, get_or, Bor}
use Rattle.std.proofs.lemmas.List.{map-append, take_more}
use Rattle.std.specs.Prelude.{count_by}
use Rattle.std.specs.List.{list_all, list_any}
use Rattle.clap.specs.Faults.{fault_of, is_free_app, is_simple_and_free, level_fault, entered_fault, built_fault}
use Rattle.clap.specs.Kinds.{HasKind, IsAmong, Kinds}
use Rattle.clap.specs.Simple.{App, HasMatchesOf, app_of, built, entered, filled_from, is_buildable, is_ready, is_ready_leaf, is_simple, matches_of, names_of, new_shape, with_rule}
use Rattle.clap.specs.Walk.{Row, Rule, first_of, idle, is_early_multiple, nothing_held, rows_after, rows_of, texts, walk}
use Rattle.clap.specs.Values.{kind_of}
use Rattle.clap.specs.Matches.{first_value, found_of}
use Rattle.clap.specs.declared.builder.command.Command.{Command}
use Rattle.clap.specs.declared.parser.matches.ArgMatches.{ArgMatches}
use Rattle.clap.proofs.WalkLemmas.{first_value-rows}
use Rattle.clap.specs.declared.error.Error.{Error}
use Rattle.clap.specs.declared.error.kind.ErrorKind.TheVariants as kind
use Rattle.command_words.specs.Clap.{HasNoNumber, IsRead, app_for, count_arg, option_arg}
use Rattle.command_words.specs.Words.{Given, Text, is_among, is_stray}
use Rattle.command_words.proofs.Rows.{count_rule, first_for, option_rule, rules_for, shape_for}
use Rattle.command_words.proofs.Turns.{stand}
use Rattle.command_words.proofs.Parse.{Agrees, AllShaped, parse, reads, rest_fault, rest_rows}
use Rattle.command_words.proofs.JobLemmas.{all_shaped, given_read, number_unread}

abbrev unbuilt_of_rules : Text → List Rule → App
unbuilt_of_rules name rules = record {
  top = record (new_shape name) { rules = rules; disable_help_flag = true };
  subs = [];
}

-- one option more
pub option_added : (name : Text) (options : List (Bor Text)) (i : ℕ) (d : Bor Text) → i < length options
    → with_rule (app_for name (texts (take i options))) (option_arg (get_or options i d).now)
    ≡ app_for name (texts (take (i + 1) options))
option_added name options i d lt =
    let more : texts (take (i + 1) options) ≡ texts (take i options) ++ (get_or options i d).now ∷ [] =
    ap texts (take_more options i d lt) ∙ map-append (λ (s : Bor Text). s.now) (take i options)
    (get_or options i d ∷ []) in
    let rules : map option_arg (texts (take i options) ++ (get_or options i d).now ∷ [])
    ≡ map option_arg (texts (take i options)) ++ option_arg (get_or options i d).now ∷ [] =
    map-append option_arg (texts (take i options)) ((get_or options i d).now ∷ []) in
    sym (ap (app_for name) more ∙ ap (λ (rs : List Rule). unbuilt_of_rules name (count_arg ∷ rs)) rules)

abbrev app_of_rules : Text → List Rule → App
app_of_rules name rules = record {
  top =
      record (new_shape name) {
        rules = rules;
        disable_help_flag = true;
        disable_help_subcommand = true;
        is_built = true;
      };
  subs = [];
}

options_filled : (i : ℕ) (names : List Text) → filled_from i (map option_arg names) ≡ map option_rule names
options_filled i [] = refl
options_filled i (x ∷ xs) = ap (λ rs. option_rule x ∷ rs) (options_filled i xs)

abbrev built_for : Text → List Text → App
built_for name names = record { top = shape_for name names; subs = [] }

built_is : (name : Text) (names : List Text) → built (app_for name names) ≡ built_for name names
built_is name names = ap (λ (rs : List Rule). app_of_rules name (count_rule ∷ rs)) (options_filled 2 names)

simple_options : (names : List Text) → list_all (λ (a : Rule). a.is_simple) (map option_arg names) ≡ true
simple_options [] = refl
simple_options (x ∷ xs) = simple_options xs

simple_rules : (names : List Text) → list_all (λ (a : Rule). a.is_simple) (map option_rule names) ≡ true
simple_rules [] = refl
simple_rules (x ∷ xs) = simple_rules xs

free_rules : (names : List Text) → list_all (λ (a : Rule). a.is_free) (map option_rule names) ≡ true
free_rules [] = refl
free_rules (x ∷ xs) = free_rules xs

none_early : (n : ℕ) (names : List Text) → list_any (is_early_multiple n) (map option_rule names) ≡ false
none_early n [] = refl
none_early n (x ∷ xs) = none_early n xs

abbrev are_ready : App → Bool
are_ready a = is_ready a.top && list_all is_ready_leaf a.subs

buildable : (name : Text) (names : List Text) → is_buildable (app_for name names) ≡ true
buildable name names = rw (simple_options names) refl

ready : (name : Text) (names : List Text) → are_ready (built_for name names) ≡ true
ready name names =
    rw (simple_rules names, none_early (count_by (λ (a : Rule). is_some a.index) (rules_for names)) names) refl

pub simple_app : (name : Text) (names : List Text) → is_simple (app_for name names) ≡ true
simple_app name names =
    ap₂ (λ a b. a && b) (buildable name names) (ap are_ready (built_is name names) ∙ ready name names)

free : (name : Text) (names : List Text) → is_free_app (built_for name names) ≡ true
free name names = rw (free_rules names) refl

pub simple_and_free : (name : Text) (names : List Text) → is_simple_and_free (app_for name names) ≡ true
simple_and_free name names =
    ap₂ (λ a b. a && b) (simple_app name names) (ap is_free_app (built_is name names) ∙ free name names)

-- ---- the parse

module _ (name : Text) (names : List Text) (no_N : is_among (codes "N") names ≡ false) (words : List Text) where
  abbrev pub fault_after : Kinds
  fault_after = rest_fault name names no_N (stand [] None idle 1) (drop 1 words)

  abbrev pub rows_after_words : List Row
  rows_after_words = rest_rows name names no_N (stand [] None idle 1) (drop 1 words)

  nothing_entered : (stop : Option (Text × List Text))
      → (is_some (entered (built_for name names) stop) ≡ false) × (entered_fault (built_for name names) stop ≡ [])
  nothing_entered None = (refl, refl)
  nothing_entered (Some p) = (refl, refl)

  pub fault_is : fault_of (app_for name names) words ≡ fault_after
  fault_is =
      let stop = (walk (rules_for names) [] nothing_held (drop 1 words)).stopped in
      ap (λ a. built_fault a nothing_held (drop 1 words)) (built_is name names)
      ∙ ap₂ (λ has below. level_fault (shape_for name names) [] nothing_held (drop 1 words) has below)
      (nothing_entered stop).0 (nothing_entered stop).1

  pub matches_are : matches_of (app_for name names) words ≡ rows_after_words
  matches_are = ap (λ (a : App). rows_after a.top.rules (names_of a) (drop 1 words)) (built_is name names)

  agrees : AllShaped (drop 1 words) → Agrees fault_after rows_after_words (reads names (drop 1 words) [] None)
  agrees all = parse name names no_N (drop 1 words) all [] None [] None 1 (refl, refl, refl)

  -- where clap takes the words, its matches are the values that they give
  pub taken : AllShaped (drop 1 words) → fault_of (app_for name names) words ≡ []
      → (value_of : Text → Option Text) → ((id : Text)
      → value_of id ≡ first_of id (matches_of (app_for name names) words))
      → IsRead names (drop 1 words) value_of
  taken all none value_of is = go (reads names (drop 1 words) [] None) refl (agrees all)
    where
      go : (o : Option (List Given)) → reads names (drop 1 words) [] None ≡ o → Agrees fault_after rows_after_words o
          → IsRead names (drop 1 words) value_of
      go None e h = absurd (h (sym fault_is ∙ none))
      go (Some gs) e h = record {
        gs = gs;
        given = given_read names (drop 1 words) gs e;
        values = λ id. is id ∙ ap (first_of id) (matches_are ∙ h.1) ∙ first_for gs id;
      }

  -- where clap refuses the words for another cause than memory, they give no number
  pub refused : AllShaped (drop 1 words) → (e : Error) → HasKind (fault_of (app_for name names) words) e
      → (kind_of e ≡ kind.OutOfMemory → ⊥) → HasNoNumber names (drop 1 words)
  refused all e has other =
      number_unread names (drop 1 words) (go (reads names (drop 1 words) [] None) (agrees all)
      (subst (λ (k : Kinds). HasKind k e) fault_is has))
    where
      go : (o : Option (List Given)) → Agrees fault_after rows_after_words o → HasKind fault_after e
          → o ≡ None
      go None h has = refl
      go (Some gs) h (inl memory) = absurd (other memory)
      go (Some gs) h (inr among) = absurd (subst (λ (k : Kinds). IsAmong (kind_of e) k) h.0 among)

-- ---- the same, of the command in the code

module _ (c : Command) (name : Text) (names : List Text) (no_N : is_among (codes "N") names ≡ false) (words : List Text)
    (app : app_of c ≡ app_for name names) (no_stray : list_any is_stray (drop 1 words) ≡ false) where
  pub taken_values : (m : ArgMatches)
      → (is_simple_and_free (app_of c) ≡ true → fault_of (app_of c) words ≡ []) → HasMatchesOf (app_of c) words m
      → IsRead names (drop 1 words) (first_value (found_of m))
  taken_values m kinds matches =
      let none : fault_of (app_for name names) words ≡ [] = ap (λ a. fault_of a words) (sym app)
      ∙ kinds (ap is_simple_and_free app ∙ simple_and_free name names) in
      let rows : rows_of (found_of m) ≡ matches_of (app_for name names) words =
      (matches (ap is_simple app ∙ simple_app name names)).0 ∙ ap (λ a. matches_of a words) app in
      taken name names no_N words (all_shaped (drop 1 words) no_stray) none (first_value (found_of m))
      (λ id. first_value-rows (found_of m) id ∙ ap (first_of id) rows)

  pub refused_values : (e : Error) → (is_simple_and_free (app_of c) ≡ true → HasKind (fault_of (app_of c) words) e)
      → (kind_of e ≡ kind.OutOfMemory → ⊥)
      → HasNoNumber names (drop 1 words)
  refused_values e kinds other =
      refused name names no_N words (all_shaped (drop 1 words) no_stray) e
      (subst (λ (k : Kinds). HasKind k e) (ap (λ a. fault_of a words) app)
      (kinds (ap is_simple_and_free app ∙ simple_and_free name names))) other
