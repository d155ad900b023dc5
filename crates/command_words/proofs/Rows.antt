-- The rules of the options and of `N`, and the rows that clap makes of what is given to them.
use Rattle.std.proofs.Common.{◌≡◌, ◌∙◌, ◌++◌, Bool, cond, codes, true, false, refl, sym, ap, List, [], ◌∷◌, map, option_map, append-nil, Option, Some, None}
use Rattle.std.specs.Prelude.{find, option_and_then, slice_get}
use Rattle.std.specs.Str.{bytes_eq}
use Rattle.std.proofs.lemmas.Bool.{false_from_ne_true, or_parts}
use Rattle.std.proofs.lemmas.List.{map-append}
use Rattle.std.proofs.lemmas.Slice.Eq.{bytes_eq-Decides}
use Rattle.clap.specs.Simple.{Shape, filled, new_rule, new_shape, with_index}
use Rattle.clap.specs.Takes.{is_given as is_given_row}
use Rattle.clap.specs.Walk.{Row, Rule, arg_by_id, arg_by_long, at_row, first_of, has_row, more_values, used, with_values, without}
use Rattle.clap.specs.declared.builder.value_parser.Reading.TheVariants.{AsWritten}
use Rattle.clap.specs.declared.parser.matches.ValueSource.TheVariants.{CommandLine}
use Rattle.clap.proofs.WalkLemmas.{find-map, list_any-map}
use Rattle.command_words.specs.Words.{Given, Text, is_among, is_given, value_given}

pub same_text : (a b : Text) → bytes_eq a b ≡ true → a ≡ b
same_text a b e = (bytes_eq-Decides a b).0 e

pub text_is : (a : Text) → bytes_eq a a ≡ true
text_is a = (bytes_eq-Decides a a).1 refl

-- a name is that of a text, and not another's
pub differs : (text name other : Text) → name ≡ text → (name ≡ other → ⊥) → bytes_eq text other ≡ false
differs text name other is not = false_from_ne_true (bytes_eq text other) (λ e. not (is ∙ same_text text other e))

-- ---- rules, as clap builds them

abbrev pub option_rule : Text → Rule
option_rule name = filled (record (new_rule name) { long = Some name })

abbrev pub count_rule : Rule
count_rule = with_index 1 (filled (record (new_rule (codes "N")) { required = true }))

abbrev pub rules_for : List Text → List Rule
rules_for names = count_rule ∷ map option_rule names

abbrev pub shape_for : Text → List Text → Shape
shape_for name names = record (new_shape name) {
  rules = rules_for names;
  disable_help_flag = true;
  disable_help_subcommand = true;
  is_built = true;
}

pub long_found : (names : List Text) (name : Text)
    → arg_by_long (rules_for names) name ≡ cond (is_among name names) (Some (option_rule name)) None
long_found [] name = refl
long_found (x ∷ xs) name = go (bytes_eq x name) refl (long_found xs name)
  where
    go : (b : Bool) → bytes_eq x name ≡ b → arg_by_long (rules_for xs) name
        ≡ cond (is_among name xs) (Some (option_rule name)) None
        → arg_by_long (rules_for (x ∷ xs)) name ≡ cond (is_among name (x ∷ xs)) (Some (option_rule name)) None
    go true e more = rw e (ap (λ t. Some (option_rule t)) (same_text x name e))
    go false e more = rw e more

id_found : (names : List Text) (name : Text) → is_among name names ≡ true
    → find (λ (a : Rule). bytes_eq a.id name) (map option_rule names) ≡ Some (option_rule name)
id_found [] name among = cc
id_found (x ∷ xs) name among = go (bytes_eq x name) refl (id_found xs name)
  where
    go : (b : Bool) → bytes_eq x name ≡ b → (is_among name xs ≡ true
        → find (λ (a : Rule). bytes_eq a.id name) (map option_rule xs) ≡ Some (option_rule name))
        → find (λ (a : Rule). bytes_eq a.id name) (map option_rule (x ∷ xs)) ≡ Some (option_rule name)
    go true e more = rw e (ap (λ t. Some (option_rule t)) (same_text x name e))
    go false e more = rw e (more (rw e at among))

-- an option is found by its id, where no option is called N
pub by_id : (names : List Text) (name : Text) → is_among (codes "N") names ≡ false → is_among name names ≡ true
    → arg_by_id (rules_for names) name ≡ Some (option_rule name)
by_id names name none among = go (bytes_eq (codes "N") name) refl
  where
    go : (b : Bool) → bytes_eq (codes "N") name ≡ b → arg_by_id (rules_for names) name ≡ Some (option_rule name)
    go true e =
        let is_N : is_among (codes "N") names ≡ true = rw (same_text (codes "N") name e) among in
        cc
    go false e = rw e (id_found names name among)

-- ---- rows

abbrev pub to_row : Given → Row
to_row g = record {
  id = g.name;
  values = g.value ∷ [];
  count = None;
  source = Some CommandLine;
  reading = AsWritten;
}

abbrev pub rows_for : List Given → List Row
rows_for = map to_row

pub row_kept : (id : Text) (change : Row → List Row) (missing : List Row) (gs : List Given) → is_given id gs ≡ false
    → at_row id change missing (rows_for gs) ≡ rows_for gs ++ missing
row_kept id change missing [] none = refl
row_kept id change missing (g ∷ gs) none =
    let parts = or_parts _ _ none in
    let here : bytes_eq g.name id ≡ false = parts.0 in
    rw here (ap (λ rs. to_row g ∷ rs) (row_kept id change missing gs parts.1))

pub has_row_for : (id : Text) (gs : List Given) → has_row id (rows_for gs) ≡ is_given id gs
has_row_for id gs = sym (list_any-map (λ (r : Row). bytes_eq r.id id) to_row gs)

pub is_given_for : (id : Text) (gs : List Given) → is_given_row id (rows_for gs) ≡ is_given id gs
is_given_for id [] = refl
is_given_for id (g ∷ gs) = go (bytes_eq g.name id) refl (is_given_for id gs)
  where
    go : (b : Bool) → bytes_eq g.name id ≡ b → is_given_row id (rows_for gs) ≡ is_given id gs
        → is_given_row id (rows_for (g ∷ gs)) ≡ is_given id (g ∷ gs)
    go true e more = rw e refl
    go false e more = rw e more

-- `get_str` reads what was given
pub first_for : (gs : List Given) (id : Text) → first_of id (rows_for gs) ≡ value_given gs id
first_for gs id =
    ap (option_and_then (λ (r : Row). slice_get r.values 0)) (sym (find-map (λ (r : Row). bytes_eq r.id id) to_row gs))
    ∙ go (find (λ (g : Given). bytes_eq g.name id) gs)
  where
    go : (o : Option Given) → option_and_then (λ (r : Row). slice_get r.values 0) (option_map to_row o)
        ≡ option_map (λ (g : Given). g.value) o
    go None = refl
    go (Some g) = refl

-- a new name is a row more
row_added : (name value : Text) (gs : List Given) → is_given name gs ≡ false
    → with_values name AsWritten CommandLine (value ∷ []) (without name (rows_for gs))
    ≡ rows_for (gs ++ record { name = name; value = value } ∷ [])
row_added name value gs none =
    let g : Given = record { name = name; value = value } in
    ap (with_values name AsWritten CommandLine (value ∷ [])) (row_kept name (λ _. []) [] gs none
    ∙ append-nil (rows_for gs))
    ∙ row_kept name (more_values CommandLine (value ∷ [])) (to_row g ∷ []) gs none ∙ sym (map-append to_row gs (g ∷ []))

pub used_option : (name value : Text) (gs : List Given) → is_given name gs ≡ false
    → used (option_rule name) (value ∷ []) (rows_for gs) ≡ rows_for (gs ++ record { name = name; value = value } ∷ [])
used_option name value gs none = row_added name value gs none

pub used_count : (value : Text) (gs : List Given) → is_given (codes "N") gs ≡ false
    → used count_rule (value ∷ []) (rows_for gs) ≡ rows_for (gs ++ record { name = codes "N"; value = value } ∷ [])
used_count value gs none = row_added (codes "N") value gs none
