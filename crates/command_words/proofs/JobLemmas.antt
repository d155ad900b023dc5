-- The names and values that the words give, read as clap reads them, make the job that the
-- definition says.
use Rattle.std.proofs.Common.{◌≡◌, ◌∙◌, ◌&&◌, ◌||◌, ◌++◌, Bool, cond, codes, true, false, not, refl, sym, ap, ap₂, List, [], ◌∷◌, map, drop, option_map, Option, Some, None, append-nil, append_assoc, arith, take, length, ◌-◌, Result, Ok, Err, IfOk}
use Rattle.std.proofs.lemmas.List.{take_all}
use Rattle.clap.proofs.WalkLemmas.{list_any-map}
use Rattle.std.specs.Prelude.{option_and_then}
use Rattle.std.specs.List.{list_any}
use Rattle.std.specs.Str.{bytes_eq}
use Rattle.std.proofs.lemmas.Bool.{or_parts}
use Rattle.std.proofs.lemmas.Option.{none-some}
use Rattle.std.specs.Option.{ok_or}
use Rattle.command_words.specs.declared.reading.WordsError.{WordsError}
use Rattle.command_words.specs.declared.reading.WordsError.TheVariants.{Usage}
use Rattle.command_words.specs.Clap.{HasNoNumber, IsRead}
use Rattle.command_words.specs.Words.{Given, Text, count_of, given_by, given_in, is_among, is_given, is_hyphenated, is_once, is_option, is_stray, job_of, name_in, value_given, value_in, value_then, with_given}
use Rattle.std.proofs.lemmas.Bool.Decides.{same_from_decides}
use Rattle.std.proofs.lemmas.List.Folds.{list_any-append}
use Rattle.std.proofs.lemmas.Slice.Eq.{bytes_eq-Decides}
use Rattle.command_words.proofs.Parse.{AllShaped, add, given_one, reads, value_read}

-- ---- no name is given twice

-- no name of the second list is among those of the first, nor is one given twice there
abbrev is_fresh : List Given → List Given → Bool
is_fresh before [] = true
is_fresh before (g ∷ gs) = not (is_given g.name before) && is_fresh (before ++ g ∷ []) gs

abbrev is_apart : List Given → List Given → Bool
is_apart before [] = true
is_apart before (g ∷ gs) = not (is_given g.name before) && is_apart before gs

text_swap : (a b : Text) → bytes_eq a b ≡ bytes_eq b a
text_swap a b =
    same_from_decides {P = a ≡ b} (bytes_eq a b) (bytes_eq b a) (bytes_eq-Decides a b)
    (λ e. sym ((bytes_eq-Decides b a).0 e), λ e. (bytes_eq-Decides b a).1 (sym e))

push_tests : (a e p q : Bool) → (not (a || (e || false)) && (p && not q)) ≡ ((not a && p) && not (e || q))
push_tests true e p q = refl
push_tests false true true q = refl
push_tests false true false q = refl
push_tests false false true q = refl
push_tests false false false q = refl

apart_push : (before : List Given) (g : Given) (gs : List Given)
    → is_apart (before ++ g ∷ []) gs ≡ (is_apart before gs && not (is_given g.name gs))
apart_push before g [] = refl
apart_push before g (h ∷ hs) =
    ap₂ (λ a b. not a && b)
    (list_any-append (λ (x : Given). bytes_eq x.name h.name) before (g ∷ [])
    ∙ ap (λ e. is_given h.name before || (e || false)) (text_swap g.name h.name))
    (apart_push before g hs)
    ∙ push_tests (is_given h.name before) (bytes_eq h.name g.name) (is_apart before hs) (is_given g.name hs)

fresh_tests : (a p q o : Bool) → (not a && ((p && not q) && o)) ≡ ((not a && p) && (not q && o))
fresh_tests true p q o = refl
fresh_tests false true q o = refl
fresh_tests false false q o = refl

fresh_is : (before gs : List Given) → is_fresh before gs ≡ (is_apart before gs && is_once gs)
fresh_is before [] = refl
fresh_is before (g ∷ gs) =
    ap (λ b. not (is_given g.name before) && b) (fresh_is (before ++ g ∷ []) gs
    ∙ ap (λ b. b && is_once gs) (apart_push before g gs))
    ∙ fresh_tests (is_given g.name before) (is_apart before gs) (is_given g.name gs) (is_once gs)

apart_from_none : (gs : List Given) → is_apart [] gs ≡ true
apart_from_none [] = refl
apart_from_none (g ∷ gs) = apart_from_none gs

once_is : (gs : List Given) → is_once gs ≡ is_fresh [] gs
once_is gs = sym (fresh_is [] gs ∙ ap (λ b. b && is_once gs) (apart_from_none gs))

-- ---- what is given after the words so far

-- all that is given, where nothing is given twice and N is given
abbrev joined : List Given → List Given → Option (List Given)
joined gs more = cond (is_fresh gs more && is_given (codes "N") (gs ++ more)) (Some (gs ++ more)) None

add_joined : (gs : List Given) (g : Given) (o : Option (List Given))
    → cond (is_given g.name gs) None (option_and_then (joined (gs ++ g ∷ [])) o)
    ≡ option_and_then (joined gs) (option_map (λ more. g ∷ more) o)
add_joined gs g None = go (is_given g.name gs)
  where
    go : (b : Bool) → ◌≡◌ {A = Option (List Given)} (cond b None None) None
    go true = refl
    go false = refl
add_joined gs g (Some more) = go (is_given g.name gs)
  where
    go : (b : Bool) → cond b None (joined (gs ++ g ∷ []) more)
        ≡ cond ((not b && is_fresh (gs ++ g ∷ []) more) && is_given (codes "N") (gs ++ g ∷ more))
        (Some (gs ++ g ∷ more)) None
    go true = refl
    go false =
        ap (λ all. cond (is_fresh (gs ++ g ∷ []) more && is_given (codes "N") all) (Some all) None)
        (append_assoc gs (g ∷ []) more)

abbrev SameAfter : List Text → List Text → Type 0
SameAfter names words =
    (gs : List Given) (waiting : Option Text) → reads names words gs waiting
    ≡ option_and_then (joined gs) (given_by names waiting words)

add_same : (names rest : List Text) → SameAfter names rest → (name value : Text) (gs : List Given)
    → add name value gs (λ more. reads names rest more None)
    ≡ option_and_then (joined gs) (with_given name value (given_by names None rest))
add_same names rest same name value gs =
    ap (λ o. cond (is_given name gs) None o) (same (gs ++ given_one name value ∷ []) None)
    ∙ add_joined gs (given_one name value) (given_by names None rest)

value_same : (names rest : List Text) → SameAfter names rest → (name : Text) (value : Option Text) (gs : List Given)
    → value_read gs name value (reads names rest)
    ≡ option_and_then (joined gs) (value_then name value (λ waiting. given_by names waiting rest))
value_same names rest same name (Some value) gs = add_same names rest same name value gs
value_same names rest same name None gs = same gs (Some name)

cond_through : (b : Bool) (gs : List Given) (o p : Option (List Given)) → o ≡ option_and_then (joined gs) p
    → cond b o None ≡ option_and_then (joined gs) (cond b p None)
cond_through true gs o p e = e
cond_through false gs o p e = refl

cond_through_both : (b : Bool) (gs : List Given) (o p q r : Option (List Given)) → o ≡ option_and_then (joined gs) p
    → q ≡ option_and_then (joined gs) r
    → cond b o q ≡ option_and_then (joined gs) (cond b p r)
cond_through_both true gs o p q r e f = e
cond_through_both false gs o p q r e f = f

pub reads-given_by : (names words : List Text) → SameAfter names words
reads-given_by names [] gs None = rw (append-nil gs) refl
reads-given_by names [] gs (Some name) = refl
reads-given_by names (word ∷ rest) gs None =
    cond_through_both (is_hyphenated word) gs _ _ _ _
    (cond_through (is_option word) gs _ _ (cond_through (is_among (name_in (drop 2 word)) names) gs _ _
    (value_same names rest (reads-given_by names rest) (name_in (drop 2 word)) (value_in (drop 2 word)) gs)))
    (add_same names rest (reads-given_by names rest) (codes "N") word gs)
reads-given_by names (word ∷ rest) gs (Some name) =
    cond_through_both (is_hyphenated word) gs _ _ _ _ refl (add_same names rest
    (reads-given_by names rest) name word gs)

-- ---- the job

pub not_given : (name : Text) (gs : List Given) → is_given name gs ≡ false → value_given gs name ≡ None
not_given name [] none = refl
not_given name (g ∷ gs) none =
    let parts = or_parts _ _ none in
    let here : bytes_eq g.name name ≡ false = parts.0 in
    rw here (not_given name gs parts.1)

abbrev with_number : List Given → Option (List Given)
with_number gs = cond (is_given (codes "N") gs) (Some gs) None

number_joined : (gs : List Given) → joined [] gs ≡ option_and_then with_number (cond (is_once gs) (Some gs) None)
number_joined gs =
    go (is_fresh [] gs) ∙ ap (λ b. option_and_then with_number (cond b (Some gs) None)) (sym (once_is gs))
  where
    go : (a : Bool) → cond (a && is_given (codes "N") gs) (Some gs) None
        ≡ option_and_then with_number (cond a (Some gs) None)
    go true = refl
    go false = refl

-- clap reads what the words give, where a number is among it
pub reads-given : (names words : List Text)
    → reads names words [] None ≡ option_and_then with_number (given_in names words)
reads-given names words = reads-given_by names words [] None ∙ go (given_by names None words)
  where
    go : (o : Option (List Given)) → option_and_then (joined []) o
        ≡ option_and_then with_number (option_and_then (λ gs. cond (is_once gs) (Some gs) None) o)
    go None = refl
    go (Some gs) = number_joined gs

-- what is read is what the words give
pub given_read : (names words : List Text) (gs : List Given) → reads names words [] None ≡ Some gs
    → given_in names words ≡ Some gs
given_read names words gs e = go (given_in names words) (sym (reads-given names words) ∙ e)
  where
    known : (b : Bool) (all : List Given) → cond b (Some all) None ≡ Some gs → Some all ≡ Some gs
    known true all e = e
    known false all e = absurd (none-some gs e)

    go : (o : Option (List Given)) → option_and_then with_number o ≡ Some gs → o ≡ Some gs
    go None e = e
    go (Some all) e = known (is_given (codes "N") all) all e

-- where nothing is read no number is given
pub number_unread : (names words : List Text) → reads names words [] None ≡ None → HasNoNumber names words
number_unread names words e gs given =
    go (is_given (codes "N") gs) refl
    (sym (reads-given names words ∙ ap (option_and_then with_number) given) ∙ e)
  where
    go : (b : Bool) → is_given (codes "N") gs ≡ b → with_number gs ≡ None → value_given gs (codes "N") ≡ None
    go true is none = absurd (none-some gs (sym (rw is at none)))
    go false is none = not_given (codes "N") gs is

-- ---- what is read of the values

module _ {A : Type 0} (read : (Text → Option Text) → Option A) (names words : List Text) where
  pub read_taken : (value_of : Text → Option Text) → IsRead names words value_of
      → read value_of ≡ option_and_then (λ gs. read (value_given gs)) (given_in names words)
  read_taken value_of is =
      ap read (λ i name. is.values name i)
      ∙ sym (ap (option_and_then (λ gs. read (value_given gs))) is.given)

  pub read_refused : ((value_of : Text → Option Text) → value_of (codes "N") ≡ None → read value_of ≡ None)
      → HasNoNumber names words → option_and_then (λ gs. read (value_given gs)) (given_in names words) ≡ None
  read_refused needs none = go (given_in names words) refl
    where
      go : (o : Option (List Given)) → given_in names words ≡ o → option_and_then (λ gs. read (value_given gs)) o ≡ None
      go None is = refl
      go (Some gs) is = needs (value_given gs) (none gs is)

pub no_job : (value_of : Text → Option Text) → value_of (codes "N") ≡ None → job_of value_of ≡ None
no_job value_of none = rw none refl

pub no_count : (value_of : Text → Option Text) → value_of (codes "N") ≡ None → count_of value_of ≡ None
no_count value_of none = rw none refl

-- of what is read and of what the words are
pub ok_read : {X : Type 0} (o p : Option X) (r : Result X WordsError) → o ≡ p → r ≡ ok_or o Usage
    → IfOk r (λ x. p ≡ Some x)
ok_read {X = X} (Some x) p (Ok y) e f = let same : x ≡ y = cc in sym e ∙ ap Some same
ok_read (Some x) p (Err y) e f = tt
ok_read {X = X} None p (Ok y) e f = let no : ◌≡◌ {A = Result X WordsError} (Ok y) (Err Usage) = f in cc
ok_read None p (Err y) e f = tt

pub none_read : {X : Type 0} (o p : Option X) (r : Result X WordsError) → o ≡ p → r ≡ ok_or o Usage → r ≡ Err Usage
    → p ≡ None
none_read {X = X} (Some x) p r e f g = let no : ◌≡◌ {A = Result X WordsError} (Ok x) (Err Usage) = sym f ∙ g in cc
none_read None p r e f g = sym e

-- ---- stray words

pub all_shaped : (words : List Text) → list_any is_stray words ≡ false → AllShaped words
all_shaped [] none = tt
all_shaped (word ∷ rest) none = let parts = or_parts _ _ none in (parts.0, all_shaped rest parts.1)

nothing_then : (name : Text) (value : Option Text) (rest : Option Text → Option (List Given))
    → ((waiting : Option Text) → rest waiting ≡ None) → value_then name value rest ≡ None
nothing_then name (Some value) rest none = rw (none None) refl
nothing_then name None rest none = none (Some name)

stray_given : (names words : List Text) (waiting : Option Text) → list_any is_stray words ≡ true
    → given_by names waiting words ≡ None
stray_given names [] waiting some = cc
stray_given names (word ∷ rest) None some =
    go (is_hyphenated word) (is_option word) refl refl (λ waiting. stray_given names rest waiting)
  where
    known : (b : Bool) → ((waiting : Option Text) → given_by names waiting rest ≡ None)
        → cond b (value_then (name_in (drop 2 word)) (value_in (drop 2 word)) (λ waiting. given_by names waiting rest))
        None ≡ None
    known true none =
        nothing_then (name_in (drop 2 word)) (value_in (drop 2 word)) (λ waiting. given_by names waiting rest) none
    known false none = refl

    go : (a b : Bool) → is_hyphenated word ≡ a → is_option word ≡ b
        → ((waiting : Option Text) → list_any is_stray rest ≡ true → given_by names waiting rest ≡ None)
        → given_by names None (word ∷ rest) ≡ None
    go false b h o more = rw h (rw (more None (rw h at some)) refl)
    go true false h o more = rw (h, o) refl
    go true true h o more =
        rw (h, o) (known (is_among (name_in (drop 2 word)) names) (λ waiting. more waiting (rw (h, o) at some)))
stray_given names (word ∷ rest) (Some name) some = go (is_hyphenated word) refl (stray_given names rest None)
  where
    go : (a : Bool) → is_hyphenated word ≡ a → (list_any is_stray rest ≡ true → given_by names None rest ≡ None)
        → given_by names (Some name) (word ∷ rest) ≡ None
    go false h more = rw h (rw (more (rw h at some)) refl)
    go true h more = rw h refl

-- where a word is stray nothing is given
pub stray_nothing : (names words : List Text) → list_any is_stray words ≡ true → given_in names words ≡ None
stray_nothing names words some = rw (stray_given names words None some) refl

pub stray_unread : (names words : List Text) → list_any is_stray words ≡ true → HasNoNumber names words
stray_unread names words some gs is = absurd (none-some gs (sym (stray_nothing names words some) ∙ is))

-- the words after the first, as the code tests them
pub stray-map : {X : Type 0} (f : X → Text) (ws : List X)
    → list_any (λ w. is_stray (f w)) (take (length ws - 1) (drop 1 ws)) ≡ list_any is_stray (drop 1 (map f ws))
stray-map f [] = refl
stray-map f (w ∷ ws) =
    ap (list_any (λ v. is_stray (f v))) (take_all (length (w ∷ ws) - 1) ws (omega arith)) ∙ list_any-map is_stray f ws
