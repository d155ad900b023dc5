-- What clap makes of the words after `run` or `replay`, by the names and values that they give.
use Rattle.std.proofs.Common.{◌≡◌, ◌∙◌, ◌&&◌, ◌||◌, ◌++◌, ◌⊎◌, inl, inr, ℕ, Bool, cond, codes, true, false, not, refl, sym, ap, subst, List, [], ◌∷◌, map, drop, Option, Some, None, true≢false}
use Rattle.std.specs.List.{fold, list_any}
use Rattle.std.specs.Str.{bytes_eq}
use Rattle.std.proofs.lemmas.List.Folds.{list_any-append}
use Rattle.clap.specs.Faults.{check_fault, defaults_fault, settle_fault, turn_fault, use_fault, walk_fault}
use Rattle.clap.specs.Kinds.{Kinds, or_else}
use Rattle.clap.specs.Lexer.{long_of}
use Rattle.clap.specs.Takes.{is_given as is_given_row}
use Rattle.clap.specs.Walk.{Held, Row, Rule, Waiting, Walk, arg_by_long, finished, has_row, idle, option, settled, settled_rows, used, walked, with_default}
use Rattle.clap.specs.declared.error.kind.ErrorKind.{ErrorKind}
use Rattle.clap.specs.declared.error.kind.ErrorKind.TheVariants as kind
use Rattle.command_words.specs.Words.{Given, Text, is_among, is_given, is_hyphenated, is_option, name_in, value_in}
use Rattle.command_words.proofs.Rows.{by_id, count_rule, has_row_for, is_given_for, long_found, option_rule, rows_for, rules_for, same_text, shape_for, used_count, used_option}
use Rattle.command_words.proofs.Turns.{IsLong, IsPlain, attached_turn, attached_walk, count_turn, count_walk, held_at, long_from, opening_turn, opening_walk, plain_from, stand, stray_turn, unknown_turn, value_turn, value_walk}

-- ---- kinds

or_else-nil : (a : Kinds) → or_else a [] ≡ a
or_else-nil [] = refl
or_else-nil (k ∷ ks) = refl

or_else-first : (a b : Kinds) → or_else a b ≡ [] → a ≡ []
or_else-first [] b e = refl
or_else-first (k ∷ ks) b e = e

some_kind : (a : Kinds) (k : ErrorKind) → a ≡ k ∷ [] → a ≡ [] → ⊥
some_kind a k is none = let no : k ∷ [] ≡ [] = sym is ∙ none in cc

-- ---- the words, read as clap reads them

abbrev pub given_one : Text → Text → Given
given_one name value = record { name = name; value = value }

abbrev pub add : Text → Text → List Given → (List Given → Option (List Given)) → Option (List Given)
add name value gs next = cond (is_given name gs) None (next (gs ++ given_one name value ∷ []))

abbrev pub value_read : List Given → Text → Option Text → (List Given → Option Text → Option (List Given))
    → Option (List Given)
value_read gs name (Some value) next = add name value gs (λ more. next more None)
value_read gs name None next = next gs (Some name)

-- all that is given after `gs`, where nothing is given twice and N is given
abbrev pub reads : List Text → List Text → List Given → Option Text → Option (List Given)
reads names [] gs None = cond (is_given (codes "N") gs) (Some gs) None
reads names [] gs (Some name) = None
reads names (word ∷ rest) gs (Some name) =
    cond (is_hyphenated word) None (add name word gs (λ more. reads names rest more None))
reads names (word ∷ rest) gs None = cond (is_hyphenated word)
    (cond (is_option word) (cond (is_among (name_in (drop 2 word)) names)
    (value_read gs (name_in (drop 2 word)) (value_in (drop 2 word)) (reads names rest)) None) None)
    (add (codes "N") word gs (λ more. reads names rest more None))

-- ---- one use

use_is : (name value : Text) (gs : List Given)
    → use_fault false (option_rule name) (value ∷ []) (rows_for gs)
    ≡ cond (is_given name gs) (kind.ArgumentConflict ∷ []) []
use_is name value gs = rw (has_row_for name gs) (go (is_given name gs))
  where
    go : (b : Bool) → or_else (cond (b && true) (kind.ArgumentConflict ∷ []) []) []
        ≡ cond b (kind.ArgumentConflict ∷ []) []
    go true = refl
    go false = refl

use_count_is : (value : Text) (gs : List Given)
    → use_fault false count_rule (value ∷ []) (rows_for gs)
    ≡ cond (is_given (codes "N") gs) (kind.ArgumentConflict ∷ []) []
use_count_is value gs = rw (has_row_for (codes "N") gs) (go (is_given (codes "N") gs))
  where
    go : (b : Bool) → or_else (cond (b && true) (kind.ArgumentConflict ∷ []) []) []
        ≡ cond b (kind.ArgumentConflict ∷ []) []
    go true = refl
    go false = refl

-- ---- after the walk

cond_same : {A : Type 0} (b : Bool) (x : A) → cond b x x ≡ x
cond_same true x = refl
cond_same false x = refl

or_true : (b : Bool) → (b || true) ≡ true
or_true true = refl
or_true false = refl

no_option_defaults : (names : List Text) (rows : List Row) → fold with_default rows (map option_rule names) ≡ rows
no_option_defaults [] rows = refl
no_option_defaults (x ∷ xs) rows =
    ap (λ r. fold with_default r (map option_rule xs)) (cond_same (has_row x rows) rows) ∙ no_option_defaults xs rows

no_defaults : (names : List Text) (rows : List Row) → fold with_default rows (rules_for names) ≡ rows
no_defaults names rows =
    ap (λ r. fold with_default r (map option_rule names)) (cond_same (has_row (codes "N") rows) rows)
    ∙ no_option_defaults names rows

no_option_faults : (names : List Text) (rows : List Row) → defaults_fault rows (map option_rule names) ≡ []
unfolding defaults_fault
no_option_faults [] rows = refl
no_option_faults (x ∷ xs) rows =
    rw (or_true (has_row x rows)) (ap (λ r. defaults_fault r (map option_rule xs)) (cond_same (has_row x rows) rows)
    ∙ no_option_faults xs rows)

no_default_faults : (names : List Text) (rows : List Row) → defaults_fault rows (rules_for names) ≡ []
unfolding defaults_fault
no_default_faults names rows =
    rw (or_true (has_row (codes "N") rows)) (ap (λ r. defaults_fault r (map option_rule names))
    (cond_same (has_row (codes "N") rows) rows) ∙ no_option_faults names rows)

none_required : (names : List Text) (rows : List Row)
    → list_any (λ (a : Rule). a.required && not (is_given_row a.id rows)) (map option_rule names) ≡ false
none_required [] rows = refl
none_required (x ∷ xs) rows = none_required xs rows

check_is : (command : Text) (names : List Text) (gs : List Given)
    → check_fault (shape_for command names) (rows_for gs) false
    ≡ cond (is_given (codes "N") gs) [] (kind.MissingRequiredArgument ∷ [])
check_is command names gs =
    rw (none_required names (rows_for gs), is_given_for (codes "N") gs) (go (is_given (codes "N") gs))
  where
    go : (b : Bool) → cond (not b || false) (kind.MissingRequiredArgument ∷ []) []
        ≡ cond b [] (kind.MissingRequiredArgument ∷ [])
    go true = refl
    go false = refl

-- ---- the walk

-- the kinds and the rows of a parse that gives `gs`, or of one that fails
abbrev pub Agrees : Kinds → List Row → Option (List Given) → Type 0
Agrees kinds rows None = kinds ≡ [] → ⊥
Agrees kinds rows (Some gs) = (kinds ≡ []) × (rows ≡ rows_for gs)

-- no stray word
abbrev pub IsShaped : Text → Type 0
IsShaped word = (is_hyphenated word && not (is_option word)) ≡ false

abbrev pub AllShaped : List Text → Type 0
AllShaped [] = Unit {0}
AllShaped (word ∷ rest) = IsShaped word × AllShaped rest

abbrev sort : Text → Type 0
sort word = (is_hyphenated word ≡ false) ⊎ ((is_hyphenated word ≡ true) × (is_option word ≡ true))

sorted : (word : Text) → IsShaped word → sort word
sorted word shaped = go (is_hyphenated word) (is_option word) refl refl
  where
    go : (a b : Bool) → is_hyphenated word ≡ a → is_option word ≡ b → sort word
    go false b h o = inl h
    go true true h o = inr (h, o)
    go true false h o = absurd (true≢false (rw (h, o) at shaped))

abbrev position_after : List Given → ℕ
position_after gs = cond (is_given (codes "N") gs) 2 1

abbrev waiting_as : Option Text → Waiting
waiting_as None = idle
waiting_as (Some id) = option id

module _ (command : Text) (names : List Text) (no_N : is_among (codes "N") names ≡ false) where
  abbrev end_fault : Held → Kinds
  end_fault end =
      or_else (settle_fault (rules_for names) false end) (or_else
      (defaults_fault (settled (rules_for names) end).rows (rules_for names))
      (check_fault (shape_for command names) (finished (rules_for names) end) false))

  abbrev walk_end : Walk → List Text → Held
  walk_end w words = (fold (walked (rules_for names) []) w words).held

  abbrev pub rest_fault : Walk → List Text → Kinds
  rest_fault w words = or_else (walk_fault (shape_for command names) [] w words) (end_fault (walk_end w words))

  abbrev pub rest_rows : Walk → List Text → List Row
  rest_rows w words = finished (rules_for names) (walk_end w words)

  turn_agrees : (w after : Walk) (word : Text) (rest : List Text) (o : Option (List Given))
      → turn_fault (shape_for command names) [] w word ≡ []
      → walked (rules_for names) [] w word ≡ after → Agrees (rest_fault after rest) (rest_rows after rest) o
      → Agrees (rest_fault w (word ∷ rest)) (rest_rows w (word ∷ rest)) o
  unfolding walk_fault
  turn_agrees w after word rest o passes next h =
      subst (λ (k : Kinds). Agrees (or_else (or_else k (walk_fault (shape_for command names) []
      (walked (rules_for names) [] w word) rest)) (end_fault (walk_end w (word ∷ rest))))
      (rest_rows w (word ∷ rest)) o)
      (sym passes)
      (subst (λ (v : Walk). Agrees (rest_fault v rest) (rest_rows v rest) o) (sym next) h)

  turn_fails : (w : Walk) (word : Text) (rest : List Text) → (turn_fault (shape_for command names) [] w word ≡ [] → ⊥)
      → rest_fault w (word ∷ rest) ≡ [] → ⊥
  unfolding walk_fault
  turn_fails w word rest fails none = fails (or_else-first _ _ (or_else-first _ _ none))

  -- the walk stands where `gs` is given, with what is pending
  abbrev Stands : List Given → Option Text → List Row → Option (Text × List Text) → ℕ → Type 0
  Stands gs None rows pending position =
      (settle_fault (rules_for names) false (held_at rows pending) ≡ [])
      × (settled_rows (rules_for names) pending rows ≡ rows_for gs) × (position ≡ position_after gs)
  Stands gs (Some id) rows pending position =
      (pending ≡ Some (id, [])) × (rows ≡ rows_for gs) × (position ≡ position_after gs) × (is_among id names ≡ true)

  abbrev Goes : List Text → Type 0
  Goes words =
      (gs : List Given) (waiting : Option Text) (rows : List Row) (pending : Option (Text × List Text)) (position : ℕ)
      → Stands gs waiting rows pending position
      → Agrees (rest_fault (stand rows pending (waiting_as waiting) position) words)
      (rest_rows (stand rows pending (waiting_as waiting) position) words) (reads names words gs waiting)

  abbrev Fits : Walk → List Text → Option (List Given) → Type 0
  Fits w words o = Agrees (rest_fault w words) (rest_rows w words) o

  fits_as : (w v : Walk) (words : List Text) (o q : Option (List Given)) → w ≡ v → o ≡ q → Fits v words q
      → Fits w words o
  fits_as w v words o q same is h =
      subst (λ (x : Walk). Fits x words o) (sym same) (subst (λ (x : Option (List Given)). Fits v words x) (sym is) h)

  -- what `--name` and `--name=value` come to, where the command has the option
  found_as : (name : Text) → is_among name names ≡ true → arg_by_long (rules_for names) name ≡ Some (option_rule name)
  found_as name among = long_found names name ∙ ap (λ b. cond b (Some (option_rule name)) None) among

  lost_as : (name : Text) → is_among name names ≡ false → arg_by_long (rules_for names) name ≡ None
  lost_as name lost = long_found names name ∙ ap (λ b. cond b (Some (option_rule name)) None) lost

  -- the turn of an option where a use is to fail
  option_turn_fails : (word : Text) → IsLong word
      → (rows : List Row) (pending : Option (Text × List Text)) (waiting : Waiting) (position : ℕ)
      → (settle_fault (rules_for names) false (held_at rows pending) ≡ [] → ⊥)
      → turn_fault (shape_for command names) [] (stand rows pending waiting position) word ≡ [] → ⊥
  option_turn_fails word l rows pending waiting position fails none =
      go (is_among (name_in (drop 2 word)) names) refl (value_in (drop 2 word)) refl
    where
      go : (b : Bool) → is_among (name_in (drop 2 word)) names ≡ b → (v : Option Text) → value_in (drop 2 word) ≡ v → ⊥
      go false lost v is =
          some_kind _ kind.UnknownArgument (unknown_turn command names rows pending position word waiting
          (name_in (drop 2 word)) (value_in (drop 2 word)) l.not_end l.parts (lost_as _ lost)) none
      go true among (Some value) is =
          fails (or_else-first _ _ (or_else-first _ _ (sym (attached_turn command names rows pending position word
          waiting (name_in (drop 2 word)) value l.not_end
          (l.parts ∙ ap (λ (x : Option Text). Some (name_in (drop 2 word), x)) is) (found_as _ among)) ∙ none)))
      go true among None is =
          fails (or_else-first _ _ (sym (opening_turn command names rows pending position word waiting
          (name_in (drop 2 word)) l.not_end
          (l.parts ∙ ap (λ (x : Option Text). Some (name_in (drop 2 word), x)) is) (found_as _ among)) ∙ none))

  -- a use that fails fails at the next word, or at the end
  fails_later : (words : List Text) → AllShaped words
      → (rows : List Row) (pending : Option (Text × List Text)) (gs : List Given)
      → (settle_fault (rules_for names) false (held_at rows pending) ≡ [] → ⊥)
      → rest_fault (stand rows pending idle (position_after gs)) words ≡ [] → ⊥
  unfolding walk_fault
  fails_later [] all rows pending gs fails none = fails (or_else-first _ _ none)
  fails_later (word ∷ rest) all rows pending gs fails none = go (sorted word all.0)
    where
      plain_fails : IsPlain word → (b : Bool) → turn_fault (shape_for command names) []
          (stand rows pending idle (cond b 2 1)) word ≡ [] → ⊥
      plain_fails plain true e = some_kind _ kind.UnknownArgument (stray_turn command names rows pending 2 word plain) e
      plain_fails plain false e = fails (sym (count_turn command names rows pending 1 word plain) ∙ e)

      go : sort word → ⊥
      go (inl h) =
          turn_fails (stand rows pending idle (position_after gs)) word rest
          (plain_fails (plain_from word h) (is_given (codes "N") gs)) none
      go (inr h) =
          turn_fails (stand rows pending idle (position_after gs)) word rest
          (option_turn_fails word (long_from word h.1) rows pending idle (position_after gs) fails) none

  -- the end, where all uses pass
  end_agrees : (end : Held) (gs : List Given) → settle_fault (rules_for names) false end ≡ []
      → settled_rows (rules_for names) end.pending end.rows ≡ rows_for gs
      → Agrees (end_fault end) (finished (rules_for names) end) (cond (is_given (codes "N") gs) (Some gs) None)
  end_agrees end gs passes is =
      go (is_given (codes "N") gs) (end_fault end) (finished (rules_for names) end) kinds_are rows_are
    where
      rows_are : finished (rules_for names) end ≡ rows_for gs
      rows_are = no_defaults names (settled_rows (rules_for names) end.pending end.rows) ∙ is

      kinds_are : end_fault end ≡ cond (is_given (codes "N") gs) [] (kind.MissingRequiredArgument ∷ [])
      kinds_are =
          ap (λ a. or_else a (or_else (defaults_fault (settled (rules_for names) end).rows (rules_for names))
          (check_fault (shape_for command names) (finished (rules_for names) end) false))) passes
          ∙ ap (λ b. or_else b (check_fault (shape_for command names) (finished (rules_for names) end) false))
          (no_default_faults names (settled (rules_for names) end).rows)
          ∙ ap (λ rs. check_fault (shape_for command names) rs false) rows_are ∙ check_is command names gs

      go : (b : Bool) (kinds : Kinds) (rows : List Row) → kinds ≡ cond b [] (kind.MissingRequiredArgument ∷ [])
          → rows ≡ rows_for gs → Agrees kinds rows (cond b (Some gs) None)
      go true kinds rows k r = (k, r)
      go false kinds rows k r = some_kind kinds kind.MissingRequiredArgument k

  -- an option whose value is still to come
  open_fails : (rows : List Row) (id : Text) → is_among id names ≡ true
      → settle_fault (rules_for names) false (held_at rows (Some (id, []))) ≡ [] → ⊥
  open_fails rows id among = some_kind _ kind.InvalidValue (open_is rows id among)
    where
      open_is : (rows : List Row) (id : Text) → is_among id names ≡ true
          → settle_fault (rules_for names) false (held_at rows (Some (id, []))) ≡ kind.InvalidValue ∷ []
      open_is rows id among = rw (by_id names id no_N among) refl

  ends : Goes []
  unfolding walk_fault
  ends gs None rows pending position stands = end_agrees (held_at rows pending) gs stands.0 stands.1
  ends gs (Some id) rows pending position stands = λ none.
      open_fails rows id stands.3 (or_else-first _ _ (subst (λ (p : Option (Text × List Text)). end_fault
      (held_at rows p) ≡ []) stands.0 none))

  -- N is given as before where an option is
  still_N : (gs : List Given) (name value : Text) → is_among name names ≡ true
      → is_given (codes "N") (gs ++ given_one name value ∷ []) ≡ is_given (codes "N") gs
  still_N gs name value among =
      list_any-append (λ (g : Given). bytes_eq g.name (codes "N")) gs (given_one name value ∷ [])
      ∙ ap (λ b. is_given (codes "N") gs || (b || false)) (other (bytes_eq name (codes "N")) refl)
      ∙ or_false (is_given (codes "N") gs)
    where
      other : (b : Bool) → bytes_eq name (codes "N") ≡ b → bytes_eq name (codes "N") ≡ false
      other false e = e
      other true e =
          absurd (true≢false (sym (subst (λ (t : Text). is_among t names ≡ true) (same_text name (codes "N") e) among)
          ∙ no_N))

      or_false : (b : Bool) → (b || false) ≡ b
      or_false true = refl
      or_false false = refl

  now_N : (gs : List Given) (value : Text) → is_given (codes "N") (gs ++ given_one (codes "N") value ∷ []) ≡ true
  now_N gs value =
      list_any-append (λ (g : Given). bytes_eq g.name (codes "N")) gs (given_one (codes "N") value ∷ [])
      ∙ or_true (is_given (codes "N") gs)

  -- the value of the option before it
  value_step : (word : Text) (rest : List Text) → AllShaped rest → Goes rest → IsPlain word
      → (gs : List Given) (id : Text) → is_among id names ≡ true
      → Fits (stand (rows_for gs) (Some (id, [])) (option id) (position_after gs)) (word ∷ rest)
      (add id word gs (λ next. reads names rest next None))
  value_step word rest all more plain gs id among =
      turn_agrees _ _ word rest (add id word gs (λ next. reads names rest next None))
      (value_turn command names (rows_for gs) (position_after gs) word id plain)
      (value_walk command names (rows_for gs) (position_after gs) word id plain (by_id names id no_N among))
      (go (is_given id gs) refl)
    where
      fault_is : settle_fault (rules_for names) false (held_at (rows_for gs) (Some (id, word ∷ [])))
          ≡ cond (is_given id gs) (kind.ArgumentConflict ∷ []) []
      fault_is = rw (by_id names id no_N among) (use_is id word gs)

      rows_are : is_given id gs ≡ false → settled_rows (rules_for names) (Some (id, word ∷ [])) (rows_for gs)
          ≡ rows_for (gs ++ given_one id word ∷ [])
      rows_are none = rw (by_id names id no_N among) (used_option id word gs none)

      go : (b : Bool) → is_given id gs ≡ b → Fits (stand (rows_for gs) (Some (id, word ∷ [])) idle (position_after gs))
          rest (cond b None (reads names rest (gs ++ given_one id word ∷ []) None))
      go true g =
          fails_later rest all (rows_for gs) (Some (id, word ∷ [])) gs
          (some_kind _ kind.ArgumentConflict (fault_is ∙ ap (λ b. cond b (kind.ArgumentConflict ∷ []) []) g))
      go false g = more (gs ++ given_one id word ∷ []) None (rows_for gs) (Some (id, word ∷ [])) (position_after gs) (
        fault_is ∙ ap (λ b. cond b (kind.ArgumentConflict ∷ []) []) g,
        rows_are g,
        sym (ap (λ b. cond b 2 1) (still_N gs id word among)),
      )

  -- a word that is no option, where none waits for its value
  count_step : (word : Text) (rest : List Text) → Goes rest → IsPlain word
      → (gs : List Given) (rows : List Row) (pending : Option (Text × List Text))
      → settle_fault (rules_for names) false (held_at rows pending) ≡ []
      → settled_rows (rules_for names) pending rows ≡ rows_for gs
      → Fits (stand rows pending idle (position_after gs)) (word ∷ rest)
      (add (codes "N") word gs (λ next. reads names rest next None))
  count_step word rest more plain gs rows pending passes is = go (is_given (codes "N") gs) refl
    where
      go : (b : Bool) → is_given (codes "N") gs ≡ b
          → Fits (stand rows pending idle (cond b 2 1)) (word ∷ rest)
          (cond b None (reads names rest (gs ++ given_one (codes "N") word ∷ []) None))
      go true g =
          turn_fails (stand rows pending idle 2) word rest (some_kind _ kind.UnknownArgument
          (stray_turn command names rows pending 2 word plain))
      go false g =
          turn_agrees _ _ word rest (reads names rest (gs ++ given_one (codes "N") word ∷ []) None)
          (count_turn command names rows pending 1 word plain ∙ passes)
          (count_walk command names rows pending 1 word plain)
          (more (gs ++ given_one (codes "N") word ∷ []) None (settled_rows (rules_for names) pending rows)
          (Some (codes "N", word ∷ [])) 2 (
            ap (λ (rs : List Row). use_fault false count_rule (word ∷ []) rs) is ∙ use_count_is word gs
                ∙ ap (λ b. cond b (kind.ArgumentConflict ∷ []) []) g,
            ap (used count_rule (word ∷ [])) is ∙ used_count word gs g,
            sym (ap (λ b. cond b 2 1) (now_N gs word)),
          ))

  -- an option
  option_step : (word : Text) (rest : List Text) → Goes rest → IsLong word
      → (gs : List Given) (rows : List Row) (pending : Option (Text × List Text)) (position : ℕ)
      → Stands gs None rows pending position
      → Fits (stand rows pending idle position) (word
      ∷ rest) (cond (is_among (name_in (drop 2 word)) names) (value_read gs (name_in (drop 2 word))
      (value_in (drop 2 word)) (reads names rest)) None)
  option_step word rest more l gs rows pending position stands =
      go (is_among (name_in (drop 2 word)) names) refl (value_in (drop 2 word)) refl
    where
      attached : (value : Text) → is_among (name_in (drop 2 word)) names ≡ true → value_in (drop 2 word) ≡ Some value
          → (b : Bool) → is_given (name_in (drop 2 word)) gs ≡ b
          → Fits (stand rows pending idle position) (word
          ∷ rest) (cond b None (reads names rest (gs ++ given_one (name_in (drop 2 word)) value ∷ []) None))
      attached value among is b g = go b g
        where
          parts : long_of word ≡ Some (name_in (drop 2 word), Some value)
          parts = l.parts ∙ ap (λ (x : Option Text). Some (name_in (drop 2 word), x)) is

          use_as : use_fault false (option_rule (name_in (drop 2 word))) (value ∷ [])
              (settled_rows (rules_for names) pending rows)
              ≡ cond (is_given (name_in (drop 2 word)) gs) (kind.ArgumentConflict ∷ []) []
          use_as =
              ap (λ (rs : List Row). use_fault false (option_rule (name_in (drop 2 word))) (value ∷ []) rs) stands.1
              ∙ use_is (name_in (drop 2 word)) value gs

          turn_as : turn_fault (shape_for command names) [] (stand rows pending idle position) word
              ≡ cond (is_given (name_in (drop 2 word)) gs) (kind.ArgumentConflict ∷ []) []
          turn_as =
              attached_turn command names rows pending position word idle (name_in (drop 2 word)) value l.not_end parts
              (found_as _ among) ∙ or_else-nil _
              ∙ ap (λ k. or_else k (use_fault false (option_rule (name_in (drop 2 word))) (value ∷ [])
              (settled_rows (rules_for names) pending rows))) stands.0 ∙ use_as

          go : (b : Bool) → is_given (name_in (drop 2 word)) gs ≡ b
              → Fits (stand rows pending idle position) (word
              ∷ rest) (cond b None (reads names rest (gs ++ given_one (name_in (drop 2 word)) value ∷ []) None))
          go true g =
              turn_fails (stand rows pending idle position) word rest (some_kind _ kind.ArgumentConflict
              (turn_as ∙ ap (λ b. cond b (kind.ArgumentConflict ∷ []) []) g))
          go false g =
              turn_agrees _ _ word rest (reads names rest (gs ++ given_one (name_in (drop 2 word)) value ∷ []) None)
              (turn_as ∙ ap (λ b. cond b (kind.ArgumentConflict ∷ []) []) g)
              (attached_walk command names rows pending position word idle (name_in (drop 2 word)) value l.not_end parts
              (found_as _ among))
              (more (gs ++ given_one (name_in (drop 2 word)) value ∷ []) None
              (used (option_rule (name_in (drop 2 word))) (value
              ∷ []) (settled_rows (rules_for names) pending rows)) None position (
                refl,
                ap (used (option_rule (name_in (drop 2 word))) (value ∷ [])) stands.1
                    ∙ used_option (name_in (drop 2 word)) value gs g,
                stands.2 ∙ sym (ap (λ b. cond b 2 1) (still_N gs (name_in (drop 2 word)) value among)),
              ))

      go : (b : Bool) → is_among (name_in (drop 2 word)) names ≡ b → (v : Option Text) → value_in (drop 2 word) ≡ v
          → Fits (stand rows pending idle position) (word
          ∷ rest) (cond b (value_read gs (name_in (drop 2 word)) v (reads names rest)) None)
      go false lost v is =
          turn_fails (stand rows pending idle position) word rest (some_kind _ kind.UnknownArgument
          (unknown_turn command names rows pending position word idle (name_in (drop 2 word))
          (value_in (drop 2 word)) l.not_end l.parts (lost_as _ lost)))
      go true among (Some value) is = attached value among is (is_given (name_in (drop 2 word)) gs) refl
      go true among None is =
          let parts : long_of word ≡ Some (name_in (drop 2 word), None) = l.parts
          ∙ ap (λ (x : Option Text). Some (name_in (drop 2 word), x)) is in
          turn_agrees _ _ word rest (reads names rest gs (Some (name_in (drop 2 word))))
          (opening_turn command names rows pending position word idle (name_in (drop 2 word)) l.not_end parts
          (found_as _ among) ∙ or_else-nil _ ∙ stands.0)
          (opening_walk command names rows pending position word idle (name_in (drop 2 word)) l.not_end parts
          (found_as _ among))
          (more gs (Some (name_in (drop 2 word))) (settled_rows (rules_for names) pending rows)
          (Some (name_in (drop 2 word), [])) position (refl, stands.1, stands.2, among))

  step : (word : Text) (rest : List Text) → IsShaped word → AllShaped rest → Goes rest → Goes (word ∷ rest)
  step word rest shaped all more gs None rows pending position stands = go (sorted word shaped)
    where
      go : sort word → Fits (stand rows pending idle position) (word ∷ rest) (reads names (word ∷ rest) gs None)
      go (inl h) =
          fits_as (stand rows pending idle position) (stand rows pending idle (position_after gs)) (word ∷ rest)
          (reads names (word ∷ rest) gs None) (add (codes "N") word gs (λ next. reads names rest next None))
          (ap (stand rows pending idle) stands.2) (rw h refl) (count_step word rest more
          (plain_from word h) gs rows pending stands.0 stands.1)
      go (inr h) = rw (h.0, h.1) (option_step word rest more (long_from word h.1) gs rows pending position stands)
  step word rest shaped all more gs (Some id) rows pending position stands = go (sorted word shaped)
    where
      w_is : stand rows pending (option id) position
          ≡ stand (rows_for gs) (Some (id, [])) (option id) (position_after gs)
      w_is = λ i. stand (stands.1 i) (stands.0 i) (option id) (stands.2 i)

      go : sort word → Fits (stand rows pending (option id) position) (word ∷ rest)
          (reads names (word ∷ rest) gs (Some id))
      go (inl h) =
          fits_as _ _ (word ∷ rest) (reads names (word ∷ rest) gs (Some id))
          (add id word gs (λ next. reads names rest next None)) w_is (rw h refl)
          (value_step word rest all more (plain_from word h) gs id stands.3)
      go (inr h) =
          fits_as _ _ (word ∷ rest) (reads names (word ∷ rest) gs (Some id)) None w_is (rw h.0 refl)
          (turn_fails _ word rest (option_turn_fails word (long_from word h.1) (rows_for gs) (Some (id, [])) (option id)
          (position_after gs) (open_fails (rows_for gs) id stands.3)))

  -- a parse of shaped words gives what they give
  pub parse : (words : List Text) → AllShaped words → Goes words
  parse [] all = ends
  parse (word ∷ rest) all = step word rest all.0 all.1 (parse rest all.1)
