-- What each word does to clap's walk.
use Rattle.std.proofs.Common.{◌≡◌, ◌&&◌, ◌==◌, ℕ, Bool, codes, true, false, refl, sym, List, [], ◌∷◌, drop, Option, Some, None, true≢false}
use Rattle.std.specs.Str.{bytes_eq}
use Rattle.std.proofs.lemmas.Bool.{and_parts}
use Rattle.clap.specs.Faults.{settle_fault, turn_fault, use_fault}
use Rattle.clap.specs.Kinds.{or_else}
use Rattle.clap.specs.Lexer.{long_of, short_of}
use Rattle.clap.specs.Walk.{Held, Row, Waiting, Walk, arg_by_id, arg_by_index, arg_by_long, idle, is_pending, option, positional, settled_rows, subcommand_met, used, walked}
use Rattle.clap.specs.declared.error.kind.ErrorKind.TheVariants as kind
use Rattle.command_words.specs.Words.{Text, is_hyphenated, is_option, name_in, value_in}
use Rattle.command_words.proofs.Rows.{count_rule, option_rule, rules_for, shape_for, text_is}

-- ---- words

pub record IsPlain (word : Text) : Type 0 where
  pub not_end : bytes_eq word (45 ∷ 45 ∷ []) ≡ false
  pub not_long : long_of word ≡ None
  pub not_short : short_of word ≡ None

pub plain_from : (word : Text) → is_hyphenated word ≡ false → IsPlain word
plain_from [] e = record { not_end = refl; not_long = refl; not_short = refl }
plain_from (b ∷ bs) e = record { not_end = rw e refl; not_long = rw e refl; not_short = rw e refl }

pub record IsLong (word : Text) : Type 0 where
  pub not_end : bytes_eq word (45 ∷ 45 ∷ []) ≡ false
  pub parts : long_of word ≡ Some (name_in (drop 2 word), value_in (drop 2 word))

pub long_from : (word : Text) → is_option word ≡ true → IsLong word
long_from [] e = cc
long_from (a ∷ []) e = absurd (true≢false (sym (and_parts _ _ e).1))
long_from (a ∷ b ∷ []) e = absurd (true≢false (sym (and_parts _ _ (and_parts _ _ e).1).1))
long_from (a ∷ b ∷ x ∷ xs) e =
    let first : (a == 45) ≡ true = (and_parts _ _ e).0 in
    let second : (b == 45) ≡ true = (and_parts _ _ (and_parts _ _ e).1).0 in
    record { not_end = rw (first, second) refl; parts = rw (first, second) refl }

-- ---- turns

abbrev pub held_at : List Row → Option (Text × List Text) → Held
held_at rows pending = record { rows = rows; pending = pending; skip = 0 }

abbrev pub stand : List Row → Option (Text × List Text) → Waiting → ℕ → Walk
stand rows pending waiting position = record {
  held = held_at rows pending;
  waiting = waiting;
  position = position;
  is_trailing = false;
  stopped = None;
}

nothing_met : (waiting : Waiting) (word : Text) → subcommand_met [] waiting word ≡ None
nothing_met idle word = refl
nothing_met (option id) word = refl
nothing_met positional word = refl

and_never : (b : Bool) → (b && false) ≡ false
and_never true = refl
and_never false = refl

-- no second word goes to a positional
no_second : (names : List Text) → arg_by_index (rules_for names) 2 ≡ None
no_second [] = refl
no_second (x ∷ xs) = no_second xs

module _ (command : Text) (names : List Text) (rows : List Row) (pending : Option (Text × List Text)) (position : ℕ)
    (word : Text) where
  -- an option that the command lacks
  pub unknown_turn : (waiting : Waiting) (name : Text) (value : Option Text) → bytes_eq word (45 ∷ 45 ∷ []) ≡ false
      → long_of word ≡ Some (name, value) → arg_by_long (rules_for names) name ≡ None
      → turn_fault (shape_for command names) [] (stand rows pending waiting position) word ≡ kind.UnknownArgument ∷ []
  unknown_turn waiting name value not_end parts found = rw (nothing_met waiting word, not_end, parts, found) refl

  -- `--name=value`
  pub attached_turn : (waiting : Waiting) (name value : Text) → bytes_eq word (45 ∷ 45 ∷ []) ≡ false
      → long_of word ≡ Some (name, Some value)
      → arg_by_long (rules_for names) name ≡ Some (option_rule name)
      → turn_fault (shape_for command names) [] (stand rows pending waiting position) word
      ≡ or_else (or_else (settle_fault (rules_for names) false (held_at rows pending))
      (use_fault false (option_rule name) (value ∷ []) (settled_rows (rules_for names) pending rows))) []
  attached_turn waiting name value not_end parts found = rw (nothing_met waiting word, not_end, parts, found) refl

  pub attached_walk : (waiting : Waiting) (name value : Text) → bytes_eq word (45 ∷ 45 ∷ []) ≡ false
      → long_of word ≡ Some (name, Some value)
      → arg_by_long (rules_for names) name ≡ Some (option_rule name)
      → walked (rules_for names) [] (stand rows pending waiting position) word
      ≡ stand (used (option_rule name) (value ∷ []) (settled_rows (rules_for names) pending rows)) None idle position
  unfolding walked
  attached_walk waiting name value not_end parts found = rw (nothing_met waiting word, not_end, parts, found) refl

  -- `--name`
  pub opening_turn : (waiting : Waiting) (name : Text) → bytes_eq word (45 ∷ 45 ∷ []) ≡ false
      → long_of word ≡ Some (name, None)
      → arg_by_long (rules_for names) name ≡ Some (option_rule name)
      → turn_fault (shape_for command names) [] (stand rows pending waiting position) word
      ≡ or_else (settle_fault (rules_for names) false (held_at rows pending)) []
  opening_turn waiting name not_end parts found = rw (nothing_met waiting word, not_end, parts, found) refl

  pub opening_walk : (waiting : Waiting) (name : Text) → bytes_eq word (45 ∷ 45 ∷ []) ≡ false
      → long_of word ≡ Some (name, None)
      → arg_by_long (rules_for names) name ≡ Some (option_rule name)
      → walked (rules_for names) [] (stand rows pending waiting position) word
      ≡ stand (settled_rows (rules_for names) pending rows) (Some (name, [])) (option name) position
  unfolding walked
  opening_walk waiting name not_end parts found = rw (nothing_met waiting word, not_end, parts, found) refl

  -- a word that is no option, where none waits for its value: it is `N`, if there is none yet
  pub count_turn : IsPlain word → turn_fault (shape_for command names) [] (stand rows pending idle 1) word
      ≡ settle_fault (rules_for names) false (held_at rows pending)
  count_turn plain = rw (plain.not_end, plain.not_long, plain.not_short, and_never (is_pending count_rule pending)) refl

  pub count_walk : IsPlain word
      → walked (rules_for names) [] (stand rows pending idle 1) word
      ≡ stand (settled_rows (rules_for names) pending rows) (Some (codes "N", word ∷ [])) idle 2
  unfolding walked
  count_walk plain = rw (plain.not_end, plain.not_long, plain.not_short, and_never (is_pending count_rule pending)) refl

  pub stray_turn : IsPlain word → turn_fault (shape_for command names) [] (stand rows pending idle 2) word
      ≡ kind.UnknownArgument ∷ []
  stray_turn plain = rw (plain.not_end, plain.not_long, plain.not_short, no_second names) refl

module _ (command : Text) (names : List Text) (rows : List Row) (position : ℕ) (word id : Text) where
  -- the value of the option before it
  pub value_turn : IsPlain word → turn_fault (shape_for command names) []
      (stand rows (Some (id, [])) (option id) position) word ≡ []
  value_turn plain = rw (plain.not_end, plain.not_long, plain.not_short) refl

  pub value_walk : IsPlain word → arg_by_id (rules_for names) id ≡ Some (option_rule id)
      → walked (rules_for names) [] (stand rows (Some (id, [])) (option id) position) word
      ≡ stand rows (Some (id, word ∷ [])) idle position
  unfolding walked
  value_walk plain found = rw (plain.not_end, plain.not_long, plain.not_short, found, text_is id) refl
