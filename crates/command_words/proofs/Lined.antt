-- A line of words stands for the command that is read from it.
use Rattle.std.proofs.Common.{◌+◌, append_assoc, suc, take, ap₂, ◌≡◌, ◌∙◌, ◌⊎◌, inl, inr, drop, if◌then◌else◌, ◌++◌, ◌==◌, ℕ, Bool, codes, true, false, not, refl, sym, ap, subst, List, [], ◌∷◌, option_map, Option, Some, None, true≢false, lt-ltb, arith}
use Rattle.std.specs.Prelude.{nat_lt, option_and_then}
use Rattle.std.specs.List.{after_first, before_first, list_any, prefix_len}
use Rattle.std.specs.Str.{bytes_eq}
use Rattle.std.proofs.lemmas.Bool.{and_parts, eqb-true, false_from_ne_true}
use Rattle.std.proofs.lemmas.Option.{option_and_then_some, none-some}
use Rattle.command_words.specs.declared.job.Command.{Command}
use Rattle.command_words.specs.declared.job.Command.TheVariants.{Run, Replay, Convert, Demo}
use Rattle.perp_base.specs.declared.schedule.Schedule.{Schedule}
use Rattle.perp_base.specs.declared.options.Options.{Options}
use Rattle.command_words.specs.Job.{Asked, AskedCount, AskedReplay, schedule_by}
use Rattle.command_words.specs.declared.job.Count.{Count}
use Rattle.command_words.specs.declared.job.Count.TheVariants.{Exhaustive}
use Rattle.command_words.specs.Words.{Given, Text, command_of, convert_in, count_in, count_named, count_names, count_of, demo_in, given_by, given_in, is_among, is_given, is_hyphenated, is_once, is_option, job_in, job_of, name_in, number_of, number_within, options_of, or_else, order_of, replay_names, replay_of, run_names, schedule_in, schedule_named, value_given, value_in, value_then, with_given}
use Rattle.command_words.specs.Lines.{AsksFor, AsksForCount, CountsAreRead, Gives, IsJobOf, LinesAreRead, LinesStandForOne, StandsFor, spelled, nothing, number, apart, joined, run, replay, convert, demo}
use Rattle.command_words.proofs.Iterations.{no_number}
use Rattle.command_words.proofs.Rows.{same_text, text_is}

abbrev give : Text → Text → Given
give name value = record { name = name; value = value }

abbrev is_equals : ℕ → Bool
is_equals b = b == 61

-- ---- what is read stands in the words

-- a text with `=` is its name, `=` and its value
split_text : (text : Text) → list_any is_equals text ≡ true
    → text ≡ before_first is_equals text ++ 61 ∷ after_first is_equals text
split_text [] some = absurd (true≢false (sym some))
split_text (c ∷ cs) some = go (is_equals c) refl (split_text cs)
  where
    go : (b : Bool) → is_equals c ≡ b
        → (list_any is_equals cs ≡ true → cs ≡ before_first is_equals cs ++ 61 ∷ after_first is_equals cs)
        → c ∷ cs ≡ before_first is_equals (c ∷ cs) ++ 61 ∷ after_first is_equals (c ∷ cs)
    go true e more = rw e (ap (λ d. d ∷ cs) (eqb-true c 61 e))
    go false e more =
        let n = prefix_len (λ b. not (is_equals b)) cs in
        let one : 1 + n ≡ suc n = omega arith in
        let two : 1 + n + 1 ≡ suc (n + 1) = omega arith in
        rw e (ap (λ ds. c ∷ ds) (more (rw e at some))
        ∙ sym (ap₂ (λ i j. take i (c ∷ cs) ++ 61 ∷ drop j (c ∷ cs)) one two))

split_word : (text : Text) → list_any is_equals text ≡ true
    → text ≡ before_first is_equals text ++ 61 ∷ [] ++ after_first is_equals text
split_word text some =
    split_text text some ∙ sym (append_assoc (before_first is_equals text) (61 ∷ []) (after_first is_equals text))

whole_text : (text : Text) → list_any is_equals text ≡ false → text ≡ before_first is_equals text
whole_text [] none = refl
whole_text (c ∷ cs) none = go (is_equals c) refl (whole_text cs)
  where
    go : (b : Bool) → is_equals c ≡ b → (list_any is_equals cs ≡ false → cs ≡ before_first is_equals cs)
        → c ∷ cs ≡ before_first is_equals (c ∷ cs)
    go true e more = absurd (true≢false (rw e at none))
    go false e more =
        let n = prefix_len (λ b. not (is_equals b)) cs in
        let one : 1 + n ≡ suc n = omega arith in
        rw e (ap (λ ds. c ∷ ds) (more (rw e at none)) ∙ sym (ap (λ i. take i (c ∷ cs)) one))

-- an option begins with two hyphens
two_hyphens : (word : Text) → is_option word ≡ true → (text : Text) × (word ≡ 45 ∷ 45 ∷ text)
two_hyphens [] is = absurd (true≢false (sym is))
two_hyphens (b ∷ []) is = absurd (true≢false (sym (and_parts (b == 45) false is).1))
two_hyphens (b ∷ c ∷ cs) is =
    let parts = and_parts _ _ is in
    let first : b ≡ 45 = eqb-true b 45 parts.0 in
    let second : c ≡ 45 = eqb-true c 45 (and_parts _ _ parts.1).0 in
    (cs, ap (λ d. d ∷ c ∷ cs) first ∙ ap (λ d. 45 ∷ d ∷ cs) second)

-- values that are given to a name and then more, and what they are
given_some : {P : Type 0} (name value : Text) (o : Option (List Given)) (gs : List Given)
    → with_given name value o ≡ Some gs
    → ((more : List Given) → o ≡ Some more → give name value ∷ more ≡ gs → P) → P
given_some name value None gs e next = absurd (none-some gs e)
given_some name value (Some more) gs e next = next more refl (let h : give name value ∷ more ≡ gs = cc in h)

not_true : (b : Bool) → not b ≡ true → b ≡ false
not_true true e = absurd (true≢false (sym e))
not_true false e = refl

-- the words from here on, with the option that waits for its value in front
abbrev Reads : List Text → Option Text → List Given → List Text → Type 0
Reads names None gs words = Gives names gs words
Reads names (Some name) gs words = is_among name names ≡ true → Gives names gs (spelled name ∷ words)

module _ (names : List Text) where
  abbrev Sound : List Text → Type 0
  Sound words =
      (waiting : Option Text) (gs : List Given) → given_by names waiting words ≡ Some gs → is_once gs ≡ true
      → Reads names waiting gs words

  once_parts : (g : Given) (gs : List Given) → is_once (g ∷ gs) ≡ true
      → (is_given g.name gs ≡ false) × (is_once gs ≡ true)
  once_parts g gs once = let parts = and_parts _ _ once in (not_true _ parts.0, parts.1)

  sound_value : (name word : Text) (rest : List Text) (gs : List Given) → Sound rest
      → given_by names (Some name) (word ∷ rest) ≡ Some gs → is_once gs ≡ true → is_among name names ≡ true
      → Gives names gs (spelled name ∷ word ∷ rest)
  sound_value name word rest gs sound e once among = go (is_hyphenated word) refl
    where
      go : (b : Bool) → is_hyphenated word ≡ b → Gives names gs (spelled name ∷ word ∷ rest)
      go true h = absurd (none-some gs (rw h at e))
      go false h = given_some name word (given_by names None rest) gs (rw h at e) (λ more is same.
          let parts = once_parts (give name word) more (subst (λ xs. is_once xs ≡ true) (sym same) once) in
          subst (λ xs. Gives names xs (spelled name ∷ word ∷ rest)) same
          (apart name word more rest among parts.0 (sound None more is parts.1)))

  sound_number : (word : Text) (rest : List Text) (gs : List Given) → Sound rest
      → with_given (codes "N") word (given_by names None rest) ≡ Some gs → is_once gs ≡ true
      → Gives names gs (word ∷ rest)
  sound_number word rest gs sound e once = given_some (codes "N") word (given_by names None rest) gs e (λ more is same.
      let parts = once_parts (give (codes "N") word) more (subst (λ xs. is_once xs ≡ true) (sym same) once) in
      subst (λ xs. Gives names xs (word ∷ rest)) same (number word more rest parts.0 (sound None more is parts.1)))

  sound_option : (text : Text) (rest : List Text) (gs : List Given) → Sound rest
      → (if is_among (name_in text) names
      then value_then (name_in text) (value_in text) (λ waiting. given_by names waiting rest) else None) ≡ Some gs
      → is_once gs ≡ true → Gives names gs ((45 ∷ 45 ∷ text) ∷ rest)
  sound_option text rest gs sound e once = go (is_among (name_in text) names) refl (list_any is_equals text) refl
    where
      go : (a : Bool) → is_among (name_in text) names ≡ a → (b : Bool) → list_any is_equals text ≡ b
          → Gives names gs ((45 ∷ 45 ∷ text) ∷ rest)
      go false among b some = absurd (none-some gs (rw among at e))
      go true among true some =
          let value = after_first is_equals text in
          given_some (name_in text) value (given_by names None rest) gs (rw (among, some) at e) (λ more is same.
          let parts = once_parts (give (name_in text) value) more (subst (λ xs. is_once xs ≡ true) (sym same) once) in
          subst (λ xs. Gives names xs ((45 ∷ 45 ∷ text) ∷ rest)) same
          (subst (λ (t : Text). Gives names (give (name_in text) value ∷ more) ((45 ∷ 45 ∷ t) ∷ rest))
          (sym (split_word text some))
          (joined (name_in text) value more rest among parts.0 (sound None more is parts.1))))
      go true among false some =
          subst (λ (t : Text). Gives names gs ((45 ∷ 45 ∷ t) ∷ rest)) (sym (whole_text text some))
          (sound (Some (name_in text)) gs (rw (among, some) at e) once among)

  sound_word : (word : Text) (rest : List Text) (gs : List Given) → Sound rest
      → given_by names None (word ∷ rest) ≡ Some gs → is_once gs ≡ true → Gives names gs (word ∷ rest)
  sound_word word rest gs sound e once = go (is_hyphenated word) refl (is_option word) refl
    where
      go : (a : Bool) → is_hyphenated word ≡ a → (b : Bool) → is_option word ≡ b → Gives names gs (word ∷ rest)
      go false h b o = sound_number word rest gs sound (rw h at e) once
      go true h false o = absurd (none-some gs (rw (h, o) at e))
      go true h true o =
          let two = two_hyphens word o in
          let said = rw (h, o) at e in
          subst (λ (w : Text). Gives names gs (w ∷ rest)) (sym two.1)
          (sound_option two.0 rest gs sound (subst (λ (w : Text). (if is_among (name_in (drop 2 w)) names
          then value_then (name_in (drop 2 w)) (value_in (drop 2 w)) (λ waiting. given_by names waiting rest)
          else None) ≡ Some gs) two.1 said) once)

  sound : (words : List Text) → Sound words
  sound [] None gs e once =
      let h : ◌≡◌ {A = List Given} [] gs = cc in subst (λ xs. Gives names xs []) h nothing
  sound [] (Some name) gs e once = λ among. absurd (none-some gs e)
  sound (word ∷ rest) None gs e once = sound_word word rest gs (sound rest) e once
  sound (word ∷ rest) (Some name) gs e once = sound_value name word rest gs (sound rest) e once

  pub gives : (words : List Text) (gs : List Given) → given_in names words ≡ Some gs → Gives names gs words
  gives words gs e = option_and_then_some _ (given_by names None words) gs e (λ all is said. go all is said (is_once all) refl)
    where
      go : (all : List Given) → given_by names None words ≡ Some all
          → (if is_once all then Some all else None) ≡ Some gs
          → (b : Bool) → is_once all ≡ b → Gives names gs words
      go all is said true once =
          let known : ◌≡◌ {A = Option (List Given)} (Some all) (Some gs) = rw once at said in
          let same : all ≡ gs = cc in
          subst (λ (xs : List Given). Gives names xs words) same (sound words None all is once)
      go all is said false once = absurd (none-some gs (rw once at said))

  asks : (words : List Text) (job : Asked) → job_in names words ≡ Some job → AsksFor names words job
  asks words job e = option_and_then_some _ (given_in names words) job e
      (λ gs is said. record { gs = gs; gives = gives words gs is; numbers = said })

-- ---- what stands in the words is read

pub data IsOptionName : Text → Type 0 where
  seed : IsOptionName (codes "seed")
  rate : IsOptionName (codes "rate")
  buffer : IsOptionName (codes "buffer")
  count : IsOptionName (codes "count")
  cut : IsOptionName (codes "cut")
  order : IsOptionName (codes "order")

abbrev IsName : Text → Type 0
IsName name = (name ≡ codes "N") ⊎ IsOptionName name

-- an option's name is a word without `=`
record IsPlainName (name : Text) : Type 0 where
  option : is_option (spelled name) ≡ true
  name_is : name_in name ≡ name
  alone : value_in name ≡ None

plain_name : (name : Text) → IsOptionName name → IsPlainName name
plain_name _ seed = record { option = refl; name_is = refl; alone = refl }
plain_name _ rate = record { option = refl; name_is = refl; alone = refl }
plain_name _ buffer = record { option = refl; name_is = refl; alone = refl }
plain_name _ count = record { option = refl; name_is = refl; alone = refl }
plain_name _ cut = record { option = refl; name_is = refl; alone = refl }
plain_name _ order = record { option = refl; name_is = refl; alone = refl }

record IsPlainWith (name value : Text) : Type 0 where
  option : is_option (spelled name ++ codes "=" ++ value) ≡ true
  name_is : name_in (drop 2 (spelled name ++ codes "=" ++ value)) ≡ name
  with_value : value_in (drop 2 (spelled name ++ codes "=" ++ value)) ≡ Some value

long : (n : ℕ) → nat_lt 1 (n + 1 + 1) ≡ true
long n = lt-ltb 1 (n + 1 + 1) (omega arith)

plain_with : (name value : Text) → IsOptionName name → IsPlainWith name value
plain_with _ value seed = record { option = grind arith; name_is = refl; with_value = refl }
plain_with _ value rate = record { option = grind arith; name_is = refl; with_value = refl }
plain_with _ value buffer = record { option = grind arith; name_is = refl; with_value = refl }
plain_with _ value count = record { option = grind arith; name_is = refl; with_value = refl }
plain_with _ value cut = record { option = grind arith; name_is = refl; with_value = refl }
plain_with _ value order = record { option = grind arith; name_is = refl; with_value = refl }

-- no value begins with a hyphen
abbrev ArePlain : List Given → Type 0
ArePlain [] = Unit {0}
ArePlain (g ∷ gs) = (is_hyphenated g.value ≡ false) × ArePlain gs

module _ (names : List Text) (known : (name : Text) → is_among name names ≡ true → IsOptionName name) where
  read_apart : (name value : Text) (words : List Text) → is_among name names ≡ true → is_hyphenated value ≡ false
      → given_by names None (spelled name ∷ value ∷ words) ≡ with_given name value (given_by names None words)
  read_apart name value words among plain =
      let p = plain_name name (known name among) in
      rw (p.option, p.name_is, p.alone, among, plain) refl

  read_joined : (name value : Text) (words : List Text) → is_among name names ≡ true
      → given_by names None ((spelled name ++ codes "=" ++ value) ∷ words)
      ≡ with_given name value (given_by names None words)
  read_joined name value words among =
      let p = plain_with name value (known name among) in
      rw (p.option, p.name_is, p.with_value, among) refl

  complete : (gs : List Given) (words : List Text) → Gives names gs words → ArePlain gs
      → given_by names None words ≡ Some gs
  complete _ _ nothing plain = refl
  complete _ _ (number word gs words new more) plain =
      rw plain.0 (ap (with_given (codes "N") word) (complete gs words more plain.1))
  complete _ _ (apart name value gs words among new more) plain =
      read_apart name value words among plain.0 ∙ ap (with_given name value) (complete gs words more plain.1)
  complete _ _ (joined name value gs words among new more) plain =
      read_joined name value words among ∙ ap (with_given name value) (complete gs words more plain.1)

  once : (gs : List Given) (words : List Text) → Gives names gs words → is_once gs ≡ true
  once _ _ nothing = refl
  once _ _ (number word gs words new more) = rw new (once gs words more)
  once _ _ (apart name value gs words among new more) = rw new (once gs words more)
  once _ _ (joined name value gs words among new more) = rw new (once gs words more)

  -- each value that is given is one that is asked for
  abbrev ReadsPlain : List Given → Type 0
  ReadsPlain gs =
      (name : Text) → IsName name → (value : Text) → value_given gs name ≡ Some value → is_hyphenated value ≡ false

  given_to : (gs : List Given) (name value : Text) → value_given gs name ≡ Some value → is_given name gs ≡ true
  given_to [] name value e = absurd (none-some value e)
  given_to (g ∷ gs) name value e = go (bytes_eq g.name name) refl (given_to gs name value)
    where
      go : (b : Bool) → bytes_eq g.name name ≡ b → (value_given gs name ≡ Some value → is_given name gs ≡ true)
          → is_given name (g ∷ gs) ≡ true
      go true e' more = rw e' refl
      go false e' more = rw e' (more (rw e' at e))

  plain_more : (g : Given) (gs : List Given) → is_given g.name gs ≡ false → ReadsPlain (g ∷ gs) → ReadsPlain gs
  plain_more g gs new plain name is value e = plain name is value (go (bytes_eq g.name name) refl)
    where
      go : (b : Bool) → bytes_eq g.name name ≡ b → value_given (g ∷ gs) name ≡ Some value
      go true e' =
          absurd (true≢false (sym (subst (λ (t : Text). is_given t gs ≡ true) (sym (same_text g.name name e'))
          (given_to gs name value e)) ∙ new))
      go false e' = rw e' e

  plain_first : (g : Given) (gs : List Given) → IsName g.name → ReadsPlain (g ∷ gs) → is_hyphenated g.value ≡ false
  plain_first g gs is plain = plain g.name is g.value (rw (text_is g.name) refl)

  plain_all : (gs : List Given) (words : List Text) → Gives names gs words → ReadsPlain gs → ArePlain gs
  plain_all _ _ nothing plain = tt
  plain_all _ _ (number word gs words new more) plain =
      let g = give (codes "N") word in
      (plain_first g gs (inl refl) plain, plain_all gs words more (plain_more g gs new plain))
  plain_all _ _ (apart name value gs words among new more) plain =
      let g = give name value in
      (plain_first g gs (inr (known name among)) plain, plain_all gs words more (plain_more g gs new plain))
  plain_all _ _ (joined name value gs words among new more) plain =
      let g = give name value in
      (plain_first g gs (inr (known name among)) plain, plain_all gs words more (plain_more g gs new plain))

-- ---- a value that is read does not begin with a hyphen

not_read : {A : Type 0} (read : Text → Option A) → ((text : Text) → is_hyphenated text ≡ true → read text ≡ None)
    → (text : Text) (a : A) → read text ≡ Some a → is_hyphenated text ≡ false
not_read read none text a e = false_from_ne_true (is_hyphenated text) (λ h. none-some a (sym (none text h) ∙ e))

no_number_of : (text : Text) → is_hyphenated text ≡ true → number_of text ≡ None
no_number_of text h = rw (no_number text h) refl

no_number_within : (least most : ℕ) (text : Text) → is_hyphenated text ≡ true → number_within least most text ≡ None
no_number_within least most text h = rw (no_number text h) refl

no_schedule : (text : Text) → is_hyphenated text ≡ true → schedule_named text ≡ None
no_schedule [] h = absurd (true≢false (sym h))
no_schedule (b ∷ bs) h =
    let not_turns : bytes_eq (b ∷ bs) (codes "turns") ≡ false = rw (eqb-true b 45 h) refl in
    rw (not_turns, no_number_of (b ∷ bs) h) refl

no_count : (text : Text) → is_hyphenated text ≡ true → count_named text ≡ None
no_count [] h = absurd (true≢false (sym h))
no_count (b ∷ bs) h = rw (eqb-true b 45 h) refl

-- of a value that may be left out
read_or : {A : Type 0} (default a : A) (read : Text → Option A) (o : Option Text) (text : Text) → o ≡ Some text
    → or_else default read o ≡ Some a → read text ≡ Some a
read_or default a read o text is e = subst (λ (p : Option Text). or_else default read p ≡ Some a) is e

pub some_of : {A B P : Type 0} (f : A → B) (o : Option A) (b : B) → option_map f o ≡ Some b
    → ((a : A) → o ≡ Some a → f a ≡ b → P) → P
some_of f None b e next = absurd (none-some b e)
some_of {A} {B} f (Some a) b e next = next a refl (let h : f a ≡ b = cc in h)

-- a value does not begin with a hyphen
abbrev IsPlainValue : (Text → Option Text) → Text → Type 0
IsPlainValue value_of name = (text : Text) → value_of name ≡ Some text → is_hyphenated text ≡ false

module _ (value_of : Text → Option Text) where
  pub record RunValues (options : Options) : Type 0 where
    pub n_is : option_and_then (number_within 1 100000) (value_of (codes "N")) ≡ Some options.iterations
    pub seed_is : or_else 0 number_of (value_of (codes "seed")) ≡ Some options.seed
    pub rate_is : or_else 64 (number_within 0 256) (value_of (codes "rate")) ≡ Some options.rate
    pub buffer_is : or_else 8 (number_within 1 16) (value_of (codes "buffer")) ≡ Some options.buffer

  pub run_values : (options : Options) → options_of value_of ≡ Some options → RunValues options
  run_values options e0 =
      option_and_then_some _ _ options e0 (λ n n_is e1.
      option_and_then_some _ _ options e1 (λ seed_value seed_is e2.
      option_and_then_some _ _ options e2 (λ rate_value rate_is e3.
      some_of _ _ options e3 (λ buffer_value buffer_is same. subst (λ (o : Options). RunValues o) same (record {
        n_is = n_is;
        seed_is = seed_is;
        rate_is = rate_is;
        buffer_is = buffer_is;
      })))))

  -- what is asked for has these options and pieces, and its order is plain
  pub record Values : Type 0 where
    options : Options
    run : RunValues options
    cut_value : ℕ
    cut_is : or_else 4096 (number_within 1 65536) (value_of (codes "cut")) ≡ Some cut_value
    order : IsPlainValue value_of (codes "order")
    count : IsPlainValue value_of (codes "count")

  plain_order : (q : Option ℕ) → order_of (value_of (codes "order")) ≡ Some q → IsPlainValue value_of (codes "order")
  plain_order q e text is =
      some_of _ (number_of text) q (subst (λ (p : Option Text). order_of p ≡ Some q) is e)
      (λ n n_is _. not_read number_of no_number_of text n n_is)

  plain_count : (way : Count) → or_else Exhaustive count_named (value_of (codes "count")) ≡ Some way
      → IsPlainValue value_of (codes "count")
  plain_count way e text is = not_read count_named no_count text way (read_or Exhaustive _ count_named _ text is e)

  job_values : (job : Asked) → job_of value_of ≡ Some job → Values
  job_values job e0 =
      option_and_then_some _ _ job e0 (λ options options_are e1.
      option_and_then_some _ _ job e1 (λ way way_is e2.
      option_and_then_some _ _ job e2 (λ cut_value cut_is e3.
      some_of _ _ job e3 (λ order_value order_is e4. record {
        options = options;
        run = run_values options options_are;
        cut_value = cut_value;
        cut_is = cut_is;
        order = plain_order order_value order_is;
        count = plain_count way way_is;
      }))))

  plain_schedule : (way : Option Schedule) → schedule_in (value_of (codes "order")) ≡ Some way
      → IsPlainValue value_of (codes "order")
  plain_schedule way e text is =
      some_of _ (schedule_named text) way (subst (λ (p : Option Text). schedule_in p ≡ Some way) is e)
      (λ schedule schedule_is _. not_read schedule_named no_schedule text schedule schedule_is)

  count_values : (job : AskedCount) → count_of value_of ≡ Some job → IsPlainValue value_of (codes "count") → Values
  count_values job e0 plain =
      option_and_then_some _ _ job e0 (λ options options_are e1.
      option_and_then_some _ _ job e1 (λ cut_value cut_is e2.
      some_of _ _ job e2 (λ way way_is e3. record {
        options = options;
        run = run_values options options_are;
        cut_value = cut_value;
        cut_is = cut_is;
        order = plain_schedule way way_is;
        count = plain;
      })))

  pub replay_values : (job : AskedReplay) → replay_of value_of ≡ Some job → value_of (codes "count") ≡ None
      → value_of (codes "cut") ≡ None → Values
  replay_values job e0 no_way no_cut =
      option_and_then_some _ _ job e0 (λ options options_are e1.
      some_of _ _ job e1 (λ seed_value order_is e2. record {
        options = options;
        run = run_values options options_are;
        cut_value = 4096;
        cut_is = rw no_cut refl;
        order = plain_order seed_value order_is;
        count = λ text is. absurd (none-some text (sym no_way ∙ is));
      }))

  job_given : (options : Options) (way : Option ℕ) → options_of value_of ≡ Some options
      → value_of (codes "count") ≡ None → value_of (codes "cut") ≡ None
      → order_of (value_of (codes "order")) ≡ Some way
      → job_of value_of ≡ Some (record { options = options; count = Exhaustive; cut = 4096; order = way })
  job_given options way options_are no_way no_cut order_is = rw (options_are, no_way, no_cut, order_is) refl

  -- the job of the same run
  pub replay_job : (asked : AskedReplay) → replay_of value_of ≡ Some asked → value_of (codes "count") ≡ None
      → value_of (codes "cut") ≡ None → (job : Asked) × (job_of value_of ≡ Some job) × IsJobOf asked job
  replay_job asked e0 no_way no_cut =
      option_and_then_some _ _ asked e0 (λ options options_are e1.
      some_of _ _ asked e1 (λ seed_value order_is same.
      let options_same : options ≡ asked.options = ap (λ (r : AskedReplay). r.options) same in
      let schedule_same : schedule_by seed_value ≡ asked.schedule = ap (λ (r : AskedReplay). r.schedule) same in (
        record { options = options; count = Exhaustive; cut = 4096; order = seed_value },
        job_given options seed_value options_are no_way no_cut order_is,
        record { options = options_same; schedule = schedule_same; count = refl; cut = refl },
      )))

  plain_N : (text : Text) (o : Option Text) (n : ℕ) → o ≡ Some text
      → option_and_then (number_within 1 100000) o ≡ Some n → is_hyphenated text ≡ false
  plain_N text o n is e =
      not_read (number_within 1 100000) (no_number_within 1 100000) text n
      (subst (λ (p : Option Text). option_and_then (number_within 1 100000) p ≡ Some n) is e)

  plain_value : Values → (name : Text) → IsName name → (text : Text) → value_of name ≡ Some text
      → is_hyphenated text ≡ false
  plain_value v name (inl is) text e =
      plain_N text (value_of (codes "N")) v.options.iterations (sym (ap value_of is) ∙ e) v.run.n_is
  plain_value v _ (inr seed) text e =
      not_read number_of no_number_of text v.options.seed (read_or 0 _ number_of _ text e v.run.seed_is)
  plain_value v _ (inr rate) text e =
      not_read (number_within 0 256) (no_number_within 0 256) text v.options.rate
      (read_or 64 _ (number_within 0 256) _ text e v.run.rate_is)
  plain_value v _ (inr buffer) text e =
      not_read (number_within 1 16) (no_number_within 1 16) text v.options.buffer
      (read_or 8 _ (number_within 1 16) _ text e v.run.buffer_is)
  plain_value v _ (inr count) text e = v.count text e
  plain_value v _ (inr cut) text e =
      not_read (number_within 1 65536) (no_number_within 1 65536) text v.cut_value
      (read_or 4096 _ (number_within 1 65536) _ text e v.cut_is)
  plain_value v _ (inr order) text e = v.order text e

-- what stands in the words is given, where the values are ones that are asked for
pub given_is : (names : List Text) → ((name : Text) → is_among name names ≡ true → IsOptionName name)
    → (words : List Text) (gs : List Given) → Gives names gs words → Values (value_given gs)
    → given_in names words ≡ Some gs
given_is names known words gs gives v =
    let plain = plain_all names known gs words gives (plain_value (value_given gs) v) in
    rw (complete names known gs words gives plain, once names known gs words gives) refl

pub job_read : (names : List Text) → ((name : Text) → is_among name names ≡ true → IsOptionName name)
    → (words : List Text) (job : Asked) → AsksFor names words job → job_in names words ≡ Some job
job_read names known words job a =
    ap (option_and_then (λ gs. job_of (value_given gs)))
    (given_is names known words a.gs a.gives (job_values (value_given a.gs) job a.numbers)) ∙ a.numbers

-- ---- the names of the options

among_cases : (x : Text) (xs : List Text) (name : Text) → is_among name (x ∷ xs) ≡ true
    → (x ≡ name) ⊎ (is_among name xs ≡ true)
among_cases x xs name among = go (bytes_eq x name) refl
  where
    go : (b : Bool) → bytes_eq x name ≡ b → (x ≡ name) ⊎ (is_among name xs ≡ true)
    go true e = inl (same_text x name e)
    go false e = inr (rw e at among)

other_name : (names : List Text) (name other : Text) → is_among name names ≡ false → is_among other names ≡ true
    → bytes_eq other name ≡ false
other_name names name other none among =
    false_from_ne_true (bytes_eq other name) (λ e.
    true≢false (sym (subst (λ (t : Text). is_among t names ≡ true) (same_text other name e) among) ∙ none))

pub known_to : (x : Text) (xs : List Text) → IsOptionName x
    → ((name : Text) → is_among name xs ≡ true → IsOptionName name)
    → (name : Text) → is_among name (x ∷ xs) ≡ true → IsOptionName name
known_to x xs is more name among = elim (among_cases x xs name among) [
  | inl e ↦ subst IsOptionName e is
  | inr later ↦ more name later
]

run_known : (name : Text) → is_among name run_names ≡ true → IsOptionName name
run_known =
    known_to (codes "seed") (codes "rate" ∷ codes "buffer" ∷ codes "count" ∷ codes "cut" ∷ []) seed
    (known_to (codes "rate") (codes "buffer" ∷ codes "count" ∷ codes "cut" ∷ []) rate
    (known_to (codes "buffer") (codes "count" ∷ codes "cut" ∷ []) buffer
    (known_to (codes "count") (codes "cut" ∷ []) count
    (known_to (codes "cut") [] cut (λ name among. absurd (true≢false (sym among)))))))

pub replay_known : (name : Text) → is_among name replay_names ≡ true → IsOptionName name
replay_known = known_to (codes "order") run_names order run_known

count_known : (name : Text) → is_among name count_names ≡ true → IsOptionName name
count_known =
    known_to (codes "order") (codes "seed" ∷ codes "rate" ∷ codes "buffer" ∷ codes "cut" ∷ []) order
    (known_to (codes "seed") (codes "rate" ∷ codes "buffer" ∷ codes "cut" ∷ []) seed
    (known_to (codes "rate") (codes "buffer" ∷ codes "cut" ∷ []) rate
    (known_to (codes "buffer") (codes "cut" ∷ []) buffer
    (known_to (codes "cut") [] cut (λ name among. absurd (true≢false (sym among)))))))

-- ---- the job of a count

-- nothing is given to another name than `N` and those of the options
pub not_given_to : (names : List Text) (name : Text) → is_among name names ≡ false → bytes_eq (codes "N") name ≡ false
    → (gs : List Given) (words : List Text) → Gives names gs words → value_given gs name ≡ None
not_given_to names name other number_other _ _ nothing = refl
not_given_to names name other number_other _ _ (number word gs words new more) =
    rw number_other (not_given_to names name other number_other gs words more)
not_given_to names name other number_other _ _ (apart n value gs words among new more) =
    rw (other_name names name n other among) (not_given_to names name other number_other gs words more)
not_given_to names name other number_other _ _ (joined n value gs words among new more) =
    rw (other_name names name n other among) (not_given_to names name other number_other gs words more)

count_read : (words : List Text) (job : AskedCount) → AsksForCount words job → count_in words ≡ Some job
count_read words job a =
    let none : value_given a.gs (codes "count") ≡ None = not_given_to count_names (codes "count") refl refl a.gs words
    a.gives in
    ap (option_and_then (λ gs. count_of (value_given gs)))
    (given_is count_names count_known words a.gs a.gives (count_values (value_given a.gs) job a.numbers
    (λ text is. absurd (none-some text (sym none ∙ is))))) ∙ a.numbers

count_asked : (words : List Text) (job : AskedCount) → count_in words ≡ Some job → AsksForCount words job
count_asked words job e = option_and_then_some _ (given_in count_names words) job e
    (λ gs is said. record { gs = gs; gives = gives count_names words gs is; numbers = said })

pub counts_are_read : CountsAreRead
counts_are_read words job = (count_read words job, count_asked words job)

-- ---- commands

read_is : (words : List Text) (command : Command) → StandsFor words command → command_of words ≡ Some command
read_is _ _ (run words job a) = ap (option_map Run) (job_read run_names run_known words job a)
read_is _ _ (replay words job a) = ap (option_map Replay) (job_read replay_names replay_known words job a)
read_is _ _ convert = refl
read_is _ _ (demo word k e) = ap (option_map Demo) e

stands_run : (words : List Text) (command : Command) → option_map Run (job_in run_names words) ≡ Some command
    → StandsFor (codes "run" ∷ words) command
stands_run words command e = some_of Run (job_in run_names words) command e (λ job is same.
    subst (λ (c : Command). StandsFor (codes "run" ∷ words) c) same (run words job (asks run_names words job is)))

stands_replay : (words : List Text) (command : Command) → option_map Replay (job_in replay_names words) ≡ Some command
    → StandsFor (codes "replay" ∷ words) command
stands_replay words command e = some_of Replay (job_in replay_names words) command e (λ job is same.
    subst (λ (c : Command). StandsFor (codes "replay" ∷ words) c) same
    (replay words job (asks replay_names words job is)))

stands_convert : (words : List Text) (command : Command) → convert_in words ≡ Some command
    → StandsFor (codes "convert" ∷ words) command
stands_convert [] command e =
    let same : Convert ≡ command = cc in subst (λ (c : Command). StandsFor (codes "convert" ∷ []) c) same convert
stands_convert (word ∷ rest) command e = absurd (none-some command e)

stands_demo : (words : List Text) (command : Command) → demo_in words ≡ Some command
    → StandsFor (codes "demo" ∷ words) command
stands_demo [] command e = absurd (none-some command e)
stands_demo (word ∷ []) command e = some_of Demo (number_of word) command e (λ k is same.
    subst (λ (c : Command). StandsFor (codes "demo" ∷ word ∷ []) c) same (demo word k is))
stands_demo (word ∷ more ∷ rest) command e = absurd (none-some command e)

stands : (words : List Text) (command : Command) → command_of words ≡ Some command → StandsFor words command
stands [] command e = absurd (none-some command e)
stands (name ∷ words) command e =
    go (bytes_eq name (codes "run")) refl (bytes_eq name (codes "replay")) refl
    (bytes_eq name (codes "convert")) refl (bytes_eq name (codes "demo")) refl
  where
    named : (text : Text) → bytes_eq name text ≡ true → StandsFor (text ∷ words) command
        → StandsFor (name ∷ words) command
    named text is h = subst (λ (t : Text). StandsFor (t ∷ words) command) (sym (same_text name text is)) h

    go : (a : Bool) → bytes_eq name (codes "run") ≡ a → (b : Bool) → bytes_eq name (codes "replay") ≡ b
        → (c : Bool) → bytes_eq name (codes "convert") ≡ c → (d : Bool) → bytes_eq name (codes "demo") ≡ d
        → StandsFor (name ∷ words) command
    go true ra b rb c rc d rd = named (codes "run") ra (stands_run words command (rw ra at e))
    go false ra true rb c rc d rd = named (codes "replay") rb (stands_replay words command (rw (ra, rb) at e))
    go false ra false rb true rc d rd = named (codes "convert") rc (stands_convert words command (rw (ra, rb, rc) at e))
    go false ra false rb false rc true rd =
        named (codes "demo") rd (stands_demo words command (rw (ra, rb, rc, rd) at e))
    go false ra false rb false rc false rd = absurd (none-some command (rw (ra, rb, rc, rd) at e))

pub lines_are_read : LinesAreRead
lines_are_read words command = (read_is words command, stands words command)

pub lines_stand_for_one : LinesStandForOne
lines_stand_for_one words one other a b =
    let same : ◌≡◌ {A = Option Command} (Some one) (Some other) = sym (read_is words one a) ∙ read_is words other b in cc
