-- The first line and the header of herdtools' X86 litmus format, in the profile that this project takes.
use Rattle.std.specs.Prelude.{◌≡◌, ℕ, zero, suc, Bool, true, false, ◌&&◌, ◌||◌, IsTrue, IsFalse, List, [], ◌∷◌, ◌++◌, take, drop, Option, Some, None, option_map, Result, Ok, not, ◌==◌, if◌then◌else◌, codes, bytes_eq, length}
use Rattle.std.specs.List.{list_all, list_any, slice_split, filter}
use Rattle.std.specs.Char.{is_ascii_alphabetic, is_ascii_graphic}
use Prim.Native.Char.{code}
use Rattle.x86_subset.specs.Token.{is_blank, begins, Spot, start, after_byte, after_bytes, closes, close_end}
use Rattle.litmus_reader.specs.declared.front.Item.{Item}
use Rattle.litmus_reader.specs.declared.front.Item.TheVariants.{Skipped, Opens, Unknown}
use Rattle.litmus_reader.specs.declared.kind.LitmusKind.TheVariants.{NotX86, Header}
use Rattle.litmus_reader.specs.Answer.{Refusal, refuse}

-- ---- the first line

-- the byte is no line feed
abbrev pub is_no_feed : ℕ → Bool
is_no_feed b = if b == code "\n" then false else true

-- `Line text piece rest`: the line at the front of the text, with its end where it has one, and what stands after it
pub data Line : List ℕ → List ℕ → List ℕ → Type 0 where
  -- a line with its line feed
  fed : (line rest : List ℕ) → IsTrue (list_all is_no_feed line)
      → Line (line ++ (codes "\n" ++ rest)) (line ++ codes "\n") rest
  -- the last line, without one
  unfed : {line : List ℕ} → IsTrue (list_all is_no_feed line) → Line line line []

-- the longest runs of bytes that are no blank
abbrev pub words : List ℕ → List (List ℕ)
words line = filter (λ w. not (length w == 0)) (slice_split is_blank line)

-- the words name a test, if the first is that of the architecture
abbrev pub name_of : List (List ℕ) → Option (List ℕ)
name_of (w ∷ name ∷ []) = if list_all is_ascii_graphic name then Some name else None
name_of _ = None

-- the first word is that of the architecture
abbrev pub is_x86 : List (List ℕ) → Bool
is_x86 [] = false
is_x86 (w ∷ ws) = bytes_eq w (codes "X86")

-- a text that is left over, and where it begins
pub record Rest : Type 0 where
  pub at : Spot
  pub text : List ℕ

-- a text that begins there
abbrev pub rest_at : Spot → List ℕ → Rest
rest_at at text = record { at = at; text = text }

-- the test's name, and what stands after the first line
pub data FirstLine (text : List ℕ) : Result (List ℕ × Rest) Refusal → Type 0 where
  -- no word, or another architecture
  not_x86 : (line rest : List ℕ) → Line text line rest → IsFalse (is_x86 (words line))
      → FirstLine text (refuse NotX86 1)
  -- not one word more, or one with a byte that ASCII does not print
  no_name : (line rest : List ℕ) → Line text line rest → IsTrue (is_x86 (words line)) → name_of (words line) ≡ None
      → FirstLine text (refuse Header 1)
  -- the second word is the name
  named : (line : List ℕ) {name rest : List ℕ} → Line text line rest → IsTrue (is_x86 (words line))
      → name_of (words line) ≡ Some name → FirstLine text (Ok (name, rest_at (after_bytes start line) rest))

-- ---- the header

-- a byte that begins neither a blank nor the initial state nor a quoted text
unfoldable pub is_plain : ℕ → Bool
is_plain b = if is_blank b || b == code "{" || b == code "\"" then false else true

-- the byte is no quote
abbrev pub is_no_quote : ℕ → Bool
is_no_quote b = if b == code "\"" then false else true

-- the byte is an equals sign
abbrev pub is_equal : ℕ → Bool
is_equal b = b == code "="

-- a letter with an `=` after it
abbrev pub is_key : ℕ → List ℕ → Bool
is_key b line = is_ascii_alphabetic b && list_any is_equal line

-- the byte is a star
abbrev pub is_star : ℕ → Bool
is_star b = b == code "*"

-- `Head last at text answer`: the header goes on with this text, which begins there. The answer is what stands after
-- the `{`.
pub data Head (last : ℕ) : Spot → List ℕ → Result Rest Refusal → Type 0 where
  -- a blank counts for nothing
  blank : {at : Spot} {b : ℕ} {rest : List ℕ} {r : Result Rest Refusal} → IsTrue (is_blank b)
      → Head last (after_byte at b) rest r → Head last at (b ∷ rest) r
  -- the end of the text
  ended : {at : Spot} → Head last at [] (refuse Header last)
  -- `{`
  opened : {at : Spot} {rest : List ℕ} → Head last at (codes "{" ++ rest) (Ok (rest_at (after_byte at (code "{")) rest))
  -- `"`, to the next one
  quoted : {at : Spot} (inside rest : List ℕ) {r : Result Rest Refusal} → IsTrue (list_all is_no_quote inside)
      → Head last (after_bytes at (codes "\"" ++ inside ++ codes "\"")) rest r
      → Head last at (codes "\"" ++ inside ++ (codes "\"" ++ rest)) r
  -- a quote that is not closed: the line where it opens
  unquoted : {at : Spot} {inside : List ℕ} → IsTrue (list_all is_no_quote inside)
      → Head last at (codes "\"" ++ inside) (refuse Header at.line)
  -- a comment
  comment : {at : Spot} (inside rest : List ℕ) {r : Result Rest Refusal} → IsFalse (closes inside)
      → Head last (after_bytes at (codes "(*" ++ inside ++ codes "*)")) rest r
      → Head last at (codes "(*" ++ inside ++ (codes "*)" ++ rest)) r
  -- a comment that is not closed: the line where it opens
  unclosed : {at : Spot} {inside : List ℕ} → IsFalse (closes inside)
      → Head last at (codes "(*" ++ inside) (refuse Header at.line)
  -- an entry: it begins with a letter and has an `=` later in its line
  key : {at : Spot} {b : ℕ} {text : List ℕ} (skipped rest : List ℕ) {r : Result Rest Refusal} → Line text skipped rest
      → IsTrue (is_key b skipped)
      → Head last (after_bytes at (b ∷ skipped)) rest r → Head last at (b ∷ text) r
  -- no beginning of these kinds
  other : {at : Spot} {b : ℕ} {text : List ℕ} (skipped rest : List ℕ) → IsTrue (is_plain b)
      → IsFalse (b == code "(" && begins is_star text) → Line text skipped rest → IsFalse (is_key b skipped)
      → Head last at (b ∷ text) (refuse Header at.line)

-- ---- the same as functions

-- how many bytes the line has, its end among them
unfoldable pub line_len : List ℕ → ℕ
line_len [] = 0
line_len (b ∷ bs) = let n = line_len bs in if b == code "\n" then 1 else suc n

-- the line at the front
abbrev pub line_in : List ℕ → List ℕ
line_in text = take (line_len text) text

-- what stands after it
abbrev pub after_line : List ℕ → List ℕ
after_line text = drop (line_len text) text

-- the name and what stands after the line, if there is a name
abbrev pub named_or_not : Option (List ℕ) → Rest → Result (List ℕ × Rest) Refusal
named_or_not None rest = refuse Header 1
named_or_not (Some name) rest = Ok (name, rest)

-- the name, and what stands after the first line
unfoldable pub first_line : List ℕ → Result (List ℕ × Rest) Refusal
first_line text =
    let ws = words (line_in text) in
    if is_x86 ws then named_or_not (name_of ws) (rest_at (after_bytes start (line_in text)) (after_line text)) else
    refuse NotX86 1

-- how many bytes there are up to and with the next quote
unfoldable pub quote_end : List ℕ → Option ℕ
quote_end [] = None
quote_end (b ∷ bs) = let n = quote_end bs in if b == code "\"" then Some 1 else option_map suc n

-- so many bytes are skipped, if there is an end
abbrev pub skip_to : Option ℕ → Item
skip_to None = Unknown
skip_to (Some n) = Skipped n

-- what begins at a byte of the header
unfoldable pub item_at : ℕ → List ℕ → Item
item_at b next =
    if is_blank b then Skipped 0 else if b == code "{" then Opens else if b == code "\""
    then skip_to (quote_end next) else
    if b == code "(" && begins is_star next then skip_to (option_map suc (close_end (drop 1 next))) else
    if is_key b (line_in next) then Skipped (line_len next) else Unknown

-- what stands after the `{`; the first bytes belong to a piece that was read before
unfoldable pub head : ℕ → ℕ → Spot → List ℕ → Result Rest Refusal
head last skip at [] = refuse Header last
head last (suc skip) at (b ∷ bs) = head last skip (after_byte at b) bs
head last zero at (b ∷ bs) = elim (item_at b bs) [
  | Skipped n ↦ head last n (after_byte at b) bs
  | Opens ↦ Ok (rest_at (after_byte at b) bs)
  | Unknown ↦ refuse Header at.line
]
