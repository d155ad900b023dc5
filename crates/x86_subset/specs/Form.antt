-- The forms that tokens may have: rows of slots, each of which one token fills. This project's own.
use Rattle.std.specs.Prelude.{◌≡◌, ℕ, ◌+◌, ◌*◌, ◌-◌, min, take, drop, ◌^◌, Bool, true, false, ◌&&◌, IsFalse, List, [], ◌∷◌, map, Option, Some, None, option_map, Result, Ok, Err, nat_lt, ◌==◌, if◌then◌else◌, codes, bytes_eq, is_none}
use Rattle.std.specs.List.{fold}
use Rattle.std.specs.Str.{str_eq_ignore_ascii_case}
use Prim.Native.Char.{code}
use Rattle.x86_subset.specs.declared.instr.Reg.{Reg}
use Rattle.x86_subset.specs.declared.instr.Reg.TheVariants.{Eax, Ebx, Ecx, Edx, Esi, Edi}
use Rattle.x86_subset.specs.declared.form.Keyword.{Keyword}
use Rattle.x86_subset.specs.declared.form.Keyword.TheVariants.{Mov, Mfence, Xchg}
use Rattle.x86_subset.specs.declared.form.Slot.{Slot}
use Rattle.x86_subset.specs.declared.form.Slot.TheVariants.{Mark, Maybe, Word, Location, Register, Any, Small, Thread}
use Rattle.x86_subset.specs.declared.form.Found.{Found as FoundAt}
use Rattle.x86_subset.specs.declared.form.Span.{Span}
use Rattle.x86_subset.specs.declared.token.Token.{Token}
use Rattle.x86_subset.specs.declared.token.TokenKind.{TokenKind}
use Rattle.x86_subset.specs.declared.token.TokenKind.TheVariants.{Name, Number, Left, Right, LeftSquare, RightSquare, LeftBrace, RightBrace, Semi, Bar, Comma, Colon, Equal, Dollar, Tilde, Both, Either, Other}
use Rattle.x86_subset.specs.Token.{Lexeme}

-- ---- what a token is

-- kinds as numbers, so that two can be compared
abbrev pub kind_code : TokenKind → ℕ
kind_code Name = 0
kind_code Number = 1
kind_code Left = 2
kind_code Right = 3
kind_code LeftSquare = 4
kind_code RightSquare = 5
kind_code LeftBrace = 6
kind_code RightBrace = 7
kind_code Semi = 8
kind_code Bar = 9
kind_code Comma = 10
kind_code Colon = 11
kind_code Equal = 12
kind_code Dollar = 13
kind_code Tilde = 14
kind_code Both = 15
kind_code Either = 16
kind_code Other = 17

-- the token has this kind
abbrev pub is : TokenKind → Lexeme → Bool
is kind t = kind_code t.kind == kind_code kind

-- the next token has this kind
abbrev pub next_is : TokenKind → List Lexeme → Bool
next_is kind [] = false
next_is kind (t ∷ ts) = is kind t

-- the token is this word, letter by letter
abbrev pub is_word : List ℕ → Lexeme → Bool
is_word word t = is Name t && bytes_eq t.spelled word

-- the bytes are the word, in letters of either case
abbrev pub spells : List ℕ → List ℕ → Bool
spells word bytes = str_eq_ignore_ascii_case bytes word

-- the register that the bytes name
unfoldable pub register_of : List ℕ → Option Reg
register_of bytes =
    if spells (codes "EAX") bytes then Some Eax else if spells (codes "EBX") bytes then Some Ebx else
    if spells (codes "ECX") bytes then Some Ecx else if spells (codes "EDX") bytes then Some Edx else
    if spells (codes "ESI") bytes then Some Esi else if spells (codes "EDI") bytes then Some Edi else None

-- the number that decimal digits spell
abbrev pub spelled_number : List ℕ → ℕ
spelled_number digits = fold (λ n b. n * 10 + (b - code "0")) 0 digits

-- and 2^32 for any larger one
abbrev pub capped_number : List ℕ → ℕ
capped_number digits = min (spelled_number digits) (2 ^ 32)

-- the value of a token of digits
abbrev pub value : Lexeme → ℕ
value t = capped_number t.spelled

-- a mnemonic's letters
abbrev pub letters : Keyword → List ℕ
letters Mov = codes "MOV"
letters Mfence = codes "MFENCE"
letters Xchg = codes "XCHG"

-- the token is the keyword, in letters of either case
abbrev pub is_keyword : Keyword → Lexeme → Bool
is_keyword word t = is Name t && spells (letters word) t.spelled

-- the token is a name that is no register's
abbrev pub is_location : Lexeme → Bool
is_location t = is Name t && is_none (register_of t.spelled)

-- the register that the token names
abbrev pub register_named : Lexeme → Option Reg
register_named t = if is Name t then register_of t.spelled else None

-- the value of a number
abbrev pub number_in : Lexeme → Option ℕ
number_in t = if is Number t then Some (value t) else None

-- the value of a number of 32 bits
abbrev pub small_number_in : Lexeme → Option ℕ
small_number_in t = if is Number t && nat_lt (value t) (2 ^ 32) then Some (value t) else None

-- ---- slots

-- what tokens name
pub record Found : Type 0 where
  pub thread : ℕ
  pub location : List ℕ
  pub register : Reg
  pub number : ℕ
  pub small : ℕ

-- nothing is named yet
abbrev pub nothing_found : Found
nothing_found = record { thread = 0; location = []; register = Eax; number = 0; small = 0 }

-- the register too, if there is one
abbrev pub with_register : Found → Option Reg → Option Found
with_register found r = option_map (λ r. record found { register = r }) r

-- what is found once the token fills the slot; None where it does not
unfoldable pub fill : Slot → Lexeme → Found → Option Found
fill (Mark kind) t found = if is kind t then Some found else None
fill (Maybe kind) t found = if is kind t then Some found else None
fill (Word word) t found = if is_keyword word t then Some found else None
fill Location t found =
    if is Name t && is_none (register_of t.spelled) then Some (record found { location = t.spelled }) else None
fill Register t found = if is Name t then with_register found (register_of t.spelled) else None
fill Any t found = if is Number t then Some (record found { number = value t }) else None
fill Small t found = if is Number t && nat_lt (value t) (2 ^ 32) then Some (record found { small = value t }) else None
fill Thread t found =
    if is Number t && nat_lt (value t) (2 ^ 32) then Some (record found { thread = value t }) else None

-- whether the slot may stay empty
abbrev pub may_miss : Slot → Bool
may_miss (Maybe kind) = true
may_miss _ = false

-- `Fits slots tokens found answer`: either the tokens fill all slots, and the answer is what was found and the tokens
-- after, or it is the tokens from the first on that does not fit.
pub data Fits : List Slot → List Lexeme → Found → Result (Found × List Lexeme) (List Lexeme) → Type 0 where
  -- no slot is left
  full : {ts : List Lexeme} {found : Found} → Fits [] ts found (Ok (found, ts))
  -- the token fills the slot
  fits : {s : Slot} {ss : List Slot} {t : Lexeme} {ts : List Lexeme} {found : Found}
      {r : Result (Found × List Lexeme) (List Lexeme)}
      (more : Found) → fill s t found ≡ Some more → Fits ss ts more r → Fits (s ∷ ss) (t ∷ ts) found r
  -- the token does not fill the slot, which must be filled
  misfit : {s : Slot} {ss : List Slot} {t : Lexeme} {ts : List Lexeme} {found : Found}
      → IsFalse (may_miss s) → fill s t found ≡ None → Fits (s ∷ ss) (t ∷ ts) found (Err (t ∷ ts))
  -- no token is left for it
  short : {s : Slot} {ss : List Slot} {found : Found} → IsFalse (may_miss s) → Fits (s ∷ ss) [] found (Err [])
  -- an optional token that is not there
  missing : {kind : TokenKind} {ss : List Slot} {ts : List Lexeme} {found : Found}
      {r : Result (Found × List Lexeme) (List Lexeme)}
      → IsFalse (next_is kind ts) → Fits ss ts found r → Fits (Maybe kind ∷ ss) ts found r

-- the same as a function
unfoldable pub fit : List Slot → List Lexeme → Found → Result (Found × List Lexeme) (List Lexeme)
fit [] ts found = Ok (found, ts)
fit (s ∷ ss) [] found = if may_miss s then fit ss [] found else Err []
fit (s ∷ ss) (t ∷ ts) found =
    elim (fill s t found) [
      | Some more ↦ fit ss ts more
      | None ↦ elim (may_miss s)
          [ true ↦ fit ss (t ∷ ts) found | false ↦ Err (t ∷ ts) ]
    ]

-- ---- tables of forms

-- a form: its slots, and what it means once they are filled
pub record Row (A : Type 0) : Type 0 where
  pub slots : List Slot
  pub means : Found → A

-- all of the tokens have the row's form
abbrev pub HasForm : {A : Type 0} → Row A → List Lexeme → Found → Type 0
HasForm row ts found = Fits row.slots ts nothing_found (Ok (found, []))

-- what the tokens mean by the first row whose form they have
pub data Means {A : Type 0} : List (Row A) → List Lexeme → Option A → Type 0 where
  -- no row is left
  no_row : {ts : List Lexeme} → Means [] ts None
  -- the tokens have this row's form
  by_row : {row : Row A} {rows : List (Row A)} {ts : List Lexeme} (found : Found) → HasForm row ts found
      → Means (row ∷ rows) ts (Some (row.means found))
  -- they do not
  by_later : {row : Row A} {rows : List (Row A)} {ts : List Lexeme} {r : Option A}
      → ((found : Found) → HasForm row ts found → ⊥) → Means rows ts r → Means (row ∷ rows) ts r

-- the same as a function
abbrev pub whole : Result (Found × List Lexeme) (List Lexeme) → Option Found
whole (Ok (found, [])) = Some found
whole (Ok (found, t ∷ ts)) = None
whole (Err ts) = None

-- what the tokens mean by the first row whose form they have
unfoldable pub meaning : {A : Type 0} → List (Row A) → List Lexeme → Option A
meaning [] ts = None
meaning (row ∷ rows) ts =
    let later = meaning rows ts in
    elim (whole (fit row.slots ts nothing_found)) [ Some found ↦ Some (row.means found) | None ↦ later ]

-- ---- tokens by their places

-- a token with its bytes in the text
abbrev pub lexeme_of : List ℕ → Token → Lexeme
lexeme_of text t = record {
  kind = t.kind;
  spelled = take (t.to - t.from) (drop t.from text);
  from = t.from;
  line = t.line;
}

-- where a token stands in the text
abbrev pub span_of : Token → Span
span_of t = record { from = t.from; to = t.to }

-- tokens with their bytes in the text
abbrev pub lexemes : List ℕ → List Token → List Lexeme
lexemes text ts = map (lexeme_of text) ts

-- nothing found, in code
abbrev pub nothing_at : FoundAt
nothing_at = record { thread = 0; location = record { from = 0; to = 0 }; register = Eax; number = 0; small = 0 }

-- what is found, with the location's bytes in the text
abbrev pub found_of : List ℕ → FoundAt → Found
found_of text f = record {
  thread = f.thread;
  location = take (f.location.to - f.location.from) (drop f.location.from text);
  register = f.register;
  number = f.number;
  small = f.small;
}

-- What a function found in tokens is what the tokens give.
abbrev pub Fills : List ℕ → Option FoundAt → Option Found → Type 0
Fills text found o = o ≡ option_map (found_of text) found

-- the first of the tokens fills the slot; what is found then, and the tokens after
abbrev pub fill_first : Slot → List Lexeme → Found → Option (Found × List Lexeme)
fill_first s [] found = None
fill_first s (t ∷ ts) found = option_map (λ (more : Found). (more, ts)) (fill s t found)

-- What a function answered, seen by two views, is this.
abbrev pub Gives : {X Y E F : Type 0} → (X → Y) → (E → F) → Result X E → Result Y F → Type 0
Gives f g (Ok x) r = r ≡ Ok (f x)
Gives f g (Err e) r = r ≡ Err (g e)
