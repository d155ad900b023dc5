-- The tokens of a text, after the lexical form of herdtools' litmus tests; what is no token there is this project's own
-- choice.
use Rattle.std.specs.Prelude.{◌≡◌, ℕ, zero, suc, ◌+◌, Bool, true, false, ◌&&◌, ◌||◌, IsTrue, IsFalse, List, [], ◌∷◌, ◌++◌, length, map, take, drop, Option, Some, None, option_map, ◌==◌, if◌then◌else◌, codes}
use Rattle.std.specs.Char.{is_ascii_alphabetic, is_ascii_digit}
use Rattle.std.specs.List.{list_all, prefix_len}
use Prim.Native.Char.{code}
use Rattle.x86_subset.specs.declared.token.Cut.{Cut}
use Rattle.x86_subset.specs.declared.token.Token.{Token}
use Rattle.x86_subset.specs.declared.token.TokenKind.{TokenKind}
use Rattle.x86_subset.specs.declared.token.TokenKind.TheVariants.{Name, Number, Left, Right, LeftSquare, RightSquare, LeftBrace, RightBrace, Semi, Bar, Comma, Colon, Equal, Dollar, Tilde, Both, Either, Other}

-- ---- bytes: `code "x"` is that of the character x, and `codes` are those of a text

-- a space, a tab, a CR or an LF
unfoldable pub is_blank : ℕ → Bool
is_blank b = b == code " " || b == code "\t" || b == code "\r" || b == code "\n"

-- what begins a name: a letter or `_`
unfoldable pub is_head : ℕ → Bool
is_head b = is_ascii_alphabetic b || b == code "_"

-- what goes on with a name: a letter, `_` or a digit
unfoldable pub is_tail : ℕ → Bool
is_tail b = is_head b || is_ascii_digit b

-- the next byte is of this class
abbrev pub begins : (ℕ → Bool) → List ℕ → Bool
begins p [] = false
begins p (b ∷ bs) = p b

-- ---- places and lines

-- a place in a text, and the line of the byte there; both are counted by the bytes before
pub record Spot : Type 0 where
  pub place : ℕ
  pub line : ℕ

-- this place in this line
abbrev pub spot : ℕ → ℕ → Spot
spot place line = record { place = place; line = line }

-- the beginning of a text
abbrev pub start : Spot
start = spot 0 1

-- the line of the byte after one of this line
abbrev pub line_after : ℕ → ℕ → ℕ
line_after line b = if b == code "\n" then line + 1 else line

-- after a byte
abbrev pub after_byte : Spot → ℕ → Spot
after_byte at b = spot (at.place + 1) (line_after at.line b)

-- after these bytes
abbrev pub after_bytes : Spot → List ℕ → Spot
after_bytes at [] = at
after_bytes at (b ∷ bs) = after_bytes (after_byte at b) bs

-- ---- tokens

-- a token with its bytes, and where they stand
pub record Lexeme : Type 0 where
  pub kind : TokenKind
  pub spelled : List ℕ
  pub from : ℕ
  pub line : ℕ

-- a token that stands there
abbrev pub lexeme : TokenKind → List ℕ → Spot → Lexeme
lexeme kind spelled at = record { kind = kind; spelled = spelled; from = at.place; line = at.line }

-- a byte and the next one end a comment
abbrev pub ends_comment : ℕ → List ℕ → Bool
ends_comment b next = b == code "*" && begins (λ c. c == code ")") next

-- the end of a comment stands in these bytes
abbrev pub closes : List ℕ → Bool
closes [] = false
closes (b ∷ bs) = ends_comment b bs || closes bs

-- what one byte alone is
unfoldable pub sign : ℕ → TokenKind
sign b =
    if b == code "(" then Left else if b == code ")" then Right else if b == code "[" then LeftSquare else
    if b == code "]" then RightSquare else if b == code "{" then LeftBrace else if b == code "}" then RightBrace else
    if b == code ";" then Semi else if b == code "|" then Bar else if b == code "," then Comma else
    if b == code ":" then Colon else if b == code "=" then Equal else if b == code "$" then Dollar else
    if b == code "~" then Tilde else Other

-- two bytes that mean something together: the beginning of a comment, and the two slashes in either order
unfoldable pub is_pair : ℕ → List ℕ → Bool
is_pair b next =
    (b == code "(" && begins (λ c. c == code "*") next) || (b == code "/" && begins (λ c. c == code "\\") next)
    || (b == code "\\" && begins (λ c. c == code "/") next)

-- a byte that begins neither a blank nor a name nor a number
unfoldable pub is_single : ℕ → Bool
is_single b = if is_blank b || is_head b || is_ascii_digit b then false else true

-- `Lexes at text tokens`: the text, which begins there, is cut into these tokens. Each rule takes one piece off the
-- front.
pub data Lexes : Spot → List ℕ → List Lexeme → Type 0 where
  -- the end
  ended : {at : Spot} → Lexes at [] []
  -- a blank
  blank : {at : Spot} {b : ℕ} {rest : List ℕ} {ts : List Lexeme} → IsTrue (is_blank b) → Lexes (after_byte at b) rest ts
      → Lexes at (b ∷ rest) ts
  -- a comment, to its first end
  comment : {at : Spot} (inside rest : List ℕ) {ts : List Lexeme} → IsFalse (closes inside)
      → Lexes (after_bytes at (codes "(*" ++ inside ++ codes "*)")) rest ts
      → Lexes at (codes "(*" ++ inside ++ (codes "*)" ++ rest)) ts
  -- a name, as long as it goes on
  name : {at : Spot} {b : ℕ} (more rest : List ℕ) {ts : List Lexeme} → IsTrue (is_head b)
      → IsTrue (list_all is_tail more) → IsFalse (begins is_tail rest)
      → Lexes (after_bytes at (b ∷ more)) rest ts → Lexes at (b ∷ (more ++ rest)) (lexeme Name (b ∷ more) at ∷ ts)
  -- a number, as long as it goes on
  number : {at : Spot} {b : ℕ} (more rest : List ℕ) {ts : List Lexeme} → IsTrue (is_ascii_digit b)
      → IsTrue (list_all is_ascii_digit more)
      → IsFalse (begins is_ascii_digit rest)
      → Lexes (after_bytes at (b ∷ more)) rest ts → Lexes at (b ∷ (more ++ rest)) (lexeme Number (b ∷ more) at ∷ ts)
  -- `/\`
  both : {at : Spot} {rest : List ℕ} {ts : List Lexeme} → Lexes (after_bytes at (codes "/\\")) rest ts
      → Lexes at (codes "/\\" ++ rest) (lexeme Both (codes "/\\") at ∷ ts)
  -- `\/`
  either : {at : Spot} {rest : List ℕ} {ts : List Lexeme} → Lexes (after_bytes at (codes "\\/")) rest ts
      → Lexes at (codes "\\/" ++ rest) (lexeme Either (codes "\\/") at ∷ ts)
  -- one symbol, or any other byte
  single : {at : Spot} {b : ℕ} {rest : List ℕ} {ts : List Lexeme} → IsTrue (is_single b) → IsFalse (is_pair b rest)
      → Lexes (after_byte at b) rest ts → Lexes at (b ∷ rest) (lexeme (sign b) (b ∷ []) at ∷ ts)
  -- the parenthesis of a comment that is never closed
  unclosed : {at : Spot} {rest : List ℕ} {ts : List Lexeme} → IsFalse (closes rest)
      → Lexes (after_byte at (code "(")) (codes "*" ++ rest) ts
      → Lexes at (codes "(*" ++ rest) (lexeme Other (codes "(") at ∷ ts)

-- ---- the same as a function

-- how many bytes there are up to and with the first end of a comment
unfoldable pub close_end : List ℕ → Option ℕ
close_end [] = None
close_end (b ∷ bs) = let n = close_end bs in if ends_comment b bs then Some 2 else option_map suc n

-- where it is known that none stands there, none does
abbrev pub NoEnd : Bool → List ℕ → Type 0
NoEnd known bytes = IsTrue known → close_end bytes ≡ None

-- no token, and so many bytes more
abbrev pub nothing : ℕ → Cut
nothing more = record { kind = None; more = more }

-- a token with so many bytes more
abbrev pub token : TokenKind → ℕ → Cut
token kind more = record { kind = Some kind; more = more }

-- a comment to its end; its parenthesis alone where it has none
abbrev pub comment_cut : Option ℕ → Cut
comment_cut None = token Other 0
comment_cut (Some n) = nothing (suc n)

-- what two bytes that mean something together begin
unfoldable pub pair_cut : ℕ → List ℕ → Cut
pair_cut b next =
    if b == code "(" then comment_cut (close_end (drop 1 next)) else token (if b == code "/" then Both else Either) 1

-- what begins at a byte
unfoldable pub cut_at : ℕ → List ℕ → Cut
cut_at b next =
    if is_blank b then nothing 0 else
    if is_head b then token Name (prefix_len is_tail next) else
    if is_ascii_digit b then token Number (prefix_len is_ascii_digit next) else
    if is_pair b next then pair_cut b next else token (sign b) 0

-- the token in front of the others, if there is one
abbrev pub put : Option TokenKind → List ℕ → Spot → List Lexeme → List Lexeme
put None spelled at ts = ts
put (Some kind) spelled at ts = lexeme kind spelled at ∷ ts

-- the tokens of a text of which the first bytes belong to a piece that was cut before
unfoldable pub lex : ℕ → Spot → List ℕ → List Lexeme
lex skip at [] = []
lex (suc skip) at (b ∷ bs) = lex skip (after_byte at b) bs
lex zero at (b ∷ bs) =
    let cut = cut_at b bs in
    put cut.kind (b ∷ take cut.more bs) at (lex cut.more (after_byte at b) bs)

-- a token by its places
abbrev pub token_of : Lexeme → Token
token_of t = record { kind = t.kind; from = t.from; to = t.from + length t.spelled; line = t.line }

-- the tokens by their places
abbrev pub tokens_from : ℕ → Spot → List ℕ → List Token
tokens_from skip at text = map token_of (lex skip at text)

-- the tokens of a text from a place on
abbrev pub tokens_of : List ℕ → ℕ → List Token
tokens_of text from = tokens_from 0 (after_bytes start (take from text)) (drop from text)
