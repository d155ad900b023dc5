-- A text that is read as a test names it and its locations in ASCII.
use Rattle.std.proofs.Common.{◌≡◌, ℕ, zero, suc, ◌+◌, ◌<◌, Bool, true, false, ◌&&◌, cond, List, [], ◌∷◌, take, drop, Option, Some, None, Result, Ok, Err, refl, subst, arith}
use Rattle.std.specs.Prelude.{◌==◌, ◌^◌, All, IfOk, slice_index, nat_lt, is_none}
use Rattle.std.specs.Char.{is_ascii_digit, is_ascii_graphic}
use Rattle.std.specs.Str.{IsAscii}
use Rattle.std.specs.List.{list_all, prefix_len}
use Rattle.std.proofs.Math.Numerals.{one-add}
use Rattle.std.proofs.lemmas.Bool.{and_parts, false≢true}
use Rattle.std.proofs.lemmas.Bool.Decides.{nat_tests}
use Rattle.std.proofs.lemmas.List.Elements.{All-nil, All-push}
use Rattle.x86_subset.specs.declared.cell.InstrError.TheVariants.{Number as PastRange}
use Rattle.x86_subset.specs.declared.form.Slot.{Slot}
use Rattle.x86_subset.specs.declared.form.Slot.TheVariants.{Mark, Maybe, Word, Location, Register, Any, Small, Thread}
use Rattle.x86_subset.specs.declared.instr.Reg.{Reg}
use Rattle.x86_subset.specs.declared.token.Cut.{Cut}
use Rattle.x86_subset.specs.declared.token.TokenKind.{TokenKind}
use Rattle.x86_subset.specs.declared.token.TokenKind.TheVariants.{Name, Number, Left, Right, LeftSquare, RightSquare, LeftBrace, RightBrace, Semi, Bar, Comma, Colon, Equal, Dollar, Tilde, Both, Either, Other}
use Rattle.x86_subset.specs.Test.{Code, LitmusTest}
use Rattle.x86_subset.specs.Token.{is_blank, is_head, is_tail, is_pair, sign, close_end, nothing, token, comment_cut, pair_cut, cut_at, Spot, after_byte, Lexeme, put, lex, after_bytes, start}
use Rattle.x86_subset.specs.Form.{kind_code, is, is_keyword, register_of, value, Found, nothing_found, with_register, fill, may_miss, fit, Row, whole, meaning}
use Rattle.x86_subset.specs.Cell.{Form, Blank, Fence, StoreNumber, StoreRegister, Load, Constant, Exchange, Threads, cell_rows, is_small, judged, parse, place_in, having_by, having, code_after, locations_after}
use Rattle.litmus_reader.specs.declared.kind.LitmusKind.TheVariants.{NotX86}
use Rattle.litmus_reader.specs.Answer.{Accepted, refuse}
use Rattle.litmus_reader.specs.Front.{words, is_x86, name_of, Rest, named_or_not, rest_at, line_in, after_line, first_line}
use Rattle.litmus_reader.specs.Rows.{column_code, threads_after}
use Rattle.litmus_reader.specs.Reading.{sections_at, read_text}
use Rattle.litmus_reader.specs.declared.kind.LitmusError.{LitmusError}
use Rattle.litmus_reader.specs.Answered.{IfAnswered, HasAsciiNames, NamesAreAscii}
use Rattle.litmus_reader.proofs.ReadingLaws.{accepted_is, one_reading}
use Rattle.litmus_reader.proofs.RowsKeep.{Are, sections_keep}
use Rattle.litmus_reader.proofs.Bound.{ok_is}

-- ---- bytes

nil_below : (i : ℕ) → slice_index [] i < 128
nil_below zero = omega arith
nil_below (suc i) = omega arith

cons_below : (b : ℕ) (bs : List ℕ) → b < 128 → IsAscii bs → (i : ℕ) → slice_index (b ∷ bs) i < 128
cons_below b bs h k zero = h
cons_below b bs h k (suc i) = k i

ascii_nil : IsAscii []
ascii_nil = nil_below

ascii_cons : (b : ℕ) (bs : List ℕ) → b < 128 → IsAscii bs → IsAscii (b ∷ bs)
ascii_cons b bs h k = cons_below b bs h k

-- bytes of a class that is ASCII
ascii_all : (p : ℕ → Bool) → ((b : ℕ) → p b ≡ true → b < 128) → (bs : List ℕ) → list_all p bs ≡ true → IsAscii bs
ascii_all p h [] k = ascii_nil
ascii_all p h (b ∷ bs) k = let e = and_parts (p b) (list_all p bs) k in ascii_cons b bs (h b e.0) (ascii_all p h bs e.1)

ascii_prefix : (p : ℕ → Bool) → ((b : ℕ) → p b ≡ true → b < 128) → (bs : List ℕ) → IsAscii (take (prefix_len p bs) bs)
ascii_prefix p h [] = ascii_nil
ascii_prefix p h (b ∷ bs) = go (ascii_prefix p h bs) (p b) refl
  where
    go : IsAscii (take (prefix_len p bs) bs) → (v : Bool) → p b ≡ v
        → IsAscii (take (cond v (1 + prefix_len p bs) 0) (b ∷ bs))
    go k true e = rw one-add (ascii_cons b (take (prefix_len p bs) bs) (h b e) k)
    go k false e = ascii_nil

head_below : (b : ℕ) → is_head b ≡ true → b < 128
unfolding is_head
head_below b h = grind (arith, nat_tests)

tail_below : (b : ℕ) → is_tail b ≡ true → b < 128
unfolding is_tail is_head
tail_below b h = grind (arith, nat_tests)

printed_below : (b : ℕ) → is_ascii_graphic b ≡ true → b < 128
printed_below b h = grind (arith, nat_tests)

-- ---- tokens

-- a name is ASCII
abbrev IsPlain : Lexeme → Type 0
IsPlain t = is Name t ≡ true → IsAscii t.spelled

abbrev ArePlain : List Lexeme → Type 0
ArePlain ts = Are IsPlain ts

-- a token of this kind and these bytes, if there is one, is ASCII where it is a name
abbrev IsPlainKind : Option TokenKind → List ℕ → Type 0
IsPlainKind None spelled = Unit {0}
IsPlainKind (Some kind) spelled = (kind_code kind == 0) ≡ true → IsAscii spelled

abbrev IsPlainCut : ℕ → List ℕ → Cut → Type 0
IsPlainCut b bs c = IsPlainKind c.kind (b ∷ take c.more bs)

other_kind : (v : Bool) (k l : TokenKind) → (kind_code k == 0) ≡ false → (kind_code l == 0) ≡ false
    → (kind_code (cond v k l) == 0) ≡ false
other_kind true k l h m = h
other_kind false k l h m = m

sign_is_no_name : (b : ℕ) → (kind_code (sign b) == 0) ≡ false
unfolding sign
sign_is_no_name b =
    other_kind (b == 40) Left _ refl (other_kind (b == 41) Right _ refl
    (other_kind (b == 91) LeftSquare _ refl (other_kind (b == 93) RightSquare _ refl (
    other_kind (b == 123) LeftBrace _ refl (other_kind (b == 125) RightBrace _ refl
    (other_kind (b == 59) Semi _ refl (other_kind (b == 124) Bar _ refl (
    other_kind (b == 44) Comma _ refl (other_kind (b == 58) Colon _ refl
    (other_kind (b == 61) Equal _ refl (other_kind (b == 36) Dollar _ refl (
    other_kind (b == 126) Tilde Other refl refl))))))))))))

pair_plain : (b : ℕ) (bs : List ℕ) → IsPlainCut b bs (pair_cut b bs)
unfolding pair_cut
pair_plain b bs = go (b == 40) (close_end (drop 1 bs)) (b == 47)
  where
    go : (v : Bool) (o : Option ℕ) (w : Bool) → IsPlainCut b bs (cond v (comment_cut o) (token (cond w Both Either) 1))
    go true None w = λ k. absurd (false≢true k)
    go true (Some n) w = tt
    go false o true = λ k. absurd (false≢true k)
    go false o false = λ k. absurd (false≢true k)

cut_plain : (b : ℕ) (bs : List ℕ) → IsPlainCut b bs (cut_at b bs)
unfolding cut_at
cut_plain b bs = go (is_blank b) (is_head b) refl (is_ascii_digit b) (is_pair b bs)
  where
    go : (v w : Bool) → is_head b ≡ w → (x y : Bool)
        → IsPlainCut b bs (cond v (nothing 0) (cond w (token Name (prefix_len is_tail bs))
        (cond x (token Number (prefix_len is_ascii_digit bs)) (cond y (pair_cut b bs) (token (sign b) 0)))))
    go true w e x y = tt
    go false true e x y =
        λ k. ascii_cons b (take (prefix_len is_tail bs) bs) (head_below b e) (ascii_prefix is_tail tail_below bs)
    go false false e true y = λ k. absurd (false≢true k)
    go false false e false true = pair_plain b bs
    go false false e false false = λ k. let n = sign_is_no_name b in absurd cc

put_plain : (o : Option TokenKind) (spelled : List ℕ) (at : Spot) (ts : List Lexeme) → IsPlainKind o spelled
    → ArePlain ts → ArePlain (put o spelled at ts)
put_plain None spelled at ts h k = k
put_plain (Some kind) spelled at ts h k = (h, k)

lex_plain : (skip : ℕ) (at : Spot) (text : List ℕ) → ArePlain (lex skip at text)
unfolding lex
lex_plain zero at [] = tt
lex_plain (suc skip) at [] = tt
lex_plain (suc skip) at (b ∷ bs) = lex_plain skip (after_byte at b) bs
lex_plain zero at (b ∷ bs) =
    put_plain (cut_at b bs).kind (b ∷ take (cut_at b bs).more bs) at _ (cut_plain b bs)
    (lex_plain (cut_at b bs).more (after_byte at b) bs)

-- ---- forms

some_is : {A : Type 0} (x y : A) → Some x ≡ Some y → x ≡ y
some_is x y e = cc

names_ascii : (f g : Found) → Some f ≡ Some g → IsAscii f.location → IsAscii g.location
names_ascii f g e h = subst (λ (f : Found). IsAscii f.location) (some_is f g e) h

kept : (v : Bool) (f g : Found) → cond v (Some f) None ≡ Some g → IsAscii f.location → IsAscii g.location
kept true f g e h = names_ascii f g e h
kept false f g e h = absurd cc

-- a token that fills a slot
fill_plain : (s : Slot) (t : Lexeme) (f g : Found) → fill s t f ≡ Some g → IsPlain t → IsAscii f.location
    → IsAscii g.location
unfolding fill
fill_plain (Mark kind) t f g e h k = kept (is kind t) f g e k
fill_plain (Maybe kind) t f g e h k = kept (is kind t) f g e k
fill_plain (Word word) t f g e h k = kept (is_keyword word t) f g e k
fill_plain Location t f g e h k = go (is Name t) refl (is_none (register_of t.spelled)) e
  where
    go : (v : Bool) → is Name t ≡ v → (w : Bool)
        → cond (v && w) (Some (record f { location = t.spelled })) None ≡ Some g → IsAscii g.location
    go true m w e = kept w (record f { location = t.spelled }) g e (h m)
    go false m w e = absurd cc
fill_plain Register t f g e h k = go (is Name t) (register_of t.spelled) e
  where
    go : (v : Bool) (o : Option Reg) → cond v (with_register f o) None ≡ Some g → IsAscii g.location
    go true (Some r) e = names_ascii (record f { register = r }) g e k
    go true None e = absurd cc
    go false o e = absurd cc
fill_plain Any t f g e h k = kept (is Number t) (record f { number = value t }) g e k
fill_plain Small t f g e h k = kept (is Number t && nat_lt (value t) (2 ^ 32)) (record f { small = value t }) g e k
fill_plain Thread t f g e h k = kept (is Number t && nat_lt (value t) (2 ^ 32)) (record f { thread = value t }) g e k

-- what follows once a token fills a slot or does not
abbrev fitted : List Slot → Lexeme → List Lexeme → Found → Bool → Option Found
    → Result (Found × List Lexeme) (List Lexeme)
fitted ss t ts f v o =
    elim o [ Some more ↦ fit ss ts more | None ↦ elim v [ true ↦ fit ss (t ∷ ts) f | false ↦ Err (t ∷ ts) ] ]

same_pair : (x y : Found × List Lexeme) → ◌≡◌ {A = Result (Found × List Lexeme) (List Lexeme)} (Ok x) (Ok y) → x ≡ y
same_pair x y e = cc

fit_plain : (ss : List Slot) (ts : List Lexeme) (f : Found) (x : Found × List Lexeme) → fit ss ts f ≡ Ok x → ArePlain ts
    → IsAscii f.location → IsAscii x.0.location
unfolding fit
fit_plain [] ts f x e h k = subst (λ (x : Found × List Lexeme). IsAscii x.0.location) (same_pair (f, ts) x e) k
fit_plain (s ∷ ss) [] f x e h k = go (λ m. fit_plain ss [] f x m tt k) (may_miss s) e
  where
    go : (fit ss [] f ≡ Ok x → IsAscii x.0.location) → (v : Bool) → cond v (fit ss [] f) (Err []) ≡ Ok x
        → IsAscii x.0.location
    go more true e = more e
    go more false e = absurd cc
fit_plain (s ∷ ss) (t ∷ ts) f x e h k =
    go (λ g m n. fit_plain ss ts g x m h.1 (fill_plain s t f g n h.0 k)) (λ m. fit_plain ss (t ∷ ts) f x m h k)
    (fill s t f) refl (may_miss s) e
  where
    go : ((g : Found) → fit ss ts g ≡ Ok x → fill s t f ≡ Some g → IsAscii x.0.location)
        → (fit ss (t ∷ ts) f ≡ Ok x → IsAscii x.0.location)
        → (o : Option Found) → fill s t f ≡ o → (v : Bool) → fitted ss t ts f v o ≡ Ok x → IsAscii x.0.location
    go filled missed (Some g) n v e = filled g e n
    go filled missed None n true e = missed e
    go filled missed None n false e = absurd cc

-- each row means what the property holds of, where the location that is found is ASCII
abbrev AllMean : {A : Type 0} → (A → Type 0) → List (Row A) → Type 0
AllMean P [] = Unit {0}
AllMean P (row ∷ rows) = ((f : Found) → IsAscii f.location → P (row.means f)) × AllMean P rows

-- what tokens mean by a row or by those after it
abbrev meant : {A : Type 0} → Row A → List (Row A) → List Lexeme → Option Found → Option A
meant row rows ts o = elim o [ Some found ↦ Some (row.means found) | None ↦ meaning rows ts ]

meaning_plain : {A : Type 0} (P : A → Type 0) (rows : List (Row A)) (ts : List Lexeme) (a : A) → AllMean P rows
    → ArePlain ts → meaning rows ts ≡ Some a → P a
unfolding meaning
meaning_plain P [] ts a k h e = absurd cc
meaning_plain P (row ∷ rows) ts a k h e = go (meaning_plain P rows ts a k.1 h) (fit row.slots ts nothing_found) refl e
  where
    go : (meaning rows ts ≡ Some a → P a) → (r : Result (Found × List Lexeme) (List Lexeme))
        → fit row.slots ts nothing_found ≡ r
        → meant row rows ts (whole r) ≡ Some a → P a
    go later (Ok (f, [])) m e =
        subst P (some_is (row.means f) a e) (k.0 f (fit_plain row.slots ts nothing_found (f, []) m h ascii_nil))
    go later (Ok (f, t ∷ us)) m e = later e
    go later (Err us) m e = later e

abbrev IsAsciiForm : Form → Type 0
IsAsciiForm Blank = Unit {0}
IsAsciiForm Fence = Unit {0}
IsAsciiForm (StoreNumber x n) = IsAscii x
IsAsciiForm (StoreRegister x r) = IsAscii x
IsAsciiForm (Load r x) = IsAscii x
IsAsciiForm (Constant r n) = Unit {0}
IsAsciiForm (Exchange x r) = IsAscii x

rows_mean : AllMean IsAsciiForm cell_rows
rows_mean = (λ f h. tt, (λ f h. h, (λ f h. h, (λ f h. h, (λ f h. tt, (λ f h. tt, (λ f h. h, (λ f h. h, tt))))))))

parse_plain : (ts : List Lexeme) (form : Form) → ArePlain ts → parse ts ≡ Ok form → IsAsciiForm form
unfolding parse
parse_plain ts form h e = go (meaning cell_rows ts) refl e
  where
    small : (g : Form) (v : Bool) → IsAsciiForm g → cond v (Ok g) (Err PastRange) ≡ Ok form → IsAsciiForm form
    small g true k e = let p : g ≡ form = cc in subst IsAsciiForm p k
    small g false k e = absurd cc

    go : (o : Option Form) → meaning cell_rows ts ≡ o → judged ts o ≡ Ok form → IsAsciiForm form
    go None m e = absurd cc
    go (Some g) m e = small g (is_small g) (meaning_plain IsAsciiForm cell_rows ts g rows_mean h m) e

-- ---- locations

having_ascii : (xs : List (List ℕ)) (x : List ℕ) → All IsAscii xs → IsAscii x → All IsAscii (having xs x)
having_ascii xs x h k = go (place_in xs x)
  where
    go : (o : Option ℕ) → All IsAscii (having_by o xs x)
    go (Some i) = h
    go None = All-push IsAscii xs x h k

locations_ascii : (xs : List (List ℕ)) (form : Form) → All IsAscii xs → IsAsciiForm form
    → All IsAscii (locations_after xs form)
locations_ascii xs Blank h k = h
locations_ascii xs Fence h k = h
locations_ascii xs (StoreNumber x n) h k = having_ascii xs x h k
locations_ascii xs (StoreRegister x r) h k = having_ascii xs x h k
locations_ascii xs (Load r x) h k = having_ascii xs x h k
locations_ascii xs (Constant r n) h k = h
locations_ascii xs (Exchange x r) h k = having_ascii xs x h k

abbrev AreAscii : Threads → Type 0
AreAscii s = All IsAscii s.locations

acted_ascii : (i : ℕ) (s : Threads) (cell : List Lexeme) (form : Form) (code : Code) → ArePlain cell
    → parse cell ≡ Ok form
    → code_after s.locations form (column_code i s) ≡ Some code → AreAscii s → AreAscii (threads_after i form s code)
acted_ascii i s cell form code p m k h = locations_ascii s.locations form h (parse_plain cell form p m)

-- ---- the whole test

name_ascii : (ws : List (List ℕ)) (name : List ℕ) → name_of ws ≡ Some name → IsAscii name
name_ascii [] name e = absurd cc
name_ascii (w ∷ []) name e = absurd cc
name_ascii (w ∷ n ∷ []) name e = go (list_all is_ascii_graphic n) refl e
  where
    go : (v : Bool) → list_all is_ascii_graphic n ≡ v → cond v (Some n) None ≡ Some name → IsAscii name
    go true k e = subst IsAscii (some_is n name e) (ascii_all is_ascii_graphic printed_below n k)
    go false k e = absurd cc
name_ascii (w ∷ n ∷ m ∷ ws) name e = absurd cc

first_ascii : (text : List ℕ) (x : List ℕ × Rest) → first_line text ≡ Ok x → IsAscii x.0
unfolding first_line
first_ascii text x e = go (is_x86 (words (line_in text))) (name_of (words (line_in text))) refl e
  where
    go : (v : Bool) (o : Option (List ℕ)) → name_of (words (line_in text)) ≡ o
        → cond v (named_or_not o (rest_at (after_bytes start (line_in text)) (after_line text))) (refuse NotX86 1)
        ≡ Ok x
        → IsAscii x.0
    go true None k e = absurd cc
    go true (Some name) k e =
        subst (λ (x : List ℕ × Rest). IsAscii x.0) (ok_is (
          name,
          rest_at (after_bytes start (line_in text)) (after_line text),
        ) x e)
        (name_ascii (words (line_in text)) name k)
    go false o k e = absurd cc

sections_ascii : (text : List ℕ) (test : LitmusTest) → sections_at text ≡ Ok test → HasAsciiNames test
sections_ascii text test e =
    let k = sections_keep IsPlain AreAscii (λ row. All-nil IsAscii) acted_ascii text test
    (λ at text. lex_plain 0 at text) e in
    subst HasAsciiNames k.kept.is (first_ascii text k.first k.is_first, k.kept.good)

read_ascii : (text : List ℕ) (test : LitmusTest) → read_text text ≡ Accepted test → HasAsciiNames test
unfolding read_text
read_ascii text test e = sections_ascii text test (accepted_is (sections_at text) test e).0

pub names_are_ascii : NamesAreAscii
names_are_ascii text test h = read_ascii text test ((one_reading text).1 (Accepted test) h)

pub answered_name : (text : List ℕ) (r : Result LitmusTest LitmusError)
    → IfAnswered r (λ answer. read_text text ≡ answer) → IfOk r (λ test. IsAscii test.name)
answered_name text (Ok test) h = (read_ascii text test h).0
answered_name text (Err e) h = tt

pub answered_locations : (text : List ℕ) (r : Result LitmusTest LitmusError)
    → IfAnswered r (λ answer. read_text text ≡ answer) → IfOk r (λ test. All IsAscii test.locations)
answered_locations text (Ok test) h = (read_ascii text test h).1
answered_locations text (Err e) h = tt
