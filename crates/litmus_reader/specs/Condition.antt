-- The section of locations and the condition of herdtools' X86 litmus format, in the profile that this project takes.
use Rattle.std.specs.Prelude.{ℕ, ◌+◌, map, length, Bool, true, false, not, ◌&&◌, ◌||◌, IsTrue, IsFalse, List, [], ◌∷◌, ◌++◌, Result, Ok, Err, if◌then◌else◌, nat_lt, codes}
use Rattle.std.specs.List.{list_all, list_any, flat_map}
use Rattle.x86_subset.specs.declared.test.Atom.{Atom}
use Rattle.x86_subset.specs.declared.test.Quantifier.{Quantifier}
use Rattle.x86_subset.specs.declared.test.Quantifier.TheVariants.{Exists, NotExists}
use Rattle.x86_subset.specs.declared.token.TokenKind.TheVariants.{Name, Number, Left, Right, LeftSquare, RightSquare, Colon, Equal, Dollar, Tilde, Both, Either}
use Rattle.x86_subset.specs.Token.{Lexeme}
use Rattle.x86_subset.specs.declared.form.Slot.{Slot}
use Rattle.x86_subset.specs.declared.form.Slot.TheVariants.{Mark, Maybe, Register, Small, Thread}
use Rattle.x86_subset.specs.Form.{is, next_is, is_word, Found, nothing_found, Fits}
use Rattle.litmus_reader.specs.declared.kind.LitmusKind.{LitmusKind}
use Rattle.litmus_reader.specs.declared.kind.LitmusKind.TheVariants.{Condition, Forall, MemoryCondition, Disjunction, Trailing}
use Rattle.litmus_reader.specs.Answer.{Refusal, refuse, line_at}

-- ---- the section of locations

-- the next token is the word `locations`
abbrev pub is_locations : List Lexeme → Bool
is_locations [] = false
is_locations (t ∷ ts) = is_word (codes "locations") t

-- the token is no `]`
abbrev pub is_no_close : Lexeme → Bool
is_no_close t = not (is RightSquare t)

-- the tokens after the section, if there is one
pub data Section (last : ℕ) : List Lexeme → Result (List Lexeme) Refusal → Type 0 where
  -- no section
  none : {ts : List Lexeme} → IsFalse (is_locations ts) → Section last ts (Ok ts)
  -- the text is over after the word
  ended : {t : Lexeme} → IsTrue (is_word (codes "locations") t) → Section last (t ∷ []) (refuse Condition last)
  -- another token in place of the bracket: its line
  wrong : {t u : Lexeme} {ts : List Lexeme} → IsTrue (is_word (codes "locations") t) → IsFalse (is LeftSquare u)
      → Section last (t ∷ u ∷ ts) (refuse Condition u.line)
  -- no closing bracket
  unclosed : {t u : Lexeme} {ts : List Lexeme} → IsTrue (is_word (codes "locations") t) → IsTrue (is LeftSquare u)
      → IsTrue (list_all is_no_close ts) → Section last (t ∷ u ∷ ts) (refuse Condition last)
  -- skipped to the first closing bracket
  skipped : {t u : Lexeme} (inside : List Lexeme) (v : Lexeme) (rest : List Lexeme)
      → IsTrue (is_word (codes "locations") t) → IsTrue (is LeftSquare u)
      → IsTrue (list_all is_no_close inside) → IsTrue (is RightSquare v)
      → Section last (t ∷ u ∷ (inside ++ v ∷ rest)) (Ok rest)

-- ---- the quantifier

-- `~`, `exists` or `forall`
abbrev pub begins_quantifier : Lexeme → Bool
begins_quantifier t = is Tilde t || is_word (codes "exists") t || is_word (codes "forall") t

-- the quantifier, and the tokens after it
pub data Quantified (last : ℕ) : List Lexeme → Result (Quantifier × List Lexeme) Refusal → Type 0 where
  -- the text is over
  ended : Quantified last [] (refuse Condition last)
  -- `exists`
  exists : {t : Lexeme} {ts : List Lexeme} → IsTrue (is_word (codes "exists") t)
      → Quantified last (t ∷ ts) (Ok (Exists, ts))
  -- `forall`: its line
  forall : {t : Lexeme} {ts : List Lexeme} → IsTrue (is_word (codes "forall") t)
      → Quantified last (t ∷ ts) (refuse Forall t.line)
  -- any other token: its line
  other : {t : Lexeme} {ts : List Lexeme} → IsFalse (begins_quantifier t)
      → Quantified last (t ∷ ts) (refuse Condition t.line)
  -- the text is over after `~`
  tilde_ended : {t : Lexeme} → IsTrue (is Tilde t) → Quantified last (t ∷ []) (refuse Condition last)
  -- `~exists`
  not_exists : {t u : Lexeme} {ts : List Lexeme} → IsTrue (is Tilde t) → IsTrue (is_word (codes "exists") u)
      → Quantified last (t ∷ u ∷ ts) (Ok (NotExists, ts))
  -- another token after `~`: its line
  tilde_other : {t u : Lexeme} {ts : List Lexeme} → IsTrue (is Tilde t) → IsFalse (is_word (codes "exists") u)
      → Quantified last (t ∷ u ∷ ts) (refuse Condition u.line)

-- ---- the expression
-- Conjunctions with `\/` between them, eight at most. A conjunction is terms with `/\` between them. A term is an atom,
-- or an expression in parentheses, of which sixteen at most are open; one that holds a `\/` stands alone in its
-- conjunction.

-- an atom: a thread's number, `:`, a register, `=` and a number
abbrev pub atom_slots : List Slot
atom_slots = Thread ∷ Mark Colon ∷ Register ∷ Mark Equal ∷ Maybe Dollar ∷ Small ∷ []

-- the atom that the tokens name
abbrev pub atom_of : Found → Atom
atom_of found = record { thread = found.thread; reg = found.register; value = found.small }

-- an open parenthesis: whether it began directly after a `/\`, and whether a `\/` has stood in it
pub record Paren : Type 0 where
  pub joined : Bool
  pub holds : Bool

-- one that begins, directly after a `/\` or not
abbrev pub begun : Bool → Paren
begun joined = record { joined = joined; holds = false }

-- after a `\/` all that are open hold one
abbrev pub all_hold : List Paren → List Paren
all_hold around = map (λ (p : Paren). record p { holds = true }) around

-- what was read: the conjunctions that have ended, and the atoms of the one that has not
pub record Conjunctions : Type 0 where
  pub ended : List (List Atom)
  pub atoms : List Atom

-- nothing yet
abbrev pub none_read : Conjunctions
none_read = record { ended = []; atoms = [] }

-- and then an atom
abbrev pub then_atom : Conjunctions → Found → Conjunctions
then_atom read found = record read { atoms = read.atoms ++ atom_of found ∷ [] }

-- all conjunctions, where the last one ends
abbrev pub all_of : Conjunctions → List (List Atom)
all_of read = read.ended ++ read.atoms ∷ []

-- and then a `\/`
abbrev pub then_or : Conjunctions → Conjunctions
then_or read = record { ended = all_of read; atoms = [] }

-- one more parenthesis may open inside these: at most sixteen are open
abbrev pub may_open : List Paren → Bool
may_open around = nat_lt (length around) 16

-- a `\/` may stand inside these: none of them began directly after a `/\`, and no ninth conjunction begins
abbrev pub may_part : List Paren → Conjunctions → Bool
may_part around read = not (list_any (λ (p : Paren). p.joined) around) && nat_lt (length read.ended) 7

-- a token that says that the condition is one on memory
abbrev pub is_memory : Lexeme → List Lexeme → Bool
is_memory t next = is LeftSquare t || (is Name t && next_is Equal next)

-- a token that begins no term
abbrev pub begins_nothing : Lexeme → List Lexeme → Bool
begins_nothing t next = not (is Number t || is Left t || is_memory t next)

-- `/\` and `\/`
abbrev pub joins : Lexeme → Bool
joins t = is Both t || is Either t

-- `NoTerm last around tokens kind line`: a term must stand here, inside these open parentheses, and none does
pub data NoTerm (last : ℕ) (around : List Paren) : List Lexeme → LitmusKind → ℕ → Type 0 where
  -- the text is over
  text_over : NoTerm last around [] Condition last
  -- a number that begins no atom: the line of the first token that does not fit
  no_atom : {t : Lexeme} {ts : List Lexeme} (misfit : List Lexeme) → IsTrue (is Number t)
      → Fits atom_slots (t ∷ ts) nothing_found (Err misfit)
      → NoTerm last around (t ∷ ts) Condition (line_at last misfit)
  -- one parenthesis too many: its line
  too_deep : {t : Lexeme} {ts : List Lexeme} → IsTrue (is Left t) → IsFalse (may_open around)
      → NoTerm last around (t ∷ ts) Condition t.line
  -- a condition on memory: its line
  memory : {t : Lexeme} {ts : List Lexeme} → IsTrue (is_memory t ts)
      → NoTerm last around (t ∷ ts) MemoryCondition t.line
  -- no beginning of a term: its line
  other : {t : Lexeme} {ts : List Lexeme} → IsTrue (begins_nothing t ts) → NoTerm last around (t ∷ ts) Condition t.line

-- `NoMore last read holds around tokens kind line`: a term has ended here, one in parentheses that holds a `\/` or not,
-- and this cannot follow
pub data NoMore (last : ℕ) (read : Conjunctions) : Bool → List Paren → List Lexeme → LitmusKind → ℕ → Type 0 where
  -- `/\` after a term that stands alone: its line
  mixed_and : {around : List Paren} {t : Lexeme} {ts : List Lexeme} → IsTrue (is Both t)
      → NoMore last read true around (t ∷ ts) Disjunction t.line
  -- `\/` where none may stand: its line
  no_or : {holds : Bool} {around : List Paren} {t : Lexeme} {ts : List Lexeme}
      → IsTrue (is Either t) → IsFalse (may_part around read)
      → NoMore last read holds around (t ∷ ts) Disjunction t.line
  -- another token in a parenthesis: its line
  stray : {holds : Bool} {p : Paren} {around : List Paren} {t : Lexeme} {ts : List Lexeme}
      → IsFalse (joins t || is Right t) → NoMore last read holds (p ∷ around) (t ∷ ts) Condition t.line
  -- another token outside all of them: its line
  trailing : {holds : Bool} {t : Lexeme} {ts : List Lexeme} → IsFalse (joins t)
      → NoMore last read holds [] (t ∷ ts) Trailing t.line
  -- the text is over in a parenthesis
  unclosed : {holds : Bool} {p : Paren} {around : List Paren} → NoMore last read holds (p ∷ around) [] Condition last

-- the conjunctions, or what is refused
abbrev pub Told : Type 0
Told = Result (List (List Atom)) Refusal

mutual
  -- `Term last joined around read tokens answer`: a term must stand here, directly after a `/\` or not, inside these
  -- open parentheses, the innermost one first, and after what was read
  pub data Term (last : ℕ) : Bool → List Paren → Conjunctions → List Lexeme → Told → Type 0 where
    -- an atom
    atom : {joined : Bool} {around : List Paren} {read : Conjunctions} {t : Lexeme} {ts : List Lexeme} {r : Told}
        (found : Found) (rest : List Lexeme) → IsTrue (is Number t)
        → Fits atom_slots (t ∷ ts) nothing_found (Ok (found, rest))
        → Behind last false around (then_atom read found) rest r
        → Term last joined around read (t ∷ ts) r
    -- `(`, and a term in it
    opened : {joined : Bool} {around : List Paren} {read : Conjunctions} {t : Lexeme} {ts : List Lexeme} {r : Told}
        → IsTrue (is Left t) → IsTrue (may_open around) → Term last false (begun joined ∷ around) read ts r
        → Term last joined around read (t ∷ ts) r
    -- none
    no_term : {joined : Bool} {around : List Paren} {read : Conjunctions} {ts : List Lexeme}
        {kind : LitmusKind} {line : ℕ} → NoTerm last around ts kind line
        → Term last joined around read ts (refuse kind line)

  -- `Behind last holds around read tokens answer`: a term has ended here, one in parentheses that holds a `\/` or not
  pub data Behind (last : ℕ) : Bool → List Paren → Conjunctions → List Lexeme → Told → Type 0 where
    -- `/\`, and a further term
    and : {around : List Paren} {read : Conjunctions} {t : Lexeme} {ts : List Lexeme} {r : Told}
        → IsTrue (is Both t) → Term last true around read ts r → Behind last false around read (t ∷ ts) r
    -- `\/`, and a further conjunction
    or : {holds : Bool} {around : List Paren} {read : Conjunctions} {t : Lexeme} {ts : List Lexeme} {r : Told}
        → IsTrue (is Either t) → IsTrue (may_part around read) → Term last false (all_hold around) (then_or read) ts r
        → Behind last holds around read (t ∷ ts) r
    -- `)`, and so the term in these parentheses has ended
    closed : {holds : Bool} {p : Paren} {around : List Paren} {read : Conjunctions} {t : Lexeme} {ts : List Lexeme}
        {r : Told} → IsTrue (is Right t) → Behind last p.holds around read ts r
        → Behind last holds (p ∷ around) read (t ∷ ts) r
    -- the text is over outside all parentheses, and so is the condition
    ended : {holds : Bool} {read : Conjunctions} → Behind last holds [] read [] (Ok (all_of read))
    -- none of these
    no_more : {holds : Bool} {around : List Paren} {read : Conjunctions} {ts : List Lexeme}
        {kind : LitmusKind} {line : ℕ} → NoMore last read holds around ts kind line
        → Behind last holds around read ts (refuse kind line)

-- ---- conjunctions in a row

-- atoms, and the ends of their conjunctions: how many of the atoms stand before each end
pub record Joined : Type 0 where
  pub atoms : List Atom
  pub ends : List ℕ

-- the ends of these conjunctions
abbrev pub ends_of : List (List Atom) → List ℕ
ends_of [] = []
ends_of (c ∷ cs) = length c ∷ map (λ n. length c + n) (ends_of cs)

-- the atoms of all conjunctions, one after another
abbrev pub in_a_row : List (List Atom) → Joined
in_a_row cs = record { atoms = flat_map (λ c. c) cs; ends = ends_of cs }

-- ---- the same as functions

-- the tokens after the next closing bracket
unfoldable pub after_close : ℕ → List Lexeme → Result (List Lexeme) Refusal
after_close last [] = refuse Condition last
after_close last (t ∷ ts) = let more = after_close last ts in if is RightSquare t then Ok ts else more

-- the tokens after a list in brackets
abbrev pub opened_at : ℕ → List Lexeme → Result (List Lexeme) Refusal
opened_at last [] = refuse Condition last
opened_at last (t ∷ ts) = if is LeftSquare t then after_close last ts else refuse Condition t.line

-- the tokens after the section of locations, if there is one
unfoldable pub section_at : ℕ → List Lexeme → Result (List Lexeme) Refusal
section_at last [] = Ok []
section_at last (t ∷ ts) = if is_word (codes "locations") t then opened_at last ts else Ok (t ∷ ts)

-- `exists` after a `~`
abbrev pub after_tilde : ℕ → List Lexeme → Result (Quantifier × List Lexeme) Refusal
after_tilde last [] = refuse Condition last
after_tilde last (t ∷ ts) = if is_word (codes "exists") t then Ok (NotExists, ts) else refuse Condition t.line

-- the quantifier, and the tokens after it
unfoldable pub quantifier_at : ℕ → List Lexeme → Result (Quantifier × List Lexeme) Refusal
quantifier_at last [] = refuse Condition last
quantifier_at last (t ∷ ts) =
    if is Tilde t then after_tilde last ts else if is_word (codes "exists") t then Ok (Exists, ts) else
    refuse (if is_word (codes "forall") t then Forall else Condition) t.line
