-- The expression of a condition, read by a function: token by token, with four numbers that stand for the open
-- parentheses and the conjunctions. It answers what `Term` of Condition says, which the law of one reading proves.
-- This project's own.
use Rattle.std.specs.Prelude.{ℕ, suc, ◌+◌, ◌-◌, ◌==◌, min, map, Bool, true, false, ◌&&◌, List, [], ◌∷◌, Some, None, Result, Ok, if◌then◌else◌, nat_lt, nat_le}
use Rattle.x86_subset.specs.declared.token.TokenKind.TheVariants.{Number, Left, Right, Both, Either}
use Rattle.x86_subset.specs.Token.{Lexeme}
use Rattle.x86_subset.specs.declared.form.Slot.{Slot}
use Rattle.x86_subset.specs.Form.{is, Found, nothing_found, fill, may_miss}
use Rattle.litmus_reader.specs.declared.condition.Nest.{Nest}
use Rattle.litmus_reader.specs.declared.kind.LitmusKind.{LitmusKind}
use Rattle.litmus_reader.specs.declared.kind.LitmusKind.TheVariants.{Condition, MemoryCondition, Disjunction, Trailing}
use Rattle.litmus_reader.specs.Answer.{Refusal, refuse, ◌>>=◌}
use Rattle.litmus_reader.specs.Condition.{atom_slots, atom_of, Joined, is_memory}

-- ---- what is kept

-- nothing further: the last conjunction ends here
abbrev pub all_read : Joined
all_read = record { atoms = []; ends = 0 ∷ [] }

-- an atom in front
abbrev pub with_atom : Found → Result Joined Refusal → Result Joined Refusal
with_atom found r = r >>= λ j. Ok (record { atoms = atom_of found ∷ j.atoms; ends = map suc j.ends })

-- the end of a conjunction in front
abbrev pub with_end : Result Joined Refusal → Result Joined Refusal
with_end r = r >>= λ j. Ok (record { atoms = j.atoms; ends = 0 ∷ j.ends })

-- Where a token stands: inside `depth` open parentheses, of which the outermost `holding` hold a `\/`. The outermost
-- one that began directly after a `/\` is the one of number `barred`, from 1 on; 0 where none did. So many `\/` stand
-- before.
abbrev pub outermost : Nest
outermost = record { depth = 0; holding = 0; barred = 0; ors = 0 }

-- inside one more parenthesis, which began directly after a `/\` or not
abbrev pub opened_in : Bool → Nest → Nest
opened_in joined n =
    record n { depth = n.depth + 1; barred = if joined && n.barred == 0 then n.depth + 1 else n.barred }

-- after the parenthesis that closes the innermost one
abbrev pub closed_in : Nest → Nest
closed_in n = record n {
  depth = n.depth - 1;
  holding = min n.holding (n.depth - 1);
  barred = if nat_lt n.barred n.depth then n.barred else 0;
}

-- the innermost parenthesis holds a `\/`
abbrev pub holds_or : Nest → Bool
holds_or n = nat_le n.depth n.holding

-- after a `\/`: each open parenthesis holds it
abbrev pub behind_or : Nest → Nest
behind_or n = record n { holding = n.depth; ors = n.ors + 1 }

-- a `\/` may stand here: no parenthesis around it began directly after a `/\`, and no ninth conjunction begins
abbrev pub may_or : Nest → Bool
may_or n = n.barred == 0 && nat_lt n.ors 7

-- no parenthesis is open
abbrev pub is_outside : Nest → Bool
is_outside n = n.depth == 0

-- ---- steps

-- where the reading of an expression stands: where a term must stand, after one, or in an atom, of which these slots
-- are left
pub data Place : Type 0 where
  AtTerm : Bool → Place
  BehindTerm : Bool → Place
  InAtom : List Slot → Found → Place

-- what a token leads to: a place, the next conjunction, the end of an atom, or a kind
pub data Step : Type 0 where
  Goes : Place → Nest → Step
  Parts : Nest → Step
  Ends : Found → Step
  Fails : LitmusKind → Step

-- after a token that filled a slot
abbrev pub filled : Nest → List Slot → Found → Step
filled n [] found = Ends found
filled n (s ∷ ss) found = Goes (InAtom (s ∷ ss) found) n

-- a token in an atom of which these slots are left
unfoldable pub in_atom : Nest → List Slot → Lexeme → Found → Step
in_atom n [] t found = Fails Condition
in_atom n (s ∷ ss) t found = elim (fill s t found) [
  | Some more ↦ filled n ss more
  | None ↦ elim (may_miss s) [ true ↦ in_atom n ss t found | false ↦ Fails Condition ]
]

-- a token where a term must stand
unfoldable pub at_term : Bool → Nest → Lexeme → List Lexeme → Step
at_term joined n t next =
    if is Number t then in_atom n atom_slots t nothing_found else
    if is Left t then (if nat_lt n.depth 16 then Goes (AtTerm false) (opened_in joined n) else Fails Condition) else
    Fails (if is_memory t next then MemoryCondition else Condition)

-- a token after a term
unfoldable pub after_term : Bool → Nest → Lexeme → Step
after_term mixed n t =
    if is Both t then (if mixed then Fails Disjunction else Goes (AtTerm true) n) else
    if is Either t then (if may_or n then Parts (behind_or n) else Fails Disjunction) else
    if is_outside n then Fails Trailing else
    if is Right t then Goes (BehindTerm (holds_or n)) (closed_in n) else Fails Condition

-- a token at this place
abbrev pub step : Place → Nest → Lexeme → List Lexeme → Step
step (AtTerm joined) n t next = at_term joined n t next
step (BehindTerm mixed) n t next = after_term mixed n t
step (InAtom ss found) n t next = in_atom n ss t found

-- the text may end here
abbrev pub is_done : Place → Nest → Bool
is_done (AtTerm joined) n = false
is_done (BehindTerm mixed) n = is_outside n
is_done (InAtom ss found) n = false

-- the text ends
abbrev pub at_text_end : ℕ → Place → Nest → Result Joined Refusal
at_text_end last place n = if is_done place n then Ok all_read else refuse Condition last

-- the atoms and the ends from this place on
unfoldable pub expression_at : ℕ → Place → Nest → List Lexeme → Result Joined Refusal
expression_at last place n [] = at_text_end last place n
expression_at last place n (t ∷ ts) = elim (step place n t ts) [
  | Goes next m ↦ expression_at last next m ts
  | Parts m ↦ with_end (expression_at last (AtTerm false) m ts)
  | Ends found ↦ with_atom found (expression_at last (BehindTerm false) n ts)
  | Fails kind ↦ refuse kind t.line
]
