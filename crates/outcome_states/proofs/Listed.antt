-- The states of a test: what is told of front parts, and what their text says.
use Rattle.std.proofs.Common.{◌≡◌, ℕ, suc, ◌+◌, Bool, true, false, All, IfOk, MatchResult, Option, None, Some, Result, Ok, Err, List, [], ◌∷◌, length, map, min, take, refl, sym, ap, ◌∙◌, subst, arith}
use Rattle.std.specs.List.{take-map}
use Rattle.std.proofs.lemmas.List.{take_min}
use Rattle.std.proofs.lemmas.List.Elements.{All-from_recursion}
use Rattle.std.specs.List.{AllZip}
use Rattle.x86_subset.specs.Test.{LitmusTest}
use Rattle.outcome_rows.specs.Listing.{AreAllRows}
use Rattle.outcome_rows.specs.Limits.{IsStop}
use Rattle.outcome_rows.specs.Rows.{EndsWith, HoldReads, HoldsRead, IsRow, Register}
use Rattle.outcome_rows.specs.declared.rows.Stop.{Stop}
use Rattle.outcome_rows.specs.declared.rows.Stop.TheVariants as stop
use Rattle.outcome_rows.proofs.Loops.{each_take}
use Rattle.outcome_rows.proofs.Members.{each_in, in_map, in_to}
use Rattle.outcome_rows.proofs.Counting.{all_rows_are_one_lem}
use Rattle.row_decision.specs.Fronts.{IsFront, IsFrontOf, register_seen}
use Rattle.row_decision.specs.declared.front.Register.{Register as RegisterOf}
use Rattle.row_decision.specs.declared.front.Front.{Front}
use Rattle.row_decision.specs.declared.front.Front.TheVariants.{GaveUp, Impossible, Possible}
use Rattle.row_decision.specs.declared.front.FrontAnswer.{FrontAnswer}
use Rattle.outcome_states.specs.Outcomes.{RefusesOutcomes}
use Rattle.outcome_states.specs.declared.registers.Refused.{Refused}
use Rattle.outcome_states.specs.declared.registers.Refused.TheVariants as refused
use Rattle.profile_check.specs.declared.kind.ProfileKind.{ProfileKind}
use Rattle.x86_subset.specs.declared.test.Atom.{Atom}
use Rattle.outcome_states.specs.Laws.{OneText, OutcomesAreListed, TextsAreNotRefused}
use Rattle.outcome_states.specs.Registers.{first_unread, registers_of, unread_by, unread_from}
use Rattle.outcome_states.specs.States.{HasManyStates, IsStopAt, IsTold, TakesAllSteps, told}
use Rattle.outcome_states.specs.Text.{outcomes_text}
use Rattle.perp_base.specs.declared.limits.TheConstants.{MOST_STEPS}

pub outcomes_are_listed_lem : OutcomesAreListed
outcomes_are_listed_lem test text h =
    record { rows = h.rows; text_is = h.text_is; exact = h.states.0.exact }

pub one_text_lem : OneText
one_text_lem test text other a b =
    a.text_is
    ∙ ap (outcomes_text test (registers_of test)) (all_rows_are_one_lem test (registers_of test) a.rows b.rows
    a.states.0 b.states.0)
    ∙ sym b.text_is

pub texts_are_not_refused_lem : TextsAreNotRefused
texts_are_not_refused_lem test text (refused.Unread atom kind) h k = absurd (both test.atoms h.read k)
  where
    both : (atoms : List Atom) → unread_from test 1 atoms ≡ None
        → unread_from test 1 atoms ≡ Some (refused.Unread atom kind) → ⊥
    both atoms e f = cc
texts_are_not_refused_lem test text refused.States h k =
    absurd (let few = h.states.1 in let many = k.1 h.rows h.states.0 in omega arith)
texts_are_not_refused_lem test text refused.Steps h k = refl

-- ---- what is told

pub told_is : (test : LitmusTest) (registers : List Register) (values : List ℕ) (a : FrontAnswer)
    → IsFront test (take (length values) registers) values MOST_STEPS a → IsTold test registers values (told a.front)
told_is test registers values a d = go a.front refl d.front
  where
    go : (f : Front) → a.front ≡ f
        → IsFrontOf test (take (length values) registers) values MOST_STEPS a.steps f
        → IsTold test registers values (told f)
    go Possible e h = (λ k. h, λ k. refl)
    go Impossible e h = (λ k. absurd (none k), λ row. absurd (h row))
      where
        none : false ≡ true → ⊥
        none k = cc
    go GaveUp e h = record { answer = a; decided = d; gave_up = e; all = h }

-- ---- the first registers

pub first_same : (registers : List RegisterOf) (n m : ℕ) → m ≡ min n (length registers)
    → map register_seen (take m registers) ≡ take n (map register_seen registers)
first_same registers n m e =
    ap (λ z. map register_seen (take z registers)) e ∙ ap (map register_seen) (take_min n registers)
    ∙ sym (take-map register_seen n registers)

pub first_hold : (test : LitmusTest) (registers : List RegisterOf) (n m : ℕ) → m ≡ min n (length registers)
    → HoldReads test (map register_seen registers) → HoldReads test (map register_seen (take m registers))
first_hold test registers n m e h =
    let P : List Register → Type 0 = λ z. HoldReads test z in
    subst P (sym (first_same registers n m e)) (each_take (HoldsRead test) n (map register_seen registers) h)

pub front_told : (test : LitmusTest) (registers : List RegisterOf) (row : List ℕ) (m : ℕ) (a : FrontAnswer)
    (o : Option Bool) → m ≡ min (length row) (length registers)
    → IsFront test (map register_seen (take m registers)) row MOST_STEPS a → o ≡ told a.front
    → IsTold test (map register_seen registers) row o
front_told test registers row m a o e d h =
    let P : List Register → Type 0 = λ z. IsFront test z row MOST_STEPS a in
    let Q : Option Bool → Type 0 = λ z. IsTold test (map register_seen registers) row z in
    subst Q (sym h) (told_is test (map register_seen registers) row a
    (subst P (first_same registers (length row) m e) d))

-- ---- what is answered

pub if_ok_more : {T E : Type 0} (P Q : T → Type 0) (r : Result T E) → ((x : T) → P x → Q x) → IfOk r P → IfOk r Q
if_ok_more P Q (Ok x) f h = f x h
if_ok_more P Q (Err e) f h = h

pub match_more : {T E : Type 0} (P Q : T → Type 0) (R S : E → Type 0) (r : Result T E) → ((x : T) → P x → Q x)
    → ((e : E) → R e → S e) → MatchResult r P R → MatchResult r Q S
match_more P Q R S (Ok x) f g h = f x h
match_more P Q R S (Err e) f g h = g e h

pub ok_of : {T E : Type 0} (r : Result T E) (x : T) (P : T → Type 0) (Q : E → Type 0) → r ≡ Ok x → MatchResult r P Q → P x
ok_of r x P Q e h = let R : Result _ _ → Type 0 = λ z. MatchResult z P Q in subst R e h

pub stop_at : (test : LitmusTest) (registers : List Register) (many gave_up : Type 0) (why : Stop)
    → (many → HasManyStates test registers)
    → (gave_up → (values : List ℕ) × TakesAllSteps test registers values)
    → IsStop many gave_up why → IsStopAt test registers why
stop_at test registers many gave_up stop.TooMany f g h = f h
stop_at test registers many gave_up stop.GaveUp f g h = g h

by_states : (o : Option ProfileKind) (n : ℕ) (rest : Option Refused) → unread_by o n rest ≡ Some refused.States
    → rest ≡ Some refused.States
by_states None n rest e = e
by_states (Some kind) n rest e = cc

by_steps : (o : Option ProfileKind) (n : ℕ) (rest : Option Refused) → unread_by o n rest ≡ Some refused.Steps
    → rest ≡ Some refused.Steps
by_steps None n rest e = e
by_steps (Some kind) n rest e = cc

never_states : (test : LitmusTest) (n : ℕ) (atoms : List Atom) → unread_from test n atoms ≡ Some refused.States → ⊥
never_states test n [] e = cc
never_states test n (atom ∷ atoms) e =
    never_states test (n + 1) atoms (by_states _ n (unread_from test (n + 1) atoms) e)

never_steps : (test : LitmusTest) (n : ℕ) (atoms : List Atom) → unread_from test n atoms ≡ Some refused.Steps → ⊥
never_steps test n [] e = cc
never_steps test n (atom ∷ atoms) e =
    never_steps test (n + 1) atoms (by_steps _ n (unread_from test (n + 1) atoms) e)

pub refuses_unread : (test : LitmusTest) (r : Refused) → first_unread test ≡ Some r → RefusesOutcomes test r
refuses_unread test (refused.Unread atom kind) e = e
refuses_unread test refused.States e = absurd (never_states test 1 test.atoms e)
refuses_unread test refused.Steps e = absurd (never_steps test 1 test.atoms e)

-- ---- rows are as long as there are registers

zip_length : {A B : Type 0} (R : A → B → Type 0) (xs : List A) (ys : List B) → AllZip R xs ys → length xs ≡ length ys
zip_length R [] [] h = refl
zip_length R [] (y ∷ ys) h = absurd h
zip_length R (x ∷ xs) [] h = absurd h
zip_length R (x ∷ xs) (y ∷ ys) h = ap suc (zip_length R xs ys h.1)

pub row_length : (test : LitmusTest) (registers : List Register) (values : List ℕ) → IsRow test registers values
    → length registers ≡ length values
row_length test registers values row = zip_length (EndsWith test row.0) registers values row.2

pub rows_long : {V : Type 0} (items : V → List ℕ) (test : LitmusTest) (registers : List Register) (n : ℕ)
    (rows : List V) → length registers ≡ n → AreAllRows test registers (map items rows)
    → All (λ row. length (items row) ≡ n) rows
rows_long {V} items test registers n rows e all =
    let P : V → Type 0 = λ row. length (items row) ≡ n in
    All-from_recursion P rows (each_in P rows (λ row m.
    sym (row_length test registers (items row) ((all.exact (items row)).0 (in_to (map items rows) (items row)
    (in_map items rows row m)))) ∙ e))
