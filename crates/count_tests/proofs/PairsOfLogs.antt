-- Two logs are whole, and what the tests ask of them is what counts ask.
use Rattle.std.proofs.Common.{◌≡◌, ℕ, ◌*◌, ◌<◌, List, [], ◌∷◌, All, get_or, length, sym, ap, ◌∙◌, arith, subst}
use Rattle.std.proofs.lemmas.List.Elements.{All-cons, All-nil}
use Rattle.load_log.specs.Values.{AreWhole, Values}
use Rattle.outcome_conv.specs.declared.cond.Cond.{Cond}
use Rattle.frame_count.specs.Count.{IsFrameOf, IsOfLogs}
use Rattle.count_tests.specs.TwoLogs.{HasTwo, IsOfTwo}

pub whole_two : (n columns : ℕ) (logs : List Values) → HasTwo n columns logs → AreWhole n logs
whole_two n columns logs t = λ i d l. let h = t.1 i d l in h.1 ∙ ap (λ k. n * k) (sym h.0)

pub names_two : (n columns : ℕ) (logs : List Values) (conds : List Cond) → HasTwo n columns logs
    → All (IsOfTwo columns) conds → All (IsOfLogs logs) conds
names_two n columns logs conds t h = λ i d l.
    let c = h i d l in
    let r = c.reader in
    let w = c.writer in
    let k = c.column in
    let two = t.0 in
    let log = t.1 (get_or conds i d).reader (record { columns = 0; values = []; spare = 0 }) (omega arith) in
    let same = log.0 in
    record { reader = omega arith; writer = omega arith; column = omega arith }

pub frame_two : (n columns first : ℕ) (logs : List Values) (frame : List ℕ) → HasTwo n columns logs → first < n
    → frame ≡ first ∷ 0 ∷ [] → IsFrameOf logs n frame
frame_two n columns first logs frame t l e =
    let two = t.0 in
    let long : length frame ≡ 2 = ap length e in
    let P : List ℕ → Type 0 = All (λ i. i < n) in
    record {
      whole = whole_two n columns logs t;
      some = omega arith;
      one_each = omega arith;
      below =
          subst P (sym e) (All-cons (λ i. i < n) first (0
          ∷ []) l (All-cons (λ i. i < n) 0 [] (omega arith) (All-nil (λ i. i < n))));
    }
