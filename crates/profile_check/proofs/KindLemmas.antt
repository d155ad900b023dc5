-- What it tells that an atom has a kind.
use Rattle.std.proofs.Common.{◌≡◌, ◌∙◌, ℕ, zero, suc, ◌==◌, Bool, true, false, cond, not, Option, None, Some, Result, Ok, Err, List, [], ◌∷◌, length, filter, slice_get, nat_lt, refl, sym, subst, unwrap_or, option_and_then, IsTrue, MatchOption, All}
use Rattle.std.proofs.lemmas.Bool.{and_parts, eqb-true, eqb-false, not-false, not-true}
use Rattle.std.proofs.lemmas.List.Elements.{recursion_from_All}
use Rattle.std.proofs.lemmas.Option.{option_and_then_some}
use Rattle.std.specs.List.{AllByRecursion as Each, list_all}
use Rattle.x86_subset.specs.Test.{Code, LitmusTest, HoldsReads, column_of, last_writer_of}
use Rattle.x86_subset.specs.declared.body.Held.{Held}
use Rattle.x86_subset.specs.declared.body.Held.TheVariants as held
use Rattle.x86_subset.specs.declared.instr.Instr.{Instr}
use Rattle.x86_subset.specs.declared.instr.Reg.{Reg}
use Rattle.x86_subset.specs.declared.test.Atom.{Atom}
use Rattle.x86_subset.specs.Instr.{is_reading, location_of}
use Rattle.seq_conv.specs.Sequence.{action_at, stores_of}
use Rattle.seq_conv.specs.declared.site.Site.{Site}
use Rattle.perp_base.proofs.Lists.{Among, each_among, filter_split}
use Rattle.x86_subset.specs.Registers.{IsHeld, place_held, register_number}
use Rattle.profile_check.specs.Kinds.{is_some_of, kind_by_place, kind_of, kind_of_value, kind_of_zero, stand_in_one_other, stores_written, written_of}
use Rattle.seq_conv.specs.Writers.{stand_in}
use Rattle.profile_check.specs.declared.kind.AtomKind.{AtomKind}
use Rattle.profile_check.specs.declared.kind.AtomKind.TheVariants.{Rf, Fr, Exact}
use Rattle.profile_check.specs.declared.kind.ProfileKind.{ProfileKind}
use Rattle.profile_check.specs.declared.kind.ProfileKind.TheVariants.{NoSuchThread, ZeroStored, SeveralWriters, OwnWriter}

-- the location of an action
abbrev pub named_by : Instr → ℕ
named_by action = unwrap_or (option_and_then location_of (Some action)) 0

-- thread t's reading action in this column
pub record IsReader (test : LitmusTest) (t column place : ℕ) (action : Instr) : Type 0 where
  pub stands : action_at test (record { thread = t; place = place }) ≡ Some action
  pub reading : is_reading action ≡ true
  pub column_is : column ≡ column_of test t place

pub record TellsRf (test : LitmusTest) (t column : ℕ) (store : Site) : Type 0 where
  pub place : ℕ
  pub action : Instr
  pub reader : IsReader test t column place action
  pub stands : Among store (stores_of test (named_by action))

-- x has stores, all by a single thread that is not t
pub record OneOther (test : LitmusTest) (x t writer : ℕ) : Type 0 where
  pub first : Site
  pub others : List Site
  pub stores : stores_of test x ≡ first ∷ others
  pub one_thread : Each (λ s. s.thread ≡ writer) (stores_of test x)
  pub apart : t ≡ writer → ⊥

pub record TellsFr (test : LitmusTest) (t column writer : ℕ) : Type 0 where
  pub place : ℕ
  pub action : Instr
  pub reader : IsReader test t column place action
  pub other : OneOther test (named_by action) t writer

pub record TellsExact (test : LitmusTest) (t column : ℕ) (store : Site) : Type 0 where
  pub place : ℕ
  pub action : Instr
  pub reader : IsReader test t column place action
  pub stands : Among store (stores_of test (named_by action))
  pub other : OneOther test (named_by action) t store.thread

abbrev pub Tells : LitmusTest → AtomKind → Type 0
Tells test (Rf reader column writer place) = TellsRf test reader column (record { thread = writer; place = place })
Tells test (Fr reader column writer) = TellsFr test reader column writer
Tells test (Exact reader column writer place) =
    TellsExact test reader column (record { thread = writer; place = place })

chosen_ok : (b : Bool) (e : ProfileKind) (r : Result AtomKind ProfileKind) (kind : AtomKind)
    → cond b (Err e) r ≡ Ok kind → (b ≡ false) × (r ≡ Ok kind)
chosen_ok true e r kind h = cc
chosen_ok false e r kind h = (refl, h)

each_get : {X : Type 0} (P : X → Type 0) (xs : List X) (i : ℕ) (y : X) → Each P xs → slice_get xs i ≡ Some y → P y
each_get P [] i y h e = cc
each_get P (x ∷ xs) zero y h e = let k : x ≡ y = cc in subst P k h.0
each_get P (x ∷ xs) (suc i) y h e = each_get P xs i y h.1 e

held_read : (actions : List Instr) (h : Held) (p : ℕ) → place_held h ≡ Some p → IsHeld actions h
    → MatchOption (slice_get actions p) ⊥ (λ action. IsTrue (is_reading action))
held_read actions (held.Constant value) p e k = cc
held_read actions (held.Read q) p e k =
    let s : q ≡ p = cc in
    let P : ℕ → Type 0 = λ z. MatchOption (slice_get actions z) ⊥ (λ action. IsTrue (is_reading action)) in subst P s k

read_action : (o : Option Instr) → MatchOption o ⊥ (λ action. IsTrue (is_reading action))
    → (action : Instr) × (o ≡ Some action) × (is_reading action ≡ true)
read_action None h = absurd h
read_action (Some action) h = (action, refl, h)

-- a register's place is that of a reading action
pub reads_at : (test : LitmusTest) (t : ℕ) (r : Reg) (p : ℕ) → HoldsReads test → last_writer_of test t r ≡ Some p
    → (action : Instr) × (action_at test (record { thread = t; place = p }) ≡ Some action) × (is_reading action ≡ true)
reads_at test t r p h e =
    option_and_then_some (λ (code : Code). option_and_then place_held (slice_get code.registers (register_number r)))
    (slice_get test.bodies t) p e
    (λ code c k. option_and_then_some place_held (slice_get code.registers (register_number r)) p k
    (λ g l m. rw c
    (read_action (slice_get code.actions p)
    (held_read code.actions g p m
    (each_get (IsHeld code.actions) code.registers (register_number r) g
    (recursion_from_All (IsHeld code.actions) code.registers (each_get
    (λ (d : Code). All (IsHeld d.actions) d.registers) test.bodies t code
    (recursion_from_All (λ (d : Code). All (IsHeld d.actions) d.registers) test.bodies h) c)) l)))))

all_threads : (w : ℕ) (ss : List Site) → list_all (λ (s : Site). s.thread == w) ss ≡ true → Each (λ s. s.thread ≡ w) ss
all_threads w [] h = tt
all_threads w (s ∷ ss) h =
    let k = and_parts (s.thread == w) (list_all (λ (s : Site). s.thread == w) ss) h in
    (eqb-true s.thread w k.0, all_threads w ss k.1)

-- where all stores stand in one other thread, it is that of each of them
one_other : (test : LitmusTest) (x t : ℕ) (s : Site) (ss : List Site) → stores_of test x ≡ ss → Among s ss
    → stand_in_one_other t ss ≡ true → OneOther test x t s.thread
one_other test x t s [] e a h = cc
one_other test x t s (r ∷ rs) e a h =
    let k = and_parts (stand_in r.thread rs) (not (r.thread == t)) h in
    let each : Each (λ (d : Site). d.thread ≡ r.thread) (r ∷ rs) = (refl, all_threads r.thread rs k.0) in
    let same : s.thread ≡ r.thread = each_among (λ (d : Site). d.thread ≡ r.thread) s (r ∷ rs) a each in
    record {
      first = r;
      others = rs;
      stores = e;
      one_thread =
          rw e (let P : ℕ → Type 0 = λ w. Each (λ (d : Site). d.thread ≡ w) (r ∷ rs) in subst P (sym same) each);
      apart = λ k2. eqb-false r.thread t (not-true (r.thread == t) k.1) (sym (k2 ∙ same));
    }

one_tells : (test : LitmusTest) (t p : ℕ) (action : Instr) (kind : AtomKind) (s : Site) (ss : List Site) (b : Bool)
    → IsReader test t (column_of test t p) p action → Among s ss → stores_of test (named_by action) ≡ ss
    → stand_in_one_other t ss ≡ b
    → cond {A = Result AtomKind ProfileKind} b (Ok (Exact t (column_of test t p) s.thread s.place))
    (Ok (Rf t (column_of test t p) s.thread s.place)) ≡ Ok kind → Tells test kind
one_tells test t p action kind s ss true r a e k h =
    let same : Exact t (column_of test t p) s.thread s.place ≡ kind = cc in
    subst (Tells test) same (record {
      place = p;
      action = action;
      reader = r;
      stands = rw e a;
      other = one_other test (named_by action) t s ss e a k;
    })
one_tells test t p action kind s ss false r a e k h =
    let same : Rf t (column_of test t p) s.thread s.place ≡ kind = cc in
    subst (Tells test) same (record { place = p; action = action; reader = r; stands = rw e a })

value_tells : (test : LitmusTest) (t p : ℕ) (action : Instr) (kind : AtomKind) (q : Site → Bool) (ss : List Site)
    → IsReader test t (column_of test t p) p action → filter q (stores_of test (named_by action)) ≡ ss
    → kind_of_value t (column_of test t p) (stores_of test (named_by action)) ss ≡ Ok kind → Tells test kind
value_tells test t p action kind q [] r e h = cc
value_tells test t p action kind q (s ∷ []) r e h =
    let split = filter_split q (stores_of test (named_by action)) [] s [] e in
    one_tells test t p action kind s (stores_of test (named_by action))
    (stand_in_one_other t (stores_of test (named_by action))) r
    (record { front = split.before; rest = split.after; whole = split.whole }) refl refl h
value_tells test t p action kind q (s ∷ other ∷ ss) r e h = cc

zero_tells : (test : LitmusTest) (t p : ℕ) (action : Instr) (kind : AtomKind) (ss : List Site)
    → IsReader test t (column_of test t p) p action → stores_of test (named_by action) ≡ ss
    → kind_of_zero t (column_of test t p) ss ≡ Ok kind → Tells test kind
zero_tells test t p action kind [] r e h = cc
zero_tells test t p action kind (s ∷ ss) r e h =
    let column = column_of test t p in
    let one = chosen_ok (not (stand_in s.thread ss)) SeveralWriters
    (cond (s.thread == t) (Err OwnWriter) (Ok (Fr t column s.thread))) kind h in
    let own = chosen_ok (s.thread == t) OwnWriter (Ok (Fr t column s.thread)) kind one.1 in
    let last : Ok (Fr t column s.thread) ≡ Ok kind = own.1 in
    let same : Fr t column s.thread ≡ kind = cc in
    subst (Tells test) same
    (record {
      place = p;
      action = action;
      reader = r;
      other = record {
        first = s;
        others = ss;
        stores = e;
        one_thread = rw e (refl, all_threads s.thread ss (not-false (stand_in s.thread ss) one.0));
        apart = λ k. eqb-false s.thread t own.0 (sym k);
      };
    })

at_tells_step : (test : LitmusTest) (t p v : ℕ) (action : Instr) (kind : AtomKind) (b : Bool)
    → IsReader test t (column_of test t p) p action
    → cond b (kind_of_value t (column_of test t p) (stores_of test (named_by action))
    (stores_written test (named_by action) v))
    (cond (nat_lt 0 (length (stores_written test (named_by action) 0))) (Err ZeroStored)
    (kind_of_zero t (column_of test t p) (stores_of test (named_by action)))) ≡ Ok kind
    → Tells test kind
at_tells_step test t p v action kind true r h =
    value_tells test t p action kind (λ s. is_some_of v (option_and_then written_of (action_at test s)))
    (stores_written test (named_by action) v) r refl h
at_tells_step test t p v action kind false r h =
    zero_tells test t p action kind (stores_of test (named_by action)) r refl
    ((chosen_ok (nat_lt 0 (length (stores_written test (named_by action) 0))) ZeroStored
    (kind_of_zero t (column_of test t p) (stores_of test (named_by action))) kind h).1)

place_tells : (test : LitmusTest) (atom : Atom) (kind : AtomKind) (o : Option ℕ) → HoldsReads test
    → last_writer_of test atom.thread atom.reg ≡ o → kind_by_place test atom o ≡ Ok kind → Tells test kind
place_tells test atom kind None h e k = cc
place_tells test atom kind (Some p) h e k =
    let a = reads_at test atom.thread atom.reg p h e in
    at_tells_step test atom.thread p atom.value a.0 kind (not (atom.value == 0))
    (record { stands = a.1; reading = a.2; column_is = refl }) (rw (a.1) at k)

-- the kind of an atom tells its reading action and its stores
pub kind_tells : (test : LitmusTest) (atom : Atom) (kind : AtomKind) → HoldsReads test → kind_of test atom ≡ Ok kind
    → Tells test kind
kind_tells test atom kind h e =
    place_tells test atom kind (last_writer_of test atom.thread atom.reg) h refl
    ((chosen_ok (not (nat_lt atom.thread (length test.bodies))) NoSuchThread
    (kind_by_place test atom (last_writer_of test atom.thread atom.reg)) kind e).1)
