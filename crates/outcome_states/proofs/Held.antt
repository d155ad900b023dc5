-- The registers that a condition names hold reads, and each atom's register is among them.
use Rattle.std.proofs.Common.{◌≡◌, ℕ, zero, suc, ◌+◌, ◌-◌, ◌<◌, ◌≤◌, ◌==◌, ◌⊎◌, Bool, true, false, not, cond, drop, take, Option, None, Some, List, [], ◌∷◌, length, nat_lt, slice_get, option_and_then, refl, sym, ap, ◌∙◌, subst, inl, inr, arith, eq-eqb}
use Rattle.std.proofs.lemmas.Bool.{and_from, and_parts, cases_eq, eqb-true, ltb-true}
use Rattle.std.proofs.lemmas.List.Elements.{All-from_recursion}
use Rattle.std.specs.List.{AllByRecursion as Each, flat_map, list_any, range_with_len}
use Rattle.std.specs.Option.{is_some}
use Rattle.perp_base.proofs.Lists.{Among, each_among}
use Rattle.choice_search.proofs.Finds.{any_among, any_found}
use Rattle.x86_subset.specs.Conjunctions.{conjunction_of, from_of, to_of}
use Rattle.x86_subset.specs.Registers.{place_held, register_number}
use Rattle.x86_subset.specs.Test.{Code, LitmusTest, last_writer_of}
use Rattle.x86_subset.specs.declared.instr.Reg.{Reg}
use Rattle.x86_subset.specs.declared.instr.Reg.TheVariants.{Eax, Ebx, Ecx, Edx, Esi, Edi}
use Rattle.x86_subset.specs.declared.test.Atom.{Atom}
use Rattle.profile_check.specs.declared.kind.ProfileKind.{ProfileKind}
use Rattle.profile_check.specs.declared.kind.ProfileKind.TheVariants.{NoSuchThread, NotLoaded}
use Rattle.outcome_rows.specs.Conditions.{NamesAmong, is_register}
use Rattle.outcome_rows.specs.Rows.{HoldReads, HoldsRead, Register}
use Rattle.outcome_rows.proofs.Members.{In, each_in, filter_in, in_among, in_filter, in_left, in_map, in_right}
use Rattle.outcome_states.specs.Registers.{first_unread, is_named, register_of, registers_of, registers_of_thread, unread_by, unread_from, unread_kind}
use Rattle.outcome_states.specs.declared.registers.Refused.{Refused}

-- ---- atoms whose registers hold reads

none_by : (o : Option ProfileKind) (n : ℕ) (rest : Option Refused) → unread_by o n rest ≡ None → (o ≡ None) × (rest ≡ None)
none_by None n rest e = (refl, e)
none_by (Some kind) n rest e = cc

each_read : (test : LitmusTest) (n : ℕ) (atoms : List Atom) → unread_from test n atoms ≡ None
    → Each (λ atom. unread_kind test atom ≡ None) atoms
each_read test n [] e = tt
each_read test n (atom ∷ atoms) e =
    let k = none_by (unread_kind test atom) n (unread_from test (n + 1) atoms) e in
    (k.0, each_read test (n + 1) atoms k.1)

read_by : (b c : Bool) (x y : ProfileKind) → cond (not b) (Some x) (cond c None (Some y)) ≡ None
    → (b ≡ true) × (c ≡ true)
read_by true true x y e = (refl, refl)
read_by true false x y e = cc
read_by false c x y e = cc

-- the thread of an atom is one of the test, and its register holds a read at the end
pub record IsRead (test : LitmusTest) (atom : Atom) : Type 0 where
  pub thread : nat_lt atom.thread (length test.bodies) ≡ true
  pub read : is_some (last_writer_of test atom.thread atom.reg) ≡ true

pub are_read : (test : LitmusTest) → first_unread test ≡ None → (atom : Atom) → Among atom test.atoms → IsRead test atom
are_read test none atom a =
    let e = each_among (λ (z : Atom). unread_kind test z ≡ None) atom test.atoms a (each_read test 1 test.atoms none) in
    let k = read_by (nat_lt atom.thread (length test.bodies)) (is_some (last_writer_of test atom.thread atom.reg))
    NoSuchThread NotLoaded e in
    record { thread = k.0; read = k.1 }

-- ---- registers that are named

same_read : (test : LitmusTest) (t : ℕ) (reg : Reg) (register : Register) → is_register t reg register ≡ true
    → last_writer_of test register.thread register.reg ≡ last_writer_of test t reg
same_read test t reg register h =
    let p = and_parts (register.thread == t) (register_number register.reg == register_number reg) h in
    let e : register.thread ≡ t = eqb-true register.thread t p.0 in
    let n : register_number register.reg ≡ register_number reg = eqb-true (register_number register.reg)
    (register_number reg) p.1 in
    (λ i. option_and_then (λ (code : Code). option_and_then place_held (slice_get code.registers (n i)))
    (slice_get test.bodies (e i)))

pub named_hold : (test : LitmusTest) → first_unread test ≡ None → HoldReads test (registers_of test)
named_hold test none =
    each_in (HoldsRead test) (registers_of test) (λ register m.
    let k = filter_in (is_named test) (flat_map registers_of_thread (range_with_len 0 (length test.bodies))) register m in
    let f = any_found (λ (atom : Atom). is_register atom.thread atom.reg register) test.atoms k.1 in
    let r = are_read test none f.here f.among in
    ap is_some (same_read test f.here.thread f.here.reg register f.passes) ∙ r.read)

-- ---- each atom's register is among them

regs_in : (reg : Reg) → In reg (Eax ∷ Ebx ∷ Ecx ∷ Edx ∷ Esi ∷ Edi ∷ [])
regs_in Eax = inl refl
regs_in Ebx = inr (inl refl)
regs_in Ecx = inr (inr (inl refl))
regs_in Edx = inr (inr (inr (inl refl)))
regs_in Esi = inr (inr (inr (inr (inl refl))))
regs_in Edi = inr (inr (inr (inr (inr (inl refl)))))

in_range : (a n t : ℕ) → a ≤ t → t < a + n → In t (range_with_len a n)
in_range a zero t l h = absurd (omega arith)
in_range a (suc n) t l h = go (λ k. in_range (a + 1) n t k (omega arith)) (cases_eq a t)
  where
    go : (a + 1 ≤ t → In t (range_with_len (a + 1) n)) → (a ≡ t) ⊎ (a ≡ t → ⊥)
        → (t ≡ a) ⊎ In t (range_with_len (a + 1) n)
    go rec (inl e) = inl (sym e)
    go rec (inr ne) = inr (rec (omega arith))

in_flat : {X Y : Type 0} (f : X → List Y) (xs : List X) (x : X) (y : Y) → In x xs → In y (f x) → In y (flat_map f xs)
in_flat f [] x y h k = absurd h
in_flat {X} {Y} f (z ∷ xs) x y (inl e) k =
    let P : X → Type 0 = λ w. In y (f w) in in_left (f z) (flat_map f xs) y (subst P e k)
in_flat f (z ∷ xs) x y (inr h) k = in_right (f z) (flat_map f xs) y (in_flat f xs x y h k)

own_register : (t : ℕ) (reg : Reg) → is_register t reg (register_of t reg) ≡ true
own_register t reg =
    and_from (t == t) (register_number reg == register_number reg) (eq-eqb t t refl)
    (eq-eqb (register_number reg) (register_number reg) refl)

pub atom_among : (test : LitmusTest) → first_unread test ≡ None → (atom : Atom) → Among atom test.atoms
    → list_any (is_register atom.thread atom.reg) (registers_of test) ≡ true
atom_among test none atom a =
    let r = are_read test none atom a in
    let own = register_of atom.thread atom.reg in
    let all = flat_map registers_of_thread (range_with_len 0 (length test.bodies)) in
    let there = in_flat registers_of_thread (range_with_len 0 (length test.bodies)) atom.thread own
    (in_range 0 (length test.bodies) atom.thread (omega arith)
    (let l = ltb-true atom.thread (length test.bodies) r.thread in omega arith))
    (in_map (register_of atom.thread) (Eax ∷ Ebx ∷ Ecx ∷ Edx ∷ Esi ∷ Edi ∷ []) atom.reg (regs_in atom.reg)) in
    let named : is_named test own ≡ true = any_among (λ (z : Atom). is_register z.thread z.reg own) atom test.atoms a
    (own_register atom.thread atom.reg) in
    any_among (is_register atom.thread atom.reg) own (registers_of test)
    (in_among (registers_of test) own (in_filter (is_named test) all own named there))
    (own_register atom.thread atom.reg)

in_take : {X : Type 0} (n : ℕ) (xs : List X) (x : X) → In x (take n xs) → In x xs
in_take zero [] x h = h
in_take zero (y ∷ xs) x h = absurd h
in_take (suc n) [] x h = h
in_take (suc n) (y ∷ xs) x (inl e) = inl e
in_take (suc n) (y ∷ xs) x (inr h) = inr (in_take n xs x h)

in_drop : {X : Type 0} (n : ℕ) (xs : List X) (x : X) → In x (drop n xs) → In x xs
in_drop zero [] x h = h
in_drop zero (y ∷ xs) x h = h
in_drop (suc n) [] x h = h
in_drop (suc n) (y ∷ xs) x h = inr (in_drop n xs x h)

-- the atoms of a conjunction are atoms of the condition
pub in_conjunction : (test : LitmusTest) (c : ℕ) (atom : Atom) → In atom (conjunction_of test.ends test.atoms c)
    → In atom test.atoms
in_conjunction test c atom h =
    in_drop (from_of test.ends c) test.atoms atom
    (in_take (to_of test.ends c - from_of test.ends c) (drop (from_of test.ends c) test.atoms) atom h)

pub names_among : (test : LitmusTest) (c : ℕ) → first_unread test ≡ None → NamesAmong test c (registers_of test)
names_among test c none =
    let atoms = conjunction_of test.ends test.atoms c in
    All-from_recursion (λ (atom : Atom). list_any (is_register atom.thread atom.reg) (registers_of test) ≡ true) atoms
    (each_in (λ (atom : Atom). list_any (is_register atom.thread atom.reg) (registers_of test) ≡ true) atoms
    (λ atom m. atom_among test none atom (in_among test.atoms atom (in_conjunction test c atom m))))
