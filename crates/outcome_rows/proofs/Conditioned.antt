-- A conjunction is possible exactly where some row satisfies it.
use Rattle.std.proofs.Common.{◌≡◌, ◌↔◌, ℕ, ◌==◌, ◌&&◌, ◌||◌, Bool, true, false, cond, Option, Some, List, [], ◌∷◌, All, refl, sym, ap, ◌∙◌, subst, slice_get, option_and_then}
use Rattle.std.proofs.lemmas.Bool.{and_parts, eqb-true}
use Rattle.std.proofs.lemmas.List.Elements.{All-from_recursion, recursion_from_All}
use Rattle.std.specs.List.{AllByRecursion as Each, AllZip, list_any}
use Rattle.x86_subset.specs.Conjunctions.{conjunction_of}
use Rattle.x86_subset.specs.Registers.{register_number}
use Rattle.x86_subset.specs.Test.{Code, HoldsReads, LitmusTest}
use Rattle.x86_subset.specs.declared.instr.Reg.{Reg}
use Rattle.x86_subset.specs.declared.test.Atom.{Atom}
use Rattle.litmus_outcomes.specs.Machine.{Step}
use Rattle.litmus_outcomes.specs.Outcome.{IsExecution, final_value, held_value}
use Rattle.litmus_outcomes.proofs.Images.{steps_of}
use Rattle.litmus_outcomes.proofs.Rebuilt.{imaged}
use Rattle.outcome_rows.specs.Conditions.{is_register, value_in}
use Rattle.outcome_rows.specs.Laws.{OutcomesAreRows}
use Rattle.outcome_rows.specs.Rows.{EndsWith, Register, text_value}
use Rattle.outcome_rows.proofs.Valued.{HeldRead, ends_by, held_reads}

final_same : (test : LitmusTest) (steps : List Step) (t : ℕ) (reg : Reg) (register : Register)
    → is_register t reg register ≡ true
    → final_value test steps t reg ≡ final_value test steps register.thread register.reg
final_same test steps t reg register h =
    let p = and_parts (register.thread == t) (register_number register.reg == register_number reg) h in
    let e : register.thread ≡ t = eqb-true register.thread t p.0 in
    let n : register_number register.reg ≡ register_number reg = eqb-true (register_number register.reg)
    (register_number reg) p.1 in
    (λ i. option_and_then (λ (code : Code). option_and_then (held_value steps (sym e i))
    (slice_get code.registers (sym n i))) (slice_get test.bodies (sym e i)))

found_step : (test : LitmusTest) (steps : List Step) (t : ℕ) (reg : Reg) (register : Register) (v : ℕ)
    (rest : Option ℕ) (more b : Bool) → is_register t reg register ≡ b → EndsWith test steps register v
    → (b || more) ≡ true → (more ≡ true → final_value test steps t reg ≡ rest)
    → final_value test steps t reg ≡ cond b (Some v) rest
found_step test steps t reg register v rest more true e ends h rec = final_same test steps t reg register e ∙ ends
found_step test steps t reg register v rest more false e ends h rec = rec h

found : (test : LitmusTest) (steps : List Step) (registers : List Register) (values : List ℕ) (t : ℕ) (reg : Reg)
    → AllZip (EndsWith test steps) registers values → list_any (is_register t reg) registers ≡ true
    → final_value test steps t reg ≡ value_in registers values t reg
found test steps [] [] t reg z h = cc
found test steps [] (v ∷ vs) t reg z h = absurd z
found test steps (register ∷ registers) [] t reg z h = absurd z
found test steps (register ∷ registers) (v ∷ vs) t reg z h =
    found_step test steps t reg register v (value_in registers vs t reg) (list_any (is_register t reg) registers)
    (is_register t reg register) refl z.0 h (λ k. found test steps registers vs t reg z.1 k)

-- an execution gives each register a value
row_of : (test : LitmusTest) (steps : List Step) (registers : List Register) → IsExecution test steps
    → Each (HeldRead test) registers → (values : List ℕ) × AllZip (EndsWith test steps) registers values
row_of test steps [] x h = ([], tt)
row_of test steps (register ∷ registers) x h =
    let i = imaged test steps x in
    let e = ends_by test i.run register i.is_run h.0 in
    let rest = row_of test steps registers x h.1 in
    let P : List Step → Type 0 = λ z. EndsWith test z register (text_value test e.0) in
    (text_value test e.0 ∷ rest.0, (subst P i.image e.2, rest.1))

each_both : {X : Type 0} (P Q R : X → Type 0) → ((x : X) → P x → Q x → R x) → (xs : List X) → Each P xs → Each Q xs
    → Each R xs
each_both P Q R f [] h k = tt
each_both P Q R f (x ∷ xs) h k = (f x h.0 k.0, each_both P Q R f xs h.1 k.1)

pub outcomes_are_rows_lem : OutcomesAreRows
outcomes_are_rows_lem test c registers h holds names =
    let atoms = conjunction_of test.ends test.atoms c in
    let N : Atom → Type 0 = λ atom. list_any (is_register atom.thread atom.reg) registers ≡ true in
    let S : List ℕ → Atom → Type 0 = λ values atom. value_in registers values atom.thread atom.reg ≡ Some atom.value in
    let F : List Step → Atom → Type 0 = λ steps atom. final_value test steps atom.thread atom.reg ≡ Some atom.value in (
      λ p.
          let row = row_of test p.0 registers p.1 (held_reads test registers h holds) in (
            row.0,
            (p.0, p.1, row.1),
            All-from_recursion (S row.0) atoms (each_both N (F p.0) (S row.0)
                (λ atom n f. sym (found test p.0 registers row.0 atom.thread atom.reg row.1 n) ∙ f) atoms
                (recursion_from_All N atoms names) (recursion_from_All (F p.0) atoms p.2)),
          ),
      λ r. (
        r.1.0,
        r.1.1,
        All-from_recursion (F r.1.0) atoms (each_both N (S r.0) (F r.1.0)
            (λ atom n s. found test r.1.0 registers r.0 atom.thread atom.reg r.1.2 n ∙ s) atoms
            (recursion_from_All N atoms names) (recursion_from_All (S r.0) atoms r.2)),
      ),
    )
