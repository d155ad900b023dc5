-- The actions of a test lie within its limits.
use Rattle.std.proofs.Common.{◌≡◌, ℕ, zero, suc, ◌≤◌, ◌<◌, subst, Some, List, [], ◌∷◌, length, arith}
use Rattle.std.specs.Prelude.{IfSome, slice_get}
use Rattle.std.proofs.lemmas.List.Elements.{All-head, All-tail}
use Rattle.x86_subset.specs.Instr.{location_of}
use Rattle.x86_subset.specs.Shape.{IsLocated, IsTest}
use Rattle.x86_subset.specs.Test.{LitmusTest, body_of}
use Rattle.x86_subset.specs.declared.instr.Instr.{Instr}
use Rattle.x86_subset.specs.declared.instr.Instr.TheVariants.{Store, Load, Fence, Exchange}
use Rattle.tso_runs.proofs.Memories.{body_located}
use Rattle.perp_loop.specs.Actions.{IsInRange}

in_range : (n : ℕ) (action : Instr) → n ≤ 16 → IfSome (location_of action) (λ x. x < n) → IsInRange action
in_range n (Store loc written) few low = omega (arith, few, low)
in_range n (Load reg loc) few low = omega (arith, few, low)
in_range n Fence few low = tt
in_range n (Exchange loc written reg) few low = omega (arith, few, low)

in_range_at : (n : ℕ) (actions : List Instr) (p : ℕ) (action : Instr) → n ≤ 16 → IsLocated n actions
    → slice_get actions p ≡ Some action → IsInRange action
in_range_at n [] p action few all at = cc
in_range_at n (a ∷ rest) zero action few all at =
    let same : a ≡ action = cc in
    subst IsInRange same (in_range n a few (All-head (λ (i : Instr). IfSome (location_of i) (λ x. x < n)) a rest all))
in_range_at n (a ∷ rest) (suc p) action few all at =
    in_range_at n rest p action few (All-tail (λ (i : Instr). IfSome (location_of i) (λ x. x < n)) a rest all) at

-- each action names one of the words
pub action_in_range : (test : LitmusTest) (t p : ℕ) (action : Instr) → IsTest test
    → slice_get (body_of test t) p ≡ Some action → IsInRange action
action_in_range test t p action is_test at =
    in_range_at (length test.locations) (body_of test t) p action is_test.few_locations
    (body_located (length test.locations) test.bodies t is_test.located) at
