-- The frames of a run within which the condition of the test holds, and the conditions in numbers by which they are
-- counted. That each frame is looked at is after PerpLE's exhaustive counter (Melissaris, Markakis, Shaw and Martonosi,
-- MICRO 2020); to hold within a frame is this project's own (litmus_outcomes/specs/Within).
use Rattle.std.specs.Prelude.{ℕ, Bool, List, filter, length, map}
use Rattle.x86_subset.specs.Conjunctions.{some_conjunction}
use Rattle.x86_subset.specs.Test.{LitmusTest}
use Rattle.tso_machine.specs.Event.{Event}
use Rattle.tso_machine.specs.Frame.{frames_of}
use Rattle.profile_check.specs.declared.kind.AtomKind.{AtomKind}
use Rattle.outcome_conv.specs.declared.cond.Cond.{Cond}
use Rattle.outcome_conv.specs.declared.cond.CondKind.{CondKind}
use Rattle.outcome_conv.specs.declared.cond.CondKind.TheVariants.{AtLeast, Below, Exact}
use Rattle.litmus_outcomes.specs.Within.{cond_within, holds_within}

-- whether for at least one conjunction all of its atoms hold within the frame
abbrev pub is_hit_within : LitmusTest → List AtomKind → List Event → List ℕ → Bool
is_hit_within test kinds run frame = some_conjunction (holds_within test run frame) test.ends kinds

-- the frames of n iterations within which the condition so holds, in rising order of their numbers
abbrev pub hits_within : LitmusTest → List AtomKind → ℕ → List Event → List (List ℕ)
hits_within test kinds n run = filter (is_hit_within test kinds run) (frames_of n (length test.bodies))

-- the conditions in numbers, one for each atom
abbrev pub conds_within : LitmusTest → List AtomKind → List Cond
conds_within test kinds = map (cond_within test) kinds

-- what is asked of a value, made narrow: where k*m + a or a later value of the store would do, only k*m + a does
abbrev pub narrowed_kind : CondKind → CondKind
narrowed_kind (AtLeast k a) = Exact k a
narrowed_kind (Below k) = Below k
narrowed_kind (Exact k a) = Exact k a

-- a condition that asks for that, of the same read and writer
abbrev pub narrowed : Cond → Cond
narrowed c = record c { kind = narrowed_kind c.kind }
