-- The steps of the heuristic count, in the words of picks: what one condition does to a frame, what one iteration
-- finds, and which of that is new. This project's own.
use Rattle.std.specs.Prelude.{ℕ, ◌≤◌, All, Bool, not, Option, None, Some, List, [], ◌∷◌, if◌then◌else◌, length, map, option_and_then, slice_index, slice_set, take}
use Rattle.std.specs.List.{flat_map, list_all}
use Rattle.x86_subset.specs.Conjunctions.{conjunction_of, conjunctions_of}
use Rattle.load_log.specs.Values.{AreWhole, Values, value_at}
use Rattle.outcome_conv.specs.declared.cond.Cond.{Cond}
use Rattle.outcome_conv.specs.Choices.{choice_of}
use Rattle.outcome_conv.specs.Conditions.{Conditions}
use Rattle.outcome_conv.specs.Conds.{Logged}
use Rattle.outcome_conv.specs.Picks.{Link, finds_of, is_among, link_by, picked_frame}
use Rattle.frame_count.specs.Count.{IsOfLogs}

-- logs of one to eight threads that are whole for n iterations, and conditions that name their threads and columns
pub record CanPick (c : Conditions) (logs : List Values) (n : ℕ) : Type 0 where
  pub thread : 1 ≤ length logs
  pub threads : length logs ≤ 8
  pub whole : AreWhole n logs
  pub names : All (IsOfLogs logs) c.conds

-- each condition in turn sets its writer's iteration; None where one has none to choose
abbrev pub frame_along : Logged → ℕ → List Cond → List ℕ → Option (List ℕ)
frame_along values n [] frame = Some frame
frame_along values n (c ∷ order) frame =
    option_and_then (λ m. frame_along values n order (slice_set frame c.writer m))
    (choice_of values n c (slice_index frame c.reader))

-- a frame that passes a test
abbrev pub only_if : (List ℕ → Bool) → Option (List ℕ) → Option (List ℕ)
only_if p o = option_and_then (λ frame. if p frame then Some frame else None) o

-- the find of iteration i: the picked frame of a conjunction, if all of it holds there
abbrev pub find_of : ℕ → List Link → ℕ → Option (List ℕ)
find_of threads links i = only_if (λ frame. list_all (λ link. link.holds frame) links) (picked_frame threads links i)

-- the finds of the first c conjunctions
abbrev pub finds_before : ℕ → ℕ → List ℕ → List Link → ℕ → List (List ℕ)
finds_before threads n ends links c = flat_map (finds_of threads n) (take c (conjunctions_of ends links))

-- conjunction c over the logs
abbrev pub links_of : Conditions → List Values → ℕ → ℕ → List Link
links_of conds logs n c = conjunction_of conds.ends (map (link_by (value_at logs) n) conds.conds) c

-- whether a frame is a find of one of the first c conjunctions
abbrev pub is_known : Conditions → List Values → ℕ → ℕ → List ℕ → Bool
is_known conds logs n c frame =
    is_among (finds_before (length logs) n conds.ends (map (link_by (value_at logs) n) conds.conds) c) frame

-- the find of conjunction c and iteration i, if it is none of an earlier conjunction
abbrev pub new_find_of : Conditions → List Values → ℕ → ℕ → ℕ → Option (List ℕ)
new_find_of conds logs n c i =
    only_if (λ frame. not (is_known conds logs n c frame)) (find_of (length logs) (links_of conds logs n c) i)
