-- The heuristic frames of a conjunction, and the hits that they find: a cheaper counter after PerpLE's (Melissaris,
-- Markakis, Shaw and Martonosi, MICRO 2020); the rule by which atoms choose is this project's own.
use Rattle.std.specs.Prelude.{ℕ, zero, suc, ◌==◌, ◌&&◌, Bool, not, Option, None, Some, List, [], ◌∷◌, ◌++◌, find, filter, is_some, is_none, length, map, nat_eq, option_map, unwrap_or}
use Rattle.std.specs.List.{filter_map, list_all, list_any, range_with_len}
use Rattle.std.specs.Cmp.Lexicographic.{pointwise}
use Rattle.std.specs.Option.{option_and_then, option_map_or}
use Rattle.x86_subset.specs.Conjunctions.{conjunctions_of}
use Rattle.x86_subset.specs.Test.{LitmusTest}
use Rattle.tso_machine.specs.Event.{Event}
use Rattle.tso_machine.specs.Machine.{updated}
use Rattle.profile_check.specs.declared.kind.AtomKind.{AtomKind}
use Rattle.profile_check.specs.declared.kind.AtomKind.TheVariants.{Rf, Fr, Exact}
use Rattle.outcome_conv.specs.declared.cond.Cond.{Cond}
use Rattle.outcome_conv.specs.Choices.{choice_in, choice_of}
use Rattle.outcome_conv.specs.Conds.{Logged, cond_holds}
use Rattle.outcome_conv.specs.Holds.{holds_in}

-- what an atom is to the picks: which iteration of its writer it chooses by one of its reader, and where it holds
pub record Link : Type 0 where
  pub reader : ℕ
  pub writer : ℕ
  pub choice : ℕ → Option ℕ
  pub holds : List ℕ → Bool

abbrev pub reader_of : AtomKind → ℕ
reader_of (Rf reader column writer place) = reader
reader_of (Fr reader column writer) = reader
reader_of (Exact reader column writer place) = reader

abbrev pub writer_of : AtomKind → ℕ
writer_of (Rf reader column writer place) = writer
writer_of (Fr reader column writer) = writer
writer_of (Exact reader column writer place) = writer

-- an atom in a run
abbrev pub link_in : LitmusTest → ℕ → List Event → AtomKind → Link
link_in test n run kind = record {
  reader = reader_of kind;
  writer = writer_of kind;
  choice = choice_in test n run kind;
  holds = λ frame. holds_in test run frame kind;
}

-- a condition over logged values
abbrev pub link_by : Logged → ℕ → Cond → Link
link_by values n c = record {
  reader = c.reader;
  writer = c.writer;
  choice = choice_of values n c;
  holds = λ frame. cond_holds values frame c;
}

-- the iterations of the threads, where they are chosen
abbrev pub Chosen : Type 0
Chosen = ℕ → Option ℕ

-- an atom is to choose: its reader is chosen and its writer is not
abbrev pub is_due : Chosen → Link → Bool
is_due chosen link = is_some (chosen link.reader) && is_none (chosen link.writer)

-- as long as an atom is to choose, at most so many times, the first one chooses its writer's iteration; None where it
-- finds none
abbrev pub chosen_by : ℕ → List Link → Chosen → Option Chosen
chosen_by zero links chosen = Some chosen
chosen_by (suc steps) links chosen =
    option_map_or
    (λ link. option_and_then (λ m. chosen_by steps links (updated chosen link.writer (Some m)))
    (option_and_then link.choice (chosen link.reader)))
    (find (is_due chosen) links) (Some chosen)

-- the first thread that reads in one of the atoms
abbrev pub base_of : ℕ → List Link → Option ℕ
base_of threads links = find (λ t. list_any (λ link. link.reader == t) links) (range_with_len 0 threads)

-- what is chosen at first: the base takes i
abbrev pub base_takes : ℕ → ℕ → Chosen
base_takes base i = updated (λ t. None) base (Some i)

-- the frame of what is chosen in the end, where threads never chosen take i
abbrev pub frame_from : ℕ → ℕ → Chosen → List ℕ
frame_from threads i chosen = map (λ t. unwrap_or (chosen t) i) (range_with_len 0 threads)

-- the heuristic frame of iteration i; each atom chooses at most once
abbrev pub picked_frame : ℕ → List Link → ℕ → Option (List ℕ)
picked_frame threads links i =
    option_and_then (λ base. option_map (frame_from threads i) (chosen_by (length links) links (base_takes base i)))
    (base_of threads links)

-- the finds of a conjunction in n iterations: its heuristic frames at which all of its atoms hold
abbrev pub finds_of : ℕ → ℕ → List Link → List (List ℕ)
finds_of threads n links =
    filter (λ frame. list_all (λ link. link.holds frame) links)
    (filter_map (picked_frame threads links) (range_with_len 0 n))

abbrev pub is_among : List (List ℕ) → List ℕ → Bool
is_among frames frame = list_any (pointwise nat_eq frame) frames

-- the finds of one conjunction after the other, without those that an earlier one has too
abbrev pub listed_from : List (List ℕ) → List (List (List ℕ)) → List (List ℕ)
listed_from earlier [] = []
listed_from earlier (finds ∷ rest) =
    filter (λ frame. not (is_among earlier frame)) finds ++ listed_from (earlier ++ finds) rest

-- the listed hits of n iterations
abbrev pub picked_hits_of : ℕ → ℕ → List ℕ → List Link → List (List ℕ)
picked_hits_of threads n ends links = listed_from [] (map (finds_of threads n) (conjunctions_of ends links))

-- in a run
abbrev pub picked_hits : LitmusTest → ℕ → List Event → List AtomKind → List (List ℕ)
picked_hits test n run kinds = picked_hits_of (length test.bodies) n test.ends (map (link_in test n run) kinds)

-- and by numbers
abbrev pub picked_hits_by : Logged → ℕ → ℕ → List ℕ → List Cond → List (List ℕ)
picked_hits_by values threads n ends conds = picked_hits_of threads n ends (map (link_by values n) conds)
