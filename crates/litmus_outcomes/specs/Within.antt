-- When an atom holds within a frame: by what is written in the frame's iterations, and in no later one. Frames, and atoms
-- that hold at them by later iterations too, are PerpLE's (Melissaris, Markakis, Shaw and Martonosi, MICRO 2020); to
-- hold within a frame is this project's own.
use Rattle.std.specs.Prelude.{◌≡◌, ℕ, ◌==◌, ◌&&◌, Bool, true, false, Option, None, Some, List}
use Rattle.std.specs.List.{list_all}
use Rattle.x86_subset.specs.Test.{LitmusTest}
use Rattle.tso_machine.specs.Event.{Event}
use Rattle.seq_conv.specs.declared.site.Origin.{Origin}
use Rattle.seq_conv.specs.declared.site.Site.{Site}
use Rattle.profile_check.specs.Profile.{CheckedTest}
use Rattle.profile_check.specs.declared.kind.AtomKind.{AtomKind}
use Rattle.profile_check.specs.declared.kind.AtomKind.TheVariants.{Rf, Fr, Exact}
use Rattle.outcome_conv.specs.Conds.{cond_of}
use Rattle.outcome_conv.specs.declared.cond.Cond.{Cond}
use Rattle.outcome_conv.specs.Holds.{holds_in, iteration_in, reading_site, source_at}
use Rattle.verdict.specs.Edges.{kinds_in}

-- whether a read's source is the store in iteration m, and in no later one
abbrev pub is_exactly : Site → ℕ → Option Origin → Bool
is_exactly store m None = false
is_exactly store m (Some o) = (o.thread == store.thread) && (o.place == store.place) && (o.iteration == m)

-- An fr or an exact atom holds within a frame where it holds at it. An rf atom holds within it where its read takes the
-- named store in the iteration that the frame has for the writer.
abbrev pub holds_within : LitmusTest → List Event → List ℕ → AtomKind → Bool
holds_within test run frame (Rf reader column writer place) =
    is_exactly (record { thread = writer; place = place }) (iteration_in frame writer)
    (source_at test (reading_site test reader column) (iteration_in frame reader) run)
holds_within test run frame (Fr reader column writer) = holds_in test run frame (Fr reader column writer)
holds_within test run frame (Exact reader column writer place) =
    holds_in test run frame (Exact reader column writer place)

-- the condition in numbers of that: an rf atom has the one of an exact atom, value = k*m + a
abbrev pub cond_within : LitmusTest → AtomKind → Cond
cond_within test (Rf reader column writer place) = cond_of test (Exact reader column writer place)
cond_within test (Fr reader column writer) = cond_of test (Fr reader column writer)
cond_within test (Exact reader column writer place) = cond_of test (Exact reader column writer place)

-- The steady atoms: the exact and the fr ones, and the rf ones that name a store of the reader's own thread. What makes
-- them worth a name is the law `steady_holds_within`: at whatever frame they hold, they hold within it. Other atoms are
-- loose: each is an rf atom that names a store of another thread.
abbrev pub is_steady : AtomKind → Bool
is_steady (Rf reader column writer place) = writer == reader
is_steady (Fr reader column writer) = true
is_steady (Exact reader column writer place) = true

-- all atoms of conjunction c are steady
abbrev pub IsSteady : CheckedTest → ℕ → Type 0
IsSteady checked c = list_all is_steady (kinds_in checked c) ≡ true

-- all atoms of conjunction c hold at the frame
abbrev pub AllHoldAt : CheckedTest → List Event → List ℕ → ℕ → Type 0
AllHoldAt checked run frame c = list_all (holds_in checked.test run frame) (kinds_in checked c) ≡ true

-- all atoms of conjunction c hold within the frame
abbrev pub AllHoldWithin : CheckedTest → List Event → List ℕ → ℕ → Type 0
AllHoldWithin checked run frame c = list_all (holds_within checked.test run frame) (kinds_in checked c) ≡ true
