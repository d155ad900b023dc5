-- The iteration that an atom chooses for its writer, by the reader's iteration: in a run, told without values, and in
-- numbers. These are the steps of a heuristic counter after PerpLE's (Melissaris, Markakis, Shaw and Martonosi, MICRO
-- 2020); the rule is this project's own.
use Rattle.std.specs.Prelude.{ℕ, ◌==◌, ◌&&◌, ◌+◌, ◌-◌, ◌/◌, ◌%◌, Option, None, Some, List, find, if◌then◌else◌, nat_lt}
use Rattle.std.specs.List.{range_with_len}
use Rattle.x86_subset.specs.Test.{LitmusTest}
use Rattle.tso_machine.specs.Event.{Event}
use Rattle.seq_conv.specs.declared.site.Site.{Site}
use Rattle.seq_conv.specs.declared.site.Origin.{Origin}
use Rattle.profile_check.specs.declared.kind.AtomKind.{AtomKind}
use Rattle.profile_check.specs.declared.kind.AtomKind.TheVariants.{Rf, Fr, Exact}
use Rattle.outcome_conv.specs.declared.cond.Cond.{Cond}
use Rattle.outcome_conv.specs.declared.cond.CondKind.{CondKind}
use Rattle.outcome_conv.specs.declared.cond.CondKind.TheVariants.{AtLeast, Below}
use Rattle.outcome_conv.specs.declared.cond.CondKind.TheVariants as cond_kind
use Rattle.outcome_conv.specs.Conds.{Logged}
use Rattle.outcome_conv.specs.Holds.{first_in, location_read, reading_site, reads_before, source_at}

-- the iteration of a source that is the named store
abbrev pub iteration_from : Site → Option Origin → Option ℕ
iteration_from store None = None
iteration_from store (Some origin) =
    if (origin.thread == store.thread) && (origin.place == store.place) then Some origin.iteration else None

-- the iteration of the named store that a read in iteration i comes from
abbrev pub source_choice : LitmusTest → List Event → ℕ → ℕ → Site → ℕ → Option ℕ
source_choice test run t column store i = iteration_from store (source_at test (reading_site test t column) i run)

-- By its read an rf or an exact atom chooses the iteration in which the named store wrote what was read (None where
-- nothing or another store did), and an fr atom the first iteration below n whose first store reaches memory only
-- afterwards.
abbrev pub choice_in : LitmusTest → ℕ → List Event → AtomKind → ℕ → Option ℕ
choice_in test n run (Rf reader column writer place) i =
    source_choice test run reader column (record { thread = writer; place = place }) i
choice_in test n run (Fr reader column writer) i =
    find (λ m. reads_before test run reader column i (first_in test (location_read test reader column) m))
    (range_with_len 0 n)
choice_in test n run (Exact reader column writer place) i =
    source_choice test run reader column (record { thread = writer; place = place }) i

-- a number below n
abbrev pub some_below : ℕ → ℕ → Option ℕ
some_below n m = if nat_lt m n then Some m else None

-- the iteration below n in which the store of rank a, of k stores, writes the value
abbrev pub owner_choice : ℕ → ℕ → ℕ → ℕ → Option ℕ
owner_choice n k a value =
    if value == 0 then None else if (value - 1) % k + 1 == a then some_below n ((value - 1) / k) else None

-- the choice in numbers; for an fr atom it is the first m with value < k*m + 1, a quotient rounded up
abbrev pub choice_by : ℕ → CondKind → ℕ → Option ℕ
choice_by n (AtLeast k a) value = owner_choice n k a value
choice_by n (Below k) value = some_below n ((value + k - 1) / k)
choice_by n (cond_kind.Exact k a) value = owner_choice n k a value

-- the choice of a condition by the logged values
abbrev pub choice_of : Logged → ℕ → Cond → ℕ → Option ℕ
choice_of values n c i = choice_by n c.kind (values c.reader c.column i)
