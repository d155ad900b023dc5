-- How far a run of one iteration that has been begun has come, and what its events read. This project's own.
use Rattle.std.specs.Prelude.{◌≡◌, ℕ, ◌<◌, ◌≤◌, true, false, not, Contains, Some, List, length, filter, slice_get, take}
use Rattle.std.specs.List.{AllZip, AllByRecursion as Each}
use Rattle.x86_subset.specs.Test.{LitmusTest}
use Rattle.tso_machine.specs.Event.{Event, is_drain}
use Rattle.tso_machine.specs.Log.{value_read}
use Rattle.tso_machine.specs.Machine.{Steps, after_all, initial}
use Rattle.tso_machine.specs.Part.{Fills, Slot, part_of}
use Rattle.seq_conv.specs.Sequence.{rank_of}
use Rattle.profile_check.specs.declared.kind.AtomKind.{AtomKind}
use Rattle.profile_check.specs.declared.kind.AtomKind.TheVariants.{Rf, Fr, Exact}
use Rattle.outcome_conv.specs.Holds.{location_read}
use Rattle.run_witness.specs.Marks.{Mark, is_storing, loop_of}
use Rattle.run_witness.specs.Order.{is_store}
use Rattle.run_witness.specs.Stage.{Stands}
use Rattle.verdict.specs.declared.node.Node.{Node}
use Rattle.verdict.specs.Edges.{asked_of}

-- the value that an atom asks for, in one iteration: the rank of the store that it names, or 0
abbrev pub wanted : LitmusTest → AtomKind → ℕ
wanted test (Rf reader column writer place) =
    rank_of test (location_read test reader column) (record { thread = writer; place = place })
wanted test (Fr reader column writer) = 0
wanted test (Exact reader column writer place) =
    rank_of test (location_read test reader column) (record { thread = writer; place = place })

-- an event that reads for an atom reads the value that it asks for
abbrev pub IsWanted : LitmusTest → List AtomKind → Event → Type 0
IsWanted test kinds e =
    (kind : AtomKind) → Contains kinds kind → is_drain e ≡ false
    → e.thread ≡ (asked_of test kind).reader.thread → e.place ≡ (asked_of test kind).reader.place
    → (v : ℕ) → value_read e ≡ Some v → v ≡ wanted test kind

-- what thread t has done
abbrev pub deeds : ℕ → List Event → List Event
deeds t events = filter (λ e. not (is_drain e)) (part_of t events)

-- what waits in a thread's buffer is stores, no exchanges
abbrev pub WaitsStores : LitmusTest → ℕ → Mark → Type 0
WaitsStores test t m =
    (i : ℕ) (s : Slot) → m.drained ≤ i → i < m.done → slice_get (loop_of test 1 t) i ≡ Some s
    → is_storing s.action ≡ true → is_store s.action ≡ true

-- events that lead on from the beginning, by how far the threads have come
pub record Stage (test : LitmusTest) (kinds : List AtomKind) (marks : ℕ → Mark) (events : List Event) : Type 0 where
  pub steps : Steps test initial events
  pub stands : Stands test 1 (after_all test initial events) marks
  pub performed : (t : ℕ) → t < length test.bodies
      → AllZip (Fills t) (take (marks t).done (loop_of test 1 t)) (deeds t events)
  pub threads : Each (λ e. e.thread < length test.bodies) events
  pub stores : (t : ℕ) → WaitsStores test t (marks t)
  -- as long as the reader has not read, the store that it reads before is not in memory
  pub follows : (kind : AtomKind) → Contains kinds kind → (q : Node) → (asked_of test kind).follower ≡ Some q
      → (marks (asked_of test kind).reader.thread).done ≤ (asked_of test kind).reader.place
      → (marks q.thread).drained ≤ q.place
  pub reads : Each (IsWanted test kinds) events
