-- Lemmas on the action that an atom's register was read by, and on the stores of its location.
use Rattle.std.proofs.Common.{◌≡◌, ◌∙◌, ℕ, zero, suc, ◌<◌, ◌≤◌, true, cond, None, Some, List, [], ◌∷◌, length, take, get_or, slice_get, ap, subst, unwrap_or, option_and_then, All, IfSome, arith}
use Rattle.std.proofs.lemmas.List.Elements.{All-from_recursion}
use Rattle.std.proofs.lemmas.List.Sums.{count_by-le-length}
use Rattle.std.proofs.lemmas.List.{length-take}
use Rattle.std.proofs.lemmas.Option.{get_or_from_slice_get, slice_get_within}
use Rattle.std.specs.Option.{option_map_or}
use Rattle.x86_subset.specs.Instr.{is_reading, location_of}
use Rattle.x86_subset.specs.Shape.{IsTest}
use Rattle.x86_subset.specs.Test.{Code, LitmusTest, body_of, column_at, column_of, last_writer_of}
use Rattle.x86_subset.specs.declared.instr.Instr.{Instr}
use Rattle.x86_subset.specs.declared.instr.Instr.TheVariants.{Store, Load, Fence, Exchange}
use Rattle.x86_subset.specs.declared.instr.Reg.{Reg}
use Rattle.seq_conv.specs.Sequence.{stores_of}
use Rattle.seq_conv.specs.declared.site.Site.{Site}
use Rattle.perp_base.proofs.Lists.{each_weaker}
use Rattle.seq_conv.proofs.Numbering.{body_short, located_at}
use Rattle.seq_conv.proofs.Stores.{IsStoreOf, stores_are}
use Rattle.profile_check.proofs.KindLemmas.{reads_at}

-- the action at a place of thread t, which reads
pub record IsRead (test : LitmusTest) (t p : ℕ) : Type 0 where
  pub action : Instr
  pub stands : slice_get (body_of test t) p ≡ Some action
  pub within : p < length (body_of test t)
  pub location : unwrap_or (location_of action) 0 < length test.locations
  pub column : column_at test t p ≡ Some (column_of test t p)
  pub column_small : column_of test t p ≤ 16

read_location : (action : Instr) (n : ℕ) → is_reading action ≡ true → IfSome (location_of action) (λ x. x < n)
    → unwrap_or (location_of action) 0 < n
read_location (Store loc written) n r h = h
read_location (Load reg loc) n r h = h
read_location Fence n r h = cc
read_location (Exchange loc written reg) n r h = h

-- a register's place is that of a reading action within its body
pub read_here : (test : LitmusTest) (t : ℕ) (r : Reg) (p : ℕ) → IsTest test → last_writer_of test t r ≡ Some p
    → IsRead test t p
read_here test t r p h e =
    let a = reads_at test t r p h.holds_reads e in
    let within = slice_get_within (body_of test t) p a.0 a.1 in
    let here : get_or (body_of test t) p a.0 ≡ a.0 = get_or_from_slice_get (body_of test t) p a.0 a.0 a.1 in
    let there = located_at test t p a.0 h within in
    record {
      action = a.0;
      stands = a.1;
      within = within;
      location =
          read_location a.0 (length test.locations) a.2 (subst (λ i. IfSome (location_of i)
          (λ x. x < length test.locations)) here there);
      column =
          ap (λ o. option_and_then (λ i. cond (is_reading i) (Some (column_of test t p)) None) o) a.1
          ∙ ap (λ b. cond b (Some (column_of test t p)) None) a.2;
      column_small =
          omega (
            arith,
            count_by-le-length is_reading (take p (body_of test t)),
            length-take p (body_of test t),
            body_short test t h,
          );
    }

-- The stores of a location stand in threads of the test.

thread_by : (codes : List Code) (t p : ℕ) (a : Instr)
    → slice_get (option_map_or (λ (code : Code). code.actions) (slice_get codes t) []) p ≡ Some a → t < length codes
thread_by [] t p a h = cc
thread_by (code ∷ codes) zero p a h = omega arith
thread_by (code ∷ codes) (suc t) p a h = let k = thread_by codes t p a h in omega arith

pub in_threads : (test : LitmusTest) (x : ℕ) → All (λ (s : Site). s.thread < length test.bodies) (stores_of test x)
in_threads test x =
    All-from_recursion (λ (s : Site). s.thread < length test.bodies) (stores_of test x)
    (each_weaker (IsStoreOf test x) (λ (s : Site). s.thread < length test.bodies)
    (λ s k. thread_by test.bodies s.thread s.place k.action k.stands) (stores_of test x) (stores_are test x))
