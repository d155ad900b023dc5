-- The logs of store buffering in the tests meet what is asked of logs.
use Rattle.std.proofs.Common.{◌≡◌, ℕ, zero, suc, ◌+◌, ◌*◌, ◌<◌, ◌≤◌, All, Some, List, [], ◌∷◌, ◌++◌, count_by, get_or, length, slice_get, true, refl, sym, ap, ◌∙◌, subst, arith, ◌⊎◌, inl, inr}
use Rattle.std.proofs.lemmas.List.{get_or_past}
use Rattle.std.proofs.lemmas.Bool.{cases_lt}
use Rattle.std.specs.Option.{option_and_then, option_map_or, unwrap_or}
use Rattle.x86_subset.specs.Instr.{is_reading, location_of}
use Rattle.x86_subset.specs.Test.{Code, LitmusTest, body_of, column_of, columns_of}
use Rattle.x86_subset.specs.declared.instr.Instr.{Instr}
use Rattle.seq_conv.specs.Sequence.{site_location, store_count, stores_in_bodies, stores_in_body}
use Rattle.load_log.specs.Values.{Values, log_at, value_at}
use Rattle.skew.specs.Logged.{CanTell}
use Rattle.count_tests.specs.Tried.{IsLog, IsStoreBuffering, goes}

first_body : (test : LitmusTest) → IsStoreBuffering test → body_of test 0 ≡ goes 0 1
first_body test sb =
    ap (λ codes. option_map_or (λ (code : Code). code.actions) (slice_get codes 0) []) sb.two ∙ sb.goes_first

second_body : (test : LitmusTest) → IsStoreBuffering test → body_of test 1 ≡ goes 1 0
second_body test sb =
    ap (λ codes. option_map_or (λ (code : Code). code.actions) (slice_get codes 1) []) sb.two ∙ sb.goes_second

one_store : (test : LitmusTest) (x : ℕ) → IsStoreBuffering test
    → store_count test x ≡ length (stores_in_body x 0 0 (goes 0 1) ++ (stores_in_body x 1 0 (goes 1 0) ++ []))
one_store test x sb =
    ap (λ codes. length (stores_in_bodies x 0 codes)) sb.two
    ∙ ap (λ actions. length (stores_in_body x 0 0 actions ++ (stores_in_body x 1 0 sb.second.actions ++ [])))
    sb.goes_first
    ∙ ap (λ actions. length (stores_in_body x 0 0 (goes 0 1) ++ (stores_in_body x 1 0 actions ++ []))) sb.goes_second

location : (test : LitmusTest) (t p x : ℕ) (body : List Instr) → body_of test t ≡ body
    → unwrap_or (option_and_then location_of (slice_get body p)) 0 ≡ x
    → site_location test (record { thread = t; place = p }) ≡ x
location test t p x body e h = ap (λ body. unwrap_or (option_and_then location_of (slice_get body p)) 0) e ∙ h

reads_other : (test : LitmusTest) (t p : ℕ) (action : Instr) → IsStoreBuffering test
    → slice_get (body_of test t) p ≡ Some action → is_reading action ≡ true
    → store_count test (site_location test (record { thread = t; place = p })) ≡ 1
reads_other test zero zero action sb e h = let k = sym (ap (λ l. slice_get l 0) (first_body test sb)) ∙ e in cc
reads_other test zero (suc zero) action sb e h =
    ap (store_count test) (location test 0 1 1 (goes 0 1) (first_body test sb) refl) ∙ one_store test 1 sb
reads_other test zero (suc (suc p)) action sb e h =
    let k = sym (ap (λ l. slice_get l (suc (suc p))) (first_body test sb)) ∙ e in cc
reads_other test (suc zero) zero action sb e h = let k = sym (ap (λ l. slice_get l 0) (second_body test sb)) ∙ e in cc
reads_other test (suc zero) (suc zero) action sb e h =
    ap (store_count test) (location test 1 1 0 (goes 1 0) (second_body test sb) refl) ∙ one_store test 0 sb
reads_other test (suc zero) (suc (suc p)) action sb e h =
    let k = sym (ap (λ l. slice_get l (suc (suc p))) (second_body test sb)) ∙ e in cc
reads_other test (suc (suc t)) p action sb e h =
    let k =
    sym (ap (λ codes. slice_get (option_map_or (λ (code : Code). code.actions) (slice_get codes (suc (suc t))) [])
    p) sb.two) ∙ e in
    cc

small_at : (n k : ℕ) (xs : List ℕ) → All (λ v. v ≤ n) xs → (k < length xs) ⊎ (length xs ≤ k) → get_or xs k 0 ≤ n
small_at n k xs h (inl l) = h k 0 l
small_at n k xs h (inr l) = let e = get_or_past xs k 0 l in omega arith

value_small : (n : ℕ) (a b : Values) (t c i : ℕ) → IsLog n a → IsLog n b → value_at (a ∷ b ∷ []) t c i ≤ n
value_small n a b zero c i ha hb =
    small_at n (i * a.columns + c) a.values ha.small (cases_lt (i * a.columns + c) (length a.values))
value_small n a b (suc zero) c i ha hb =
    small_at n (i * b.columns + c) b.values hb.small (cases_lt (i * b.columns + c) (length b.values))
value_small n a b (suc (suc t)) c i ha hb = omega arith

columns_are : (test : LitmusTest) (n : ℕ) (a b : Values) (t : ℕ) → IsStoreBuffering test → IsLog n a → IsLog n b → t < 2
    → (log_at (a ∷ b ∷ []) t).columns ≡ columns_of test t
columns_are test n a b zero sb ha hb lt = ha.columns ∙ sym (ap (count_by is_reading) (first_body test sb))
columns_are test n a b (suc zero) sb ha hb lt = hb.columns ∙ sym (ap (count_by is_reading) (second_body test sb))
columns_are test n a b (suc (suc t)) sb ha hb lt = absurd (omega arith)

long_are : (n : ℕ) (a b : Values) (t : ℕ) (d : Values) → IsLog n a → IsLog n b → t < 2
    → length (get_or (a ∷ b ∷ []) t d).values ≡ n * (get_or (a ∷ b ∷ []) t d).columns
long_are n a b zero d ha hb lt = let c = ha.columns in let l = ha.whole in rw c (omega arith)
long_are n a b (suc zero) d ha hb lt = let c = hb.columns in let l = hb.whole in rw c (omega arith)
long_are n a b (suc (suc t)) d ha hb lt = absurd (omega arith)

two_tell : (test : LitmusTest) (n : ℕ) (a b : Values) → IsStoreBuffering test → n ≤ 100000 → IsLog n a → IsLog n b
    → CanTell test n (a ∷ b ∷ [])
two_tell test n a b sb few ha hb = record {
  few = few;
  threads = sym (ap length sb.two);
  columns = λ t lt. columns_are test n a b t sb ha hb lt;
  whole = λ t d lt. long_are n a b t d ha hb lt;
  values = λ s action i stands reading early.
      let v = value_small n a b s.thread (column_of test s.thread s.place) i ha hb in
      let one : store_count test (site_location test s)
      ≡ 1 = reads_other test s.thread s.place action sb stands reading in
      rw one (omega arith);
}

pub logs_tell : (test : LitmusTest) (n : ℕ) (logs : List Values) (a b : Values) → IsStoreBuffering test → n ≤ 100000
    → IsLog n a → IsLog n b → logs ≡ a ∷ b ∷ [] → CanTell test n logs
logs_tell test n logs a b sb few ha hb e = subst (CanTell test n) (sym e) (two_tell test n a b sb few ha hb)
