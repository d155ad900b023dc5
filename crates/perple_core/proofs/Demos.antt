-- No refusal is ever due for a demo's text.
use Rattle.std.proofs.Common.{◌≡◌, ℕ, ◌^◌, ◌<◌, ◌≤◌, ◌&&◌, Bool, true, false, if◌then◌else◌, List, [], ◌∷◌, length, Some, None, nat_lt, codes, option_map, Result, Ok, Err, Vec, Global, IfOk, refl, sym, subst, arith}
use Rattle.std.specs.declared.option.Option.{Option}
use Rattle.std.specs.Str.{bytes_eq}
use Rattle.std.specs.Str.Parse.{digits_value}
use Rattle.perp_base.specs.declared.failure.NoMemory.{NoMemory}
use Rattle.x86_subset.specs.Test.{LitmusTest}
use Rattle.litmus_reader.specs.Answer.{Accepted}
use Rattle.profile_check.specs.Profile.{Profile, inside, profile_of}
use Rattle.command_words.specs.Words.{command_of, convert_in, demo_in, is_number, job_in, replay_names, run_names}
use Rattle.command_words.specs.Job.{Asked as Job}
use Rattle.command_words.specs.declared.job.Command.{Command}
use Rattle.command_words.specs.declared.job.Command.TheVariants.{Run, Replay, Demo}
use Rattle.demo_text.specs.Demo.{demo_text_of, demo_iterations_of}
use Rattle.demo_text.proofs.Whole.{reads_as_test}
use Rattle.report_text.specs.declared.status.Status.{Status}
use Rattle.perple_core.specs.Due.{IsDue, due_for_profile, has_too_many_frames}
use Rattle.perple_core.specs.Top.{DemoCompletes, Ended}
use Rattle.program_edge.proofs.Endings.{completes_of}
use Rattle.perple_core.proofs.Endings.{laws, without_stops}
use Rattle.tso_words.specs.Seats.{Ended as Closed}
use Rattle.perp_base.specs.View.{View}
use Rattle.perple_core.specs.Texts.{frame_count_of}

few_is_not_more : (a b : ℕ) → b ≤ a → nat_lt a b ≡ false
few_is_not_more a b h = grind (arith)

few_frames : (k : ℕ) (test : LitmusTest) → demo_iterations_of (length test.bodies) ^ length test.bodies ≤ 4294967296
    → has_too_many_frames (Demo k) test ≡ false
unfolding has_too_many_frames frame_count_of
few_frames k test h = few_is_not_more 4294967296 (demo_iterations_of (length test.bodies) ^ length test.bodies) h

none_due : (k : ℕ) (test : LitmusTest) (profile : Profile) → profile ≡ inside
    → has_too_many_frames (Demo k) test ≡ false → due_for_profile (Demo k) test profile ≡ None
none_due k test profile is few = rw (is, few) refl

pub demo_is_not_due : (k : ℕ) → k < 2 ^ 64 → IsDue (Demo k) (demo_text_of k) None
demo_is_not_due k fits =
    let r = reads_as_test k fits in record {
      answer = Accepted r.test;
      reads = r.reads;
      is = none_due k r.test (profile_of r.test) r.inside (few_frames k r.test r.frames);
    }

pub demo_is_short : (k : ℕ) (r : Result (Vec ℕ Global) NoMemory) → k < 2 ^ 64
    → IfOk r (λ bytes. bytes.items ≡ demo_text_of k) → IfOk r (λ bytes. length bytes.items ≤ 65536)
demo_is_short k (Ok bytes) fits is = subst (λ (xs : List ℕ). length xs ≤ 65536) (sym is) (reads_as_test k fits).short
demo_is_short k (Err e) fits is = tt

-- a demo's number is one of 64 bits

no_demo : (k : ℕ) (o : Option Job) (c : Job → Command) → ((j : Job) → c j ≡ Demo k → ⊥) → option_map c o ≡ Some (Demo k)
    → ⊥
no_demo k None c other e = cc
no_demo k (Some j) c other e = other j (cc)

number_fits : (n k : ℕ) (is fits : Bool) → fits ≡ nat_lt n (2 ^ 64)
    → option_map Demo (if is && fits then Some n else None) ≡ Some (Demo k) → k < 2 ^ 64
number_fits n k false fits is e = absurd (cc)
number_fits n k true false is e = absurd (cc)
number_fits n k true true is e = let same : n ≡ k = cc in subst (λ (m : ℕ). m < 2 ^ 64) same (grind (arith, is))

demo_fits : (words : List (List ℕ)) (k : ℕ) → demo_in words ≡ Some (Demo k) → k < 2 ^ 64
demo_fits [] k e = absurd (cc)
demo_fits (word ∷ []) k e =
    number_fits (digits_value 10 word) k (is_number word) (nat_lt (digits_value 10 word) (2 ^ 64)) refl e
demo_fits (word ∷ more ∷ rest) k e = absurd (cc)

convert_is_no_demo : (words : List (List ℕ)) (k : ℕ) → convert_in words ≡ Some (Demo k) → ⊥
convert_is_no_demo [] k e = cc
convert_is_no_demo (word ∷ rest) k e = cc

named_fits : (words : List (List ℕ)) (k : ℕ) (run replay convert demo : Bool)
    → (if run then option_map Run (job_in run_names words)
    else (if replay then option_map Replay (job_in replay_names words)
    else (if convert then convert_in words else (if demo then demo_in words else None)))) ≡ Some (Demo k)
    → k < 2 ^ 64
named_fits words k true replay convert demo e = absurd (no_demo k (job_in run_names words) Run (λ j e. cc) e)
named_fits words k false true convert demo e = absurd (no_demo k (job_in replay_names words) Replay (λ j e. cc) e)
named_fits words k false false true demo e = absurd (convert_is_no_demo words k e)
named_fits words k false false false true e = demo_fits words k e
named_fits words k false false false false e = absurd (cc)

pub demo_number_fits : (words : List (List ℕ)) (k : ℕ) → command_of words ≡ Some (Demo k) → k < 2 ^ 64
demo_number_fits [] k e = absurd (cc)
demo_number_fits (name ∷ words) k e =
    named_fits words k (bytes_eq name (codes "run")) (bytes_eq name (codes "replay")) (bytes_eq name (codes "convert"))
    (bytes_eq name (codes "demo")) e

-- so a demo whose writing does not fail ends whole, or for want of memory
pub demo_completes_of : (words : List (List ℕ)) (old new : View) (done : Closed) (out_old out_new : View)
    (untouched : Type 0) (status : Status)
    → Ended words old new done out_old out_new untouched status → DemoCompletes words out_old out_new status
demo_completes_of words old new done out_old out_new untouched status ended = λ k is still.
    without_stops (completes_of (laws words old new done) status ended (Demo k) (demo_text_of k) (is, refl) (λ e. cc)
    (demo_is_not_due k (demo_number_fits words k is)) (λ e. cc) still)
