-- The words of a replay of which nothing is counted are those of a job with the same run.
use Rattle.std.proofs.Common.{◌≡◌, ◌∙◌, ◌||◌, ◌≤◌, ℕ, Bool, codes, true, false, refl, sym, ap, subst, List, ◌∷◌, [], nat_le, option_map, Option, Some, None, true≢false}
use Rattle.std.specs.Prelude.{option_and_then}
use Rattle.std.specs.Str.{bytes_eq}
use Rattle.std.proofs.lemmas.Bool.{leb-true}
use Rattle.std.proofs.lemmas.Option.{none-some, option_and_then_some}
use Rattle.perp_base.specs.declared.options.Options.{Options}
use Rattle.command_words.specs.declared.job.Command.TheVariants.{Replay}
use Rattle.command_words.specs.Job.{AskedReplay}
use Rattle.command_words.specs.Words.{Given, Text, given_in, is_among, number_of, number_within, replay_in, replay_names, replay_of, schedule_names, value_given, within}
use Rattle.command_words.specs.Lines.Gives.{nothing, number, apart, joined}
use Rattle.command_words.specs.Lines.{AsksForReplay, Gives, HasJobOf, ReplaysAreOfJobs, ReplaysAreRead}
use Rattle.command_words.proofs.Lined.IsOptionName.{buffer, order, rate, seed}
use Rattle.command_words.proofs.Lined.{IsOptionName, given_is, gives, job_read, known_to, not_given_to, replay_job, replay_known, replay_values, run_values, some_of}

-- ---- the names of the options

schedule_known : (name : Text) → is_among name schedule_names ≡ true → IsOptionName name
schedule_known =
    known_to (codes "order") (codes "seed" ∷ codes "rate" ∷ codes "buffer" ∷ []) order
    (known_to (codes "seed") (codes "rate" ∷ codes "buffer" ∷ []) seed
    (known_to (codes "rate") (codes "buffer" ∷ []) rate
    (known_to (codes "buffer") [] buffer (λ name among. absurd (true≢false (sym among))))))

schedule_among : (name : Text) → is_among name schedule_names ≡ true → is_among name replay_names ≡ true
schedule_among name =
    go (bytes_eq (codes "order") name) (bytes_eq (codes "seed") name) (bytes_eq (codes "rate") name)
    (bytes_eq (codes "buffer") name) (bytes_eq (codes "count") name || (bytes_eq (codes "cut") name || false))
  where
    go : (a b c d more : Bool) → (a || (b || (c || (d || false)))) ≡ true → (a || (b || (c || (d || more)))) ≡ true
    go true b c d more e = refl
    go false true c d more e = refl
    go false false true d more e = refl
    go false false false true more e = refl
    go false false false false more e = absurd (true≢false (sym e))

-- ---- what the words ask for

module _ (words : List Text) (asked : AskedReplay) where
  no_way_given : (a : AsksForReplay words asked) → value_given a.gs (codes "count") ≡ None
  no_way_given a = not_given_to schedule_names (codes "count") refl refl a.gs words a.gives

  no_cut_given : (a : AsksForReplay words asked) → value_given a.gs (codes "cut") ≡ None
  no_cut_given a = not_given_to schedule_names (codes "cut") refl refl a.gs words a.gives

  replay_read : AsksForReplay words asked → replay_in words ≡ Some asked
  replay_read a =
      ap (option_and_then (λ gs. replay_of (value_given gs)))
      (given_is schedule_names schedule_known words a.gs a.gives (replay_values (value_given a.gs) asked a.numbers
      (no_way_given a) (no_cut_given a))) ∙ a.numbers

  replay_asked : replay_in words ≡ Some asked → AsksForReplay words asked
  replay_asked e = option_and_then_some _ (given_in schedule_names words) asked e
      (λ gs is said. record { gs = gs; gives = gives schedule_names words gs is; numbers = said })

pub replays_are_read : ReplaysAreRead
replays_are_read words asked = (replay_read words asked, replay_asked words asked)

-- ---- the job with the same run

-- what is given to names is given to more names
wider : (few many : List Text) → ((name : Text) → is_among name few ≡ true → is_among name many ≡ true)
    → (gs : List Given) (words : List Text) → Gives few gs words → Gives many gs words
wider few many more _ _ nothing = nothing
wider few many more _ _ (number word gs words new rest) = number word gs words new (wider few many more gs words rest)
wider few many more _ _ (apart name value gs words among new rest) =
    apart name value gs words (more name among) new (wider few many more gs words rest)
wider few many more _ _ (joined name value gs words among new rest) =
    joined name value gs words (more name among) new (wider few many more gs words rest)

job_asked : (words : List Text) (asked : AskedReplay) → AsksForReplay words asked → HasJobOf asked words
job_asked words asked a =
    let j = replay_job (value_given a.gs) asked a.numbers (no_way_given words asked a) (no_cut_given words asked a) in
    record {
      job = j.0;
      is = j.2;
      command =
          ap (option_map Replay) (job_read replay_names replay_known words j.0 (record {
            gs = a.gs;
            gives = wider schedule_names replay_names schedule_among a.gs words a.gives;
            numbers = j.1;
          }));
    }

pub replays_are_of_jobs : ReplaysAreOfJobs
replays_are_of_jobs words asked e = job_asked words asked (replay_asked words asked e)

-- ---- the limits

within_is : (least most n m : ℕ) → within least most n ≡ Some m → (least ≤ m) × (m ≤ most)
within_is least most n m e = go (nat_le least n) refl (nat_le n most) refl
  where
    go : (a : Bool) → nat_le least n ≡ a → (b : Bool) → nat_le n most ≡ b → (least ≤ m) × (m ≤ most)
    go false low b high = absurd (none-some m (rw low at e))
    go true low false high = absurd (none-some m (rw (low, high) at e))
    go true low true high =
        let both : ◌≡◌ {A = Option ℕ} (Some n) (Some m) = rw (low, high) at e in
        let same : n ≡ m = cc in
        (subst (λ k. least ≤ k) same (leb-true least n low), subst (λ k. k ≤ most) same (leb-true n most high))

number_is_within : (least most n : ℕ) (value : Option Text) → option_and_then (number_within least most) value ≡ Some n
    → (least ≤ n) × (n ≤ most)
number_is_within least most n value e = option_and_then_some _ value n e (λ text text_is number_is.
    option_and_then_some _ (number_of text) n number_is (λ k k_is within_k. within_is least most k n within_k))

pub replay_within : (words : List Text) (asked : AskedReplay) → replay_in words ≡ Some asked
    → (1 ≤ asked.options.iterations) × (asked.options.iterations ≤ 100000)
replay_within words asked e =
    let a = replay_asked words asked e in
    option_and_then_some _ _ asked a.numbers (λ options options_are more.
    some_of _ _ asked more (λ way way_is same.
    subst (λ (o : Options). (1 ≤ o.iterations) × (o.iterations ≤ 100000)) (ap (λ (r : AskedReplay). r.options) same)
    (number_is_within 1 100000 options.iterations (value_given a.gs (codes "N"))
    (run_values (value_given a.gs) options options_are).n_is)))
