-- The run of a schedule is written as a legal run.
use Rattle.std.proofs.Common.{◌≡◌, ◌≤◌, ℕ, Bool, true, false, List, [], ◌∷◌, ◌++◌, length, Option, Some, None, codes, if◌then◌else◌, option_map, map, subst, sym, refl}
use Rattle.std.proofs.lemmas.Option.{none-some}
use Rattle.std.specs.Str.{bytes_eq}
use Rattle.x86_subset.specs.Test.{LitmusTest}
use Rattle.tso_runs.proofs.Fitting.{scheduled_run}
use Rattle.litmus_reader.specs.Answer.{Accepted}
use Rattle.litmus_reader.specs.Reading.{Reads}
use Rattle.report_text.specs.Words.{number_line}
use Rattle.run_text.specs.Sections.{Split}
use Rattle.command_words.specs.Job.{AskedReplay}
use Rattle.command_words.specs.Words.{count_in, iterations_in, replay_in}
use Rattle.command_words.proofs.Replays.{replay_within}
use Rattle.run_judge.specs.Judgement.{event_of}
use Rattle.tool_core.specs.Due.{all_litmus}
use Rattle.tool_core.specs.Laws.{CallOf, IsJudgedSo, IsLegalReplay, ReplaysAreLegal}
use Rattle.tool_core.specs.Replaying.{IsReplayText}
use Rattle.tool_core.specs.Words.{alone, command_of, named_in}
use Rattle.tool_core.specs.declared.words.Command.{Command}
use Rattle.tool_core.specs.declared.words.Command.TheVariants.{Judge, Order, Witness, Verdict, Show, Outcomes, Faithful, Skew, Count, Replay}
use Rattle.tool_core.proofs.Endings.{whole_test}
use Rattle.tool_core.proofs.Repeats.{answer_in}
use Rattle.tool_core.proofs.RunJudged.{legal_said}

-- ---- the words of a replay

module _ (job : AskedReplay) where
  abbrev IsReplay : Option Command → Type 0
  IsReplay o = o ≡ Some (Replay job)

  -- another name
  past : (b : Bool) (x y : Option Command) → (IsReplay x → ⊥) → IsReplay (if b then x else y) → IsReplay y
  past true x y other e = absurd (other e)
  past false x y other e = e

  alone_is_other : (command : Command) (rest : List (List ℕ)) → (command ≡ Replay job → ⊥)
      → IsReplay (alone command rest) → ⊥
  alone_is_other command [] other e = other (cc)
  alone_is_other command (word ∷ rest) other e = none-some (Replay job) e

  mapped_is_other : {X : Type 0} (f : X → Command) (o : Option X) → ((x : X) → f x ≡ Replay job → ⊥)
      → IsReplay (option_map f o) → ⊥
  mapped_is_other f None other e = none-some (Replay job) e
  mapped_is_other f (Some x) other e = other x (cc)

  named_last : (b : Bool) (o : Option AskedReplay) → IsReplay (if b then option_map Replay o else None)
      → (b ≡ true) × (o ≡ Some job)
  named_last true None e = absurd (none-some (Replay job) e)
  named_last true (Some x) e = (refl, cc)
  named_last false o e = absurd (none-some (Replay job) e)

  pub replay_named : (name : List ℕ) (rest : List (List ℕ)) → IsReplay (named_in name rest)
      → (bytes_eq name (codes "replay") ≡ true) × (replay_in rest ≡ Some job)
  replay_named name rest e0 =
      let e1 = past (bytes_eq name (codes "judge")) (alone Judge rest) _ (alone_is_other Judge rest (λ e. cc)) e0 in
      let e2 = past (bytes_eq name (codes "order")) (alone Order rest) _ (alone_is_other Order rest (λ e. cc)) e1 in
      let e3 = past (bytes_eq name (codes "witness")) (option_map Witness (iterations_in rest)) _
      (mapped_is_other Witness (iterations_in rest) (λ n e. cc)) e2 in
      let e4 = past (bytes_eq name (codes "verdict")) (alone Verdict rest) _ (alone_is_other Verdict rest (λ e. cc)) e3 in
      let e5 = past (bytes_eq name (codes "show")) (alone Show rest) _ (alone_is_other Show rest (λ e. cc)) e4 in
      let e6 = past (bytes_eq name (codes "outcomes")) (alone Outcomes rest) _
      (alone_is_other Outcomes rest (λ e. cc)) e5 in
      let e7 = past (bytes_eq name (codes "faithful")) (alone Faithful rest) _
      (alone_is_other Faithful rest (λ e. cc)) e6 in
      let e8 = past (bytes_eq name (codes "skew")) (option_map Skew (iterations_in rest)) _
      (mapped_is_other Skew (iterations_in rest) (λ n e. cc)) e7 in
      let e9 = past (bytes_eq name (codes "count")) (option_map Count (count_in rest)) _
      (mapped_is_other Count (count_in rest) (λ asked e. cc)) e8 in
      named_last (bytes_eq name (codes "replay")) (replay_in rest) e9

  -- the words after the name
  pub record HasWords (words : List (List ℕ)) : Type 0 where
    pub name : List ℕ
    pub rest : List (List ℕ)
    pub are : words ≡ name ∷ rest
    pub named : bytes_eq name (codes "replay") ≡ true
    pub asked : replay_in rest ≡ Some job

  pub replay_words : (words : List (List ℕ)) → IsReplay (command_of words) → HasWords words
  replay_words [] e = absurd (none-some (Replay job) e)
  replay_words (name ∷ rest) e =
      let is = replay_named name rest e in
      record { name = name; rest = rest; are = refl; named = is.0; asked = is.1 }

-- ---- what it writes

-- what a call of replay wrote of a text that reads as a test
pub told_of : (words : List (List ℕ)) (litmus text : List ℕ) (job : AskedReplay) (test : LitmusTest)
    → command_of words ≡ Some (Replay job) → Reads litmus (Accepted test) → CallOf words litmus text
    → IsReplayText test job text
told_of words litmus text job test is reads call =
    let a = answer_in words (Replay job) litmus text is call in
    subst (λ (t : LitmusTest). IsReplayText t job text)
    (whole_test litmus a.parts a.test test a.accepts.parts_are a.accepts.reading reads) a.right.1

short_text : (words : List (List ℕ)) (litmus text : List ℕ) (job : AskedReplay)
    → command_of words ≡ Some (Replay job) → CallOf words litmus text → length litmus ≤ 65536
short_text words litmus text job is call =
    let a = answer_in words (Replay job) litmus text is call in
    let both : Some (all_litmus litmus) ≡ Some a.parts = a.accepts.parts_are in
    let parts : all_litmus litmus ≡ a.parts = cc in
    subst (λ (p : Split). length p.litmus ≤ 65536) (sym parts) a.accepts.short

pub replays_are_legal_lem : ReplaysAreLegal
replays_are_legal_lem words litmus text job test is reads leads call =
    let told = told_of words litmus text job test is reads call in
    let has = replay_words job words is in
    let limits = replay_within has.rest job has.asked in
    let legal = scheduled_run test job.options job.schedule (map event_of told.events) told.are.run in
    record {
      events = told.events;
      are = told.are;
      is = told.is;
      judged =
          subst (λ (t : List ℕ). IsJudgedSo (litmus ++ t) (number_line (codes "Legal") (length told.events))) (sym told.is)
          (legal_said litmus test job.options.iterations told.events reads (short_text words litmus text job is call)
          leads limits.0 limits.1 legal);
    }
