-- What whole logs and the logs of runs give to a report.
use Rattle.std.proofs.Common.{◌≡◌, ◌↔◌, ℕ, ◌^◌, ◌<◌, ◌≤◌, Bool, true, List, [], ◌∷◌, All, Some, None, IsNone, IfSome, is_some, length, sym, ap, subst, ◌∙◌, arith, rules}
use Rattle.std.specs.declared.option.Option.{Option}
use Rattle.std.proofs.lemmas.List.Elements.{recursion_from_All, All-from_recursion}
use Rattle.std.specs.List.{AllByRecursion as Each}
use Rattle.x86_subset.specs.Test.{LitmusTest}
use Rattle.tso_machine.specs.Event.{Event}
use Rattle.profile_check.specs.Profile.{CheckedTest, IsChecked}
use Rattle.load_log.specs.Values.{Values, value_at}
use Rattle.outcome_conv.specs.declared.cond.Cond.{Cond}
use Rattle.outcome_conv.specs.Conditions.{Conditions, IsOfTest}
use Rattle.outcome_conv.specs.Conds.{conds_of, count_of}
use Rattle.outcome_conv.specs.Hits.{hits_of}
use Rattle.outcome_conv.specs.Picks.{picked_hits, picked_hits_by}
use Rattle.outcome_conv.proofs.Named.{conditions_name_the_test_lem}
use Rattle.frame_count.specs.Count.{IsOfLogs}
use Rattle.frame_count.proofs.LogsOfRuns.{counts_are_hits_lem}
use Rattle.heuristic.specs.Steps.{CanPick}
use Rattle.heuristic.proofs.OfRuns.{listed_are_hits_of_runs_lem}
use Rattle.perp_loop.specs.Crews.{AreWholeFor}
use Rattle.perp_base.specs.Options.{IsWithinLimits}
use Rattle.perp_base.specs.declared.options.Options.{Options}
use Rattle.command_words.specs.declared.job.Count.{Count}
use Rattle.program_edge.specs.Field.{HasLogs}
use Rattle.perple_core.specs.Counting.{CanCountFrames}
use Rattle.perp_base.specs.declared.limits.TheConstants.{MOST_FRAMES}
use Rattle.perple_core.specs.Texts.{asked, asks_exhaustive, asks_heuristic, frame_count_of, hit_count_of, listed_hits_of}
use Rattle.perple_core.proofs.Accepting.{kinds_are}

-- the number of frames, where it is within the limit
pub found_frames : (r : Option ℕ) (n t : ℕ) → (IsNone r ↔ (4294967296 < n ^ t)) → IfSome r (λ x. x ≡ n ^ t)
    → n ^ t ≤ 4294967296 → r ≡ Some (n ^ t)
found_frames None n t none value few = let over : 4294967296 < n ^ t = none.0 (search rules) in absurd (omega arith)
found_frames (Some x) n t none value few = ap Some value

-- the counts that are asked for

few_frames : (test : LitmusTest) (options : Options) (t : ℕ) → t ≡ length test.bodies
    → frame_count_of test options ≤ MOST_FRAMES → options.iterations ^ t ≤ 4294967296
unfolding frame_count_of
few_frames test options t is few = subst (λ (n : ℕ). options.iterations ^ n ≤ 4294967296) (sym is) few

pub few_asked : (test : LitmusTest) (options : Options) (count : Count) (t : ℕ) (b : Bool) → b ≡ asks_exhaustive count
    → b ≡ true → t ≡ length test.bodies
    → CanCountFrames test options count → options.iterations ^ t ≤ 4294967296
few_asked test options count t b e is_so is can = few_frames test options t is (can (sym e ∙ is_so))

pub asked_frames : (test : LitmusTest) (options : Options) (count : Count) (r : Option ℕ) (t : ℕ) (b : Bool)
    → b ≡ asks_exhaustive count → b ≡ true → t ≡ length test.bodies
    → CanCountFrames test options count → (IsNone r ↔ (4294967296 < options.iterations ^ t))
    → IfSome r (λ x. x ≡ options.iterations ^ t)
    → (is_some r ≡ asks_exhaustive count) × (r ≡ asked (asks_exhaustive count) (frame_count_of test options))
unfolding frame_count_of
asked_frames test options count r t b e is_so is can none value =
    let asks : asks_exhaustive count ≡ true = sym e ∙ is_so in
    let found : r ≡ Some (options.iterations ^ t) =
    found_frames r options.iterations t none value (few_asked test options count t b e is_so is can) in (
      ap is_some found ∙ sym asks,
      found ∙ ap (λ n. Some (options.iterations ^ n)) is
          ∙ sym (ap (λ b. asked b (options.iterations ^ length test.bodies)) asks),
    )

-- whole logs

of_logs : (test : LitmusTest) (n : ℕ) (logs : List Values) (cs : List Cond) → AreWholeFor test n logs
    → Each (IsOfTest test) cs → Each (IsOfLogs logs) cs
of_logs test n logs [] w h = tt
of_logs test n logs (c ∷ cs) w h =
    let e = w.count in
    let r = h.0.reader in
    let v = h.0.writer in
    let k = h.0.column in
    let l : c.reader < length logs = omega arith in
    let s = w.columns c.reader (record { columns = 0; values = []; spare = 0 }) l in (
      record { reader = l; writer = omega arith; column = omega arith },
      of_logs test n logs cs w h.1,
    )

pub conditions_name_logs : (checked : CheckedTest) (n : ℕ) (logs : List Values) (c : Conditions) → IsChecked checked
    → c ≡ record { conds = conds_of checked.test checked.kinds; ends = checked.test.ends }
    → AreWholeFor checked.test n logs → All (IsOfLogs logs) c.conds
conditions_name_logs checked n logs c is e w =
    subst (λ (c : Conditions). All (IsOfLogs logs) c.conds) (sym e)
    (All-from_recursion (IsOfLogs logs) (conds_of checked.test checked.kinds)
    (of_logs checked.test n logs (conds_of checked.test checked.kinds) w
    (recursion_from_All (IsOfTest checked.test) (conds_of checked.test checked.kinds)
    (conditions_name_the_test_lem checked.test checked.kinds is.test.holds_reads is.kinds))))

pub can_pick : (checked : CheckedTest) (n : ℕ) (logs : List Values) (c : Conditions) → IsChecked checked
    → c ≡ record { conds = conds_of checked.test checked.kinds; ends = checked.test.ends }
    → AreWholeFor checked.test n logs → n ≤ 100000 → CanPick c logs n
can_pick checked n logs c is e w few =
    let count = w.count in
    let some = is.test.some_threads in
    let most = is.test.few_threads in record {
      thread = omega arith;
      threads = omega arith;
      whole = w.whole;
      names = conditions_name_logs checked n logs c is e w;
    }

-- the logs of runs

pub hit_count_is : (checked : CheckedTest) (options : Options) (logs : List Values) (c : Conditions) (run : List Event)
    → IsChecked checked
    → c ≡ record { conds = conds_of checked.test checked.kinds; ends = checked.test.ends } → IsWithinLimits options
    → HasLogs checked.test options.iterations run logs
    → count_of (value_at logs) c.ends c.conds options.iterations (length checked.test.bodies)
    ≡ hit_count_of checked.test options run
unfolding hit_count_of
hit_count_is checked options logs c run is e within has =
    ap (λ (c : Conditions). count_of (value_at logs) c.ends c.conds options.iterations (length checked.test.bodies)) e
    ∙ counts_are_hits_lem checked.test options.iterations run logs checked.kinds is.test.holds_reads has.is_run
    within.low_iterations is.kinds has.are_logs
    ∙ ap (λ kinds. length (hits_of checked.test kinds options.iterations run))
    (sym (kinds_are checked.test checked.kinds is.kinds))

pub listed_hits_are : (checked : CheckedTest) (options : Options) (logs : List Values) (c : Conditions)
    (run : List Event) → IsChecked checked
    → c ≡ record { conds = conds_of checked.test checked.kinds; ends = checked.test.ends }
    → HasLogs checked.test options.iterations run logs
    → picked_hits_by (value_at logs) (length logs) options.iterations c.ends c.conds
    ≡ listed_hits_of checked.test options run
unfolding listed_hits_of
listed_hits_are checked options logs c run is e has =
    ap (λ (c : Conditions). picked_hits_by (value_at logs) (length logs) options.iterations c.ends c.conds) e
    ∙ ap (λ t. picked_hits_by (value_at logs) t options.iterations checked.test.ends
    (conds_of checked.test checked.kinds)) has.are_logs.count
    ∙ (listed_are_hits_of_runs_lem checked.test options.iterations run logs checked.kinds is.test.holds_reads has.is_run
    is.kinds has.are_logs).0
    ∙ ap (λ kinds. picked_hits checked.test options.iterations run kinds)
    (sym (kinds_are checked.test checked.kinds is.kinds))

pub asked_count : (checked : CheckedTest) (options : Options) (count : Count) (logs : List Values) (c : Conditions)
    (n t : ℕ) (b : Bool) → b ≡ asks_exhaustive count → b ≡ true
    → t ≡ length checked.test.bodies → IsChecked checked
    → c ≡ record { conds = conds_of checked.test checked.kinds; ends = checked.test.ends } → IsWithinLimits options
    → n ≡ count_of (value_at logs) c.ends c.conds options.iterations t
    → (run : List Event) → HasLogs checked.test options.iterations run logs
    → Some n ≡ asked (asks_exhaustive count) (hit_count_of checked.test options run)
asked_count checked options count logs c n t b e is_so threads is conds within counted run has =
    let asks : asks_exhaustive count ≡ true = sym e ∙ is_so in
    ap Some (counted ∙ ap (λ t. count_of (value_at logs) c.ends c.conds options.iterations t) threads
    ∙ hit_count_is checked options logs c run is conds within has)
    ∙ sym (ap (λ b. asked b (hit_count_of checked.test options run)) asks)

pub asked_hits : (checked : CheckedTest) (options : Options) (count : Count) (logs : List Values) (c : Conditions)
    (hits : List (List ℕ)) (b : Bool) → b ≡ asks_heuristic count → b ≡ true
    → IsChecked checked → c ≡ record { conds = conds_of checked.test checked.kinds; ends = checked.test.ends }
    → hits ≡ picked_hits_by (value_at logs) (length logs) options.iterations c.ends c.conds
    → (run : List Event) → HasLogs checked.test options.iterations run logs
    → Some hits ≡ asked (asks_heuristic count) (listed_hits_of checked.test options run)
asked_hits checked options count logs c hits b e is_so is conds listed run has =
    let asks : asks_heuristic count ≡ true = sym e ∙ is_so in
    ap Some (listed ∙ listed_hits_are checked options logs c run is conds has)
    ∙ sym (ap (λ b. asked b (listed_hits_of checked.test options run)) asks)
