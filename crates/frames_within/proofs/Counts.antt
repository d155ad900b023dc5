-- The conditions within frames count them, and where they count one the condition is allowed.
use Rattle.std.proofs.Common.{◌≡◌, ℕ, ◌^◌, Bool, List, [], ◌∷◌, length, map, filter, refl, sym, ap, ◌∙◌}
use Rattle.std.proofs.lemmas.List.Sums.{length-filter}
use Rattle.std.proofs.lemmas.List.{length-map}
use Rattle.std.specs.List.{AllByRecursion as Each, AllZip, range_with_len}
use Rattle.x86_subset.specs.Test.{LitmusTest}
use Rattle.x86_subset.proofs.Conjoined.{some_same}
use Rattle.tso_machine.specs.Event.{Event}
use Rattle.tso_machine.specs.Frame.{frame_of}
use Rattle.tso_machine.specs.Run.{IsRunOf}
use Rattle.perp_base.proofs.Lists.{each_from_among, filter_same, map_filter}
use Rattle.profile_check.specs.declared.kind.AtomKind.{AtomKind}
use Rattle.profile_check.proofs.KindLemmas.{Tells}
use Rattle.outcome_conv.specs.Conds.{cond_holds, conds_hold, count_of, logged_in}
use Rattle.outcome_conv.specs.Hits.{IsFrame}
use Rattle.outcome_conv.proofs.Agree.{frame_is}
use Rattle.outcome_conv.proofs.Counts.{each_tells}
use Rattle.frame_count.proofs.LogsOfRuns.{logs_give_the_values_lem}
use Rattle.litmus_outcomes.specs.Within.{holds_within}
use Rattle.litmus_outcomes.proofs.Counted.{agrees_within}
use Rattle.litmus_outcomes.proofs.Framing.{frames_within_are_outcomes_lem}
use Rattle.litmus_outcomes.proofs.Possible.{hit_by}
use Rattle.frames_within.specs.Counting.{conds_within, hits_within, is_hit_within}
use Rattle.frames_within.specs.Laws.{CountsAreWithin, WithinIsAllowed}

all_agree : (test : LitmusTest) (n : ℕ) (run : List Event) (frame : List ℕ) (kinds : List AtomKind) → IsRunOf test n run
    → IsFrame test n frame → Each (Tells test) kinds
    → AllZip (λ c kind. cond_holds (logged_in test run) frame c ≡ holds_within test run frame kind)
    (conds_within test kinds) kinds
all_agree test n run frame [] r f h = tt
all_agree test n run frame (kind ∷ kinds) r f h =
    (agrees_within test n run frame kind r f h.0, all_agree test n run frame kinds r f h.1)

-- at a frame the conditions hold exactly where the condition holds within it
hit_agrees : (test : LitmusTest) (n : ℕ) (run : List Event) (frame : List ℕ) (kinds : List AtomKind)
    → IsRunOf test n run → IsFrame test n frame → Each (Tells test) kinds
    → conds_hold (logged_in test run) test.ends (conds_within test kinds) frame ≡ is_hit_within test kinds run frame
hit_agrees test n run frame kinds r f h =
    some_same (cond_holds (logged_in test run) frame) (holds_within test run frame) test.ends (conds_within test kinds)
    kinds (all_agree test n run frame kinds r f h)

-- as many frames pass as numbers of frames
as_many : {X : Type 0} (q : X → Bool) (f : ℕ → X) (xs : List ℕ)
    → length (filter (λ x. q (f x)) xs) ≡ length (filter q (map f xs))
as_many q f xs =
    sym (length-map (filter (λ x. q (f x)) xs) f) ∙ ap length (map_filter (λ y. y) q f xs)
    ∙ length-map (filter q (map f xs)) (λ y. y)

pub counts_are_within_lem : CountsAreWithin
counts_are_within_lem test n run logs kinds h r one z a =
    let t = length test.bodies in
    let numbers = range_with_len 0 (n ^ t) in
    let p : ℕ → Bool = λ number. conds_hold (logged_in test run) test.ends (conds_within test kinds)
    (frame_of n t number) in
    let q : ℕ → Bool = λ number. is_hit_within test kinds run (frame_of n t number) in
    ap (λ values. count_of values test.ends (conds_within test kinds) n t) (logs_give_the_values_lem test n run logs r a)
    ∙ sym (length-filter p numbers)
    ∙ ap length (filter_same p q numbers (each_from_among (λ number. p number ≡ q number) numbers
    (λ number _. hit_agrees test n run (frame_of n t number) kinds r (frame_is test n number one)
    (each_tells test kinds h z))))
    ∙ as_many (is_hit_within test kinds run) (frame_of n t) numbers

pub within_is_allowed_lem : WithinIsAllowed
within_is_allowed_lem checked n run h r some =
    let k = hit_by checked n (holds_within checked.test run) (hits_within checked.test checked.kinds n run) h refl
    some in
    (k.conjunction, k.there, frames_within_are_outcomes_lem checked n k.conjunction run k.frame h r k.is_frame k.holds)
