-- The conditions of a test within frames are its conditions, narrowed.
use Rattle.std.proofs.Common.{◌≡◌, ℕ, List, [], ◌∷◌, map, refl, ap, ◌∙◌, subst, sym}
use Rattle.std.proofs.lemmas.List.Elements.{All-from_recursion, recursion_from_All}
use Rattle.std.proofs.lemmas.List.{length-map}
use Rattle.std.specs.List.{AllByRecursion as Each}
use Rattle.x86_subset.specs.Conjunctions.{AreEnds}
use Rattle.x86_subset.specs.Test.{LitmusTest}
use Rattle.load_log.specs.Values.{Values}
use Rattle.profile_check.specs.declared.kind.AtomKind.{AtomKind}
use Rattle.profile_check.specs.declared.kind.AtomKind.TheVariants.{Rf, Fr, Exact}
use Rattle.outcome_conv.specs.declared.cond.Cond.{Cond}
use Rattle.outcome_conv.specs.declared.cond.CondKind.{CondKind}
use Rattle.outcome_conv.specs.declared.cond.CondKind.TheVariants.{AtLeast, Below}
use Rattle.outcome_conv.specs.declared.cond.CondKind.TheVariants as cond_kind
use Rattle.outcome_conv.specs.Conditions.{AreConditions, Conditions, IsKind}
use Rattle.outcome_conv.specs.Conds.{cond_of, conds_of}
use Rattle.frame_count.specs.Count.{IsOfLogs}
use Rattle.frame_count.proofs.LogsOfRuns.{logs_meet_the_conditions_lem}
use Rattle.litmus_outcomes.specs.Within.{cond_within}
use Rattle.frames_within.specs.Counting.{conds_within, narrowed, narrowed_kind}
use Rattle.frames_within.specs.Laws.{LogsMeetTheConditionsWithin}

narrowed_is : (test : LitmusTest) (kind : AtomKind) → narrowed (cond_of test kind) ≡ cond_within test kind
narrowed_is test (Rf reader column writer place) = refl
narrowed_is test (Fr reader column writer) = refl
narrowed_is test (Exact reader column writer place) = refl

pub narrowed_are : (test : LitmusTest) (kinds : List AtomKind) → map narrowed (conds_of test kinds)
    ≡ conds_within test kinds
narrowed_are test [] = refl
narrowed_are test (kind ∷ kinds) =
    ap (λ c. c ∷ map narrowed (conds_of test kinds)) (narrowed_is test kind)
    ∙ ap (λ cs. cond_within test kind ∷ cs) (narrowed_are test kinds)

kind_narrowed : (kind : CondKind) → IsKind kind → IsKind (narrowed_kind kind)
kind_narrowed (AtLeast k a) h = h
kind_narrowed (Below k) h = h
kind_narrowed (cond_kind.Exact k a) h = h

kinds_narrowed : (conds : List Cond) → Each (λ c. IsKind c.kind) conds
    → Each (λ c. IsKind c.kind) (map narrowed conds)
kinds_narrowed [] h = tt
kinds_narrowed (c ∷ cs) h = (kind_narrowed c.kind h.0, kinds_narrowed cs h.1)

pub conditions_narrowed : (c : Conditions) (conds : List Cond) (ends : List ℕ) → AreConditions c
    → conds ≡ map narrowed c.conds → ends ≡ c.ends → AreConditions (record { conds = conds; ends = ends })
conditions_narrowed c conds ends h e f =
    rw (e, f) (record {
      kinds =
          All-from_recursion (λ x. IsKind x.kind) (map narrowed c.conds)
          (kinds_narrowed c.conds (recursion_from_All (λ x. IsKind x.kind) c.conds h.kinds));
      ends = subst (AreEnds c.ends) (sym (length-map c.conds narrowed)) h.ends;
    })

-- they name what the conditions name

one_named : (logs : List Values) (test : LitmusTest) (kind : AtomKind) → IsOfLogs logs (cond_of test kind)
    → IsOfLogs logs (cond_within test kind)
one_named logs test (Rf reader column writer place) h =
    record { reader = h.reader; writer = h.writer; column = h.column }
one_named logs test (Fr reader column writer) h = h
one_named logs test (Exact reader column writer place) h = h

all_named : (logs : List Values) (test : LitmusTest) (kinds : List AtomKind)
    → Each (IsOfLogs logs) (conds_of test kinds) → Each (IsOfLogs logs) (conds_within test kinds)
all_named logs test [] h = tt
all_named logs test (kind ∷ kinds) h = (one_named logs test kind h.0, all_named logs test kinds h.1)

pub logs_meet_the_conditions_within_lem : LogsMeetTheConditionsWithin
logs_meet_the_conditions_within_lem test n run logs kinds h r z a =
    All-from_recursion (IsOfLogs logs) (conds_within test kinds)
    (all_named logs test kinds (recursion_from_All (IsOfLogs logs) (conds_of test kinds)
    (logs_meet_the_conditions_lem test n run logs kinds h r z a).1))
