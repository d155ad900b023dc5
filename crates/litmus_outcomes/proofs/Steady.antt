-- Steady atoms hold within each frame at which they hold, and the atoms of an ordered conjunction are steady.
use Rattle.std.proofs.Common.{◌≡◌, ℕ, ◌==◌, true, ◌&&◌, ◌||◌, Option, None, Some, List, nat_le, nat_lt, refl, sym, ap, ◌∙◌, arith, subst, inl, inr, ◌⊎◌, eq-eqb, le-leb}
use Rattle.std.proofs.lemmas.Bool.{and_from, and_parts, both_ways, eqb-true}
use Rattle.std.specs.List.{list_all}
use Rattle.x86_subset.specs.Test.{LitmusTest}
use Rattle.tso_machine.specs.Event.{Event}
use Rattle.tso_machine.specs.Run.{IsRunOf}
use Rattle.seq_conv.specs.Sequence.{in_iteration, stores_of}
use Rattle.seq_conv.specs.declared.site.Origin.{Origin}
use Rattle.seq_conv.specs.declared.site.Site.{Site}
use Rattle.perp_base.proofs.Lists.{Among, each_among, each_from_among}
use Rattle.profile_check.specs.declared.kind.AtomKind.{AtomKind}
use Rattle.profile_check.specs.declared.kind.AtomKind.TheVariants.{Rf, Fr, Exact}
use Rattle.profile_check.proofs.KindLemmas.{Tells, TellsRf, kind_tells, named_by}
use Rattle.outcome_conv.specs.Hits.{IsFrame, hits_of}
use Rattle.outcome_conv.specs.Holds.{holds_in, is_at_least, iteration_in, location_read, reading_site, source_at}
use Rattle.outcome_conv.proofs.Agree.{location_is, same_answer, site_is, thread_below}
use Rattle.verdict.specs.Edges.{kinds_in}
use Rattle.verdict.proofs.Forward.{each_all, kinds_tell}
use Rattle.verdict.proofs.InOrder.{early_at}
use Rattle.verdict.proofs.Taken.{at_least}
use Rattle.decision.specs.Decisions.{NeverHolds}
use Rattle.decision.specs.Shown.{is_ordered, is_own_outside}
use Rattle.decision.proofs.Finish.{all_from}
use Rattle.decision.proofs.HiddenReads.{own_read}
use Rattle.decision.proofs.OwnReads.{own_order}
use Rattle.litmus_outcomes.specs.Laws.{OrderedIsSteady, SeenIsAllowed, SteadyHitsAreOutcomes, SteadyHoldsWithin}
use Rattle.litmus_outcomes.specs.Outcome.{IsPossible}
use Rattle.litmus_outcomes.specs.Within.{IsSteady, holds_within, is_exactly, is_steady}
use Rattle.litmus_outcomes.proofs.Framing.{frames_within_are_outcomes_lem}
use Rattle.litmus_outcomes.proofs.Possible.{HitAt, hit_at}

-- the source is the store in iteration m
exactly_at : (s : Site) (m : ℕ) → is_exactly s m (Some (in_iteration s m)) ≡ true
exactly_at s m =
    and_from ((s.thread == s.thread) && (s.place == s.place)) (m == m)
    (and_from (s.thread == s.thread) (s.place == s.place) (eq-eqb s.thread s.thread refl)
    (eq-eqb s.place s.place refl)) (eq-eqb m m refl)

exactly_least : (s : Site) (m : ℕ) (source : Option Origin) → is_exactly s m source ≡ true
    → is_at_least s m source ≡ true
exactly_least s m None h = cc
exactly_least s m (Some o) h =
    let p = and_parts ((o.thread == s.thread) && (o.place == s.place)) (o.iteration == m) h in
    let e : o.iteration ≡ m = eqb-true o.iteration m p.1 in
    and_from ((o.thread == s.thread) && (o.place == s.place)) (nat_le m o.iteration) p.0
    (le-leb m o.iteration (omega arith))

-- what a thread reads of its own store in its iteration or a later one, it reads of it in its iteration
own_exactly : (test : LitmusTest) (n : ℕ) (run : List Event) (frame : List ℕ) (t column p : ℕ) → IsRunOf test n run
    → IsFrame test n frame → TellsRf test t column (record { thread = t; place = p })
    → holds_in test run frame (Rf t column t p) ≡ holds_within test run frame (Rf t column t p)
own_exactly test n run frame t column p r f tells =
    let q = tells.place in
    let i = iteration_in frame t in
    let s : Site = record { thread = t; place = p } in
    let source = source_at test (reading_site test t column) i run in
    let site = site_is test t column q tells.action tells.reader in
    let stands = tells.reader.stands in
    same_answer (is_at_least s i source) (is_exactly s i source)
    (λ h.
    let k = at_least s i source h in
    let read =
    own_read test n run t q p i k.iteration tells.action r (thread_below test t q tells.action stands)
    (early_at test n frame (record { thread = t; place = q }) tells.action f stands) stands tells.reader.reading
    (ap (λ z. source_at test z i run) (sym site) ∙ k.is) in
    let same : i ≡ k.iteration = (own_order test n t (named_by tells.action) p q i k.iteration read k.late).0 in
    ap (is_exactly s i) (k.is ∙ ap (λ z. Some (in_iteration s z)) (sym same)) ∙ exactly_at s i)
    (exactly_least s i source)

pub steady_agrees : (test : LitmusTest) (n : ℕ) (run : List Event) (frame : List ℕ) (kind : AtomKind) → IsRunOf test n run
    → IsFrame test n frame → Tells test kind → is_steady kind ≡ true
    → holds_in test run frame kind ≡ holds_within test run frame kind
steady_agrees test n run frame (Rf t column writer place) r f tells h =
    let same : writer ≡ t = eqb-true writer t h in
    let P : ℕ → Type 0 = λ u. TellsRf test t column (record { thread = u; place = place }) in
    let Q : ℕ → Type 0 = λ u. holds_in test run frame (Rf t column u place)
    ≡ holds_within test run frame (Rf t column u place) in
    subst Q (sym same) (own_exactly test n run frame t column place r f (subst P same tells))
steady_agrees test n run frame (Fr t column writer) r f tells h = refl
steady_agrees test n run frame (Exact t column writer place) r f tells h = refl

pub steady_holds_within_lem : SteadyHoldsWithin
steady_holds_within_lem test n run frame atom kind h r f e k =
    steady_agrees test n run frame kind r f (kind_tells test atom kind h e) k

-- ordered conjunctions

ordered_steady : (test : LitmusTest) (kind : AtomKind) → Tells test kind → is_ordered test kind ≡ true
    → is_steady kind ≡ true
ordered_steady test (Rf t column writer place) tells h =
    let x = location_read test t column in
    let q = (reading_site test t column).place in
    let s : Site = record { thread = writer; place = place } in
    let loc : x ≡ named_by tells.action = location_is test t column tells.place tells.action tells.reader in
    let P : ℕ → Type 0 = λ z. Among s (stores_of test z) in
    let all = (and_parts (nat_lt place q) (list_all (is_own_outside t place q) (stores_of test x)) h).1 in
    let own = each_among (λ (z : Site). is_own_outside t place q z ≡ true) s (stores_of test x)
    (subst P (sym loc) tells.stands) (each_all (is_own_outside t place q) (stores_of test x) all) in
    (and_parts (writer == t) (nat_le place place || nat_le q place) own).0
ordered_steady test (Fr t column writer) tells h = refl
ordered_steady test (Exact t column writer place) tells h = refl

pub ordered_is_steady_lem : OrderedIsSteady
ordered_is_steady_lem checked c h o =
    let test = checked.test in
    let kinds = kinds_in checked c in
    let tells = kinds_tell checked c h in
    all_from is_steady kinds (each_from_among (λ kind. is_steady kind ≡ true) kinds
    (λ kind a. ordered_steady test kind (each_among (Tells test) kind kinds a tells)
    (each_among (λ k. is_ordered test k ≡ true) kind kinds a (each_all (is_ordered test) kinds o))))

-- what is seen

pub steady_hits_are_outcomes_lem : SteadyHitsAreOutcomes
steady_hits_are_outcomes_lem checked n c run frame h steady r f holds =
    let test = checked.test in
    let kinds = kinds_in checked c in
    let tells = kinds_tell checked c h in
    frames_within_are_outcomes_lem checked n c run frame h r f
    (all_from (holds_within test run frame) kinds
    (each_from_among (λ kind. holds_within test run frame kind ≡ true) kinds
    (λ kind a. sym (steady_agrees test n run frame kind r f (each_among (Tells test) kind kinds a tells)
    (each_among (λ k. is_steady k ≡ true) kind kinds a (each_all is_steady kinds steady)))
    ∙ each_among (λ k. holds_in test run frame k ≡ true) kind kinds a
    (each_all (holds_in test run frame) kinds holds))))

pub seen_is_allowed_lem : SeenIsAllowed
seen_is_allowed_lem checked n run h d r some =
    let k = hit_at checked n run (hits_of checked.test checked.kinds n run) h refl some in
    (k.conjunction, k.there, go k (d k.conjunction k.there))
  where
    go : (k : HitAt checked n run) → IsSteady checked k.conjunction ⊎ NeverHolds checked k.conjunction
        → IsPossible checked.test k.conjunction
    go k (inl steady) = steady_hits_are_outcomes_lem checked n k.conjunction run k.frame h steady r k.is_frame k.holds
    go k (inr never) =
        absurd (both_ways (list_all (holds_in checked.test run k.frame) (kinds_in checked k.conjunction))
        (never n run k.frame r k.is_frame) k.holds)
