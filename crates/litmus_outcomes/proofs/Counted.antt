-- Whether an atom holds within a frame is told by the logged value; so it holds in longer runs too, and each outcome of
-- the test is had within a frame of them.
use Rattle.std.proofs.Common.{◌≡◌, ℕ, zero, suc, ◌<◌, ◌≤◌, ◌==◌, true, ◌&&◌, Option, None, Some, List, ◌++◌, length, nat_le, refl, sym, ap, ◌∙◌, arith, subst, eq-eqb}
use Rattle.std.proofs.lemmas.Bool.{and_from, and_parts, eqb-true, true≢false}
use Rattle.std.specs.List.{list_all}
use Rattle.x86_subset.specs.Test.{LitmusTest}
use Rattle.x86_subset.specs.declared.instr.Instr.{Instr}
use Rattle.tso_machine.specs.Event.{Event}
use Rattle.tso_machine.specs.Laws.{NamesSource}
use Rattle.tso_machine.specs.Run.{IsRunOf}
use Rattle.seq_conv.specs.Sequence.{rank_of, store_of, stores_of, value_of}
use Rattle.seq_conv.specs.declared.site.Origin.{Origin}
use Rattle.seq_conv.specs.declared.site.Site.{Site}
use Rattle.seq_conv.proofs.Stores.{rank_within}
use Rattle.perp_base.proofs.Lists.{Among, among_from_contains, each_among, each_from_among}
use Rattle.profile_check.specs.Profile.{CheckedTest, IsChecked}
use Rattle.profile_check.specs.declared.kind.AtomKind.{AtomKind}
use Rattle.profile_check.specs.declared.kind.AtomKind.TheVariants.{Rf, Fr, Exact}
use Rattle.profile_check.proofs.KindLemmas.{IsReader, Tells, kind_tells, named_by}
use Rattle.outcome_conv.specs.Conds.{cond_holds, kind_holds, logged_in}
use Rattle.outcome_conv.specs.Hits.{IsFrame}
use Rattle.outcome_conv.specs.Holds.{holds_in, is_at_least, iteration_in, location_read, reading_site, source_at}
use Rattle.outcome_conv.proofs.Agree.{agrees_by, frame_below, location_is, logged_names, same_answer, thread_below}
use Rattle.verdict.specs.Edges.{kinds_in}
use Rattle.verdict.proofs.Forward.{each_all, kinds_tell}
use Rattle.decision.specs.Shown.{zeros}
use Rattle.decision.proofs.Deciding.{zeros_frame}
use Rattle.decision.proofs.Finish.{all_from, zero_at}
use Rattle.decision.proofs.Longer.{frame_zeros, longer_of, same_logged}
use Rattle.litmus_outcomes.specs.Laws.{ConditionsAgreeWithin, OutcomesAreFramesWithin}
use Rattle.litmus_outcomes.specs.Within.{cond_within, holds_within, is_exactly}
use Rattle.litmus_outcomes.proofs.Framed.{value_names}
use Rattle.litmus_outcomes.proofs.Framing.{exactly_is, frames_within_are_outcomes_lem}
use Rattle.litmus_outcomes.proofs.Possible.{once_is_the_test_lem}

-- the value is that of the store in iteration m exactly if it comes from there
value_tells : (test : LitmusTest) (n x v m : ℕ) (s : Site) (source : Option Origin) → NamesSource test n x v source
    → Among s (stores_of test x) → (v == value_of test x s m) ≡ is_exactly s m source
value_tells test n x v m s source h a =
    same_answer (v == value_of test x s m) (is_exactly s m source)
    (λ k. go source h (eqb-true v (value_of test x s m) k))
    (λ k. eq-eqb v (value_of test x s m) (exactly_is test n x v m s source h k))
  where
    go : (o : Option Origin) → NamesSource test n x v o → v ≡ value_of test x s m → is_exactly s m o ≡ true
    go None h e =
        let z : v ≡ 0 = h.initial.1 refl in
        let p : 1 ≤ rank_of test x s = (rank_within test x s a).positive in
        absurd (omega arith)
    go (Some o) h e =
        let b = among_from_contains (stores_of test x) (store_of o) h.store.0 in
        let k = value_names test x (store_of o) s o.iteration m b a (sym h.value ∙ e) in
        and_from ((o.thread == s.thread) && (o.place == s.place)) (o.iteration == m)
        (and_from (o.thread == s.thread) (o.place == s.place)
        (eq-eqb o.thread s.thread (ap (λ (z : Site). z.thread) k.0))
        (eq-eqb o.place s.place (ap (λ (z : Site). z.place) k.0)))
        (eq-eqb o.iteration m k.1)

pub agrees_within : (test : LitmusTest) (n : ℕ) (run : List Event) (frame : List ℕ) (kind : AtomKind) → IsRunOf test n run
    → IsFrame test n frame → Tells test kind
    → cond_holds (logged_in test run) frame (cond_within test kind) ≡ holds_within test run frame kind
agrees_within test n run frame (Rf t column writer place) r f tells =
    let l = thread_below test t tells.place tells.action tells.reader.stands in
    let i = iteration_in frame t in
    let s : Site = record { thread = writer; place = place } in
    let x = location_read test t column in
    let early : i < n = frame_below n frame t (let e = f.one_each in let k : t < length frame = omega arith in k)
    f.below in
    let loc : x ≡ named_by tells.action = location_is test t column tells.place tells.action tells.reader in
    let P : ℕ → Type 0 = λ z. Among s (stores_of test z) in
    value_tells test n x (logged_in test run t column i) (iteration_in frame writer) s
    (source_at test (reading_site test t column) i run)
    (logged_names test n run t column tells.place i tells.action r early l tells.reader)
    (subst P (sym loc) tells.stands)
agrees_within test n run frame (Fr t column writer) r f tells =
    agrees_by test n run frame (Fr t column writer) r f tells
agrees_within test n run frame (Exact t column writer place) r f tells =
    agrees_by test n run frame (Exact t column writer place) r f tells

pub conditions_agree_within_lem : ConditionsAgreeWithin
conditions_agree_within_lem test n run frame atom kind h r f e =
    agrees_within test n run frame kind r f (kind_tells test atom kind h e)

-- ---- longer runs

same_by : (test : LitmusTest) (run more : List Event) (kind : AtomKind) (t column place : ℕ) (action : Instr)
    → IsRunOf test 1 run → IsReader test t column place action → (cond_within test kind).reader ≡ t
    → (cond_within test kind).column ≡ column
    → cond_holds (logged_in test (run ++ more)) (zeros test) (cond_within test kind)
    ≡ cond_holds (logged_in test run) (zeros test) (cond_within test kind)
same_by test run more kind t column place action h r e f =
    let c = cond_within test kind in
    let i = zero_at (length test.bodies) c.reader in
    let v : logged_in test (run ++ more) c.reader c.column (iteration_in (zeros test) c.reader)
    ≡ logged_in test run c.reader c.column (iteration_in (zeros test) c.reader) =
    (λ j. logged_in test (run ++ more) (e j) (f j) (i j)) ∙ same_logged test run more t column place action h r
    ∙ (λ j. logged_in test run (sym e j) (sym f j) (sym i j)) in
    ap (λ z. kind_holds c.kind z (iteration_in (zeros test) c.writer)) v

same_within : (test : LitmusTest) (run more : List Event) (kind : AtomKind) → IsRunOf test 1 run → Tells test kind
    → cond_holds (logged_in test (run ++ more)) (zeros test) (cond_within test kind)
    ≡ cond_holds (logged_in test run) (zeros test) (cond_within test kind)
same_within test run more (Rf t column writer place) h tells =
    same_by test run more (Rf t column writer place) t column tells.place tells.action h tells.reader refl refl
same_within test run more (Fr t column writer) h tells =
    same_by test run more (Fr t column writer) t column tells.place tells.action h tells.reader refl refl
same_within test run more (Exact t column writer place) h tells =
    same_by test run more (Exact t column writer place) t column tells.place tells.action h tells.reader refl refl

-- in one iteration there is no later one

first_only : (test : LitmusTest) (x v m : ℕ) (s : Site) (source : Option Origin) → NamesSource test 1 x v source
    → m ≡ 0 → is_at_least s m source ≡ true → is_exactly s m source ≡ true
first_only test x v m s None h e k = absurd (true≢false (sym k))
first_only test x v m s (Some o) h e k =
    let p = and_parts ((o.thread == s.thread) && (o.place == s.place)) (nat_le m o.iteration) k in
    let l : o.iteration < 1 = h.store.1 in
    and_from ((o.thread == s.thread) && (o.place == s.place)) (o.iteration == m) p.0
    (eq-eqb o.iteration m (omega arith))

pub within_once : (test : LitmusTest) (run : List Event) (kind : AtomKind) → IsRunOf test 1 run → Tells test kind
    → holds_in test run (zeros test) kind ≡ true → holds_within test run (zeros test) kind ≡ true
within_once test run (Rf t column writer place) r tells h =
    let l = thread_below test t tells.place tells.action tells.reader.stands in
    let i = iteration_in (zeros test) t in
    let at : i ≡ 0 = zero_at (length test.bodies) t in
    let early : i < 1 = omega arith in
    first_only test (location_read test t column) (logged_in test run t column i) (iteration_in (zeros test) writer)
    (record { thread = writer; place = place }) (source_at test (reading_site test t column) i run)
    (logged_names test 1 run t column tells.place i tells.action r early l tells.reader)
    (zero_at (length test.bodies) writer) h
within_once test run (Fr t column writer) r tells h = h
within_once test run (Exact t column writer place) r tells h = h

longer_within : (checked : CheckedTest) (c m : ℕ) (run more : List Event) → IsChecked checked
    → IsRunOf checked.test 1 run
    → list_all (holds_in checked.test run (zeros checked.test)) (kinds_in checked c) ≡ true
    → IsRunOf checked.test (suc m) (run ++ more)
    → list_all (holds_within checked.test (run ++ more) (zeros checked.test)) (kinds_in checked c) ≡ true
longer_within checked c m run more h r holds is =
    let test = checked.test in
    let kinds = kinds_in checked c in
    let tells = kinds_tell checked c h in
    let P : AtomKind → Type 0 = λ kind. holds_in test run (zeros test) kind ≡ true in
    let Q : AtomKind → Type 0 = λ kind. holds_within test (run ++ more) (zeros test) kind ≡ true in
    let old = each_all (holds_in test run (zeros test)) kinds holds in
    all_from (holds_within test (run ++ more) (zeros test)) kinds
    (each_from_among Q kinds (λ kind am.
    let k = each_among (Tells test) kind kinds am tells in
    sym (agrees_within test (suc m) (run ++ more) (zeros test) kind is (frame_zeros test (suc m) (omega arith)) k)
    ∙ same_within test run more kind r k ∙ agrees_within test 1 run (zeros test) kind r (zeros_frame test) k
    ∙ within_once test run kind r k (each_among P kind kinds am old)))

pub outcomes_are_frames_within_lem : OutcomesAreFramesWithin
outcomes_are_frames_within_lem checked zero c h l = absurd (omega arith)
outcomes_are_frames_within_lem checked (suc m) c h l = (
  λ p.
      let s = (once_is_the_test_lem checked c h).1 p in
      let g = longer_of checked.test m s.0 s.1.0 in (
        s.0 ++ g.events,
        zeros checked.test,
        g.is_run,
        frame_zeros checked.test (suc m) l,
        longer_within checked c m s.0 g.events h s.1.0 s.1.1 g.is_run,
      ),
  λ k. frames_within_are_outcomes_lem checked (suc m) c k.0 k.1 h k.2 k.3 k.4,
)
