-- The numbers of a run of a test have their widths.
use Rattle.std.proofs.Common.{◌≡◌, ℕ, zero, suc, ◌+◌, ◌*◌, ◌^◌, ◌<◌, ◌≤◌, ◌&&◌, Bool, true, false, cond, not, Option, None, Some, List, [], ◌∷◌, ◌++◌, All, drop, get_or, length, map, nat_lt, slice_get, take, refl, sym, ap, ◌∙◌, arith, drop-cons, length-append, take-append-drop, mul-le-mul}
use Rattle.std.proofs.Math.ListN.{get_or-map}
use Rattle.std.proofs.lemmas.Bool.{and_parts, ltb-false, ltb-true, or_parts}
use Rattle.std.proofs.lemmas.List.{length-map}
use Rattle.std.proofs.lemmas.List.Elements.{All-cons, All-nil}
use Rattle.std.specs.List.{list_any}
use Rattle.std.specs.Option.{option_map_or}
use Rattle.x86_subset.specs.Instr.{is_store_to}
use Rattle.x86_subset.specs.Shape.{is_long, limit_of}
use Rattle.x86_subset.specs.Test.{Code, LitmusTest, body_of}
use Rattle.x86_subset.specs.declared.instr.Instr.{Instr}
use Rattle.x86_subset.specs.declared.test.Shape.{Shape}
use Rattle.x86_subset.specs.declared.test.Shape.TheVariants.{Threads, Locations, Instrs}
use Rattle.tso_machine.specs.Event.{Event, event_location}
use Rattle.tso_machine.specs.Log.{value_read, value_read_as}
use Rattle.tso_machine.specs.Run.{IsRunOf}
use Rattle.seq_conv.specs.Sequence.{Site, store_count, stores_in_body, stores_in_bodies}
use Rattle.tso_machine.specs.Source.{source_of}
use Rattle.tso_machine.proofs.Sources.{values_name_their_source_lem}
use Rattle.run_judge.specs.Judgement.{event_of, fault_of, is_named, judgement_after, judgement_by, kind_of_run}
use Rattle.run_judge.specs.declared.event.RunEvent.{RunEvent}
use Rattle.run_judge.specs.declared.event.RunKind.{RunKind}
use Rattle.run_judge.specs.declared.event.RunKind.TheVariants as run
use Rattle.run_judge.specs.declared.judgement.JudgeFault.{JudgeFault}
use Rattle.run_judge.specs.declared.judgement.JudgeFault.TheVariants.{Names}
use Rattle.run_judge.specs.declared.judgement.Judgement.{Judgement}
use Rattle.run_judge.specs.declared.judgement.Judgement.TheVariants.{Legal}
use Rattle.run_judge.proofs.Judged.{legal_is_run_lem}
use Rattle.run_text.specs.Laws.{HasWidth, IsOfWidth}
use Rattle.skew.proofs.Agreeing.{bounded}

-- ---- a test within its limits

pub record IsFew (test : LitmusTest) : Type 0 where
  threads : length test.bodies ≤ 8
  short : list_any is_long test.bodies ≡ false

two_limits : (a b c : Bool) (more : Option Shape)
    → cond a (Some Threads) (cond b (Some Locations) (cond c (Some Instrs) more)) ≡ None → (a ≡ false) × (c ≡ false)
two_limits true b c more h = cc
two_limits false true c more h = cc
two_limits false false true more h = cc
two_limits false false false more h = (refl, refl)

pub few_within : (test : LitmusTest) → limit_of test ≡ None → IsFew test
unfolding limit_of
few_within test h =
    let l =
    two_limits (nat_lt 8 (length test.bodies)) (nat_lt 16 (length test.locations)) (list_any is_long test.bodies) _ h in
    record { threads = ltb-false 8 (length test.bodies) l.0; short = l.1 }

body_few : (codes : List Code) (t : ℕ) → list_any is_long codes ≡ false
    → length (option_map_or (λ (code : Code). code.actions) (slice_get codes t) []) ≤ 16
body_few [] t h = omega arith
body_few (code ∷ codes) zero h =
    ltb-false 16 (length code.actions) (or_parts (is_long code) (list_any is_long codes) h).0
body_few (code ∷ codes) (suc t) h = body_few codes t (or_parts (is_long code) (list_any is_long codes) h).1

one_more : (s : Site) (ss : List Site) (b : Bool) (n : ℕ) → length ss ≤ n → length (cond b (s ∷ ss) ss) ≤ suc n
one_more s ss true n h = omega arith
one_more s ss false n h = omega arith

stores_few : (x t p : ℕ) (body : List Instr) → length (stores_in_body x t p body) ≤ length body
stores_few x t p [] = omega arith
stores_few x t p (a ∷ body) =
    one_more (record { thread = t; place = p }) (stores_in_body x t (p + 1) body) (is_store_to x a) (length body)
    (stores_few x t (p + 1) body)

all_stores_few : (x t : ℕ) (codes : List Code) → list_any is_long codes ≡ false
    → length (stores_in_bodies x t codes) ≤ 16 * length codes
all_stores_few x t [] h = omega arith
all_stores_few x t (code ∷ codes) h =
    let here = body_few (code ∷ codes) 0 h in
    let first = stores_few x t 0 code.actions in
    let rest = all_stores_few x (t + 1) codes (or_parts (is_long code) (list_any is_long codes) h).1 in
    rw length-append (omega arith)

-- ---- the names of the events

legal_parts : (fault : Option JudgeFault) (count : ℕ) (later : Judgement) → judgement_by fault count later ≡ Legal
    → (fault ≡ None) × (later ≡ Legal)
legal_parts None count later h = (refl, h)
legal_parts (Some fault) count later h = cc

named_here : (named : Bool) (more : Option JudgeFault) → cond (not named) (Some Names) more ≡ None → named ≡ true
named_here true more h = refl
named_here false more h = cc

all_named : (test : LitmusTest) (n : ℕ) (before es : List Event) → judgement_after test n before es ≡ Legal
    → All (λ e. is_named test n e ≡ true) es
all_named test n before [] h = All-nil (λ e. is_named test n e ≡ true)
all_named test n before (e ∷ es) h =
    let p = legal_parts (fault_of test n before e) (length before) (judgement_after test n (before ++ e ∷ []) es) h in
    All-cons (λ d. is_named test n d ≡ true) e es (named_here (is_named test n e) _ p.0)
    (all_named test n (before ++ e ∷ []) es p.1)

run_named : (test : LitmusTest) (n : ℕ) (run : List Event) → IsRunOf test n run
    → All (λ e. is_named test n e ≡ true) run
run_named test n run r = all_named test n [] run ((legal_is_run_lem test n run).1 r)

-- ---- the values

value_few : (test : LitmusTest) (n : ℕ) (run : List Event) (k : ℕ) (d : Event) (v : ℕ) → IsRunOf test n run
    → k < length run → value_read (get_or run k d) ≡ Some v
    → v ≤ store_count test (event_location test (get_or run k d)) * n
value_few test n run k d v r lt h =
    let e = get_or run k d in
    let split : run ≡ take k run ++ e ∷ drop (suc k) run =
    sym (take-append-drop k run) ∙ ap (λ es. take k run ++ es) (drop-cons run k d lt) in
    bounded test n (event_location test e) v (source_of test e (take k run))
    (values_name_their_source_lem test n run (take k run) (drop (suc k) run) e v r split h)

value_width : (test : LitmusTest) (n : ℕ) (run : List Event) (k : ℕ) (d : Event) (v : ℕ) → IsFew test → n ≤ 100000
    → IsRunOf test n run → k < length run
    → value_read (get_or run k d) ≡ Some v → v < 2 ^ 64
value_width test n run k d v few small r lt h =
    let x = event_location test (get_or run k d) in
    let most = value_few test n run k d v r lt h in
    let stores = all_stores_few x 0 test.bodies few.short in
    let threads = few.threads in
    let count : store_count test x ≤ 128 = omega arith in
    let all : store_count test x * n ≤ 128 * 100000 = mul-le-mul count small in
    omega arith

kind_width : (k : RunKind) → ((v : ℕ) → value_read_as (kind_of_run k) ≡ Some v → v < 2 ^ 64) → HasWidth k
kind_width run.Push h = tt
kind_width run.Drain h = tt
kind_width run.Fence h = tt
kind_width (run.Read v) h = h v refl
kind_width (run.Exchange v) h = h v refl

-- ---- all of them

event_width : (test : LitmusTest) (n : ℕ) (e : RunEvent) → IsFew test → n ≤ 100000
    → is_named test n (event_of e) ≡ true → HasWidth e.kind → IsOfWidth e
event_width test n e few small named value =
    let in_thread = nat_lt e.thread (length test.bodies) in
    let in_loop = nat_lt e.iteration n in
    let p = and_parts (in_thread && in_loop) (nat_lt e.place (length (body_of test e.thread))) named in
    let q = and_parts in_thread in_loop p.0 in
    let thread = ltb-true e.thread (length test.bodies) q.0 in
    let iteration = ltb-true e.iteration n q.1 in
    let place = ltb-true e.place (length (body_of test e.thread)) p.1 in
    let body = body_few test.bodies e.thread few.short in
    let threads = few.threads in
    record { thread = omega arith; iteration = omega arith; place = omega arith; value = value }

pub run_widths : (test : LitmusTest) (n : ℕ) (events : List RunEvent) → limit_of test ≡ None → n ≤ 100000
    → IsRunOf test n (map event_of events) → All IsOfWidth events
run_widths test n events limits small r = λ k d lt.
    let all = map event_of events in
    let few = few_within test limits in
    let e = get_or events k d in
    let within : k < length all = omega (arith, length-map events event_of) in
    let here : get_or all k (event_of d) ≡ event_of e = get_or-map event_of events k d in
    let named : is_named test n (event_of e) ≡ true =
    sym (ap (is_named test n) here) ∙ run_named test n all r k (event_of d) within in
    let value : HasWidth e.kind =
    kind_width e.kind (λ v h. value_width test n all k (event_of d) v few small r within (ap value_read here ∙ h)) in
    event_width test n e few small named value
