-- The values of the text behind those that a run of one iteration writes.
use Rattle.std.proofs.Common.{◌≡◌, ℕ, zero, suc, ◌+◌, ◌*◌, ◌<◌, ◌==◌, Bool, true, false, cond, Option, None, Some, List, [], ◌∷◌, ◌++◌, length, map, slice_get, refl, ap, ◌∙◌, arith, unwrap_or, option_and_then, option_map}
use Rattle.std.proofs.lemmas.Bool.{eqb-true}
use Rattle.std.specs.Option.{option_or, option_map_or}
use Rattle.x86_subset.specs.Test.{LitmusTest}
use Rattle.tso_machine.specs.Event.{Event, event_location, site_of, written_value}
use Rattle.tso_machine.specs.Machine.{Write, newest as newest_write}
use Rattle.seq_conv.specs.Sequence.{Site, action_at, rank_of, store_count, stores_of}
use Rattle.perp_base.proofs.Lists.{Among}
use Rattle.seq_conv.proofs.Stores.{rank_at, store_at}
use Rattle.tso_machine.proofs.Parts.{IsStoring}
use Rattle.profile_check.specs.Kinds.{written_of}
use Rattle.litmus_outcomes.specs.Machine.{Waiting, newest}

-- the value of the store at a site, as it stands in the text
abbrev pub literal : LitmusTest → Site → ℕ
literal test s = unwrap_or (option_and_then written_of (action_at test s)) 0

-- the value of the text behind one that a run of one iteration has at x: that of the store of this rank; 0 is 0
abbrev pub told : LitmusTest → ℕ → ℕ → ℕ
told test x zero = 0
told test x (suc r) = option_map_or (literal test) (slice_get (stores_of test x) r) 0

pub at_front : {X : Type 0} (fs : List X) (y : X) (cs : List X) → slice_get (fs ++ y ∷ cs) (length fs) ≡ Some y
at_front [] y cs = refl
at_front (x ∷ fs) y cs = at_front fs y cs

pub told_rank : (test : LitmusTest) (x v : ℕ) (s : Site) → Among s (stores_of test x) → v ≡ rank_of test x s
    → told test x v ≡ literal test s
told_rank test x v s a h =
    let r : rank_of test x s ≡ length a.front + 1 = rank_at test x a.front s a.rest a.whole in
    let e : v ≡ suc (length a.front) = omega arith in
    ap (told test x) e ∙ ap (λ l. option_map_or (literal test) (slice_get l (length a.front)) 0) a.whole
    ∙ ap (λ o. option_map_or (literal test) o 0) (at_front a.front s a.rest)

-- the event writes what the text says
abbrev pub WritesTold : LitmusTest → Event → Type 0
WritesTold test e = told test (event_location test e) (written_value test e) ≡ literal test (site_of e)

pub writes_told : (test : LitmusTest) (e : Event) → IsStoring test 1 e → WritesTold test e
writes_told test e s =
    let x = event_location test e in
    let l : e.iteration < 1 = s.early in
    let z : e.iteration ≡ 0 = omega arith in
    let v : written_value test e ≡ store_count test x * 0 + rank_of test x (site_of e) =
    ap (λ i. store_count test x * i + rank_of test x (site_of e)) z in
    told_rank test x (written_value test e) (site_of e) (store_at x test e.thread e.place s.action s.stands s.stores)
    (omega arith)

-- the write of the text behind one in a store buffer
abbrev pub waiting_of : LitmusTest → Write → Waiting
waiting_of test w = record { location = w.location; value = told test w.location w.value }

newest_step : (test : LitmusTest) (x : ℕ) (w : Write) (o : Option ℕ) (b : Bool) → (w.location == x) ≡ b
    → option_or (option_map (told test x) o) (cond b (Some (told test w.location w.value)) None)
    ≡ option_map (told test x) (option_or o (cond b (Some w.value) None))
newest_step test x w (Some v) b h = refl
newest_step test x w None true h = ap (λ z. Some (told test z w.value)) (eqb-true w.location x h)
newest_step test x w None false h = refl

pub told_newest : (test : LitmusTest) (x : ℕ) (ws : List Write)
    → newest x (map (waiting_of test) ws) ≡ option_map (told test x) (newest_write x ws)
told_newest test x [] = refl
told_newest test x (w ∷ ws) =
    ap (λ o. option_or o (cond (w.location == x) (Some (told test w.location w.value)) None)) (told_newest test x ws)
    ∙ newest_step test x w (newest_write x ws) (w.location == x) refl

pub or_told : (test : LitmusTest) (x v : ℕ) (o : Option ℕ)
    → unwrap_or (option_map (told test x) o) (told test x v) ≡ told test x (unwrap_or o v)
or_told test x v None = refl
or_told test x v (Some w) = refl
