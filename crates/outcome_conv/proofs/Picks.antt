-- The conditions pick and list what the atoms do, and each listed hit is a hit.
use Rattle.std.proofs.Common.{◌≡◌, ℕ, zero, suc, ◌+◌, ◌<◌, ◌≤◌, ◌==◌, Bool, true, false, cond, not, ◌&&◌, ◌||◌, Option, None, Some, List, [], ◌∷◌, ◌++◌, length, map, filter, filter_map, find, is_some, is_none, option_map, option_and_then, unwrap_or, refl, sym, ap, ◌∙◌, append_assoc, arith, subst, IfSome, Contains}
use Rattle.std.proofs.lemmas.List.Elements.{All-from_recursion, recursion_from_All}
use Rattle.std.proofs.lemmas.List.FromFn.{length-map-range_with_len}
use Rattle.std.specs.List.{AllByRecursion as Each, AllZip, cons_option, list_all, list_any, range_with_len}
use Rattle.std.specs.Option.{option_map_or}
use Rattle.x86_subset.specs.Conjunctions.{conjunction_of, conjunctions_of}
use Rattle.x86_subset.specs.Test.{LitmusTest}
use Rattle.x86_subset.proofs.Conjoined.{conjunction_of-map, zip_of}
use Rattle.tso_machine.specs.Event.{Event}
use Rattle.tso_machine.specs.Frame.{frames_of}
use Rattle.tso_machine.specs.Machine.{updated}
use Rattle.tso_machine.specs.Run.{IsRunOf}
use Rattle.tso_machine.proofs.Frames.{among_frames, map_cut}
use Rattle.perp_base.proofs.Lists.{Among, among_append_right, contains_from_among, each_append, each_filter, each_weaker}
use Rattle.profile_check.specs.declared.kind.AtomKind.{AtomKind}
use Rattle.profile_check.specs.declared.kind.AtomKind.TheVariants.{Rf, Fr, Exact}
use Rattle.profile_check.proofs.KindLemmas.{Tells}
use Rattle.outcome_conv.specs.Conds.{cond_of, conds_of, logged_in}
use Rattle.outcome_conv.specs.Hits.{IsFrame, hits_of, is_hit}
use Rattle.outcome_conv.specs.Holds.{holds_in}
use Rattle.outcome_conv.specs.Laws.{HitsAgree, ListedAreHits, PicksAgree}
use Rattle.outcome_conv.specs.Picks.{Chosen, Link, base_of, chosen_by, finds_of, is_among, is_due, link_by, link_in, listed_from, picked_hits, picked_frame, reader_of, writer_of}
use Rattle.outcome_conv.proofs.Agree.{agrees_by}
use Rattle.outcome_conv.proofs.Choose.{choice_below, chooses}
use Rattle.outcome_conv.proofs.Counts.{each_tells}

-- Links that do the same in n iterations.

record Alike (test : LitmusTest) (n : ℕ) (a b : Link) : Type 0 where
  reader : a.reader ≡ b.reader
  writer : a.writer ≡ b.writer
  choice : (i : ℕ) → i < n → a.choice i ≡ b.choice i
  below : (i m : ℕ) → a.choice i ≡ Some m → m < n
  holds : (frame : List ℕ) → IsFrame test n frame → a.holds frame ≡ b.holds frame

reader_is : (test : LitmusTest) (kind : AtomKind) → (cond_of test kind).reader ≡ reader_of kind
reader_is test (Rf reader column writer place) = refl
reader_is test (Fr reader column writer) = refl
reader_is test (Exact reader column writer place) = refl

writer_is : (test : LitmusTest) (kind : AtomKind) → (cond_of test kind).writer ≡ writer_of kind
writer_is test (Rf reader column writer place) = refl
writer_is test (Fr reader column writer) = refl
writer_is test (Exact reader column writer place) = refl

alike : (test : LitmusTest) (n : ℕ) (run : List Event) (kind : AtomKind) → IsRunOf test n run → Tells test kind
    → Alike test n (link_by (logged_in test run) n (cond_of test kind)) (link_in test n run kind)
alike test n run kind r tells = record {
  reader = reader_is test kind;
  writer = writer_is test kind;
  choice = λ i early. chooses test n run kind i r early tells;
  below =
      λ i m h. choice_below n (cond_of test kind).kind (logged_in test run (cond_of test kind).reader
      (cond_of test kind).column i) m h;
  holds = λ frame f. agrees_by test n run frame kind r f tells;
}

all_alike : (test : LitmusTest) (n : ℕ) (run : List Event) (kinds : List AtomKind) → IsRunOf test n run
    → Each (Tells test) kinds
    → AllZip (Alike test n) (map (link_by (logged_in test run) n) (conds_of test kinds))
    (map (link_in test n run) kinds)
all_alike test n run [] r h = tt
all_alike test n run (kind ∷ kinds) r h = (alike test n run kind r h.0, all_alike test n run kinds r h.1)

-- Chosen iterations are below n.

abbrev AreBelow : ℕ → Chosen → Type 0
AreBelow n chosen = (t : ℕ) → IfSome (chosen t) (λ i. i < n)

set_step : (n m : ℕ) (o : Option ℕ) (b : Bool) → m < n → IfSome o (λ i. i < n) → IfSome (cond b (Some m) o) (λ i. i < n)
set_step n m o true l h = l
set_step n m o false l h = h

set_below : (n w m : ℕ) (chosen : Chosen) → m < n → AreBelow n chosen → AreBelow n (updated chosen w (Some m))
set_below n w m chosen l h = λ t. set_step n m (chosen t) (w == t) l (h t)

module _ (test : LitmusTest) (n : ℕ) where
  -- the same link is due

  abbrev Found : Option Link → Option Link → Type 0
  Found None None = Unit {0}
  Found None (Some b) = ⊥
  Found (Some a) None = ⊥
  Found (Some a) (Some b) = Alike test n a b

  found_step : (a b : Link) (o q : Option Link) (x y : Bool) → x ≡ y → Alike test n a b → Found o q
      → Found (cond x (Some a) o) (cond y (Some b) q)
  found_step a b o q true true e h k = h
  found_step a b o q true false e h k = cc
  found_step a b o q false true e h k = cc
  found_step a b o q false false e h k = k

  found : (chosen : Chosen) (ls ks : List Link) → AllZip (Alike test n) ls ks
      → Found (find (is_due chosen) ls) (find (is_due chosen) ks)
  found chosen [] [] h = tt
  found chosen [] (b ∷ ks) h = absurd h
  found chosen (a ∷ ls) [] h = absurd h
  found chosen (a ∷ ls) (b ∷ ks) h =
      found_step a b (find (is_due chosen) ls) (find (is_due chosen) ks) (is_due chosen a) (is_due chosen b)
      (ap (λ z. is_some (chosen z) && is_none (chosen a.writer)) h.0.reader
      ∙ ap (λ z. is_some (chosen b.reader) && is_none (chosen z)) h.0.writer)
      h.0 (found chosen ls ks h.1)

  -- both choose the same, and below n
  record Same (o q : Option Chosen) : Type 0 where
    same : o ≡ q
    below : IfSome o (AreBelow n)

  module _ (ls ks : List Link) where
    abbrev go_on : ℕ → List Link → Chosen → ℕ → ℕ → Option Chosen
    go_on steps links chosen w m = chosen_by steps links (updated chosen w (Some m))

    choose_step : (steps : ℕ) (chosen : Chosen) (a b : Link) (o q : Option ℕ) → o ≡ q → ((m : ℕ) → o ≡ Some m → m < n)
        → AreBelow n chosen → a.writer ≡ b.writer
        → ((c : Chosen) → AreBelow n c → Same (chosen_by steps ls c) (chosen_by steps ks c))
        → Same (option_and_then (go_on steps ls chosen a.writer) o) (option_and_then (go_on steps ks chosen b.writer) q)
    choose_step steps chosen a b None None e h c w rec = record { same = refl; below = tt }
    choose_step steps chosen a b None (Some m) e h c w rec = cc
    choose_step steps chosen a b (Some m) None e h c w rec = cc
    choose_step steps chosen a b (Some m) (Some k) e h c w rec =
        let s : m ≡ k = cc in
        let r = rec (updated chosen a.writer (Some m)) (set_below n a.writer m chosen (h m refl) c) in
        record { same = r.same ∙ (λ i. chosen_by steps ks (updated chosen (w i) (Some (s i)))); below = r.below }

    reader_step : (steps : ℕ) (chosen : Chosen) (a b : Link) (o : Option ℕ) → Alike test n a b → IfSome o (λ i. i < n)
        → AreBelow n chosen
        → ((c : Chosen) → AreBelow n c → Same (chosen_by steps ls c) (chosen_by steps ks c))
        → Same (option_and_then (go_on steps ls chosen a.writer) (option_and_then a.choice o))
        (option_and_then (go_on steps ks chosen b.writer) (option_and_then b.choice o))
    reader_step steps chosen a b None h l c rec = record { same = refl; below = tt }
    reader_step steps chosen a b (Some i) h l c rec =
        choose_step steps chosen a b (a.choice i) (b.choice i) (h.choice i l) (h.below i) c h.writer rec

    due_step : (steps : ℕ) (chosen : Chosen) (o q : Option Link) → Found o q → AreBelow n chosen
        → ((c : Chosen) → AreBelow n c → Same (chosen_by steps ls c) (chosen_by steps ks c))
        → Same (option_map_or (λ link. option_and_then (go_on steps ls chosen link.writer)
        (option_and_then link.choice (chosen link.reader))) o (Some chosen))
        (option_map_or (λ link. option_and_then (go_on steps ks chosen link.writer)
        (option_and_then link.choice (chosen link.reader))) q (Some chosen))
    due_step steps chosen None None f c rec = record { same = refl; below = c }
    due_step steps chosen None (Some b) f c rec = absurd f
    due_step steps chosen (Some a) None f c rec = absurd f
    due_step steps chosen (Some a) (Some b) f c rec =
        let r = reader_step steps chosen a b (chosen a.reader) f (c a.reader) c rec in
        record {
          same =
              r.same ∙ ap (λ z. option_and_then (go_on steps ks chosen b.writer) (option_and_then b.choice (chosen z)))
              f.reader;
          below = r.below;
        }

    chosen_same : (steps : ℕ) → AllZip (Alike test n) ls ks → (chosen : Chosen) → AreBelow n chosen
        → Same (chosen_by steps ls chosen) (chosen_by steps ks chosen)
    chosen_same zero z chosen c = record { same = refl; below = c }
    chosen_same (suc steps) z chosen c =
        due_step steps chosen (find (is_due chosen) ls) (find (is_due chosen) ks) (found chosen ls ks z) c
        (chosen_same steps z)

  -- the same base

  readers_same : (t : ℕ) (ls ks : List Link) → AllZip (Alike test n) ls ks
      → list_any (λ (l : Link). l.reader == t) ls ≡ list_any (λ (l : Link). l.reader == t) ks
  readers_same t [] [] h = refl
  readers_same t [] (b ∷ ks) h = absurd h
  readers_same t (a ∷ ls) [] h = absurd h
  readers_same t (a ∷ ls) (b ∷ ks) h =
      ap (λ z. (z == t) || list_any (λ (l : Link). l.reader == t) ls) h.0.reader
      ∙ ap (λ z. (b.reader == t) || z) (readers_same t ls ks h.1)

  find_same : (p q : ℕ → Bool) → ((t : ℕ) → p t ≡ q t) → (ts : List ℕ) → find p ts ≡ find q ts
  find_same p q f [] = refl
  find_same p q f (t ∷ ts) = rw (f t, find_same p q f ts) refl

  long_same : (ls ks : List Link) → AllZip (Alike test n) ls ks → length ls ≡ length ks
  long_same [] [] h = refl
  long_same [] (b ∷ ks) h = absurd h
  long_same (a ∷ ls) [] h = absurd h
  long_same (a ∷ ls) (b ∷ ks) h = ap suc (long_same ls ks h.1)

  -- so both pick the same frame

  get_step : (i : ℕ) (o : Option ℕ) → i < n → IfSome o (λ i. i < n) → unwrap_or o i < n
  get_step i None l h = l
  get_step i (Some m) l h = h

  each_map : (f : ℕ → ℕ) (ts : List ℕ) → ((t : ℕ) → f t < n) → Each (λ i. i < n) (map f ts)
  each_map f [] h = tt
  each_map f (t ∷ ts) h = (h t, each_map f ts h)

  frame_from : (i : ℕ) (chosen : Chosen) → i < n → AreBelow n chosen
      → IsFrame test n (map (λ t. unwrap_or (chosen t) i) (range_with_len 0 (length test.bodies)))
  frame_from i chosen l c = record {
    one_each = length-map-range_with_len (λ t. unwrap_or (chosen t) i) 0 (length test.bodies);
    below =
        All-from_recursion (λ k. k < n) (map (λ t. unwrap_or (chosen t) i) (range_with_len 0 (length test.bodies)))
        (each_map (λ t. unwrap_or (chosen t) i) (range_with_len 0 (length test.bodies))
        (λ t. get_step i (chosen t) l (c t)));
  }

  record SamePick (o q : Option (List ℕ)) : Type 0 where
    same : o ≡ q
    is_frame : IfSome o (IsFrame test n)

  frame_step : (i : ℕ) (o q : Option Chosen) → i < n → Same o q
      → SamePick (option_map (λ chosen. map (λ t. unwrap_or (chosen t) i) (range_with_len 0 (length test.bodies))) o)
      (option_map (λ chosen. map (λ t. unwrap_or (chosen t) i) (range_with_len 0 (length test.bodies))) q)
  frame_step i None q l s = record {
    same =
        ap (option_map (λ (chosen : Chosen). map (λ t. unwrap_or (chosen t) i) (range_with_len 0 (length test.bodies))))
        s.same;
    is_frame = tt;
  }
  frame_step i (Some chosen) q l s = record {
    same =
        ap (option_map (λ (chosen : Chosen). map (λ t. unwrap_or (chosen t) i) (range_with_len 0 (length test.bodies))))
        s.same;
    is_frame = frame_from i chosen l s.below;
  }

  none_below : AreBelow n (λ t. None)
  none_below t = tt

  base_step : (ls ks : List Link) (i : ℕ) (o : Option ℕ) → i < n → AllZip (Alike test n) ls ks
      → SamePick
      (option_and_then (λ base. option_map (λ chosen. map (λ t. unwrap_or (chosen t) i)
      (range_with_len 0 (length test.bodies))) (chosen_by (length ls) ls (updated (λ t. None) base (Some i)))) o)
      (option_and_then (λ base. option_map (λ chosen. map (λ t. unwrap_or (chosen t) i)
      (range_with_len 0 (length test.bodies))) (chosen_by (length ks) ks (updated (λ t. None) base (Some i)))) o)
  base_step ls ks i None l z = record { same = refl; is_frame = tt }
  base_step ls ks i (Some base) l z =
      let start : Chosen = updated (λ t. None) base (Some i) in
      let r = chosen_same ls ks (length ls) z start (set_below n base i (λ t. None) l none_below) in
      frame_step i (chosen_by (length ls) ls start) (chosen_by (length ks) ks start) l
      (record { same = r.same ∙ ap (λ k. chosen_by k ks start) (long_same ls ks z); below = r.below })

  picks : (ls ks : List Link) (i : ℕ) → i < n → AllZip (Alike test n) ls ks
      → SamePick (picked_frame (length test.bodies) ls i) (picked_frame (length test.bodies) ks i)
  picks ls ks i l z =
      let s = base_step ls ks i (base_of (length test.bodies) ls) l z in
      let e : base_of (length test.bodies) ls ≡ base_of (length test.bodies) ks =
      find_same (λ t. list_any (λ (l : Link). l.reader == t) ls) (λ t. list_any (λ (l : Link). l.reader == t) ks)
      (λ t. readers_same t ls ks z) (range_with_len 0 (length test.bodies)) in
      record {
        same =
            s.same ∙ ap (option_and_then (λ base. option_map (λ (chosen : Chosen). map (λ t. unwrap_or (chosen t) i)
            (range_with_len 0 (length test.bodies))) (chosen_by (length ks) ks
            (updated (λ t. None) base (Some i))))) e;
        is_frame = s.is_frame;
      }

  -- and find the same frames

  abbrev all_hold : List Link → List ℕ → Bool
  all_hold links frame = list_all (λ (l : Link). l.holds frame) links

  hold_same : (ls ks : List Link) (frame : List ℕ) → IsFrame test n frame → AllZip (Alike test n) ls ks
      → all_hold ls frame ≡ all_hold ks frame
  hold_same [] [] frame f h = refl
  hold_same [] (b ∷ ks) frame f h = absurd h
  hold_same (a ∷ ls) [] frame f h = absurd h
  hold_same (a ∷ ls) (b ∷ ks) frame f h =
      ap (λ z. z && all_hold ls frame) (h.0.holds frame f) ∙ ap (λ z. b.holds frame && z) (hold_same ls ks frame f h.1)

  record SameFinds (ks : List Link) (fs gs : List (List ℕ)) : Type 0 where
    same : fs ≡ gs
    are_hits : Each (λ f. IsFrame test n f × (all_hold ks f ≡ true)) gs

  keep_step : (ks : List Link) (f : List ℕ) (fs gs : List (List ℕ)) (x y : Bool) → x ≡ y → all_hold ks f ≡ y
      → IsFrame test n f → SameFinds ks fs gs → SameFinds ks (cond x (f ∷ fs) fs) (cond y (f ∷ gs) gs)
  keep_step ks f fs gs true true e h k s = record { same = ap (λ l. f ∷ l) s.same; are_hits = ((k, h), s.are_hits) }
  keep_step ks f fs gs true false e h k s = cc
  keep_step ks f fs gs false true e h k s = cc
  keep_step ks f fs gs false false e h k s = s

  pick_step : (ls ks : List Link) (o q : Option (List ℕ)) (fs gs : List (List ℕ)) → AllZip (Alike test n) ls ks
      → SamePick o q → SameFinds ks (filter (all_hold ls) fs) (filter (all_hold ks) gs)
      → SameFinds ks (filter (all_hold ls) (cons_option o fs)) (filter (all_hold ks) (cons_option q gs))
  pick_step ls ks None None fs gs z p s = s
  pick_step ls ks None (Some g) fs gs z p s = let e = p.same in cc
  pick_step ls ks (Some f) None fs gs z p s = let e = p.same in cc
  pick_step ls ks (Some f) (Some g) fs gs z p s =
      let h = p.same in
      let e : f ≡ g = cc in
      let P : List ℕ → Type 0 = λ g. SameFinds ks (cond (all_hold ls f) (f ∷ filter (all_hold ls) fs)
      (filter (all_hold ls) fs)) (cond (all_hold ks g) (g ∷ filter (all_hold ks) gs) (filter (all_hold ks) gs)) in
      subst P e (keep_step ks f (filter (all_hold ls) fs) (filter (all_hold ks) gs) (all_hold ls f) (all_hold ks f)
      (hold_same ls ks f p.is_frame z) refl p.is_frame s)

  finds_from : (ls ks : List Link) → AllZip (Alike test n) ls ks → (is : List ℕ) → Each (λ i. i < n) is
      → SameFinds ks (filter (all_hold ls) (filter_map (picked_frame (length test.bodies) ls) is))
      (filter (all_hold ks) (filter_map (picked_frame (length test.bodies) ks) is))
  finds_from ls ks z [] h = record { same = refl; are_hits = tt }
  finds_from ls ks z (i ∷ is) h =
      pick_step ls ks (picked_frame (length test.bodies) ls i) (picked_frame (length test.bodies) ks i)
      (filter_map (picked_frame (length test.bodies) ls) is) (filter_map (picked_frame (length test.bodies) ks) is) z
      (picks ls ks i h.0 z) (finds_from ls ks z is h.1)

  range_below : (a k : ℕ) → a + k ≤ n → Each (λ i. i < n) (range_with_len a k)
  range_below a zero h = tt
  range_below a (suc k) h = (omega arith, range_below (a + 1) k (omega arith))

  finds : (ls ks : List Link) → AllZip (Alike test n) ls ks
      → SameFinds ks (finds_of (length test.bodies) n ls) (finds_of (length test.bodies) n ks)
  finds ls ks z = finds_from ls ks z (range_with_len 0 n) (range_below 0 n (omega arith))

  -- conjunction by conjunction

  all_finds : (ends : List ℕ) (ls ks : List Link) → AllZip (Alike test n) ls ks → (cs : List ℕ)
      → map (finds_of (length test.bodies) n) (map (conjunction_of ends ls) cs)
      ≡ map (finds_of (length test.bodies) n) (map (conjunction_of ends ks) cs)
  all_finds ends ls ks z [] = refl
  all_finds ends ls ks z (c ∷ cs) =
      let s = finds (conjunction_of ends ls c) (conjunction_of ends ks c) (zip_of (Alike test n) ends ls ks c z) in
      let r = all_finds ends ls ks z cs in
      λ i. s.same i ∷ r i

  each_listed : (P : List ℕ → Type 0) (earlier : List (List ℕ)) (finds : List (List (List ℕ))) → Each (Each P) finds
      → Each P (listed_from earlier finds)
  each_listed P earlier [] h = tt
  each_listed P earlier (fs ∷ rest) h =
      each_append P (filter (λ frame. not (is_among earlier frame)) fs) (listed_from (earlier ++ fs) rest)
      (each_filter P (λ frame. not (is_among earlier frame)) fs h.0) (each_listed P (earlier ++ fs) rest h.1)

-- The laws.

pub picks_agree_lem : PicksAgree
picks_agree_lem test n run kinds c i h r early z =
    (picks test n (conjunction_of test.ends (map (link_by (logged_in test run) n) (conds_of test kinds)) c)
    (conjunction_of test.ends (map (link_in test n run) kinds) c) i early
    (zip_of (Alike test n) test.ends (map (link_by (logged_in test run) n) (conds_of test kinds))
    (map (link_in test n run) kinds) c (all_alike test n run kinds r (each_tells test kinds h z)))).same

pub hits_agree_lem : HitsAgree
hits_agree_lem test n run kinds h r z =
    ap (listed_from [])
    (all_finds test n test.ends (map (link_by (logged_in test run) n) (conds_of test kinds))
    (map (link_in test n run) kinds) (all_alike test n run kinds r (each_tells test kinds h z))
    (range_with_len 0 (length test.ends)))

-- A find is a hit.

links_hold : (test : LitmusTest) (n : ℕ) (run : List Event) (frame : List ℕ) (kinds : List AtomKind)
    → list_all (λ (l : Link). l.holds frame) (map (link_in test n run) kinds) ≡ list_all (holds_in test run frame) kinds
links_hold test n run frame [] = refl
links_hold test n run frame (kind ∷ kinds) =
    ap (λ b. holds_in test run frame kind && b) (links_hold test n run frame kinds)

or_true : (b : Bool) → (b || true) ≡ true
or_true true = refl
or_true false = refl

any_at : {X : Type 0} (p : X → Bool) (y : X) (fs cs : List X) → p y ≡ true → list_any p (fs ++ y ∷ cs) ≡ true
any_at p y [] cs h = rw h refl
any_at p y (x ∷ fs) cs h = ap (λ b. p x || b) (any_at p y fs cs h) ∙ or_true (p x)

-- what all atoms of one conjunction hold at is a hit
conjunction_hits : (test : LitmusTest) (n : ℕ) (run : List Event) (kinds : List AtomKind) (c : ℕ) (fs cs : List ℕ)
    (frame : List ℕ) → range_with_len 0 (length test.ends) ≡ fs ++ c ∷ cs
    → all_hold test n (conjunction_of test.ends (map (link_in test n run) kinds) c) frame ≡ true
    → is_hit test kinds run frame ≡ true
conjunction_hits test n run kinds c fs cs frame e h =
    let one : list_all (holds_in test run frame) (conjunction_of test.ends kinds c) ≡ true =
    sym (links_hold test n run frame (conjunction_of test.ends kinds c))
    ∙ ap (λ ls. all_hold test n ls frame) (sym (conjunction_of-map (link_in test n run) test.ends kinds c)) ∙ h in
    ap (λ cs. list_any (list_all (holds_in test run frame)) (map (conjunction_of test.ends kinds) cs)) e
    ∙ ap (list_any (list_all (holds_in test run frame))) (map_cut (conjunction_of test.ends kinds) c fs cs)
    ∙ any_at (list_all (holds_in test run frame)) (conjunction_of test.ends kinds c)
    (map (conjunction_of test.ends kinds) fs) (map (conjunction_of test.ends kinds) cs) one

abbrev IsHit : LitmusTest → ℕ → List Event → List AtomKind → List ℕ → Type 0
IsHit test n run kinds frame = IsFrame test n frame × (is_hit test kinds run frame ≡ true)

finds_hit : (test : LitmusTest) (n : ℕ) (run : List Event) (kinds : List AtomKind)
    → AllZip (Alike test n) (map (link_by (logged_in test run) n) (conds_of test kinds))
    (map (link_in test n run) kinds)
    → (fs cs : List ℕ) → range_with_len 0 (length test.ends) ≡ fs ++ cs
    → Each (Each (IsHit test n run kinds)) (map (finds_of (length test.bodies) n)
    (map (conjunction_of test.ends (map (link_in test n run) kinds)) cs))
finds_hit test n run kinds z fs [] e = tt
finds_hit test n run kinds z fs (c ∷ cs) e =
    let ls = map (link_by (logged_in test run) n) (conds_of test kinds) in
    let ks = map (link_in test n run) kinds in
    let s =
    finds test n (conjunction_of test.ends ls c) (conjunction_of test.ends ks c)
    (zip_of (Alike test n) test.ends ls ks c z) in (
      each_weaker (λ f. IsFrame test n f × (all_hold test n (conjunction_of test.ends ks c) f ≡ true))
          (IsHit test n run kinds) (λ f k. (k.0, conjunction_hits test n run kinds c fs cs f e k.1))
          (finds_of (length test.bodies) n (conjunction_of test.ends ks c)) s.are_hits,
      finds_hit test n run kinds z (fs ++ c ∷ []) cs (e ∙ sym (append_assoc fs (c ∷ []) cs)),
    )

-- and each frame that is a hit is among the hits

among_step : {X : Type 0} (p : X → Bool) (y x : X) (xs : List X) (b : Bool) → Among y (filter p xs)
    → Among y (cond b (x ∷ filter p xs) (filter p xs))
among_step p y x xs true a = among_append_right y (x ∷ []) (filter p xs) a
among_step p y x xs false a = a

among_filter : {X : Type 0} (p : X → Bool) (y : X) (fs cs : List X) → p y ≡ true → Among y (filter p (fs ++ y ∷ cs))
among_filter p y [] cs h = rw h (record { front = []; rest = filter p cs; whole = refl })
among_filter p y (x ∷ fs) cs h = among_step p y x (fs ++ y ∷ cs) (p x) (among_filter p y fs cs h)

hit_among : (test : LitmusTest) (n : ℕ) (run : List Event) (kinds : List AtomKind) (frame : List ℕ)
    → IsHit test n run kinds frame → Contains (hits_of test kinds n run) frame
hit_among test n run kinds frame h =
    let below : Each (λ i. i < n) frame = recursion_from_All (λ i. i < n) frame h.0.below in
    let P : ℕ → Type 0 = λ t. Among frame (frames_of n t) in
    let a : Among frame (frames_of n (length test.bodies)) = subst P h.0.one_each (among_frames n frame below) in
    let Q : List (List ℕ) → Type 0 = λ l. Among frame (filter (is_hit test kinds run) l) in
    contains_from_among (hits_of test kinds n run) frame (subst Q (sym a.whole)
    (among_filter (is_hit test kinds run) frame a.front a.rest h.1))

pub listed_are_hits_lem : ListedAreHits
listed_are_hits_lem test n run kinds h r z =
    let ks = map (link_in test n run) kinds in
    let all = finds_hit test n run kinds (all_alike test n run kinds r (each_tells test kinds h z)) []
    (range_with_len 0 (length test.ends)) refl in
    All-from_recursion (Contains (hits_of test kinds n run)) (picked_hits test n run kinds)
    (each_weaker (IsHit test n run kinds) (Contains (hits_of test kinds n run)) (hit_among test n run kinds)
    (picked_hits test n run kinds)
    (each_listed test n (IsHit test n run kinds) [] (map (finds_of (length test.bodies) n)
    (conjunctions_of test.ends ks)) all))
