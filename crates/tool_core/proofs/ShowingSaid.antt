-- What is shown is right.
use Rattle.std.proofs.Common.{◌≡◌, ◌⊎◌, ◌∙◌, ℕ, zero, suc, ◌+◌, ◌<◌, ◌≤◌, None, Some, List, [], ◌∷◌, ◌++◌, length, length-append, slice_get, get_or, map, Result, Ok, Err, IfOk, String, string_bytes, Global, inl, inr, sym, subst, arith}
use Rattle.std.proofs.lemmas.Bool.{false_from_ne_true}
use Rattle.std.proofs.lemmas.Option.{slice_get_cases}
use Rattle.perp_base.specs.declared.failure.NoMemory.{NoMemory}
use Rattle.profile_check.specs.Profile.{CheckedTest, IsChecked}
use Rattle.run_judge.specs.Judgement.{event_of}
use Rattle.run_judge.specs.declared.event.RunEvent.{RunEvent}
use Rattle.run_text.specs.Runs.{run_text_of}
use Rattle.verdict.specs.Edges.{edge_in, is_cycle_of}
use Rattle.verdict.specs.Verdicts.{HasCycle}
use Rattle.decision.specs.Shown.{IsOrdered, Shows}
use Rattle.decision.proofs.Deciding.{cycle_is_not_shown_lem}
use Rattle.litmus_outcomes.proofs.Possible.{once_is_the_test_lem}
use Rattle.tool_core.proofs.Ruling.{ruled_by_reasons}
use Rattle.tool_core.specs.declared.reasons.Reason.{Reason}
use Rattle.tool_core.specs.declared.reasons.Unshown.{Unshown}
use Rattle.tool_core.specs.declared.reasons.Unshown.TheVariants.{Forbidden, Undecided}
use Rattle.tool_core.specs.Showing.{AreReasons, IsFirstShown, IsFirstUndecided, IsOpen, IsReason, IsShowingOn, IsShowingText, IsShownBy, IsUnshown, NoneIsShown, unshown_text_of}
use Rattle.tool_core.specs.Showing.IsShowingOn.{run, forbidden, undecided}

-- a run that shows a conjunction tells that it has no cycle
pub shown_by : (checked : CheckedTest) (c : ℕ) (events : List RunEvent) → IsChecked checked → IsOrdered checked c
    → Shows checked c (map event_of events) → IsShownBy checked c events
shown_by checked c events is ordered shows = record {
  ordered = ordered;
  none = λ cycle. false_from_ne_true (is_cycle_of (edge_in checked c) cycle)
      (λ k. cycle_is_not_shown_lem checked c (map event_of events) is (cycle, k) shows);
  shows = shows;
  possible = (once_is_the_test_lem checked c is).0 (map event_of events, shows);
}

none_at : (checked : CheckedTest) (c : ℕ) → NoneIsShown checked c → (IsOrdered checked c → HasCycle checked c)
    → (b : ℕ) → (b < c) ⊎ (b ≡ c) → IsOrdered checked b → HasCycle checked b
none_at checked c before here b (inl lt) = before b lt
none_at checked c before here b (inr same) = subst (λ k. IsOrdered checked k → HasCycle checked k) (sym same) here

-- one conjunction more that is not ordered or has a cycle
pub none_more : (checked : CheckedTest) (c : ℕ) → NoneIsShown checked c → (IsOrdered checked c → HasCycle checked c)
    → NoneIsShown checked (c + 1)
none_more checked c before here b lt =
    let split : (b < c) ⊎ (b ≡ c) = grind (arith) in
    none_at checked c before here b split

-- what stands in a list with one element more
get_pushed : {X : Type 0} (xs : List X) (y : X) (i : ℕ) (z : X) → slice_get (xs ++ y ∷ []) i ≡ Some z
    → (slice_get xs i ≡ Some z) ⊎ ((i ≡ length xs) × (y ≡ z))
get_pushed [] y zero z e = inr (omega arith, (let s : y ≡ z = cc in s))
get_pushed [] y (suc i) z e = cc
get_pushed (x ∷ xs) y zero z e = inl e
get_pushed (x ∷ xs) y (suc i) z e = go (get_pushed xs y i z e)
  where
    go : (slice_get xs i ≡ Some z) ⊎ ((i ≡ length xs) × (y ≡ z))
        → (slice_get xs i ≡ Some z) ⊎ ((suc i ≡ length (x ∷ xs)) × (y ≡ z))
    go (inl h) = inl h
    go (inr h) = let k : i ≡ length xs = h.0 in inr (omega arith, h.1)

-- one conjunction more for which there is a reason
pub reasons_more : (checked : CheckedTest) (c : ℕ) (reasons : List Reason) (reason : Reason)
    → AreReasons checked c reasons
    → IsReason checked c reason → AreReasons checked (c + 1) (reasons ++ reason ∷ [])
reasons_more checked c reasons reason before here = record {
  one_each = let e : length reasons ≡ c = before.one_each in rw length-append (omega arith);
  right = λ b r e. go b r (get_pushed reasons reason b r e);
}
  where
    go : (b : ℕ) (r : Reason) → (slice_get reasons b ≡ Some r) ⊎ ((b ≡ length reasons) × (reason ≡ r))
        → IsReason checked b r
    go b r (inl k) = before.right b r k
    go b r (inr k) =
        let P : ℕ → Type 0 = λ i. IsReason checked i r in
        let at : c ≡ b = sym (k.0 ∙ before.one_each) in
        subst P at (subst (IsReason checked c) k.1 here)

reason_at : (checked : CheckedTest) (c : ℕ) (reasons : List Reason) → AreReasons checked c reasons → (b : ℕ) → b < c
    → (reason : Reason) × IsReason checked b reason
reason_at checked c reasons before b l = go ((slice_get_cases reasons b).1)
  where
    go : ((r : Reason) × (b < length reasons) × (slice_get reasons b ≡ Some r) × (get_or reasons b r ≡ r))
        ⊎ ((length reasons ≤ b) × (slice_get reasons b ≡ None)) → (reason : Reason) × IsReason checked b reason
    go (inl f) = (f.0, before.right b f.0 f.2)
    go (inr f) =
        let e : length reasons ≡ c = before.one_each in let m : length reasons ≤ b = f.0 in absurd (omega arith)

-- the first for which there is none
pub first_undecided : (checked : CheckedTest) (c : ℕ) (reasons : List Reason) → c < length checked.test.ends
    → AreReasons checked c reasons → IsOpen checked c → IsFirstUndecided checked c
first_undecided checked c reasons there before here =
    record { there = there; is_open = here; earlier = reason_at checked c reasons before }

showing_on : (checked : CheckedTest) (said : Unshown) (text : List ℕ)
    → IsChecked checked → NoneIsShown checked (length checked.test.ends) → IsUnshown checked said
    → text ≡ unshown_text_of said → IsShowingOn checked text
showing_on checked (Forbidden reasons) text h none is e =
    forbidden reasons.items is
    (ruled_by_reasons checked h (reason_at checked (length checked.test.ends) reasons.items is)) e
showing_on checked (Undecided c) text h none is e = undecided c is none e

-- the text where no run is shown
pub unshown_said : (checked : CheckedTest) (said : Unshown) (r : Result (String Global) NoMemory)
    → IsChecked checked → NoneIsShown checked (length checked.test.ends) → IsUnshown checked said
    → IfOk r (λ t. string_bytes t ≡ unshown_text_of said) → IfOk r (λ t. IsShowingText checked.test (string_bytes t))
unshown_said checked said (Ok t) is none right e =
    record { kinds = checked.kinds; are = is.kinds; is = showing_on checked said (string_bytes t) is none right e }
unshown_said checked said (Err e) is none right _ = tt

-- the text of a run that is shown
pub shown_said : (checked : CheckedTest) (events : List RunEvent) (r : Result (String Global) NoMemory)
    → IsChecked checked → IsFirstShown checked events → IfOk r (λ t. string_bytes t ≡ run_text_of 1 events)
    → IfOk r (λ t. IsShowingText checked.test (string_bytes t))
shown_said checked events (Ok t) is first e = record { kinds = checked.kinds; are = is.kinds; is = run events first e }
shown_said checked events (Err e) is first _ = tt
