-- One more member of a crew, in the loops that make, lend, take back and collect.
use Rattle.std.proofs.Common.{◌≡◌, ◌≢◌, ⊎_elim, ℕ, ◌+◌, ◌<◌, ◌≤◌, List, [], ◌∷◌, ◌++◌, length, length-set, set, take, drop, get_or, None, Some, IsSome, IfSome, refl, sym, ap, ◌∙◌, subst, arith, get_or-set_same, get_or-set_other}
use mathlib.Core.Logic.{dite}
use native.Mathlib.Decide.{dec_lt, ℕ_discrete}
use Rattle.std.proofs.lemmas.Bool.{cases_lt}
use Rattle.std.proofs.lemmas.List.{get_or_default, get_or_append_left, get_or_past, length-append}
use Rattle.std.proofs.Math.Seq.{get_or-append_seam, take-append_seam}
use Rattle.tso_words.specs.Seated.{TableId}
use Rattle.tso_words.specs.Seats.{Lent}
use Rattle.tso_words.specs.declared.step.Step.{Step}
use Rattle.tso_words.specs.declared.step.Part.{Part}
use Rattle.tso_words.specs.History.{eight, list_at}
use Rattle.tso_words.specs.Views.{beside, others, one_part, Stands, AllHome, list_of}
use Rattle.tso_words.proofs.Keeping.{list_of_is, list_at-eight, beside-others_same, beside-others_else}
use Rattle.tso_words.proofs.Homes.{back_same, back_else, Stands-once}
use Rattle.perp_loop.specs.Walking.{Walking, StandsFor}
use Rattle.perp_loop.specs.Crews.{Enrolled, Job, IsOfJob, AreFresh, Claims, Each, IsFresh, IsLent, IsBack, Lends, HasHome, AreLists, SameWalkers}

pub each_push : (P : ℕ → Enrolled → Type 0) (members : List Enrolled) (new : Enrolled) → Each P members
    → P (length members) new → Each P (members ++ new ∷ [])
each_push P members new each here i d lt =
    ⊎_elim
    (λ below. subst (P i) (sym (get_or_append_left members (new ∷ []) d i below)) (each i d below))
    (λ above.
    let last : length members ≡ i = omega (arith, lt, length-append members (new ∷ []), above) in
    subst (λ n. P n (get_or (members ++ new ∷ []) n d)) last (subst (P (length members))
    (sym (get_or-append_seam members new [] d)) here))
    (cases_lt i (length members))

pub nothing_left : {X : Type 0} (l : List X) → length l ≡ 0 → l ≡ []
nothing_left [] h = refl
nothing_left (x ∷ xs) h = absurd (omega arith)

-- one more walker of a crew
pub crew_more : (job : Job) (members now : List Enrolled) (t : ℕ) (p : Enrolled) (w : Walking) → length members ≡ t
    → AreFresh members → Each (λ t p. IsOfJob job p) members →
    now ≡ members ++ p ∷ [] → p ≡ record { lane = None; walker = w } → StandsFor w [] → w.test ≡ job.test
    → w.options ≡ job.options → w.sequences ≡ job.sequences → w.thread ≡ t →
    (length now ≡ t + 1) × AreFresh now × Each (λ t p. IsOfJob job p) now
crew_more job members now t p w count fresh of_job is one stands test options sequences thread =
    let new : IsFresh (length members) p =
    subst (IsFresh (length members)) (sym one) (refl, thread ∙ sym count, stands)
    in
    let mine : IsOfJob job p = subst (IsOfJob job) (sym one) (test, options, sequences) in (
      ap length is ∙ length-append members (p ∷ []) ∙ ap (λ n. n + 1) count,
      subst AreFresh (sym is) (each_push IsFresh members p fresh new),
      subst (Each (λ t p. IsOfJob job p)) (sym is) (each_push (λ t p. IsOfJob job p) members p of_job mine),
    )

pub done_more : (P : ℕ → Enrolled → Type 0) (members : List Enrolled) (i : ℕ) (now : Enrolled) → i < length members
    → ((k : ℕ) (d : Enrolled) → k < i → P k (get_or members k d)) → P i now → (k : ℕ) (d : Enrolled) → k < i + 1
    → P k (get_or (set members i now) k d)
done_more P members i now within done here k d h =
    dite (ℕ_discrete k i)
    (λ e. subst (λ n. P n (get_or (set members i now) n d)) (sym e)
    (subst (P i) (sym (get_or-set_same members i now d within)) here))
    (λ ne. subst (P k) (sym (get_or-set_other members i k now d ne)) (done k d (omega arith)))

pub rest_same : (P : ℕ → Enrolled → Type 0) (members : List Enrolled) (i : ℕ) (now : Enrolled)
    → ((k : ℕ) (d : Enrolled) → i ≤ k → k < length members → P k (get_or members k d)) → (k : ℕ) (d : Enrolled)
    → i + 1 ≤ k → k < length (set members i now) → P k (get_or (set members i now) k d)
rest_same P members i now rest k d above within =
    let ne : k ≢ i = (λ e. omega arith) in
    let n = length-set members i now in
    subst (P k) (sym (get_or-set_other members i k now d ne)) (rest k d (omega arith) (omega arith))

pub Lends-more : (n : ℕ) (parts now : List Part) → Lends n parts → now ≡ others n parts → Lends (n + 1) now
Lends-more n parts now h is =
    subst (Lends (n + 1)) (sym is) (
      (λ t below. dite (ℕ_discrete t n)
          (λ e. subst (λ k. beside k (others n parts) ≡ []) (sym e) (beside-others_same n parts))
          (λ ne. beside-others_else n parts t ne ∙ h.0 t (omega arith))),
      (λ t above small. beside-others_else n parts t (λ e. omega arith) ∙ h.1 t (omega arith) small),
    )

pub lent_here : (identity : TableId) (i : ℕ) (old new : Enrolled) (lane : Lent) → IsFresh i old → new.lane ≡ Some lane
    → new.walker ≡ old.walker → lane.identity ≡ identity → IsLent identity i new
lent_here identity i old new lane fresh there same at = (
  (subst IsSome (sym there) refl, subst (λ o. IfSome o (λ l. l.identity ≡ identity)) (sym there) at),
  ap (λ w. w.thread) same ∙ fresh.1,
)

-- a number that came home, and what it leaves of the others
pub home_same : (thread i : ℕ) (parts now : List Part) (steps : List Step) → now ≡ parts ++ one_part thread steps
    → thread ≡ i → beside i parts ≡ [] → Stands i now steps
home_same thread i parts now steps is same away =
    ap (beside i) (is ∙ ap (λ t. parts ++ one_part t steps) same) ∙ back_same i parts steps away

pub home_else : (thread i k : ℕ) (parts now : List Part) (steps : List Step) → now ≡ parts ++ one_part thread steps
    → thread ≡ i → k ≢ i → beside k now ≡ beside k parts
home_else thread i k parts now steps is same apart =
    ap (beside k) (is ∙ ap (λ t. parts ++ one_part t steps) same) ∙ back_else i k parts steps apart

pub all_home : (members : List Enrolled) (parts : List Part) → HasHome members parts → AllHome parts
all_home [] parts h t small = ([], h.1 t (omega arith) small)
all_home (p ∷ ps) parts h t small =
    dite (dec_lt t (length (p ∷ ps)))
    (λ lt. let x = (h.0 t p lt).0 in (x.0, x.1))
    (λ ge. ([], h.1 t (omega arith) small))

pub list_at-past : (f : ℕ → List Step) (t : ℕ) → 8 ≤ t → list_at (eight f) t ≡ []
list_at-past f t past = get_or_past (eight f) t [] past

pub lists_of : (members : List Enrolled) (home : List Part) (lists : List (List Step)) → HasHome members home
    → length members ≤ 8 → lists ≡ eight (λ t. list_of t home) → AreLists members lists
lists_of members home lists h few is =
    subst (AreLists members) (sym is) (
      (λ t d lt.
          let x = h.0 t d lt in
          let list : list_at (eight (λ t. list_of t home)) t
          ≡ x.0.0 = list_at-eight (λ t. list_of t home) t (omega arith) ∙ list_of_is t home _ x.0.1 in
          (subst (Claims (get_or members t d).walker) (sym list) x.0.2, x.1, x.2)),
      (λ t above.
          ⊎_elim
          (λ small. list_at-eight (λ t. list_of t home) t small ∙ list_of_is t home _ (h.1 t above small))
          (λ past. list_at-past (λ t. list_of t home) t past)
          (cases_lt t 8)),
    )

-- a walker that has done nothing yet has made no steps
pub claims_fresh : (w : Walking) (t : ℕ) (parts : List Part) (steps : List Step) → StandsFor w [] → Stands t parts []
    → Stands t parts steps → Claims w steps
claims_fresh w t parts steps stands none lent = ([], stands, Stands-once t parts steps [] lent none)

-- what came home of one walker stays there when another's number comes home
pub back_kept : (thread i k : ℕ) (parts now : List Part) (steps : List Step) (p : Enrolled)
    → now ≡ parts ++ one_part thread steps → thread ≡ i → k ≢ i → IsBack parts k p → IsBack now k p
back_kept thread i k parts now steps p is same apart back =
    (back.0, home_else thread i k parts now steps is same apart ∙ back.1, back.2)

pub same_more : (olds members : List Enrolled) (i : ℕ) (now r : Enrolled) → length members ≡ length olds
    → i < length members → SameWalkers olds members → now.walker ≡ (get_or members i r).walker
    → SameWalkers olds (set members i now)
same_more olds members i now r len within same is k d h =
    dite (ℕ_discrete k i)
    (λ e. subst (λ n. (get_or (set members i now) n d).walker ≡ (get_or olds n d).walker) (sym e)
    (ap (λ (p : Enrolled). p.walker) (get_or-set_same members i now d within) ∙ is ∙ same i r (omega arith)
    ∙ ap (λ (p : Enrolled). p.walker) (get_or_default olds i r d (omega arith))))
    (λ ne. ap (λ (p : Enrolled). p.walker) (get_or-set_other members i k now d ne) ∙ same k d h)

-- what a vector holds after all of its items were written
pub written_whole : {X : Type 0} (n : ℕ) (olds news : List X) → n ≡ length olds → length news ≡ length olds
    → take n (news ++ drop (length news) olds) ≡ news
written_whole n olds news is len =
    ap (λ k. take k (news ++ drop (length news) olds)) (is ∙ sym len) ∙ take-append_seam news (drop (length news) olds)
