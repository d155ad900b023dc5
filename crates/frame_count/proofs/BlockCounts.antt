-- The counts of blocks, and what is remembered of them.
use Rattle.std.proofs.Common.{◌≡◌, ℕ, suc, ◌+◌, ◌-◌, ◌*◌, ◌/◌, ◌^◌, ◌<◌, ◌≤◌, ◌⊎◌, inl, inr, Bool, true, false, All, List, [], ◌∷◌, add-one, zero, count_by, get_or, length, set, slice_index, take, replicate, ◌++◌, refl, sym, ap, ◌∙◌, arith, subst, length-set}
use Rattle.std.proofs.lemmas.Bool.{cases_eq, cases_lt}
use Rattle.std.proofs.lemmas.Grind.{get_or-set_at}
use Rattle.std.proofs.lemmas.List.{get_or-replicate, get_or-set_other, length-replicate, take-set}
use Rattle.std.proofs.lemmas.List.Elements.{All-set}
use Rattle.std.proofs.lemmas.Nat.{mul-le}
use native.Mathlib.Nat.{mul_comm, pow-suc, pow-zero}
use Rattle.tso_machine.specs.Frame.{frame_of}
use Rattle.std.specs.List.{list_all, range_with_len}
use Rattle.x86_subset.specs.Conjunctions.{conjunction_of}
use Rattle.load_log.specs.Values.{AreWhole, Values, value_at}
use Rattle.outcome_conv.specs.Conditions.{Conditions}
use Rattle.outcome_conv.specs.Conds.{cond_holds}
use Rattle.frame_count.specs.Block.{Alive, AreAlike, IsBlock, IsPlace, IsRemembered, IsTask, SettledBy, block_count, block_holds, so_far}
use Rattle.frame_count.specs.Count.{IsFrameOf, frame_holds, number_holds, with_last}
use Rattle.frame_count.specs.Rows.{OthersFail}
use Rattle.frame_count.specs.declared.block.Block.{Block}
use Rattle.frame_count.specs.declared.block.Place.{Place}
use Rattle.frame_count.specs.declared.block.Task.{Task}
use Rattle.frame_count.proofs.Blocks.{alike_holds, all_at_first, dead, fails, inner_count, last_frame, pow_some, whole}
use Rattle.frame_count.proofs.Digits.{pow_step}
use Rattle.frame_count.proofs.Counts.{IsCountedTo, count_all, count_moved, count_outside}

-- A block of which no frame need be visited.

pub dead_count : (c : Conditions) (logs : List Values) (n p : ℕ) (f : List ℕ) (alive : List Bool) (from to : ℕ)
    → p ≤ length f → Alive c logs p f alive → ((j : ℕ) (d : Bool) → j < length c.ends → get_or alive j d ≡ false)
    → 0 ≡ count_by (block_holds c logs n p f) (range_with_len from (to - from))
dead_count c logs n p f alive from to l a none =
    count_outside (block_holds c logs n p f) from to (λ m _ _. dead c logs p f _ alive l a none)

pub whole_count : (c : Conditions) (logs : List Values) (n p : ℕ) (f : List ℕ) (alive : List Bool) (by : List ℕ)
    (j from to : ℕ) → p ≤ length f → Alive c logs p f alive → SettledBy c by → j < length c.ends
    → get_or alive j false ≡ true → get_or by j 0 ≤ p
    → to - from ≡ count_by (block_holds c logs n p f) (range_with_len from (to - from))
whole_count c logs n p f alive by j from to l a s lt left few =
    sym (count_all (block_holds c logs n p f) from (to - from) (λ i _. whole c logs p f _ alive by j l a s lt left few))

-- What is remembered.

pub tells_here : (c : Conditions) (logs : List Values) (n p size : ℕ) (b : Block) (f : List ℕ) (alive : List Bool)
    → IsRemembered c logs n b → b.fixed ≡ p → 1 ≤ p → p ≤ length f → IsFrameOf logs n f → Alive c logs p f alive
    → AreAlike c p b.alive alive b.iterations f → size ≡ n ^ (length f - p)
    → b.hits ≡ count_by (block_holds c logs n p f) (range_with_len 0 (size - 0))
tells_here c logs n p size b f alive kept e some low frame a alike long =
    let P : ℕ → Type 0 = λ q. 1 ≤ q → q ≤ length f → Alive c logs q f alive → AreAlike c q b.alive alive b.iterations f
    → b.hits ≡ count_by (block_holds c logs n q f) (range_with_len 0 (n ^ (length f - q))) in
    let here : P b.fixed = λ x y z w. kept.tells f alive x y frame z w in
    let z : n ^ (length f - p) ≡ size - 0 = omega arith in
    subst P e here some low a alike ∙ ap (λ k. count_by (block_holds c logs n p f) (range_with_len 0 k)) z

remembered : (c : Conditions) (logs : List Values) (n p size from to hits : ℕ) (f its : List ℕ) (alive : List Bool)
    → IsFrameOf logs n f → p ≤ length f → size ≡ n ^ (length f - p) → from ≤ to → to ≤ size → to - from ≡ size
    → Alive c logs p f alive → hits ≡ count_by (block_holds c logs n p f) (range_with_len from (to - from))
    → length its ≡ 8 → length alive ≡ 8 → ((q : ℕ) → q < length f → slice_index its q ≡ slice_index f q)
    → IsRemembered c logs n (record { fixed = p; iterations = its; alive = alive; hits = hits })
remembered c logs n p size from to hits f its alive frame low long order end all a count its_long alive_long same =
    record {
      iterations = its_long;
      alive = alive_long;
      tells = λ g other some le is_frame b alike.
          let x : length f ≡ length g = frame.one_each ∙ sym is_frame.one_each in
          let k : to - from ≡ n ^ (length g - p) = all ∙ long ∙ ap (λ z. n ^ (z - p)) x in
          let z : from ≡ 0 = omega arith in
          count
          ∙ count_moved (block_holds c logs n p f) (block_holds c logs n p g) from from (to - from)
          (λ i _. alike_holds c logs n p f g its alive other (from + i) low x a b same alike)
          ∙ ap (λ m. count_by (block_holds c logs n p g) (range_with_len from m)) k
          ∙ ap (λ m. count_by (block_holds c logs n p g) (range_with_len m (n ^ (length g - p)))) z;
    }

-- the frame of a block has as many threads as the logs
pub frame_size : (task : Task) (place : Place) (alive : List Bool) (p size : ℕ) → IsTask task
    → IsBlock task place alive p size → (p ≤ length place.frame) × (size ≡ task.n ^ (length place.frame - p))
frame_size task place alive p size t b =
    let one = b.kept.frame.one_each in
    let threads = t.threads in
    let more = b.more in
    let e : task.threads ≡ length place.frame = threads ∙ sym one in (
      omega arith,
      b.size_is ∙ ap (λ k. task.n ^ (k - p)) e,
    )

pub place_remembers : (task : Task) (place : Place) (alive : List Bool) (p size from to hits slot : ℕ) (its : List ℕ)
    (before : List Block)
    → IsTask task → IsBlock task place alive p size → from ≤ to → to ≤ size → to - from ≡ size
    → hits ≡ block_count task p place.frame from to → length its ≡ 8 → length alive ≡ 8
    → ((q : ℕ) → q < length place.frame → slice_index its q ≡ slice_index place.frame q)
    → All (IsRemembered task.conds.now task.logs.now.logs task.n) before
    → All (IsRemembered task.conds.now task.logs.now.logs task.n)
    (set before slot (record { fixed = p; iterations = its; alive = alive; hits = hits }))
place_remembers task place alive p size from to hits slot its before t b order end all count il al same kept =
    let s = frame_size task place alive p size t b in
    let new = remembered task.conds.now task.logs.now.logs task.n p size from to hits place.frame its alive
    b.kept.frame s.0 s.1 order end all b.alive_is count il al same in
    All-set (IsRemembered task.conds.now task.logs.now.logs task.n) before slot _ new kept

-- The last row.
pub last_count : (c : Conditions) (logs : List Values) (n p from to : ℕ) (f : List ℕ) → p + 1 ≡ length f → to ≤ n
    → count_by (λ m. frame_holds c logs (with_last f m)) (range_with_len from (to - from))
    ≡ count_by (block_holds c logs n p f) (range_with_len from (to - from))
last_count c logs n p from to f e le =
    count_moved (λ m. frame_holds c logs (with_last f m)) (block_holds c logs n p f) from from (to - from)
    (λ i l. ap (frame_holds c logs) (sym (last_frame n p (from + i) f e (omega arith))))

-- Conjunctions that are not left fail in the row of a frame.

pub others_fail : (c : Conditions) (logs : List Values) (n p to : ℕ) (f : List ℕ) (alive : List Bool)
    → p + 1 ≡ length f → to ≤ n → Alive c logs p f alive → OthersFail c logs to f alive
others_fail c logs n p to f alive e le a j m l none lt =
    let xs = conjunction_of c.ends c.conds j in
    let dead : list_all (so_far logs p f) xs ≡ false = sym (a j true l) ∙ none in
    ap (λ g. list_all (cond_holds (value_at logs) g) xs) (sym (last_frame n p m f e (omega arith)))
    ∙ fails logs p f (frame_of n (length f - p) m) xs (omega arith) dead

-- and where all are left, there are no others
all_left : (n j : ℕ) → get_or (replicate n true) j true ≡ true
all_left zero j = refl
all_left (suc n) zero = refl
all_left (suc n) (suc j) = all_left n j

pub none_fail : (c : Conditions) (logs : List Values) (n : ℕ) (f : List ℕ) → OthersFail c logs n f (replicate 8 true)
none_fail c logs n f j m l none lt =
    absurd (let z : true ≡ false = sym (all_left 8 j) ∙ none in cc)

-- At the start.

-- a block of which no thread is fixed tells nothing
pub none_remembered : (c : Conditions) (logs : List Values) (n : ℕ) (b : Block) → b.fixed ≡ 0
    → length b.iterations ≡ 8 → length b.alive ≡ 8 → IsRemembered c logs n b
none_remembered c logs n b none its alive = record {
  iterations = its;
  alive = alive;
  tells = λ f a one. absurd (omega arith);
}

pub first_frame : (logs : List Values) (n : ℕ) (frame : List ℕ) → 1 ≤ n → 1 ≤ length logs → AreWhole n logs
    → frame ≡ replicate (length logs) 0 → IsFrameOf logs n frame
first_frame logs n frame some thread whole e = record {
  whole = whole;
  some = thread;
  one_each = ap length e ∙ length-replicate (length logs) 0;
  below = λ k d l.
      let t = length logs in
      let long = ap length e ∙ length-replicate t 0 in
      let h : get_or frame k d ≡ 0 = ap (λ z. get_or z k d) e ∙ get_or-replicate t k 0 d (omega arith) in
      omega arith;
}

-- The blocks of one thread more.

pub row_size : (n t p size : ℕ) → size ≡ n ^ (t - p) → p + 1 ≡ t → size ≡ n
row_size n t p size h e =
    let one : t - p ≡ suc 0 = omega arith in
    h ∙ ap (λ k. n ^ k) one ∙ pow-suc n 0 ∙ ap (λ x. x * n) (pow-zero n) ∙ (omega arith)

pub step_size : (n t p size : ℕ) → 1 ≤ n → p < t → size ≡ n ^ (t - p) → size ≡ n * (size / n)
step_size n t p size some lt h =
    let k = t - (p + 1) in
    let one : t - p ≡ suc k = omega arith in
    let e = pow_step n t p size some lt h in
    h ∙ ap (λ k. n ^ k) one ∙ pow-suc n k ∙ ap (λ x. x * n) (sym e) ∙ mul_comm (size / n) n

pub step_some : (n t p size : ℕ) → 1 ≤ n → p < t → size ≡ n ^ (t - p) → 0 < size / n
step_some n t p size some lt h = rw (pow_step n t p size some lt h) (pow_some n (t - (p + 1)) some)

pub digit_below : (n step size i start at : ℕ) → size ≡ n * step → i * step + start ≡ at → at < size → i < n
digit_below n step size i start at h e lt = go (cases_lt i n)
  where
    go : (i < n) ⊎ (n ≤ i) → i < n
    go (inl l) = l
    go (inr le) = let m = mul-le n step i step le (omega arith) in absurd (omega arith)

pub set_frame : (logs : List Values) (n p i : ℕ) (f : List ℕ) → IsFrameOf logs n f → i < n → IsFrameOf logs n (set f p i)
set_frame logs n p i f h lt = record {
  whole = h.whole;
  some = h.some;
  one_each = length-set f p i ∙ h.one_each;
  below = λ k d l. go k d (let long = length-set f p i in omega arith) (cases_eq k p);
}
  where
    go : (k d : ℕ) → k < length f → (k ≡ p) ⊎ (k ≡ p → ⊥) → get_or (set f p i) k d < n
    go k d l (inl e) = rw (get_or-set_at f p k i d e (omega arith)) lt
    go k d l (inr ne) = rw (get_or-set_other f p k i d ne) (h.below k d l)

pub set_front : (p i : ℕ) (f g : List ℕ) → take p f ≡ take p g → take p (set f p i) ≡ take p g
set_front p i f g e = take-set f p i ∙ e

-- the hits of an inner block
pub inner_hits : (c : Conditions) (logs : List Values) (n t p size step i start some at hits : ℕ) (f g : List ℕ)
    → 1 ≤ n → p < t → t ≡ length f → length f ≡ length g → size ≡ n ^ (t - p) → step ≡ size / n → i < n
    → start + some ≤ step → i * step + start ≡ at → take p g ≡ take p f
    → hits ≡ count_by (block_holds c logs n (p + 1) (set g p i)) (range_with_len start (start + some - start))
    → hits ≡ count_by (block_holds c logs n p f) (range_with_len at some)
inner_hits c logs n t p size step i start some at hits f g one lt ft fg long e below fits here front h =
    let k = t - (p + 1) in
    let s : step ≡ n ^ k = e ∙ pow_step n t p size one lt long in
    let room : start + some ≤ n ^ k = omega arith in
    let place : i * n ^ k + start ≡ at = ap (λ x. i * x + start) (sym s) ∙ here in
    let z : start + some - start ≡ some = omega arith in
    let rest : length g - p ≡ suc k = omega arith in
    let low : p < length g = omega arith in
    h ∙ ap (λ m. count_by (block_holds c logs n (p + 1) (set g p i)) (range_with_len start m)) z
    ∙ sym (inner_count c logs n p i k start some at g low rest below room place)
    ∙ count_moved (block_holds c logs n p g) (block_holds c logs n p f) at at some
    (λ m _. ap (λ x. frame_holds c logs (x ++ frame_of n (length g - p) (at + m))) front
    ∙ ap (λ x. frame_holds c logs (take p f ++ frame_of n (x - p) (at + m))) (sym fg))

pub inner_block : (task : Task) (place : Place) (new : List ℕ) (now : List Bool) (p size i : ℕ) → IsTask task
    → IsPlace task place → new ≡ set place.frame p i → i < task.n → p < task.threads → (p + 1 ≡ task.threads → ⊥)
    → size ≡ task.n ^ (task.threads - p) → Alive task.conds.now task.logs.now.logs (p + 1) new now
    → IsBlock task (record { frame = new; row = place.row }) now (p + 1) (size / task.n)
inner_block task place new now p size i t k e lt more other long alive = record {
  kept = record {
    frame =
        (let P : List ℕ → Type 0 = λ f. IsFrameOf task.logs.now.logs task.n f in
        subst P (sym e) (set_frame task.logs.now.logs task.n p i place.frame k.frame lt));
    row = k.row;
  };
  more = omega arith;
  size_is = pow_step task.n task.threads p size t.some more long;
  alive_is = alive;
}

take_less : (p : ℕ) (f : List ℕ) → take p (take (suc p) f) ≡ take p f
take_less zero f = refl
take_less (suc p) [] = refl
take_less (suc p) (x ∷ f) = ap (λ l. x ∷ l) (take_less p f)

pub front_less : (p : ℕ) (f g : List ℕ) → take (p + 1) f ≡ take (p + 1) g → take p f ≡ take p g
front_less p f g e =
    let h : take (suc p) f ≡ take (suc p) g = rw (← add-one) e in
    sym (take_less p f) ∙ ap (take p) h ∙ take_less p g

-- the frame's later iterations have no say
pub same_count : (c : Conditions) (logs : List Values) (n p at some : ℕ) (f g : List ℕ) → take p f ≡ take p g
    → length f ≡ length g
    → count_by (block_holds c logs n p f) (range_with_len at some)
    ≡ count_by (block_holds c logs n p g) (range_with_len at some)
same_count c logs n p at some f g e l =
    count_moved (block_holds c logs n p f) (block_holds c logs n p g) at at some
    (λ m _. ap (λ x. frame_holds c logs (x ++ frame_of n (length f - p) (at + m))) e
    ∙ ap (λ x. frame_holds c logs (take p g ++ frame_of n (x - p) (at + m))) l)

pub counted_none : (p : ℕ → Bool) (from : ℕ) → IsCountedTo p from from 0
counted_none p from =
    let z : from - from ≡ 0 = omega arith in
    record { low = omega arith; total = sym (ap (λ k. count_by p (range_with_len from k)) z) }

pub all_alive : (c : Conditions) (logs : List Values) (f : List ℕ) → length c.ends ≤ 8
    → Alive c logs 0 f (replicate 8 true)
all_alive c logs f few j d l =
    get_or-replicate 8 j true d (omega arith) ∙ sym (all_at_first logs f (conjunction_of c.ends c.conds j))

-- the block of all frames
pub all_count : (c : Conditions) (logs : List Values) (n from some : ℕ) (f : List ℕ) → length f ≡ length logs
    → count_by (block_holds c logs n 0 f) (range_with_len from some)
    ≡ count_by (number_holds c logs n) (range_with_len from some)
all_count c logs n from some f e =
    let z : length f - 0 ≡ length logs = omega arith in
    count_moved (block_holds c logs n 0 f) (number_holds c logs n) from from some
    (λ m _. ap (λ k. frame_holds c logs (frame_of n k (from + m))) z)

-- the iteration that a loop over blocks has come to
pub loop_digit : (task : Task) (p size i start at to : ℕ) → IsTask task → p < task.threads
    → size ≡ task.n ^ (task.threads - p) → i * (size / task.n) + start ≡ at → at < to → to ≤ size → i < task.n
loop_digit task p size i start at to t more long here lt le =
    digit_below task.n (size / task.n) size i start at (step_size task.n task.threads p size t.some more long) here
    (omega arith)

pub first_block : (task : Task) (place : Place) (logs : List Values) (n size : ℕ) → IsTask task → IsPlace task place
    → task.logs.now.logs ≡ logs → task.n ≡ n → 1 ≤ length logs → size ≡ n ^ length logs
    → IsBlock task place (replicate 8 true) 0 size
first_block task place logs n size t k e m some long =
    let threads = t.threads in
    let same = ap length e in
    let z : length logs ≡ task.threads - 0 = omega arith in
    record {
      kept = k;
      more = omega arith;
      size_is = long ∙ ap (λ x. x ^ length logs) (sym m) ∙ ap (λ x. task.n ^ x) z;
      alive_is = all_alive task.conds.now task.logs.now.logs place.frame t.conjunctions;
    }
