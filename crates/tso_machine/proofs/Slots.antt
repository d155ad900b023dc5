-- The slots of a loop by their places.
use Rattle.std.proofs.Common.{◌≡◌, ℕ, zero, suc, ◌+◌, ◌-◌, ◌*◌, ◌/◌, ◌%◌, ◌<◌, ◌≤◌, Some, List, [], ◌∷◌, ◌++◌, length, slice_get, refl, sym, ap, ◌∙◌, arith, inl, inr, ◌⊎◌, zero-mul, length-append, mul-le-mul_right}
use Rattle.std.proofs.lemmas.Bool.{cases_lt}
use Rattle.std.proofs.lemmas.Nat.{div-mul-add, mod-mul-add}
use Rattle.std.proofs.lemmas.Option.{slice_get_within}
use Rattle.x86_subset.specs.declared.instr.Instr.{Instr}
use Rattle.tso_machine.specs.Part.{Slot, slots_of_body, slots_of_loop}

-- Places in lists.

pub get_left : {X : Type 0} (xs ys : List X) (i : ℕ) → i < length xs → slice_get (xs ++ ys) i ≡ slice_get xs i
get_left [] ys i h = absurd (omega arith)
get_left (x ∷ xs) ys zero h = refl
get_left (x ∷ xs) ys (suc i) h = get_left xs ys i (omega arith)

pub get_right : {X : Type 0} (xs ys : List X) (i j : ℕ) → i ≡ length xs + j → slice_get (xs ++ ys) i ≡ slice_get ys j
get_right [] ys i j h = ap (slice_get ys) (let k : i ≡ j = omega arith in k)
get_right (x ∷ xs) ys zero j h = absurd (omega arith)
get_right (x ∷ xs) ys (suc i) j h = get_right xs ys i j (omega arith)

pub record HasItem {X : Type 0} (xs : List X) (d : ℕ) : Type 0 where
  pub item : X
  pub stands : slice_get xs d ≡ Some item

pub has_item : {X : Type 0} (xs : List X) (d : ℕ) → d < length xs → HasItem xs d
has_item [] d h = absurd (omega arith)
has_item (s ∷ xs) zero h = record { item = s; stands = refl }
has_item (s ∷ xs) (suc d) h =
    let r = has_item xs d (let k : d < length xs = omega arith in k) in record { item = r.item; stands = r.stands }

-- The slots of a loop.

body_length : (n p : ℕ) (body : List Instr) → length (slots_of_body n p body) ≡ length body
body_length n p [] = refl
body_length n p (a ∷ body) = ap suc (body_length n (p + 1) body)

pub loop_length : (body : List Instr) (n : ℕ) → length (slots_of_loop body n) ≡ n * length body
loop_length body zero = sym (zero-mul (length body))
loop_length body (suc n) =
    let a = loop_length body n in
    let b = body_length n 0 body in
    length-append (slots_of_loop body n) (slots_of_body n 0 body) ∙ omega arith

pub record IsSlotAt (body : List Instr) (n d : ℕ) (s : Slot) : Type 0 where
  pub index : d ≡ s.iteration * length body + s.place
  pub within : s.place < length body
  pub early : s.iteration < n
  pub stands : slice_get body s.place ≡ Some s.action

record IsBodySlot (n p k : ℕ) (body : List Instr) (s : Slot) : Type 0 where
  iteration : s.iteration ≡ n
  place : s.place ≡ p + k
  stands : slice_get body k ≡ Some s.action

body_slot : (n p : ℕ) (body : List Instr) (k : ℕ) (s : Slot) → slice_get (slots_of_body n p body) k ≡ Some s
    → IsBodySlot n p k body s
body_slot n p [] k s h = cc
body_slot n p (a ∷ body) zero s h =
    let e : record { iteration = n; place = p; action = a } ≡ s = cc in
    let i : s.iteration ≡ n = sym (ap (λ (z : Slot). z.iteration) e) in
    let l : s.place ≡ p = sym (ap (λ (z : Slot). z.place) e) in
    record { iteration = i; place = omega arith; stands = ap (λ (z : Slot). Some z.action) e }
body_slot n p (a ∷ body) (suc k) s h =
    let r = body_slot n (p + 1) body k s h in
    let l = r.place in
    record { iteration = r.iteration; place = omega arith; stands = r.stands }

slot_at_step : (body : List Instr) (n d : ℕ) (s : Slot)
    → (slice_get (slots_of_loop body n) d ≡ Some s → IsSlotAt body n d s)
    → (d < length (slots_of_loop body n)) ⊎ (length (slots_of_loop body n) ≤ d)
    → slice_get (slots_of_loop body n ++ slots_of_body n 0 body) d ≡ Some s → IsSlotAt body (suc n) d s
slot_at_step body n d s rec (inl l) h =
    let r = rec (sym (get_left (slots_of_loop body n) (slots_of_body n 0 body) d l) ∙ h) in
    record { index = r.index; within = r.within; early = (let k = r.early in omega arith); stands = r.stands }
slot_at_step body n d s rec (inr l) h =
    let j = d - length (slots_of_loop body n) in
    let e : d ≡ length (slots_of_loop body n) + j = omega arith in
    let r = body_slot n 0 body j s (sym (get_right (slots_of_loop body n) (slots_of_body n 0 body) d j e) ∙ h) in
    let here : s.place ≡ j = (let p = r.place in omega arith) in
    let at : slice_get body s.place ≡ Some s.action = ap (slice_get body) here ∙ r.stands in
    record {
      index =
          (let f : d ≡ n * length body + s.place = (let g = loop_length body n in omega arith) in f
          ∙ ap (λ z. z * length body + s.place) (sym r.iteration));
      within = slice_get_within body s.place s.action at;
      early = (let k = r.iteration in omega arith);
      stands = at;
    }

-- the slot at a place of a loop
pub slot_at : (body : List Instr) (n d : ℕ) (s : Slot) → slice_get (slots_of_loop body n) d ≡ Some s
    → IsSlotAt body n d s
slot_at body zero d s h = cc
slot_at body (suc n) d s h = slot_at_step body n d s (slot_at body n d s) (cases_lt d (length (slots_of_loop body n))) h

pub one_index : (k i p j q : ℕ) → p < k → q < k → i * k + p ≡ j * k + q → (i ≡ j) × (p ≡ q)
one_index k i p j q a b e =
    let c : i ≡ j = sym (div-mul-add i k p a) ∙ ap (λ z. z / k) e ∙ div-mul-add j k q b in
    (c, sym (mod-mul-add i k p a) ∙ ap (λ z. z % k) e ∙ mod-mul-add j k q b)

pub index_within : (k n i p : ℕ) → i < n → p < k → i * k + p < n * k
index_within k n i p h l =
    let room : (i + 1) * k ≤ n * k = mul-le-mul_right k (let m : i + 1 ≤ n = omega arith in m) in
    omega arith

pub index_earlier : (k i p j q : ℕ) → p < k → q < k → (i < j) ⊎ ((i ≡ j) × (p < q)) → i * k + p < j * k + q
index_earlier k i p j q a b (inl h) =
    let room : (i + 1) * k ≤ j * k = mul-le-mul_right k (let m : i + 1 ≤ j = omega arith in m) in
    omega arith
index_earlier k i p j q a b (inr h) =
    let e : i ≡ j = h.0 in let l : p < q = h.1 in let m : i * k ≡ j * k = ap (λ z. z * k) e in omega arith

pub earlier_index : (k i p j q : ℕ) → p < k → q < k → i * k + p < j * k + q → (i < j) ⊎ ((i ≡ j) × (p < q))
earlier_index k i p j q a b h = go (cases_lt i j)
  where
    go : (i < j) ⊎ (j ≤ i) → (i < j) ⊎ ((i ≡ j) × (p < q))
    go (inl l) = inl l
    go (inr l) =
        let room : j * k ≤ i * k = mul-le-mul_right k l in
        let m : i ≡ j = same (cases_lt j i) in
        let e : i * k ≡ j * k = ap (λ z. z * k) m in
        inr (m, omega arith)
      where
        same : (j < i) ⊎ (i ≤ j) → i ≡ j
        same (inl g) =
            absurd (let room : (j + 1) * k ≤ i * k = mul-le-mul_right k (let m : j + 1 ≤ i = omega arith in m) in
            omega arith)
        same (inr g) = omega arith

one_slot : (a b : Slot) → a.iteration ≡ b.iteration → a.place ≡ b.place → a.action ≡ b.action → a ≡ b
one_slot a b e f g = λ i. record { iteration = e i; place = f i; action = g i }

-- the slot of a place in an iteration stands at its index
pub slot_of : (body : List Instr) (n i p : ℕ) (a : Instr) → i < n → slice_get body p ≡ Some a
    → slice_get (slots_of_loop body n) (i * length body + p) ≡ Some (record { iteration = i; place = p; action = a })
slot_of body n i p a early stands =
    let within = slice_get_within body p a stands in
    let d = i * length body + p in
    let long = loop_length body n in
    let l = index_within (length body) n i p early within in
    let s = has_item (slots_of_loop body n) d (let k : d < length (slots_of_loop body n) = omega arith in k) in
    let r = slot_at body n d s.item s.stands in
    let o = one_index (length body) i p s.item.iteration s.item.place within r.within r.index in
    let same : Some a ≡ Some s.item.action = sym stands ∙ ap (slice_get body) o.1 ∙ r.stands in
    let act : a ≡ s.item.action = cc in
    s.stands ∙ ap (λ z. Some z) (one_slot s.item (record { iteration = i; place = p; action = a }) (sym o.0) (sym o.1)
    (sym act))
