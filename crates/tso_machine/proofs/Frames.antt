-- Lemmas on frames and their numbers.
use Rattle.std.proofs.Common.{◌≡◌, ℕ, zero, suc, ◌+◌, ◌*◌, ◌/◌, ◌%◌, ◌^◌, ◌<◌, ◌≤◌, List, [], ◌∷◌, ◌++◌, length, map, refl, sym, ap, ◌∙◌, arith, mul-le-mul_right, mod-eq_of_lt, ◌⊎◌, inl, inr, subst}
use Rattle.std.proofs.Math.Nat.{div-lt_iff_lt-mul, mul_assoc, mul_comm, mul-zero, pow-suc, pow-zero}
use Rattle.std.proofs.lemmas.List.Elements.{All-from_recursion, recursion_from_All}
use Rattle.std.proofs.lemmas.Nat.{div-mul-add, mod-mul-add, mod_below}
use Rattle.std.specs.List.{AllByRecursion as Each, range_with_len}
use Rattle.tso_machine.specs.Frame.{FramesHaveNumbers, NumbersHaveFrames, frame_number, frame_of, frames_of}
use Rattle.perp_base.proofs.Lists.{Among, among_append_right}

pow_pos : (n t : ℕ) → 1 ≤ n → 1 ≤ n ^ t
pow_pos n zero h = let e = pow-zero n in omega arith
pow_pos n (suc t) h =
    let e = pow-suc n t in
    let r = pow_pos n t h in
    let s : 1 * n ≤ n ^ t * n = mul-le-mul_right n r in
    omega arith

-- a number is below n ^ t
pub number_below : (n : ℕ) (f : List ℕ) → Each (λ i. i < n) f → frame_number n f < n ^ length f
number_below n [] h = let e = pow-zero n in omega arith
number_below n (i ∷ is) h =
    let r = number_below n is h.1 in
    let e = pow-suc n (length is) in
    let l : i < n = h.0 in
    let s : (i + 1) * n ^ length is ≤ n * n ^ length is = mul-le-mul_right (n ^ length is)
    (let k : i + 1 ≤ n = omega arith in k) in
    omega arith

-- a division by a factor of the first summand
div_shift : (d q r : ℕ) → 1 ≤ d → (q * d + r) / d ≡ q + r / d
div_shift d q r h =
    let e : q * d + r ≡ (q + r / d) * d + r % d = omega arith in
    ap (λ m. m / d) e ∙ div-mul-add (q + r / d) d (r % d) (mod_below r d h)

mod_shift : (n a b : ℕ) → 1 ≤ n → (a * n + b) % n ≡ b % n
mod_shift n a b h =
    let e : a * n + b ≡ (a + b / n) * n + b % n = omega arith in
    ap (λ m. m % n) e ∙ mod-mul-add (a + b / n) n (b % n) (mod_below b n h)

-- what stands above the frame's digits does not count
frame_shift : (n t a r : ℕ) → 1 ≤ n → frame_of n t (a * n ^ t + r) ≡ frame_of n t r
frame_shift n zero a r h = refl
frame_shift n (suc t) a r h =
    let cut : a * n ^ suc t + r ≡ a * n * n ^ t + r = ap (λ z. a * z + r) (pow-suc n t ∙ mul_comm (n ^ t) n)
    ∙ ap (λ z. z + r) (sym (mul_assoc a n (n ^ t))) in
    let digit : (a * n ^ suc t + r) / n ^ t % n ≡ r / n ^ t % n =
    ap (λ m. m / n ^ t % n) cut ∙ ap (λ m. m % n) (div_shift (n ^ t) (a * n) r (pow_pos n t h))
    ∙ mod_shift n a (r / n ^ t) h in
    let rest : frame_of n t (a * n ^ suc t + r) ≡ frame_of n t r = ap (frame_of n t) cut
    ∙ frame_shift n t (a * n) r h in
    λ i. digit i ∷ rest i

-- the frame of a frame's number
pub frame_back : (n : ℕ) (f : List ℕ) → Each (λ i. i < n) f → frame_of n (length f) (frame_number n f) ≡ f
frame_back n [] h = refl
frame_back n (i ∷ is) h =
    let l : i < n = h.0 in
    let one : 1 ≤ n = omega arith in
    let t = length is in
    let r = frame_number n is in
    let digit : (i * n ^ t + r) / n ^ t % n ≡ i = ap (λ m. m % n) (div-mul-add i (n ^ t) r (number_below n is h.1))
    ∙ mod-eq_of_lt l in
    let rest : frame_of n t (i * n ^ t + r) ≡ is = frame_shift n t i r one ∙ frame_back n is h.1 in
    λ j. digit j ∷ rest j

pub frame_long : (n t number : ℕ) → length (frame_of n t number) ≡ t
frame_long n zero number = refl
frame_long n (suc t) number = ap suc (frame_long n t number)

pub frame_each : (n t number : ℕ) → 1 ≤ n → Each (λ i. i < n) (frame_of n t number)
frame_each n zero number h = tt
frame_each n (suc t) number h = (mod_below (number / n ^ t) n h, frame_each n t number h)

-- where there is a frame with a thread there is an iteration
some_iteration : (n t number : ℕ) → number < n ^ suc t → 1 ≤ n
some_iteration zero t number lt = absurd (let e = pow-suc 0 t in let z = mul-zero (0 ^ t) in omega arith)
some_iteration (suc n) t number lt = omega arith

frame_each_below : (n t number : ℕ) → number < n ^ t → Each (λ i. i < n) (frame_of n t number)
frame_each_below n zero number lt = tt
frame_each_below n (suc t) number lt = frame_each n (suc t) number (some_iteration n t number lt)

-- the number of a number's frame: the first thread's digit, and after it the remainder's
pub number_back : (n t number : ℕ) → number < n ^ t → frame_number n (frame_of n t number) ≡ number
number_back n zero number lt = let e = pow-zero n in omega arith
number_back n (suc t) number lt =
    let one = some_iteration n t number lt in
    let step = pow_pos n t one in
    let d = number / n ^ t in
    let r = number % n ^ t in
    let whole : number ≡ d * n ^ t + r = omega arith in
    let e = pow-suc n t in
    let digit : d < n = (div-lt_iff_lt-mul step).1 (let l : number < n * n ^ t = omega (arith, mul_comm n (n ^ t)) in l)
    in
    let rest : frame_number n (frame_of n t number) ≡ r =
    ap (λ m. frame_number n (frame_of n t m)) whole
    ∙ ap (frame_number n) (frame_shift n t d r one)
    ∙ number_back n t r (mod_below number (n ^ t) step) in
    let high : d % n * n ^ length (frame_of n t number) ≡ d * n ^ t =
    ap (λ k. d % n * n ^ k) (frame_long n t number) ∙ ap (λ k. k * n ^ t) (mod-eq_of_lt digit) in
    omega (arith, high, rest, whole)

pub frames_have_numbers_lem : FramesHaveNumbers
frames_have_numbers_lem n frame h =
    let each = recursion_from_All (λ i. i < n) frame h in
    record { below = number_below n frame each; back = frame_back n frame each }

pub numbers_have_frames_lem : NumbersHaveFrames
numbers_have_frames_lem n t number lt = record {
  threads = frame_long n t number;
  below = All-from_recursion (λ i. i < n) (frame_of n t number) (frame_each_below n t number lt);
  back = number_back n t number lt;
}

pub map_cut : {X Y : Type 0} (f : X → Y) (x : X) (fs cs : List X) → map f (fs ++ x ∷ cs) ≡ map f fs ++ f x ∷ map f cs
map_cut f x [] cs = refl
map_cut f x (y ∷ fs) cs = ap (λ l. f y ∷ l) (map_cut f x fs cs)

among_map : {X Y : Type 0} (f : X → Y) (x : X) (xs : List X) → Among x xs → Among (f x) (map f xs)
among_map f x xs a = record {
  front = map f a.front;
  rest = map f a.rest;
  whole = ap (map f) a.whole ∙ map_cut f x a.front a.rest;
}

range_step : (a n m : ℕ) → (a < m → Among m (range_with_len (a + 1) n)) → (a ≡ m) ⊎ (a < m)
    → Among m (range_with_len a (suc n))
range_step a n m r (inl e) = record {
  front = [];
  rest = range_with_len (a + 1) n;
  whole = ap (λ k. k ∷ range_with_len (a + 1) n) e;
}
range_step a n m r (inr l) = among_append_right m (a ∷ []) (range_with_len (a + 1) n) (r l)

among_range : (a n m : ℕ) → a ≤ m → m < a + n → Among m (range_with_len a n)
among_range a zero m h l = absurd (omega arith)
among_range a (suc n) m h l =
    range_step a n m (λ k. among_range (a + 1) n m (omega arith) (omega arith))
    (let s : (a ≡ m) ⊎ (a < m) = grind arith in s)

-- each frame is among the frames
pub among_frames : (n : ℕ) (f : List ℕ) → Each (λ i. i < n) f → Among f (frames_of n (length f))
among_frames n f h =
    let a = among_map (frame_of n (length f)) (frame_number n f) (range_with_len 0 (n ^ length f))
    (among_range 0 (n ^ length f) (frame_number n f) (omega arith) (let l = number_below n f h in omega arith)) in
    let P : List ℕ → Type 0 = λ g. Among g (frames_of n (length f)) in
    subst P (frame_back n f h) a
