-- Frames: one iteration number for each thread, after PerpLE (Melissaris, Markakis, Shaw and Martonosi, MICRO 2020).
-- That each thread has one, whether or not it reads, is this project's own rule.
use Rattle.std.specs.Prelude.{◌≡◌, ℕ, zero, suc, ◌+◌, ◌*◌, ◌/◌, ◌%◌, ◌^◌, ◌<◌, All, List, [], ◌∷◌, length, map}
use Rattle.std.specs.List.{range_with_len}

-- the number of a frame f: f(0)*n^(t-1) + .. + f(t-1)
abbrev pub frame_number : ℕ → List ℕ → ℕ
frame_number n [] = 0
frame_number n (i ∷ is) = i * n ^ length is + frame_number n is

-- the frame of t threads with this number
abbrev pub frame_of : ℕ → ℕ → ℕ → List ℕ
frame_of n zero number = []
frame_of n (suc t) number = number / n ^ t % n ∷ frame_of n t number

-- all frames of t threads and n iterations, in rising order of their numbers
abbrev pub frames_of : ℕ → ℕ → List (List ℕ)
frames_of n t = map (frame_of n t) (range_with_len 0 (n ^ t))

-- the frame has a number below n^t, where t is the number of its threads, and is the frame with this number
pub record HasNumber (n : ℕ) (frame : List ℕ) : Type 0 where
  pub below : frame_number n frame < n ^ length frame
  pub back : frame_of n (length frame) (frame_number n frame) ≡ frame

-- the number has a frame of t threads, each in an iteration below n, and is the number of this frame
pub record HasFrame (n t number : ℕ) : Type 0 where
  pub threads : length (frame_of n t number) ≡ t
  pub below : All (λ i. i < n) (frame_of n t number)
  pub back : frame_number n (frame_of n t number) ≡ number

-- law: each frame of iterations below n has a number
abbrev pub FramesHaveNumbers : Type 0
FramesHaveNumbers = (n : ℕ) (frame : List ℕ) → All (λ i. i < n) frame → HasNumber n frame

-- law: each number below n^t has a frame; so `frames_of` has each frame once
abbrev pub NumbersHaveFrames : Type 0
NumbersHaveFrames = (n t number : ℕ) → number < n ^ t → HasFrame n t number
