-- What the frames of a file hold, and what a crash leaves of them.
use Rattle.std.specs.Prelude.{ℕ, ◌+◌, ◌^◌, ◌≡◌, ◌≤◌, ◌<◌, ◌⊎◌, true, List, [], ◌∷◌, ◌++◌, length, take, drop, get_or}
use Rattle.cp_disk.specs.Views.{View, Only}
use Rattle.cp_journal.specs.Frames.{Frame, fits, spelled, spelled_all, frames_of}

-- A frame that a file may have: its tag and its length fit, and the length has room in eight bytes.
pub record IsLawful (f : Frame) : Type 0 where
  pub fits : fits f.tag (length f.body) ≡ true
  pub short : length f.body < 2 ^ 64

-- A file may have each of these frames.
abbrev pub AreLawful : List Frame → Type 0
AreLawful [] = Unit {0}
AreLawful (f ∷ fs) = IsLawful f × AreLawful fs

-- From this offset on the bytes are these frames and then a closed gate.
pub record HasFrames (from : ℕ) (fs : List Frame) (c : List ℕ) : Type 0 where
  pub frames : (frames_of (drop from c)).frames ≡ fs
  pub clean : (frames_of (drop from c)).clean ≡ true

-- The file begins so, and then come these frames and a closed gate.
pub record Stands (head : List ℕ) (fs : List Frame) (c : List ℕ) : Type 0 where
  pub front : take (length head) c ≡ head
  pub frames : HasFrames (length head) fs c

-- A closed gate stands here, and nothing is pending but after it.
pub record IsAtRest (at : ℕ) (v : View) : Type 0 where
  pub inside : at < length v.content
  pub closed : get_or v.content at 0 ≡ 1 → ⊥
  pub settled : (c : List ℕ) → v.images c → take (at + 1) c ≡ take (at + 1) v.content

-- The content begins so, and then come these frames, up to the closed gate at `next`; nothing is pending but after that.
pub record Holds (head : List ℕ) (fs : List Frame) (next : ℕ) (v : View) : Type 0 where
  pub lawful : AreLawful fs
  pub size : next ≡ length head + length (spelled_all fs)
  pub front : take next v.content ≡ head ++ spelled_all fs
  pub at_rest : IsAtRest next v

-- Up to this offset the file is as this one was, and then come these frames and a closed gate.
pub record Continues (at : ℕ) (old : List ℕ) (fs : List Frame) (c : List ℕ) : Type 0 where
  pub front : take at c ≡ take at old
  pub inside : at ≤ length c
  pub frames : HasFrames at fs c

-- Up to this offset the file is as this one was, and then comes this frame or none, and a closed gate.
abbrev pub IsBeforeOrAfter : ℕ → List ℕ → Frame → List ℕ → Type 0
IsBeforeOrAfter at old f c = Continues at old [] c ⊎ Continues at old (f ∷ []) c

-- This frame was added at an offset, up to the closed gate at `to`, and a crash leaves nothing else.
pub record IsAdded (at : ℕ) (f : Frame) (old : List ℕ) (to : ℕ) (w : View) : Type 0 where
  pub size : to ≡ at + length (spelled f)
  pub front : take to w.content ≡ take at old ++ spelled f
  pub at_rest : IsAtRest to w
  pub durable : Only w.content w.images
