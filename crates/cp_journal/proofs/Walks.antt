-- Which frames a walk finds.
use Rattle.std.proofs.Common.{◌≡◌, ◌≤◌, ◌<◌, ◌==◌, ◌&&◌, inl, inr, ℕ, zero, suc, Bool, true, false, if◌then◌else◌, List, [], ◌∷◌, ◌++◌, length, take, drop, refl, ◌∙◌, ap, arith, append_assoc, length-append, length-drop}
use Rattle.std.specs.Int.{w64, to_be_bytes, from_be_bytes}
use Rattle.std.proofs.lemmas.Nat.{from_be_bytes-to_be_bytes_8}
use Rattle.std.proofs.lemmas.List.{take_at, drop_at}
use Rattle.std.proofs.lemmas.Bool.{cases_Bool}
use Rattle.std.proofs.lemmas.Bool.Decides.{nat_tests}
use lib.Dec.{leb}
use Rattle.cp_journal.specs.Frames.{Frame, fits, spelled, spelled_all, Gate, closed, broken, whole, frame_of, with_length, at_open, gate_at, Walk, onto, ended, walk_on, walk, frames_of}
use Rattle.cp_journal.specs.Holding.{IsLawful, AreLawful}

pub length-be8 : (n : ℕ) → length (to_be_bytes w64 n) ≡ 8
length-be8 n = refl

pub gate_at-closed : (g : ℕ) (rest : List ℕ) → (g ≡ 1 → ⊥) → gate_at (g ∷ rest) ≡ closed
unfolding gate_at
gate_at-closed g rest ne = grind (arith, nat_tests)

with_length-whole : (f : Frame) (rest : List ℕ) → IsLawful f → with_length f.tag (length f.body) (f.body ++ rest) ≡ whole f rest
with_length-whole f rest ok =
    let room : leb (length f.body) (length (f.body ++ rest)) ≡ true = let n = length-append f.body rest in grind (arith, nat_tests) in
    rw (ok.fits, room, take_at f.body rest (length f.body) refl, drop_at f.body rest (length f.body) refl)

room_for : (xs : List ℕ) → 8 ≤ length xs → leb 8 (length xs) ≡ true
room_for xs le = grind (arith, nat_tests)

behind : (tag len : ℕ) (xs : List ℕ) → leb 8 (length xs) ≡ true → from_be_bytes w64 (take 8 xs) ≡ len → at_open (tag ∷ xs) ≡ with_length tag len (drop 8 xs)
behind tag len xs room num = rw (room, num) refl

pub gate_at-whole : (f : Frame) (rest : List ℕ) → IsLawful f → gate_at (spelled f ++ rest) ≡ whole f rest
unfolding gate_at
gate_at-whole f rest ok =
    let n = length f.body in
    let be = to_be_bytes w64 n in
    let room : leb 8 (length (be ++ (f.body ++ rest))) ≡ true = let k = length-append be (f.body ++ rest) in room_for (be ++ (f.body ++ rest)) (omega (arith, k, length-be8 n)) in
    behind f.tag n (be ++ (f.body ++ rest)) room (from_be_bytes-to_be_bytes_8 n ok.short) ∙ with_length-whole f rest ok

-- a frame takes bytes
smaller_body : (tag len : ℕ) (xs : List ℕ) (f : Frame) (rest : List ℕ) → with_length tag len xs ≡ whole f rest → length rest ≤ length xs
smaller_body tag len xs f rest is = elim (cases_Bool (fits tag len && leb len (length xs))) [
  | inl holds ↦ let is_frame : frame_of tag len xs ≡ whole f rest = rw holds at is in let same : drop len xs ≡ rest = cc is_frame in omega (arith, ap length same, length-drop len xs)
  | inr fails ↦ let none : broken ≡ whole f rest = rw fails at is in absurd (cc none)
]

smaller : (bytes : List ℕ) (f : Frame) (rest : List ℕ) → gate_at bytes ≡ whole f rest → length rest < length bytes
unfolding gate_at
smaller [] f rest is = absurd (cc is)
smaller (g ∷ []) f rest is = elim (cases_Bool (g == 1)) [
  | inl holds ↦ let none : broken ≡ whole f rest = rw holds at is in absurd (cc none)
  | inr fails ↦ let none : closed ≡ whole f rest = rw fails at is in absurd (cc none)
]
smaller (g ∷ tag ∷ xs) f rest is = elim (cases_Bool (g == 1)) [
  | inl holds ↦ let open_gate : at_open (tag ∷ xs) ≡ whole f rest = rw holds at is in elim (cases_Bool (leb 8 (length xs))) [
    | inl room ↦ let has : with_length tag (from_be_bytes w64 (take 8 xs)) (drop 8 xs) ≡ whole f rest = rw room at open_gate in
        let less = smaller_body tag (from_be_bytes w64 (take 8 xs)) (drop 8 xs) f rest has in omega (arith, less, length-drop 8 xs)
    | inr short ↦ let none : broken ≡ whole f rest = rw short at open_gate in absurd (cc none)
  ]
  | inr fails ↦ let none : closed ≡ whole f rest = rw fails at is in absurd (cc none)
]

same_on : (n m : ℕ) (g : Gate) → ((f : Frame) (rest : List ℕ) → g ≡ whole f rest → walk n rest ≡ walk m rest) → walk_on g (λ rest. walk n rest) ≡ walk_on g (λ rest. walk m rest)
same_on n m closed same = refl
same_on n m broken same = refl
same_on n m (whole f rest) same = ap (onto f) (same f rest refl)

pub walk_enough : (n m : ℕ) (bytes : List ℕ) → length bytes < n → length bytes < m → walk n bytes ≡ walk m bytes
unfolding walk
walk_enough zero m bytes lt lt2 = absurd (omega arith)
walk_enough (suc n) zero bytes lt lt2 = absurd (omega arith)
walk_enough (suc n) (suc m) bytes lt lt2 = same_on n m (gate_at bytes) (λ f rest is. let less = smaller bytes f rest is in walk_enough n m rest (omega arith) (omega arith))

pub frames_of-closed : (g : ℕ) (rest : List ℕ) → (g ≡ 1 → ⊥) → frames_of (g ∷ rest) ≡ ended true
unfolding frames_of walk
frames_of-closed g rest ne = rw (gate_at-closed g rest ne)

pub frames_of-whole : (f : Frame) (rest : List ℕ) → IsLawful f → frames_of (spelled f ++ rest) ≡ onto f (frames_of rest)
unfolding frames_of walk
frames_of-whole f rest ok =
    rw (gate_at-whole f rest ok) (ap (onto f) (walk_enough (length (spelled f ++ rest)) (suc (length rest)) rest (omega (arith, length-append (spelled f) rest)) (omega arith)))

-- at a closed gate a walk ends
pub frames_of-ends : (bytes : List ℕ) (clean : Bool) → gate_at bytes ≡ (if clean then closed else broken) → frames_of bytes ≡ ended clean
unfolding frames_of walk
frames_of-ends bytes true is = rw is refl
frames_of-ends bytes false is = rw is refl

-- a walk that finds these frames first
abbrev pub onto_all : List Frame → Walk → Walk
onto_all [] w = w
onto_all (f ∷ fs) w = onto f (onto_all fs w)

pub frames_of-all : (fs : List Frame) (rest : List ℕ) → AreLawful fs → frames_of (spelled_all fs ++ rest) ≡ onto_all fs (frames_of rest)
frames_of-all [] rest ok = refl
frames_of-all (f ∷ fs) rest ok =
    ap frames_of (append_assoc (spelled f) (spelled_all fs) rest) ∙ frames_of-whole f (spelled_all fs ++ rest) ok.0 ∙ ap (onto f) (frames_of-all fs rest ok.1)

pub frames-onto_all : (fs : List Frame) (w : Walk) → (onto_all fs w).frames ≡ fs ++ w.frames
frames-onto_all [] w = refl
frames-onto_all (f ∷ fs) w = ap (λ (l : List Frame). f ∷ l) (frames-onto_all fs w)

pub clean-onto_all : (fs : List Frame) (w : Walk) → (onto_all fs w).clean ≡ w.clean
clean-onto_all [] w = refl
clean-onto_all (f ∷ fs) w = clean-onto_all fs w
