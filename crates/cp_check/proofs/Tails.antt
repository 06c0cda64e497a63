-- The items that frames hold from one of them on.
use Rattle.std.proofs.Common.{◌≡◌, ◌<◌, ℕ, suc, List, [], ◌∷◌, ◌++◌, length, drop, ap, arith}
use Rattle.cp_journal.specs.Begun.{checkpoint}
use Rattle.cp_journal.specs.Frames.{Frame}
use Rattle.cp_frame.specs.Items.{Item, a_checkpoint, AreHeld}

-- a checkpoint among the items is a frame among the frames
pub record HeldAt (n : ℕ) (fs : List Frame) (body : List ℕ) : Type 0 where
  pub le : n < length fs
  pub are : drop n fs ≡ checkpoint body ∷ drop (suc n) fs

pub held-at : (version : ℕ) (fs : List Frame) (before : List Item) (body : List ℕ) (after : List Item) → AreHeld version fs (before ++ a_checkpoint body ∷ after) → HeldAt (length before) fs body
held-at version [] [] body after held = absurd held
held-at version (f ∷ fs) [] body after held = record { le = omega arith; are = ap (λ (g : Frame). g ∷ fs) held.0 }
held-at version [] (i ∷ before) body after held = absurd held
held-at version (f ∷ fs) (i ∷ before) body after held = let rest = held-at version fs before body after held.1 in let lt = rest.le in record { le = omega (arith, lt); are = rest.are }

-- the frames that hold the items from a place on
pub held-drop : (version : ℕ) (fs : List Frame) (before after : List Item) → AreHeld version fs (before ++ after) → AreHeld version (drop (length before) fs) after
held-drop version fs [] after held = held
held-drop version [] (i ∷ before) after held = absurd held
held-drop version (f ∷ fs) (i ∷ before) after held = held-drop version fs before after held.1
