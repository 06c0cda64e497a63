-- Where frames stand that follow each other.
use Rattle.std.proofs.Common.{◌≡◌, ◌≤◌, ◌+◌, ℕ, List, [], ◌∷◌, ◌++◌, length, sym, ◌∙◌, ap, subst, arith, length-append}
use Rattle.std.specs.Int.{w64, to_be_bytes}
use Rattle.cp_disk.specs.declared.limits.TheConstants.{DISK_MAX}
use Rattle.cp_journal.specs.Frames.{Frame, spelled, spelled_all}
use Rattle.cp_journal.specs.Journals.{places, end_of, AreInRange}
use Rattle.cp_journal.specs.declared.frame.FrameAt.{FrameAt}
use Rattle.cp_journal.proofs.Walks.{length-be8}

-- how long a frame is
pub length-spelled : (f : Frame) → length (spelled f) ≡ 10 + length f.body
length-spelled f = omega (arith, length-append (to_be_bytes w64 (length f.body)) f.body, length-be8 (length f.body))

-- the place of one frame
abbrev pub place : ℕ → ℕ → ℕ → FrameAt
place at tag len = record { at = at; tag = tag; len = len }

-- one frame more
pub places-push : (from : ℕ) (fs : List Frame) (f : Frame) → places from (fs ++ f ∷ []) ≡ places from fs ++ place (from + length (spelled_all fs)) f.tag (length f.body) ∷ []
places-push from [] f = ap (λ (k : ℕ). place k f.tag (length f.body) ∷ []) (let e : from ≡ from + 0 = omega arith in e)
places-push from (g ∷ fs) f =
    let next = from + 10 + length g.body in
    let same : next + length (spelled_all fs) ≡ from + length (spelled_all (g ∷ fs)) = omega (arith, length-append (spelled g) (spelled_all fs), length-spelled g) in
    ap (λ (l : List FrameAt). place from g.tag (length g.body) ∷ l) (places-push next fs f ∙ ap (λ (k : ℕ). places next fs ++ place k f.tag (length f.body) ∷ []) same)

-- one frame more within the most bytes of a file
pub in_range-push : (fs : List FrameAt) (f : FrameAt) → AreInRange fs → end_of f ≤ DISK_MAX → AreInRange (fs ++ f ∷ [])
in_range-push [] f all one = (one, tt)
in_range-push (g ∷ fs) f all one = (all.0, in_range-push fs f all.1 one)

pub in_range-pushed : (old new : List FrameAt) (at tag len : ℕ) → new ≡ old ++ place at tag len ∷ [] → AreInRange old → at + 10 + len ≤ DISK_MAX → AreInRange new
in_range-pushed old new at tag len pushed all room = subst AreInRange (sym pushed) (in_range-push old (place at tag len) all room)
