-- What a frame of a journal has for its body.
use Rattle.std.proofs.Common.{◌≡◌, ◌≤◌, ◌<◌, ◌+◌, ℕ, zero, suc, List, [], ◌∷◌, ◌++◌, Some, length, take, drop, get_or, refl, sym, ◌∙◌, ap, subst, arith, append_assoc, length-append, length-drop, take-append-drop, ◌==◌, if◌then◌else◌, inl, inr}
use Rattle.std.specs.List.{slice_get}
use Rattle.std.proofs.lemmas.List.{take_at, drop_at, drop-drop}
use Rattle.std.proofs.lemmas.Bool.{cases_Bool}
use Rattle.cp_disk.specs.declared.limits.TheConstants.{DISK_MAX}
use Rattle.cp_journal.specs.Frames.{Frame, spelled, spelled_all}
use Rattle.cp_journal.specs.Journals.{JournalState, places, end_of, AreInRange, entry_body, Lists}
use Rattle.cp_journal.specs.declared.frame.FrameAt.{FrameAt}
use Rattle.cp_journal.specs.declared.frame.TheConstants.{ENTRY}
use Rattle.cp_journal.proofs.Places.{place, length-spelled}

-- a frame stands where its place says
pub record HasBody (at : FrameAt) (f : Frame) (c : List ℕ) : Type 0 where
  pub tag : at.tag ≡ f.tag
  pub body : take at.len (drop (at.at + 10) c) ≡ f.body
  pub inside : end_of at ≤ length c

module _ (from : ℕ) (c : List ℕ) (f : Frame) (more : List ℕ) (is : drop from c ≡ spelled f ++ more) where
  after_head : drop (from + 10) c ≡ f.body ++ more
  after_head = sym (drop-drop 10 from c) ∙ ap (drop 10) is

  first_body : HasBody (place from f.tag (length f.body)) f c
  first_body = record {
    tag = refl;
    body = ap (take (length f.body)) after_head ∙ take_at f.body more (length f.body) refl;
    inside = omega (arith, ap length is, length-append (spelled f) more, length-spelled f, length-drop from c);
  }

  after_frame : drop (from + 10 + length f.body) c ≡ more
  after_frame = sym (drop-drop (length f.body) (from + 10) c) ∙ ap (drop (length f.body)) after_head ∙ drop_at f.body more (length f.body) refl

-- of frames that follow each other each stands where its place says
pub body_in : (from : ℕ) (fs : List Frame) (c rest : List ℕ) → drop from c ≡ spelled_all fs ++ rest → (n : ℕ) (at : FrameAt) → slice_get (places from fs) n ≡ Some at
    → (f : Frame) × (slice_get fs n ≡ Some f) × HasBody at f c
body_in from [] c rest is n at found = absurd (cc found)
body_in from (f ∷ fs) c rest is zero at found =
    let same : place from f.tag (length f.body) ≡ at = cc found in
    let here : drop from c ≡ spelled f ++ (spelled_all fs ++ rest) = is ∙ append_assoc (spelled f) (spelled_all fs) rest in
    (f, refl, subst (λ (k : FrameAt). HasBody k f c) same (first_body from c f (spelled_all fs ++ rest) here))
body_in from (f ∷ fs) c rest is (suc n) at found =
    let here : drop from c ≡ spelled f ++ (spelled_all fs ++ rest) = is ∙ append_assoc (spelled f) (spelled_all fs) rest in
    body_in (from + 10 + length f.body) fs c rest (after_frame from c f (spelled_all fs ++ rest) here) n at found

-- the same of the frames that a journal lists
pub listed_body : (from : ℕ) (fs : List Frame) (j : JournalState) (c : List ℕ) → Lists from fs j c → (n : ℕ) (at : FrameAt) → slice_get j.frames n ≡ Some at
    → (f : Frame) × (slice_get fs n ≡ Some f) × HasBody at f c
listed_body from fs j c lists n at found =
    let len = length (spelled_all fs) in
    body_in from fs c (drop len (drop from c)) (sym (take-append-drop len (drop from c)) ∙ ap (λ (l : List ℕ). l ++ drop len (drop from c)) lists.bytes) n at
    (ap (λ (l : List FrameAt). slice_get l n) (sym lists.frames) ∙ found)

-- what an index gives is there
pub get_is : {X : Type 0} (xs : List X) (n : ℕ) (x : X) → n < length xs → x ≡ get_or xs n x → slice_get xs n ≡ Some x
get_is [] n x lt is = absurd (omega arith)
get_is (y ∷ ys) zero x lt is = ap (λ z. Some z) (sym is)
get_is (y ∷ ys) (suc n) x lt is = get_is ys n x (omega arith) is

-- each ends within the most bytes of a file
pub in_range_at : (fs : List FrameAt) (n : ℕ) (f : FrameAt) → AreInRange fs → slice_get fs n ≡ Some f → end_of f ≤ DISK_MAX
in_range_at [] n f all found = absurd (cc found)
in_range_at (g ∷ fs) zero f all found = let same : g ≡ f = cc found in subst (λ (k : FrameAt). end_of k ≤ DISK_MAX) same all.0
in_range_at (g ∷ fs) (suc n) f all found = in_range_at fs n f all.1 found

-- what is read of an entry is its body, and of a frame that isn't an entry nothing
pub given_body : (from : ℕ) (fs : List Frame) (j : JournalState) (c : List ℕ) (n : ℕ) (at : FrameAt) (f : Frame) (len : ℕ) → slice_get j.frames n ≡ Some at → len ≡ (if at.tag == ENTRY then at.len else 0) → Lists from fs j c → slice_get fs n ≡ Some f
    → take len (drop (at.at + 10) c) ≡ entry_body f
given_body from fs j c n at f len found is lists here =
    let b = listed_body from fs j c lists n at found in
    let same : b.0 ≡ f = cc (b.1, here) in
    let given : len ≡ (if f.tag == ENTRY then at.len else 0) = is ∙ ap (λ (t : ℕ). if t == ENTRY then at.len else 0) (b.2.tag ∙ ap (λ (g : Frame). g.tag) same) in
    let body : take at.len (drop (at.at + 10) c) ≡ f.body = b.2.body ∙ ap (λ (g : Frame). g.body) same in
    ap (λ (k : ℕ). take k (drop (at.at + 10) c)) given ∙ elim (cases_Bool (f.tag == ENTRY)) [
      | inl holds ↦ rw holds body
      | inr fails ↦ rw fails refl
    ]
