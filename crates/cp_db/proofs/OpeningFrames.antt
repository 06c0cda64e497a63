-- What the frames of a file that is opened hold.
use Rattle.std.proofs.Common.{◌≡◌, ◌<◌, ◌≤◌, ◌+◌, ◌∙◌, ◌==◌, ℕ, zero, suc, true, false, List, [], ◌∷◌, ◌++◌, inl, inr, length, take, drop, get_or, refl, sym, ap, subst, arith, eq-eqb, ne_eqb, length-drop}
use Rattle.std.proofs.lemmas.Bool.{eqb-true}
use Rattle.std.proofs.lemmas.Option.{slice_get-get_or, slice_get_within, get_or_from_slice_get}
use Rattle.std.proofs.Math.Seq.{take-suc}
use Rattle.std.specs.List.{slice_get}
use Rattle.std.specs.declared.option.Option.TheVariants.{Some}
use Rattle.cp_format.specs.Formats.{Reads}
use Rattle.cp_format.specs.declared.fault.FormatFault.TheVariants.{BadByte}
use Rattle.cp_journal.specs.Frames.{Frame}
use Rattle.cp_journal.specs.Holding.{IsLawful, AreLawful}
use Rattle.cp_journal.specs.Journals.{JournalState, Lists, entry_body, places}
use Rattle.cp_journal.specs.declared.frame.FrameAt.{FrameAt}
use Rattle.cp_journal.specs.declared.frame.TheConstants.{ENTRY, CHECKPOINT}
use Rattle.cp_journal.proofs.Bodies.{listed_body}
use Rattle.cp_frame.specs.Entries.{WrittenEntry, entry_format}
use Rattle.cp_frame.specs.Faults.{FaultOf}
use Rattle.cp_frame.proofs.EntryForms.{plain_entry}
use Rattle.cp_frame.specs.Items.{Item, an_entry, a_checkpoint, IsHeld, IsOfVersion}

-- where reading stops, or goes on after a spelling, the bytes are no entry's spelling
pub no_spelling : (bytes : List ℕ) (n : ℕ) → FaultOf entry_format bytes (BadByte n) → (w : WrittenEntry) → Reads entry_format bytes w [] → ⊥
no_spelling bytes n (inl stops) w r = stops.none w [] r
no_spelling bytes n (inr more) w r =
    let reads = more.1 in
    let lt = more.2 in
    let same = plain_entry more.0 w (drop n bytes) [] reads.fit r.fit (sym reads.is ∙ r.is) in
    omega (arith, lt, ap length same.1, length-drop n bytes)

-- ---- what a frame that a journal lists is

module _ (from : ℕ) (fs : List Frame) (j : JournalState) (c : List ℕ) (lists : Lists from fs j c) (n : ℕ) (at : FrameAt) (f : Frame) (found : slice_get j.frames n ≡ Some at) (here : slice_get fs n ≡ Some f) where
  -- the journal has its tag
  pub listed_tag : at.tag ≡ f.tag
  listed_tag =
      let b = listed_body from fs j c lists n at found in
      let same : b.0 ≡ f = cc (b.1, here) in
      b.2.tag ∙ ap (λ (g : Frame). g.tag) same

-- the bytes of the frame of an entry
pub entry_bytes_are : (f : Frame) (bytes : List ℕ) → f.tag ≡ ENTRY → bytes ≡ entry_body f → f.body ≡ bytes
entry_bytes_are f bytes tag are = let e : (f.tag == ENTRY) ≡ true = eq-eqb f.tag ENTRY tag in sym (are ∙ (rw e refl))

-- and, of an entry, its bytes
pub entry_read : (from : ℕ) (fs : List Frame) (j : JournalState) (c : List ℕ) (n : ℕ) (at : FrameAt) (f : Frame) (bytes : List ℕ) → Lists from fs j c → slice_get j.frames n ≡ Some at → slice_get fs n ≡ Some f → at.tag ≡ ENTRY → bytes ≡ entry_body f
    → (f.tag ≡ ENTRY) × (f.body ≡ bytes)
entry_read from fs j c n at f bytes lists found here is are = let tag = sym (listed_tag from fs j c lists n at f found here) ∙ is in (tag, entry_bytes_are f bytes tag are)

pub lawful_at : (fs : List Frame) (n : ℕ) (f : Frame) → AreLawful fs → slice_get fs n ≡ Some f → IsLawful f
lawful_at [] n f all here = absurd (cc here)
lawful_at (g ∷ fs) zero f all here = let same : g ≡ f = cc here in subst IsLawful same all.0
lawful_at (g ∷ fs) (suc n) f all here = lawful_at fs n f all.1 here

-- a lawful frame that is none of an entry is one of a checkpoint
pub checkpoint_is : (f : Frame) → IsLawful f → (f.tag ≡ ENTRY → ⊥) → f ≡ record { tag = CHECKPOINT; body = f.body }
checkpoint_is f lawful other =
    let no : (f.tag == ENTRY) ≡ false = ne_eqb f.tag ENTRY other in
    let is : (f.tag == CHECKPOINT) ≡ true = rw no at lawful.fits in
    ap (λ (t : ℕ). record { tag = t; body = f.body }) (eqb-true f.tag CHECKPOINT is)

-- ---- what a frame of an entry holds

-- the entry that its body spells, and nothing else
pub holds_entry : (v : ℕ) (f : Frame) (w : WrittenEntry) (i : Item) → f.tag ≡ ENTRY → Reads entry_format f.body w [] → IsHeld v f i → (i ≡ an_entry w) × IsOfVersion v w
holds_entry v f w (an_entry x) tag reads held =
    let same = plain_entry x w [] [] held.body.fit reads.fit (sym held.body.is ∙ reads.is) in
    (ap an_entry same.0, subst (IsOfVersion v) same.0 held.allowed)
holds_entry v f w (a_checkpoint body) tag reads held = let tags : ENTRY ≡ CHECKPOINT = sym tag ∙ ap (λ (g : Frame). g.tag) held in absurd (omega (arith, tags))

-- nothing, where it spells none
pub holds_none : (v : ℕ) (f : Frame) (i : Item) → f.tag ≡ ENTRY → ((w : WrittenEntry) → Reads entry_format f.body w [] → ⊥) → IsHeld v f i → ⊥
holds_none v f (an_entry x) tag none held = none x held.body
holds_none v f (a_checkpoint body) tag none held = let tags : ENTRY ≡ CHECKPOINT = sym tag ∙ ap (λ (g : Frame). g.tag) held in omega (arith, tags)

-- ---- which frames there are

length-places : (from : ℕ) (fs : List Frame) → length (places from fs) ≡ length fs
length-places from [] = refl
length-places from (f ∷ fs) = ap suc (length-places (from + 10 + length f.body) fs)

module _ (from : ℕ) (fs : List Frame) (j : JournalState) (c : List ℕ) (lists : Lists from fs j c) where
  -- a journal lists as many frames as there are
  pub listed_length : length j.frames ≡ length fs
  listed_length = ap length lists.frames ∙ length-places from fs

  -- of each number there is one
  pub listed_frame : (n : ℕ) → n < length j.frames → (f : Frame) × (slice_get fs n ≡ Some f)
  listed_frame n lt = let here : n < length fs = omega (arith, lt, listed_length) in let none : Frame = record { tag = 0; body = [] } in (get_or fs n none, slice_get-get_or fs n none here)

  -- a first one, where there are any
  pub listed_first : 1 ≤ length j.frames → (f : Frame) × (rest : List Frame) × (fs ≡ f ∷ rest)
  listed_first some = of fs (omega (arith, some, listed_length))
    where
      of : (gs : List Frame) → 1 ≤ length gs → (f : Frame) × (rest : List Frame) × (gs ≡ f ∷ rest)
      of [] none = absurd (omega (arith, none))
      of (f ∷ rest) one = (f, rest, refl)

-- the frames up to one more
pub taken_more : {X : Type 0} (xs : List X) (n : ℕ) (x : X) → slice_get xs n ≡ Some x → take (n + 1) xs ≡ take n xs ++ x ∷ []
taken_more {X = X} xs n x here =
    let lt = slice_get_within xs n x here in
    let is = get_or_from_slice_get xs n x x here in
    let e : n + 1 ≡ suc n = omega arith in
    ap (λ (k : ℕ). take k xs) e ∙ take-suc xs n x lt ∙ ap (λ (y : X). take n xs ++ y ∷ []) is
