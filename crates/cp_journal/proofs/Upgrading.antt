-- What stays of a file when its version changes.
use Rattle.std.proofs.Common.{◌≡◌, ◌≤◌, ◌<◌, ◌+◌, ◌-◌, ◌==◌, inl, inr, ⊎_elim, ℕ, if◌then◌else◌, Option, List, [], ◌∷◌, ◌++◌, length, take, drop, get_or, sym, ◌∙◌, ap, subst, arith, append_assoc, length-append, length-take, length-drop, take-append-drop}
use Rattle.std.proofs.lemmas.List.{take_at, drop_at, drop-drop, drop-take, take-take, take-append-le, drop-append-le, get_or-take, get_or-drop, get_or_at}
use Rattle.std.proofs.lemmas.Bool.{cases_Bool}
use Rattle.cp_disk.specs.Views.{View, Only, ViewSteps, ViewKeeps}
use Rattle.cp_disk.specs.Writes.{Torn}
use Rattle.cp_journal.specs.Frames.{Frame, spelled_all, frames_of}
use Rattle.cp_journal.specs.Headers.{slot_in, header_in, IsSlot, IsFront, IsHeader}
use Rattle.cp_journal.specs.Holding.{HasFrames, IsAtRest, Stands, Holds}
use Rattle.cp_journal.specs.Journals.{JournalState, places, Describes}
use Rattle.cp_journal.specs.Upgrading.{upgraded, HasOtherVersion, SaysHeader, with_version, SaysInAVersion, StandsInAVersion}
use Rattle.cp_journal.specs.declared.header.Header.{Header}
use Rattle.cp_journal.specs.declared.header.Slot.{Slot}
use Rattle.cp_journal.specs.declared.limits.TheConstants.{HEADER_SIZE}
use Rattle.cp_journal.proofs.Adding.{shorter_front, front_inside}
use Rattle.cp_journal.proofs.Standing.{holds_images, describes}

-- a step after which each file has a property
pub steps_keep : (Step : List ℕ → List ℕ → Type 0) (P : List ℕ → Type 0) (v w : View) → ViewSteps Step v w → ((d c : List ℕ) → v.images d → Step d c → P c) → ViewKeeps P v w
steps_keep Step P v w steps next = record {
  later = steps.later;
  since = λ t c le h. ⊎_elim (λ past. inl past) (λ now. inr (next now.0 c now.1 now.2)) (steps.since t c le h);
  now = λ c h. let from = steps.now c h in next from.0 c from.1 from.2;
}

-- a step that is also another one
pub steps_wider : (Step Other : List ℕ → List ℕ → Type 0) (v w : View) → ViewSteps Step v w → ((d c : List ℕ) → v.images d → Step d c → Other d c) → ViewSteps Other v w
steps_wider Step Other v w steps wider = record {
  later = steps.later;
  since = λ t c le h. ⊎_elim (λ past. inl past) (λ now. inr (now.0, now.1, wider now.0 c now.1 now.2)) (steps.since t c le h);
  now = λ c h. let from = steps.now c h in (from.0, from.1, wider from.0 c from.1 from.2);
}

module _ (old new : List ℕ) (other : HasOtherVersion old new) where
  -- after the gate of the version all bytes are the same
  pub other_drop : (from : ℕ) → 6 < from → drop from new ≡ drop from old
  other_drop from lt =
      let n = from - 7 in
      let is : 7 + n ≡ from = omega arith in
      ap (λ (k : ℕ). drop k new) (sym is) ∙ sym (drop-drop n 7 new) ∙ ap (drop n) other.after ∙ drop-drop n 7 old ∙ ap (λ (k : ℕ). drop k old) is

  -- and so is a byte after it
  pub other_after : (i : ℕ) → 6 < i → get_or new i 0 ≡ get_or old i 0
  other_after i lt =
      let here : i + 0 ≡ i = omega arith in
      ap (λ (k : ℕ). get_or new k 0) (sym here) ∙ sym (get_or-drop i new 0 0) ∙ ap (λ (l : List ℕ). get_or l 0 0) (other_drop i lt) ∙ get_or-drop i old 0 0 ∙ ap (λ (k : ℕ). get_or old k 0) here

  -- and a byte before it
  pub other_before : (i : ℕ) → i < 6 → get_or new i 0 ≡ get_or old i 0
  other_before i lt = sym (get_or-take 6 new i 0 lt) ∙ ap (λ (l : List ℕ). get_or l i 0) other.before ∙ get_or-take 6 old i 0 lt

  -- the same of the first bytes of the two files
  pub other_take : (n : ℕ) → 6 < n → HasOtherVersion (take n old) (take n new)
  other_take n lt =
      let k = n - 7 in
      let is : 7 + k ≡ n = omega arith in
      let back = λ (l : List ℕ). let e : drop 7 (take n l) ≡ take k (drop 7 l) = ap (λ (m : ℕ). drop 7 (take m l)) (sym is) ∙ drop-take 7 k l in e in
      record {
        before = take-take 6 n new (omega arith) ∙ other.before ∙ sym (take-take 6 n old (omega arith));
        after = back new ∙ ap (take k) other.after ∙ sym (back old);
        size = omega (arith, length-take n new, length-take n old, other.size);
      }

  -- the frames from an offset after it are the same
  pub other_frames : (from : ℕ) (fs : List Frame) → 6 < from → HasFrames from fs old → HasFrames from fs new
  other_frames from fs lt has = record {
    frames = ap (λ (l : List ℕ). (frames_of l).frames) (other_drop from lt) ∙ has.frames;
    clean = ap (λ (l : List ℕ). (frames_of l).clean) (other_drop from lt) ∙ has.clean;
  }

  -- what comes before the slots is that of a store in both
  front_same : IsFront old → IsFront new
  front_same f = record {
    gate = other_before 0 (omega arith) ∙ f.gate;
    magic = sym (drop-take 1 5 new) ∙ ap (drop 1) other.before ∙ drop-take 1 5 old ∙ f.magic;
    zeros = ap (take 57) other.after ∙ f.zeros;
  }

  -- each slot is the same
  slot_same : (at : ℕ) → 6 < at → take 64 (drop at new) ≡ take 64 (drop at old)
  slot_same at lt = ap (take 64) (other_drop at lt)

  -- the first slot
  first_same : take 64 (drop 64 new) ≡ take 64 (drop 64 old)
  first_same = slot_same 64 (omega arith)

  -- the second slot
  second_same : take 64 (drop 128 new) ≡ take 64 (drop 128 old)
  second_same = slot_same 128 (omega arith)

  -- the other file begins with a header too
  pub other_is_header : IsHeader old → IsHeader new
  other_is_header h = record {
    front = front_same h.front;
    first = subst IsSlot (sym first_same) h.first;
    second = subst IsSlot (sym second_same) h.second;
    numbers = λ a b one two same. h.numbers a b (ap slot_in (sym first_same) ∙ one) (ap slot_in (sym second_same) ∙ two) same;
  }

  -- the version of the new file
  abbrev version_in : ℕ
  version_in = if get_or new 6 0 == 1 then 2 else 1

  -- a header of that version with these slots
  abbrev made : Option Slot → Option Slot → Header
  made first second = record { version = version_in; first = first; second = second }

  -- which says the same but for the version
  pub other_header : header_in new ≡ with_version version_in (header_in old)
  other_header =
      ap (λ (b : List ℕ). made (slot_in b) (slot_in (take 64 (drop 128 new)))) first_same
      ∙ ap (λ (b : List ℕ). made (slot_in (take 64 (drop 64 old))) (slot_in b)) second_same

-- a file with the header of another one says the same but for the version
pub other_says : (h : Header) (old new : List ℕ) → HasOtherVersion old new → SaysHeader h old → SaysHeader (with_version (if get_or new 6 0 == 1 then 2 else 1) h) new
other_says h old new other says =
    let n : HEADER_SIZE ≤ length new = omega (arith, says.0.0, other.size) in
    let firsts = other_take old new other HEADER_SIZE (omega arith) in
    let gate : get_or (take HEADER_SIZE new) 6 0 ≡ get_or new 6 0 = get_or-take HEADER_SIZE new 6 0 (omega arith) in (
      (n, other_is_header (take HEADER_SIZE old) (take HEADER_SIZE new) firsts says.0.1),
      other_header (take HEADER_SIZE old) (take HEADER_SIZE new) firsts
          ∙ ap (λ (g : ℕ). with_version (if g == 1 then 2 else 1) (header_in (take HEADER_SIZE old))) gate
          ∙ ap (with_version (if get_or new 6 0 == 1 then 2 else 1)) says.1,
    )

-- and this version is 1 or 2
pub other_says_in : (h : Header) (old new : List ℕ) → HasOtherVersion old new → SaysHeader h old → SaysInAVersion h new
other_says_in h old new other says =
    let is = other_says h old new other says in
    elim (cases_Bool (get_or new 6 0 == 1)) [
      | inl holds ↦ inr (rw holds at is)
      | inr fails ↦ inl (rw fails at is)
    ]

-- each image says what the content says
pub images_say : (h : Header) (at : ℕ) (v : View) → IsAtRest at v → HEADER_SIZE ≤ at → SaysHeader h v.content → (c : List ℕ) → v.images c → SaysHeader h c
images_say h at v rest le says c im =
    let settled = rest.settled c im in
    let n : HEADER_SIZE ≤ length c = let long = front_inside at c v.content rest.inside settled in omega (arith, long) in
    let same : take HEADER_SIZE c ≡ take HEADER_SIZE v.content = shorter_front HEADER_SIZE (at + 1) c v.content (omega arith) settled in
    ((n, subst IsHeader (sym same) says.0.1), ap header_in same ∙ says.1)

-- a write of the gate of the version that a crash cuts short changes nothing else
pub torn_version : (old new : List ℕ) → 6 < length old → Torn 6 1 old new → HasOtherVersion old new
torn_version old new lt torn = record { before = torn.before; after = torn.after; size = omega (arith, torn.no_shorter, torn.no_longer) }

module _ (old : List ℕ) (lt : 6 < length old) where
  -- the bytes before the gate of the version
  six : length (take 6 old) ≡ 6
  six = omega (arith, length-take 6 old)

  -- nor does the whole write
  pub upgraded_other : HasOtherVersion old (upgraded old)
  upgraded_other =
      let rest = drop 7 old in
      let seven : length (take 6 old ++ 1 ∷ []) ≡ 7 = omega (arith, length-append (take 6 old) (1 ∷ []), six) in
      record {
        before = take_at (take 6 old) (1 ∷ rest) 6 six;
        after = ap (drop 7) (sym (append_assoc (take 6 old) (1 ∷ []) rest)) ∙ drop_at (take 6 old ++ 1 ∷ []) rest 7 seven;
        size = omega (arith, length-append (take 6 old) (1 ∷ rest), six, length-drop 7 old);
      }

  -- it opens the gate
  pub upgraded_gate : get_or (upgraded old) 6 0 ≡ 1
  upgraded_gate = get_or_at (take 6 old) 1 (drop 7 old) 0 6 six

  -- what comes after the first bytes is left alone
  pub upgraded-append : (more : List ℕ) → upgraded (old ++ more) ≡ upgraded old ++ more
  upgraded-append more =
      ap (λ (l : List ℕ). l ++ (1 ∷ drop 7 (old ++ more))) (take-append-le 6 old more (omega arith))
      ∙ ap (λ (l : List ℕ). take 6 old ++ 1 ∷ l) (drop-append-le 7 old more (omega arith))
      ∙ sym (append_assoc (take 6 old) (1 ∷ drop 7 old) more)

-- the first bytes of the upgraded file are those of the old one, upgraded
pub take-upgraded : (n : ℕ) (c : List ℕ) → 6 < n → n ≤ length c → take n (upgraded c) ≡ upgraded (take n c)
take-upgraded n c lt le =
    let long : length (take n c) ≡ n = omega (arith, length-take n c) in
    let more : 6 < length (take n c) = omega (arith, long) in
    ap (λ (l : List ℕ). take n (upgraded l)) (sym (take-append-drop n c))
    ∙ ap (take n) (upgraded-append (take n c) more (drop n c))
    ∙ take_at (upgraded (take n c)) (drop n c) n (omega (arith, long, (upgraded_other (take n c) more).size))

-- the upgraded file says version 2
pub upgraded_says : (h : Header) (old new : List ℕ) → SaysHeader h old → new ≡ upgraded old → SaysHeader (with_version 2 h) new
upgraded_says h old new says is =
    let lt : 6 < length old = omega (arith, says.0.0) in
    let all = other_says h old (upgraded old) (upgraded_other old lt) says in
    let two : SaysHeader (with_version 2 h) (upgraded old) = subst (λ (g : ℕ). SaysHeader (with_version (if g == 1 then 2 else 1) h) (upgraded old)) (upgraded_gate old lt) all in
    subst (SaysHeader (with_version 2 h)) (sym is) two

-- frames that stand after a front stand after one of another version
pub other_stands : (head : List ℕ) (fs : List Frame) (old new : List ℕ) → 6 < length head → HasOtherVersion old new → Stands head fs old → StandsInAVersion head fs new
other_stands head fs old new lt other stands =
    let n = length head in
    let in_old : n ≤ length old = omega (arith, ap length stands.front, length-take n old) in
    let long : length (take n new) ≡ n = omega (arith, length-take n new, other.size) in (
      take n new,
      subst (λ (l : List ℕ). HasOtherVersion l (take n new)) stands.front (other_take old new other n lt),
      record {
        front = ap (λ (k : ℕ). take k new) long;
        frames = subst (λ (k : ℕ). HasFrames k fs new) (sym long) (other_frames old new other n fs lt stands.frames);
      },
    )

module _ (v w : View) (at : ℕ) (rest : IsAtRest at v) (lt : 6 < at) where
  -- each image reaches past the gate of the version
  image_long : (c : List ℕ) → v.images c → 6 < length c
  image_long c im = let long = front_inside at c v.content rest.inside (rest.settled c im) in omega (arith, long)

  -- a write of the gate of the version changes the version alone
  pub upgrade_crash : ViewSteps (Torn 6 1) v w → ViewSteps HasOtherVersion v w
  upgrade_crash steps = steps_wider (Torn 6 1) HasOtherVersion v w steps (λ d c im torn. torn_version d c (image_long d im) torn)

  -- after it nothing is pending but after the closed gate
  pub upgraded_rest : w.content ≡ upgraded v.content → Only w.content w.images → IsAtRest at w
  upgraded_rest is only =
      let inside = rest.inside in
      let other = upgraded_other v.content (omega (arith, inside)) in
      record {
        inside = omega (arith, inside, ap length is, other.size);
        closed = λ one. rest.closed (sym (ap (λ (l : List ℕ). get_or l at 0) is ∙ other_after v.content (upgraded v.content) other at lt) ∙ one);
        settled = λ c im. ap (take (at + 1)) (only c im);
      }

module _ (v w : View) (steps : ViewSteps HasOtherVersion v w) where
  -- the frames that each image has stay
  pub upgrade_frames : (from : ℕ) (fs : List Frame) → 6 < from → ((c : List ℕ) → v.images c → HasFrames from fs c) → ViewKeeps (HasFrames from fs) v w
  upgrade_frames from fs lt all = steps_keep HasOtherVersion (HasFrames from fs) v w steps (λ d c im other. other_frames d c other from fs lt (all d im))

  -- and the header says the same but for the version
  pub upgrade_slots : (h : Header) (at : ℕ) → IsAtRest at v → HEADER_SIZE ≤ at → SaysHeader h v.content → ViewKeeps (SaysInAVersion h) v w
  upgrade_slots h at rest le says = steps_keep HasOtherVersion (SaysInAVersion h) v w steps (λ d c im other. other_says_in h d c other (images_say h at v rest le says d im))

  -- and what a journal holds stands
  pub upgrade_stands : (head : List ℕ) (fs : List Frame) (at : ℕ) → 6 < length head → Holds head fs at v → ViewKeeps (StandsInAVersion head fs) v w
  upgrade_stands head fs at lt holds =
      steps_keep HasOtherVersion (StandsInAVersion head fs) v w steps (λ d c im other. other_stands head fs d c lt other (holds_images head fs at v holds d im))

module _ (head : List ℕ) (fs : List Frame) (v w : View) (lt : 6 < length head) (is : w.content ≡ upgraded v.content) (only : Only w.content w.images) where
  -- the upgraded file holds the same frames
  pub upgraded_holds : (at : ℕ) → Holds head fs at v → Holds (upgraded head) fs at w
  upgraded_holds at holds =
      let inside = holds.at_rest.inside in
      let long = (upgraded_other head lt).size in
      let past : 6 < at = omega (arith, holds.size) in
      record {
        lawful = holds.lawful;
        size = omega (arith, holds.size, long);
        front = ap (take at) is ∙ take-upgraded at v.content past (omega (arith, inside)) ∙ ap upgraded holds.front ∙ upgraded-append head lt (spelled_all fs);
        at_rest = upgraded_rest v w at holds.at_rest past is only;
      }

  -- and a journal still describes it
  pub upgraded_describes : (j k : JournalState) → k.frames ≡ j.frames → k.next ≡ j.next → Describes head fs j v → Describes (upgraded head) fs k w
  upgraded_describes j k listed next d =
      describes (upgraded head) fs k w (subst (λ (n : ℕ). Holds (upgraded head) fs n w) (sym next) (upgraded_holds j.next d.holds))
      (listed ∙ d.lists.frames ∙ ap (λ (n : ℕ). places n fs) (sym (upgraded_other head lt).size))
