-- The writes of a checkpoint one after another: at every moment the file stands for the same history.
use Rattle.std.specs.Prelude.{nat_lt}
use Rattle.std.specs.declared.option.Option.TheVariants.{None, Some}
use Rattle.std.proofs.lemmas.Bool.{cases_Bool}
use Rattle.std.proofs.Math.Seq.{take-add}
use Rattle.std.proofs.Common.{◌≡◌, ◌≤◌, ◌<◌, ◌^◌, ◌+◌, ◌-◌, inl, inr, ⊎_elim, ℕ, List, [], ◌∷◌, ◌++◌, length, take, drop, get_or, refl, sym, ap, ◌∙◌, subst, arith, true, append_assoc, append-nil, length-append, length-take, length-drop, take-append-drop}
use Rattle.std.proofs.lemmas.List.{take_at, drop_at, drop_more, take-take, get_or-drop}
use Rattle.cp_disk.specs.Views.{View, Only, ViewKeeps}
use Rattle.cp_disk.proofs.Composing.{keeps_then, keeps_wider}
use Rattle.cp_model.specs.History.{Entry}
use Rattle.cp_frame.specs.Items.{Item, a_checkpoint}
use Rattle.cp_journal.specs.Begun.{checkpoint, ViewKeepsFront}
use Rattle.cp_journal.specs.Frames.{Frame, spelled, Walk, ended, onto, frames_of}
use Rattle.cp_journal.specs.Headers.{IsHeader, header_in}
use Rattle.cp_journal.specs.Holding.{HasFrames, IsLawful, IsAtRest, IsAdded, IsBeforeOrAfter, Continues}
use Rattle.cp_journal.specs.Journals.{JournalState, next_byte}
use Rattle.cp_journal.specs.Slots.{HasOtherSlot, HasLive, IsSlotPlace, live_slot, next_slot, spare_of, spare_slot, NamesOldOrNew}
use Rattle.cp_journal.specs.Upgrading.{SaysHeader}
use Rattle.std.specs.declared.option.Option.{Option}
use Rattle.cp_journal.specs.declared.header.Header.{Header}
use Rattle.cp_journal.specs.declared.header.Slot.{Slot}
use Rattle.cp_journal.specs.declared.limits.TheConstants.{HEADER_SIZE}
use Rattle.cp_journal.proofs.Fronts.{front_before, front_before_or_after, front_then}
use Rattle.cp_journal.proofs.Walks.{frames_of-closed, frames_of-whole}
use Rattle.cp_check.specs.Laws.{EndsAt}
use Rattle.cp_check.specs.Stands.{IsRight, IsStore}
use Rattle.cp_check.proofs.Storing.{after_header, StoreOf, frames_added, frames_add_their_entries, some_replayed, spare_slots_say_nothing, right_slots_add_nothing}

-- the spare slot is one of the two
spare_at : (a b : Option Slot) → IsSlotPlace (spare_of a b)
spare_at None b = inl refl
spare_at (Some a) None = inr refl
spare_at (Some a) (Some b) = elim (cases_Bool (nat_lt b.seq a.seq)) [
  | inl holds ↦ rw holds (inr refl)
  | inr fails ↦ rw fails (inl refl)
]

pub spare_place : (h : Header) → IsSlotPlace (spare_slot h)
spare_place h = spare_at h.first h.second

-- one piece more of the bytes
pub pieces_joined : (body bs : List ℕ) (d n : ℕ) → (body ++ take d bs) ++ take (d + n - d) (drop d bs) ≡ body ++ take (d + n) bs
pieces_joined body bs d n =
    let is : d + n - d ≡ n = omega arith in
    append_assoc body (take d bs) (take (d + n - d) (drop d bs)) ∙ ap (λ (k : ℕ). body ++ (take d bs ++ take k (drop d bs))) is ∙ ap (λ (l : List ℕ). body ++ l) (sym (take-add d n bs))

-- how many bytes there are after one piece more
pub more_bytes : (n d k : ℕ) (bs : List ℕ) (b : Option ℕ) → d + k ≤ length bs → b ≡ Some (n + d + length (take (d + k - d) (drop d bs))) → b ≡ Some (n + (d + k))
more_bytes n d k bs b le is =
    let long = length-take (d + k - d) (drop d bs) in
    let left = length-drop d bs in
    let same : n + d + length (take (d + k - d) (drop d bs)) ≡ n + (d + k) = omega (arith, le, long, left) in
    is ∙ ap (λ (m : ℕ). Some m) same

-- where a piece doesn't fit, all bytes don't
pub too_many : (most e x n d k : ℕ) (a b : Option ℕ) (bs : List ℕ) → x ≡ e → a ≡ Some n → b ≡ Some (n + d) → d + k ≤ length bs
    → most < next_byte x b + length (take (d + k - d) (drop d bs)) → most < next_byte e a + length bs
too_many most e x n d k a b bs same first now le over =
    let long = length-take (d + k - d) (drop d bs) in
    let left = length-drop d bs in
    let here : next_byte x b ≡ x + 10 + (n + d) = ap (next_byte x) now in
    let start : next_byte e a ≡ e + 10 + n = ap (next_byte e) first in
    omega (arith, over, here, start, same, le, long, left)

-- without the frame that is begun a journal is as another one without it
pub same_given_up : (j k : JournalState) → k.frames ≡ j.frames → k.next ≡ j.next → k.broken ≡ j.broken → k.spent ≡ j.spent → record k { begun = None } ≡ record j { begun = None }
same_given_up j k frames next broken spent = λ i. record { frames = frames i; next = next i; begun = None; broken = broken i; spent = spent i }

-- and as that one where that has none
pub same_idle : (j k : JournalState) → k.frames ≡ j.frames → k.next ≡ j.next → k.broken ≡ j.broken → k.spent ≡ j.spent → j.begun ≡ None → record k { begun = None } ≡ j
same_idle j k frames next broken spent idle = λ i. record { frames = frames i; next = next i; begun = (sym idle) i; broken = broken i; spent = spent i }

-- one part more behind the same gate
pub front_two : (e n : ℕ) (v w x : View) → n ≡ e → ViewKeepsFront e v w → ViewKeepsFront n w x → ViewKeepsFront e v x
front_two e n v w x is one two = front_then e v w x one (subst (λ (k : ℕ). ViewKeepsFront k w x) is two)

-- what continues a file continues one with the same front
pub continues_front : (e : ℕ) (fs : List Frame) (old new c : List ℕ) → take (e + 1) new ≡ take (e + 1) old → Continues e new fs c → Continues e old fs c
continues_front e fs old new c same more =
    let short : take e new ≡ take e old = sym (take-take e (e + 1) new (omega arith)) ∙ ap (take e) same ∙ take-take e (e + 1) old (omega arith) in
    record { front = more.front ∙ short; inside = more.inside; frames = more.frames }

-- a frame that was added comes after what was there, and a closed gate after it
pub added_continues : (e : ℕ) (f : Frame) (old : List ℕ) (to : ℕ) (w : View) → IsLawful f → IsAdded e f old to w → Continues e old (f ∷ []) w.content
added_continues e f old to w ok a =
    let c = w.content in
    let inside = a.at_rest.inside in
    let p = take e old in
    let rest = drop to c in
    let long : length p ≡ e = omega (arith, ap length a.front, length-append p (spelled f), length-take to c, a.size, inside) in
    let whole : c ≡ p ++ (spelled f ++ rest) = sym (take-append-drop to c) ∙ ap (λ (l : List ℕ). l ++ rest) a.front ∙ append_assoc p (spelled f) rest in
    let here : drop e c ≡ spelled f ++ rest = ap (drop e) whole ∙ drop_at p (spelled f ++ rest) e long in
    let gate : rest ≡ get_or c to 0 ∷ drop (to + 1) c = drop_more c to 0 inside in
    let is : frames_of (drop e c) ≡ onto f (ended true) =
    ap frames_of here ∙ frames_of-whole f rest ok ∙ ap (onto f) (ap frames_of gate ∙ frames_of-closed (get_or c to 0) (drop (to + 1) c) a.at_rest.closed) in
    record {
      front = ap (take e) whole ∙ take_at p (spelled f ++ rest) e long;
      inside = omega (arith, a.size, inside);
      frames = record { frames = ap (λ (k : Walk). k.frames) is; clean = ap (λ (k : Walk). k.clean) is };
    }

-- the same where the frame was added after pieces of it
pub added_after : (e n m : ℕ) (body : List ℕ) (v w x : View) → n ≡ e → length body < 2 ^ 64 → ViewKeepsFront e v w → IsAdded n (checkpoint body) w.content m x → Continues e v.content (checkpoint body ∷ []) x.content
added_after e n m body v w x is short front added =
    continues_front e (checkpoint body ∷ []) v.content w.content x.content front.content
    (added_continues e (checkpoint body) w.content m x (record { fits = refl; short = short }) (subst (λ (k : ℕ). IsAdded k (checkpoint body) w.content m x) is added))

-- the file whose front is the same has the same header
pub front_says : (header : Header) (at : ℕ) (old new : List ℕ) → HEADER_SIZE ≤ at → take at new ≡ take at old → HEADER_SIZE ≤ length new → SaysHeader header old → SaysHeader header new
front_says header at old new le same long says =
    let front : take HEADER_SIZE new ≡ take HEADER_SIZE old = sym (take-take HEADER_SIZE at new le) ∙ ap (take HEADER_SIZE) same ∙ take-take HEADER_SIZE at old le in
    ((long, subst IsHeader (sym front) says.0.1), ap header_in front ∙ says.1)

module _ (h : List Entry) (at : ℕ) (v : View) (s : IsStore h v.content) (is_at : EndsAt h v.content s at) where
  -- a file whose front is the same
  nothing_more : (c : List ℕ) → Continues at v.content [] c → IsStore h c
  nothing_more c more = subst (λ (l : List Entry). IsStore l c) (append-nil h) (frames_add_their_entries h v.content c s at is_at [] [] tt tt more)

  -- the same with a checkpoint after it
  with_checkpoint : (body : List ℕ) (c : List ℕ) → Continues at v.content (checkpoint body ∷ []) c → StoreOf (h ++ []) c (s.told.frames ++ checkpoint body ∷ []) (s.told.items ++ a_checkpoint body ∷ [])
  with_checkpoint body c more = frames_added h v.content c s at is_at (checkpoint body ∷ []) (a_checkpoint body ∷ []) (refl, tt) (some_replayed h v.content s, tt) more

  -- while the frame is written
  pub behind : (w : View) → IsAtRest at v → ViewKeepsFront at v w → ViewKeeps (IsStore h) v w
  behind w rest front = keeps_wider (Continues at v.content []) (IsStore h) v w (front_before at v w rest front) nothing_more

  module _ (body : List ℕ) where
    pub with_or_without : (c : List ℕ) → IsBeforeOrAfter at v.content (checkpoint body) c → IsStore h c
    with_or_without c (inl before) = nothing_more c before
    with_or_without c (inr after) = subst (λ (l : List Entry). IsStore l c) (append-nil h) (with_checkpoint body c after).store

    -- while its gate is opened
    pub opened : (w x : View) → IsAtRest at v → ViewKeepsFront at v w → ViewKeeps (IsBeforeOrAfter at w.content (checkpoint body)) w x → ViewKeeps (IsStore h) v x
    opened w x rest front keeps =
        keeps_then (IsStore h) (IsBeforeOrAfter at w.content (checkpoint body)) v w x (behind w rest front) keeps
        (λ c more. with_or_without c (front_before_or_after at (checkpoint body) v.content w.content c front.content more))

    module _ (header : Header)
        (right : (c : List ℕ) → Continues at v.content (checkpoint body ∷ []) c → IsRight (next_slot header at) (s.told.frames ++ checkpoint body ∷ []) (s.told.items ++ a_checkpoint body ∷ []) c)
        (x : View) (there : Continues at v.content (checkpoint body ∷ []) x.content) where
      -- while the slot is written
      named : IsSlotPlace (spare_slot header) → SaysHeader header x.content → (c : List ℕ) → NamesOldOrNew header at x.content c → IsStore (h ++ []) c
      named place now c names =
          let there_now = with_checkpoint body x.content there in
          ⊎_elim
          (λ old. spare_slots_say_nothing (h ++ []) x.content c (spare_slot header) place names.same (subst (λ (o : Option Slot). HasLive o c) (sym (ap live_slot now.1)) old) there_now.store)
          (λ new. right_slots_add_nothing (h ++ []) x.content c (spare_slot header) (next_slot header at) place names.same new there_now.store
          (subst (λ (l : List Frame). IsRight (next_slot header at) l there_now.store.told.items x.content) (sym there_now.frames_are)
          (subst (λ (l : List Item). IsRight (next_slot header at) (s.told.frames ++ checkpoint body ∷ []) l x.content) (sym there_now.items_are) (right x.content there)))) names.live

      pub all_written : IsSlotPlace (spare_slot header) → SaysHeader header x.content → (y : View) → ViewKeeps (IsStore h) v x → ViewKeeps (NamesOldOrNew header at x.content) x y → ViewKeeps (IsStore h) v y
      all_written place now y before slots =
          keeps_then (IsStore h) (NamesOldOrNew header at x.content) v x y before slots (λ c names. subst (λ (l : List Entry). IsStore l c) (append-nil h) (named place now c names))

-- a file that differs in a slot alone has the same frames after the header
pub switched_frames : (old new : List ℕ) (at from : ℕ) (fs : List Frame) → IsSlotPlace at → HasOtherSlot at old new → HEADER_SIZE ≤ from → HasFrames from fs old → HasFrames from fs new
switched_frames old new at from fs place other le h =
    let is = after_header old new at place other from le in
    record { frames = ap (λ (l : List ℕ). (frames_of l).frames) is ∙ h.frames; clean = ap (λ (l : List ℕ). (frames_of l).clean) is ∙ h.clean }

-- and its gate after them is still closed
pub switched_rest : (v w : View) (at to : ℕ) → IsSlotPlace at → HasOtherSlot at v.content w.content → HEADER_SIZE ≤ to → IsAtRest to v → Only w.content w.images → IsAtRest to w
switched_rest v w at to place other le rest only =
    let is = after_header v.content w.content at place other to le in
    let here : to + 0 ≡ to = omega arith in
    let gate : get_or w.content to 0 ≡ get_or v.content to 0 =
    ap (λ (k : ℕ). get_or w.content k 0) (sym here) ∙ sym (get_or-drop to w.content 0 0) ∙ ap (λ (l : List ℕ). get_or l 0 0) is ∙ get_or-drop to v.content 0 0 ∙ ap (λ (k : ℕ). get_or v.content k 0) here in
    let inside = rest.inside in
    record { inside = omega (arith, inside, other.size); closed = λ one. rest.closed (sym gate ∙ one); settled = λ c im. ap (take (to + 1)) (only c im) }
