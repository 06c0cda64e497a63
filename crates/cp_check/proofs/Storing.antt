-- The laws of files with checkpoints, proved.
use Rattle.std.proofs.Common.{◌⊎◌, ◌≡◌, ◌≤◌, ◌+◌, ◌-◌, ◌==◌, inl, inr, ℕ, suc, if◌then◌else◌, Bool, true, false, List, [], ◌∷◌, ◌++◌, length, take, drop, get_or, fold, refl, sym, ap, ◌∙◌, subst, arith, append_assoc, append-nil, length-append, take-append-drop}
use Rattle.std.specs.Prelude.{is_some}
use Rattle.std.specs.List.{flat_map}
use Rattle.std.specs.declared.option.Option.{Option}
use Rattle.std.specs.declared.option.Option.TheVariants.{None, Some}
use Rattle.std.proofs.lemmas.List.{take-append-le, drop-append-le, drop-drop, take-take, get_or-take}
use Rattle.std.proofs.lemmas.List.Concat.{flat_map-append}
use Rattle.std.proofs.lemmas.List.Sums.{fold-append}
use Rattle.cp_model.specs.History.{Entry, State, replay}
use Rattle.cp_model.specs.Past.{tree_of}
use Rattle.cp_model.proofs.Contents.{tree_of-aged}
use Rattle.cp_journal.specs.Begun.{checkpoint}
use Rattle.cp_journal.specs.Frames.{Frame, spelled, spelled_all, gate_at, whole, frames_of}
use Rattle.cp_journal.specs.Headers.{HasHeader, IsHeader, header_in}
use Rattle.cp_journal.specs.Holding.{HasFrames, Continues}
use Rattle.cp_journal.specs.Slots.{live_slot, HasLive, HasOtherSlot, IsSlotPlace}
use Rattle.cp_journal.specs.declared.header.Header.{Header}
use Rattle.cp_journal.specs.declared.header.Slot.{Slot}
use Rattle.cp_journal.specs.declared.limits.TheConstants.{HEADER_SIZE}
use Rattle.cp_journal.proofs.Places.{length-spelled}
use Rattle.cp_journal.proofs.SlotWrites.{seg-front, byte-front}
use Rattle.cp_frame.specs.Entries.{start, load, commit, stamped}
use Rattle.cp_frame.specs.Items.{Item, an_entry, a_checkpoint, IsHeld, AreHeld, AllStand, CanStand, after_item, entries_in}
use Rattle.cp_frame.proofs.Standing.{replayed-items, stand-append, stand-split, stand-weaker, held-append}
use Rattle.cp_check.specs.Directories.{Directory}
use Rattle.cp_check.specs.Laws.{HasSameOutcome, StoresOpen, OpensAsReplayed, OpeningIsReplay, FramesAddTheirEntries, SpareSlotsSayNothing, RightSlotsAddNothing, VersionsSayNothing}
use Rattle.cp_frame.specs.Stands.{header_of}
use Rattle.cp_check.specs.Stands.{end_of, snapshot_of, state_at, OpensAt, OpensFrom, IsNumbered, IsRight, IsRightIf, IsStore}
use Rattle.cp_check.proofs.Moved.{Agree, names-moved, rows-moved}
use Rattle.cp_check.proofs.Same.{SameEnds, same-ends}
use Rattle.cp_journal.proofs.Upgrading.{other_drop, other_says}
use Rattle.cp_journal.proofs.Tails.{frames_from, frames_again, gate_of}
use Rattle.cp_check.proofs.Tails.{HeldAt, held-at, held-drop}

-- ---- opening

-- a checkpoint that has the numbers and the trees of a state gives such a state
base-same : (body : List ℕ) (d : Directory) (s : State) → IsNumbered d s → HasSameOutcome s (state_at (snapshot_of s body d))
base-same body d s n = record {
  kind = sym n.kind;
  sources = refl;
  tree = sym (tree_of-aged (tree_of s.tree));
  now = sym n.tid;
  commits = sym n.transactions;
  before_s = s.rows;
  before_z = [];
  more = [];
  rows_s = sym (append-nil s.rows);
  rows_z = refl;
}

module _ (h : List Entry) (c : List ℕ) (s : IsStore h c) (slot : Slot) (r : IsRight slot s.told.frames s.told.items c) where
  abbrev tail : List Item
  tail = a_checkpoint r.body ∷ r.after

  held-all : AreHeld (header_of c).version s.told.frames (r.before ++ tail)
  held-all = subst (AreHeld (header_of c).version s.told.frames) r.are s.told.held

  after_before : AllStand false (Some r.state) tail
  after_before =
      subst (λ (o : Option State). AllStand false o tail) r.replayed
      (stand-weaker true (fold after_item None r.before) tail (stand-split true None r.before tail (subst (AllStand true None) r.are s.told.tell)).1)

  ends : SameEnds r.state (state_at (snapshot_of r.state r.body r.directory)) tail
  ends = same-ends r.state (state_at (snapshot_of r.state r.body r.directory)) tail (base-same r.body r.directory r.state r.numbered) after_before

  stand_here : HasFrames slot.at (drop (length r.before) s.told.frames) c
  stand_here =
      let at = held-at (header_of c).version s.told.frames r.before r.body r.after held-all in
      let lt = at.le in
      subst (λ (k : ℕ). HasFrames k (drop (length r.before) s.told.frames) c) (sym r.place) (frames_from (length r.before) s.told.frames HEADER_SIZE c (omega arith) s.told.stand)

  abbrev opens_at : OpensAt slot (header_of c).version c
  opens_at = record {
    snapshot = snapshot_of r.state r.body r.directory;
    names = r.names;
    items = tail;
    holds = record { frames = drop (length r.before) s.told.frames; stand = stand_here; held = held-drop (header_of c).version s.told.frames r.before tail held-all };
    stand = ends.stand;
  }

  pub opens_replayed : OpensAsReplayed h slot c
  opens_replayed = record {
    opens = opens_at;
    opened = ends.end_z;
    replayed = ends.end_s;
    from_checkpoint = ends.is_z;
    from_start =
        ap replay s.told.are ∙ replayed-items s.told.items ∙ ap (fold after_item None) r.are ∙ fold-append after_item None r.before tail
        ∙ ap (λ (o : Option State). fold after_item o tail) r.replayed ∙ ends.is_s;
    same = ends.same;
  }

pub opening_is_replay : OpeningIsReplay
opening_is_replay h c slot s live = opens_replayed h c s slot (subst (λ (o : Option Slot). IsRightIf o s.told.frames s.told.items c) live s.live)

open_from : (h : List Entry) (c : List ℕ) (s : IsStore h c) (o : Option Slot) → IsRightIf o s.told.frames s.told.items c → OpensFrom o (header_of c).version c
open_from h c s None r = record { items = s.told.items; some = s.told.some; holds = record { frames = s.told.frames; stand = s.told.stand; held = s.told.held }; stand = stand-weaker true None s.told.items s.told.tell }
open_from h c s (Some slot) r = (opens_replayed h c s slot r).opens

pub stores_open : StoresOpen
stores_open h c s = record { header = s.told.header; from = open_from h c s (live_slot (header_of c)) s.live }

-- ---- what stays

-- a slot that is right is so in a file with more frames
module _ (slot : Slot) (version : ℕ) (frames gs : List Frame) (items js : List Item) (old new : List ℕ) (r : IsRight slot frames items old) (held : AreHeld version frames items) (more : AreHeld version gs js)
    (stand : HasFrames HEADER_SIZE (frames ++ gs) new) (agree : Agree (HEADER_SIZE + length (spelled_all frames)) old new) where
  abbrev n : ℕ
  n = length r.before

  first_at : HeldAt (length r.before) frames r.body
  first_at = held-at version frames r.before r.body r.after (subst (AreHeld version frames) r.are held)

  inside : n ≤ length frames
  inside = let lt = first_at.le in omega arith

  place : slot.at ≡ HEADER_SIZE + length (spelled_all (take n (frames ++ gs)))
  place = r.place ∙ ap (λ (l : List Frame). HEADER_SIZE + length (spelled_all l)) (sym (take-append-le n frames gs inside))

  gate : gate_at (drop slot.at new) ≡ whole (checkpoint r.body) (drop (10 + length r.body) (drop slot.at new))
  gate =
      let here = subst (λ (k : ℕ). HasFrames k (drop n (frames ++ gs)) new) (sym place) (frames_from n (frames ++ gs) HEADER_SIZE new (let e = length-append frames gs in omega (arith, e, inside)) stand) in
      let are : drop n (frames ++ gs) ≡ checkpoint r.body ∷ (drop (suc n) frames ++ gs) = drop-append-le n frames gs inside ∙ ap (λ (l : List Frame). l ++ gs) first_at.are in
      gate_of (checkpoint r.body) (drop (suc n) frames ++ gs) slot.at new (subst (λ (l : List Frame). HasFrames slot.at l new) are here)

  end-within : end_of slot.at r.body ≤ HEADER_SIZE + length (spelled_all frames)
  end-within =
      let all : spelled_all frames ≡ spelled_all (take n frames) ++ spelled_all (drop n frames) = ap spelled_all (sym (take-append-drop n frames)) ∙ flat_map-append spelled (take n frames) (drop n frames) in
      let rest : spelled_all (drop n frames) ≡ spelled (checkpoint r.body) ++ spelled_all (drop (suc n) frames) = ap spelled_all first_at.are in
      omega (arith, r.place, ap length all, length-append (spelled_all (take n frames)) (spelled_all (drop n frames)), ap length rest, length-append (spelled (checkpoint r.body)) (spelled_all (drop (suc n) frames)), length-spelled (checkpoint r.body))

  here : Agree (end_of slot.at r.body) old new
  here = record { at = λ at k low high. agree.at at k low (omega (arith, high, end-within)) }

  pub right_more : IsRight slot (frames ++ gs) (items ++ js) new
  right_more = record {
    before = r.before;
    body = r.body;
    after = r.after ++ js;
    are = ap (λ (l : List Item). l ++ js) r.are ∙ append_assoc r.before (a_checkpoint r.body ∷ r.after) js;
    place = place;
    state = r.state;
    replayed = r.replayed;
    directory = r.directory;
    numbered = r.numbered;
    names = names-moved slot old new (snapshot_of r.state r.body r.directory) here (drop (10 + length r.body) (drop slot.at new)) gate r.names;
    rows = rows-moved (end_of slot.at r.body) old new here r.directory.runs r.state r.names.runs_lie r.rows;
  }

right_if_more : (o : Option Slot) (version : ℕ) (frames gs : List Frame) (items js : List Item) (old new : List ℕ) → IsRightIf o frames items old → AreHeld version frames items → AreHeld version gs js
    → HasFrames HEADER_SIZE (frames ++ gs) new → Agree (HEADER_SIZE + length (spelled_all frames)) old new → IsRightIf o (frames ++ gs) (items ++ js) new
right_if_more None version frames gs items js old new r held more stand agree = tt
right_if_more (Some slot) version frames gs items js old new r held more stand agree = right_more slot version frames gs items js old new r held more stand agree

-- ---- checkpoints add nothing

-- the state after the first item is one
some_item : (right : Bool) (o : Option State) (i : Item) → CanStand right o i → is_some (after_item o i) ≡ true
some_item right o (an_entry (start k t)) can = refl
some_item right None (an_entry (load n t)) can = absurd can.0
some_item right None (an_entry (commit b)) can = absurd can.0
some_item right None (an_entry (stamped s b)) can = absurd can.0
some_item right (Some s) (an_entry (load n t)) can = refl
some_item right (Some s) (an_entry (commit b)) can = refl
some_item right (Some s) (an_entry (stamped r b)) can = refl
some_item right o (a_checkpoint body) can = can

some_items : (right : Bool) (o : Option State) (items : List Item) → is_some o ≡ true → AllStand right o items → is_some (fold after_item o items) ≡ true
some_items right o [] some all = some
some_items right o (i ∷ is) some all = some_items right (after_item o i) is (some_item right o i all.0) all.1

some_state : (right : Bool) (items : List Item) → 1 ≤ length items → AllStand right None items → is_some (fold after_item None items) ≡ true
some_state right [] le all = absurd (omega (arith, le))
some_state right (i ∷ is) le all = some_items right (after_item None i) is (some_item right None i all.0) all.1

-- a file that stands for the history, by these frames and these items
pub record StoreOf (h : List Entry) (c : List ℕ) (frames : List Frame) (items : List Item) : Type 0 where
  pub store : IsStore h c
  pub frames_are : store.told.frames ≡ frames
  pub items_are : store.told.items ≡ items

pub frames_added : (h : List Entry) (old c : List ℕ) (s : IsStore h old) (at : ℕ) → at ≡ HEADER_SIZE + length (spelled_all s.told.frames) → (gs : List Frame) (js : List Item) → AreHeld (header_of old).version gs js → AllStand true (replay h) js
    → Continues at old gs c → StoreOf (h ++ flat_map entries_in js) c (s.told.frames ++ gs) (s.told.items ++ js)
frames_added h old c s at is_at gs js held tell more =
    let inside = more.inside in
    let low : HEADER_SIZE ≤ at = omega (arith, is_at) in
    let front : take HEADER_SIZE c ≡ take HEADER_SIZE old = sym (take-take HEADER_SIZE at c low) ∙ ap (take HEADER_SIZE) more.front ∙ take-take HEADER_SIZE at old low in
    let same : header_of c ≡ header_of old = ap header_in front in
    let stand = frames_again s.told.frames gs HEADER_SIZE at old c is_at s.told.stand more.front more.frames in
    let agree : Agree (HEADER_SIZE + length (spelled_all s.told.frames)) old c = record { at = λ from k lo hi. seg-front from k at c old (omega (arith, hi, is_at)) more.front } in
    let version : (header_of old).version ≡ (header_of c).version = ap (λ (k : Header). k.version) (sym same) in
    let state : replay h ≡ fold after_item None s.told.items = ap replay s.told.are ∙ replayed-items s.told.items in
    record {
      frames_are = refl;
      items_are = refl;
      store = record {
        told = record {
          header = (omega (arith, low, inside), subst IsHeader (sym front) s.told.header.1);
          frames = s.told.frames ++ gs;
          stand = stand;
          items = s.told.items ++ js;
          some = let n = length-append s.told.items js in let some = s.told.some in omega arith;
          held = subst (λ (k : ℕ). AreHeld k (s.told.frames ++ gs) (s.told.items ++ js)) version (held-append (header_of old).version s.told.frames gs s.told.items js s.told.held held);
          tell = stand-append true None s.told.items js s.told.tell (subst (λ (o : Option State). AllStand true o js) state tell);
          are = ap (λ (l : List Entry). l ++ flat_map entries_in js) s.told.are ∙ sym (flat_map-append entries_in s.told.items js);
        };
        live = subst (λ (k : Header). IsRightIf (live_slot k) (s.told.frames ++ gs) (s.told.items ++ js) c) (sym same)
            (right_if_more (live_slot (header_of old)) (header_of old).version s.told.frames gs s.told.items js old c s.live s.told.held held stand agree);
      };
    }

pub frames_add_their_entries : FramesAddTheirEntries
frames_add_their_entries h old c s at is gs js held tell more = (frames_added h old c s at is gs js held tell more).store

-- a history that isn't empty has a state
pub some_replayed : (h : List Entry) (c : List ℕ) → IsStore h c → is_some (replay h) ≡ true
some_replayed h c s = ap is_some (ap replay s.told.are ∙ replayed-items s.told.items) ∙ some_state true s.told.items s.told.some s.told.tell

-- ---- slots

slot_end : (at : ℕ) → IsSlotPlace at → (at + 64 ≤ HEADER_SIZE) × (64 ≤ at)
slot_end at (inl is) = (omega (arith, is), omega (arith, is))
slot_end at (inr is) = (omega (arith, is), omega (arith, is))

-- files that are the same after the header
module _ (old new : List ℕ) (same : (m : ℕ) → HEADER_SIZE ≤ m → drop m new ≡ drop m old) where
  stand_same : (frames : List Frame) → HasFrames HEADER_SIZE frames old → HasFrames HEADER_SIZE frames new
  stand_same frames h = let is = same HEADER_SIZE (omega arith) in record { frames = ap (λ (l : List ℕ). (frames_of l).frames) is ∙ h.frames; clean = ap (λ (l : List ℕ). (frames_of l).clean) is ∙ h.clean }

  all_agree : (end : ℕ) → Agree end old new
  all_agree end = record { at = λ from k low high. ap (take k) (same from low) }

  right_same : (slot : Slot) (frames : List Frame) (items : List Item) → IsRight slot frames items old → IsRight slot frames items new
  right_same slot frames items r = record {
    before = r.before;
    body = r.body;
    after = r.after;
    are = r.are;
    place = r.place;
    state = r.state;
    replayed = r.replayed;
    directory = r.directory;
    numbered = r.numbered;
    names = names-moved slot old new (snapshot_of r.state r.body r.directory) (all_agree (end_of slot.at r.body)) r.names.rest (ap gate_at (same slot.at r.names.offset) ∙ r.names.frame) r.names;
    rows = rows-moved (end_of slot.at r.body) old new (all_agree (end_of slot.at r.body)) r.directory.runs r.state r.names.runs_lie r.rows;
  }

  right_if_same : (o : Option Slot) (frames : List Frame) (items : List Item) → IsRightIf o frames items old → IsRightIf o frames items new
  right_if_same None frames items r = tt
  right_if_same (Some slot) frames items r = right_same slot frames items r

  -- so a file with another header stands for what it did, where its items stand in its version and its live checkpoint is right
  pub store_same : (h : List Entry) (o : Option Slot) (s : IsStore h old) → HasHeader new → AreHeld (header_of new).version s.told.frames s.told.items → live_slot (header_of new) ≡ o → IsRightIf o s.told.frames s.told.items old → IsStore h new
  store_same h o s header held live r = record {
    told = record {
      header = header;
      frames = s.told.frames;
      stand = stand_same s.told.frames s.told.stand;
      items = s.told.items;
      some = s.told.some;
      held = held;
      tell = s.told.tell;
      are = s.told.are;
    };
    live = subst (λ (p : Option Slot). IsRightIf p s.told.frames s.told.items new) (sym live) (right_if_same o s.told.frames s.told.items r);
  }

module _ (old new : List ℕ) (at : ℕ) (place : IsSlotPlace at) (other : HasOtherSlot at old new) where
  -- after the header nothing has changed
  pub after_header : (m : ℕ) → HEADER_SIZE ≤ m → drop m new ≡ drop m old
  after_header m le =
      let k = m - (at + 64) in
      let is : at + 64 + k ≡ m = omega (arith, (slot_end at place).0, le) in
      let back = λ (l : List ℕ). let e : drop m l ≡ drop k (drop (at + 64) l) = ap (λ (i : ℕ). drop i l) (sym is) ∙ sym (drop-drop k (at + 64) l) in e in
      back new ∙ ap (drop k) other.after ∙ sym (back old)

  -- nor has the version
  same_version : (header_of new).version ≡ (header_of old).version
  same_version =
      let le = (slot_end at place).1 in
      ap (λ (g : ℕ). if g == 1 then 2 else 1)
      (get_or-take 192 new 6 0 (omega arith) ∙ byte-front 6 at new old (omega (arith, le)) other.before ∙ sym (get_or-take 192 old 6 0 (omega arith)))

  pub store_switched : (h : List Entry) (o : Option Slot) (s : IsStore h old) → IsRightIf o s.told.frames s.told.items old → HasLive o new → IsStore h new
  store_switched h o s r live = store_same old new after_header h o s live.0 (subst (λ (k : ℕ). AreHeld k s.told.frames s.told.items) (sym same_version) s.told.held) live.1 r

pub spare_slots_say_nothing : SpareSlotsSayNothing
spare_slots_say_nothing h old new at place other live s = store_switched old new at place other h (live_slot (header_of old)) s s.live live

pub right_slots_add_nothing : RightSlotsAddNothing
right_slots_add_nothing h old new at slot place other live s r = store_switched old new at place other h (Some slot) s r live

-- ---- versions

-- what frames hold in version 1 they hold in version 2
held_newer : (f : Frame) (i : Item) → IsHeld 1 f i → IsHeld 2 f i
held_newer f (an_entry (start k t)) h = record { tag = h.tag; body = h.body; allowed = tt }
held_newer f (an_entry (load n t)) h = record { tag = h.tag; body = h.body; allowed = tt }
held_newer f (an_entry (commit b)) h = record { tag = h.tag; body = h.body; allowed = tt }
held_newer f (an_entry (stamped s b)) h = let allowed = h.allowed in absurd (omega (arith, allowed))
held_newer f (a_checkpoint body) h = h

all_newer : (fs : List Frame) (is : List Item) → AreHeld 1 fs is → AreHeld 2 fs is
all_newer [] [] held = tt
all_newer [] (i ∷ is) held = absurd held
all_newer (f ∷ fs) [] held = absurd held
all_newer (f ∷ fs) (i ∷ is) held = (held_newer f i held.0, all_newer fs is held.1)

-- a version is 1 or 2
in_a_version : (version : ℕ) (fs : List Frame) (is : List Item) → (version ≡ 1) ⊎ (version ≡ 2) → AreHeld 1 fs is → AreHeld version fs is
in_a_version version fs is (inl one) held = subst (λ (k : ℕ). AreHeld k fs is) (sym one) held
in_a_version version fs is (inr two) held = subst (λ (k : ℕ). AreHeld k fs is) (sym two) (all_newer fs is held)

abbrev version_by : Bool → ℕ
version_by b = if b then 2 else 1

one_or_two : (b : Bool) → (version_by b ≡ 1) ⊎ (version_by b ≡ 2)
one_or_two true = inr refl
one_or_two false = inl refl

pub versions_say_nothing : VersionsSayNothing
versions_say_nothing h old new other one s =
    let says = other_says (header_of old) old new other (s.told.header, refl) in
    let held = subst (λ (k : ℕ). AreHeld k s.told.frames s.told.items) one s.told.held in
    store_same old new (λ m le. other_drop old new other m (omega (arith, le))) h (live_slot (header_of old)) s says.0
    (in_a_version (header_of new).version s.told.frames s.told.items (one_or_two (get_or (take HEADER_SIZE new) 6 0 == 1)) held)
    (ap live_slot says.1) s.live
