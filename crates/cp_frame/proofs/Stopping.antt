-- Where a file stops: it doesn't open then, and stops at one offset alone.
use Rattle.std.proofs.Common.{◌≡◌, ◌≤◌, ◌<◌, ◌+◌, ◌∙◌, ◌⊎◌, inl, inr, ℕ, zero, suc, Bool, true, false, List, [], ◌∷◌, length, take, drop, fold, refl, sym, ap, subst, arith}
use Rattle.std.specs.List.{slice_get}
use Rattle.std.specs.declared.option.Option.{Option}
use Rattle.std.specs.declared.option.Option.TheVariants.{None, Some}
use Rattle.cp_model.specs.History.{State}
use Rattle.cp_journal.specs.Frames.{Frame, Walk, frames_of, spelled_all}
use Rattle.cp_journal.specs.declared.limits.TheConstants.{HEADER_SIZE}
use Rattle.cp_frame.specs.Items.{Item, AllStand, AreHeld, after_item}
use Rattle.cp_frame.specs.Stands.{IsClosed, Opens, OpensFirst, header_of}
use Rattle.cp_frame.specs.Stops.{StopsAfterFrames, StopsAt, StopsAtFrame, StopsWalk, at_gate, at_header, at_slot, open_slot}
use Rattle.cp_frame.proofs.Images.{held-length}
use Rattle.cp_frame.proofs.Standing.{stops-here}
use Rattle.cp_journal.specs.declared.header.Header.{Header}

-- ---- a file that stops doesn't open

-- a header of which a slot is open isn't closed
slot-closed : (h : Header) (at : ℕ) → open_slot h ≡ Some at → IsClosed h → ⊥
slot-closed h at is closed =
    let none : open_slot h ≡ None = λ j. open_slot (record { version = h.version; first = closed.first j; second = closed.second j }) in
    let no : None ≡ Some at = sym none ∙ is in absurd (cc no)

-- frames of which one is refused, or that are none, or cut short, are those of no file that opens
walk-not : (version at : ℕ) (c : List ℕ) → StopsWalk HEADER_SIZE version None (frames_of (drop HEADER_SIZE c)) at → OpensFirst version c → ⊥
walk-not version at c (inl stop) o =
    let held = subst (λ (fs : List Frame). AreHeld version fs o.items) (sym o.holds.stand.frames) o.holds.held in
    stops-here false version None (frames_of (drop HEADER_SIZE c)).frames stop.number stop.frame stop.items o.items stop.held stop.there stop.refused held o.stand
walk-not version at c (inr stop) o = ended stop.ended
  where
    ended : ((frames_of (drop HEADER_SIZE c)).frames ≡ []) ⊎ ((frames_of (drop HEADER_SIZE c)).clean ≡ false) → ⊥
    ended (inl none) =
        let some = o.some in
        omega (arith, some, held-length version o.holds.frames o.items o.holds.held, ap length (sym o.holds.stand.frames ∙ none))
    ended (inr cut) = let no : true ≡ false = sym o.holds.stand.clean ∙ cut in absurd (cc no)

pub stopped-not : (c : List ℕ) (at : ℕ) → StopsAt c at → Opens c → ⊥
stopped-not c at (at_header none place) o = none o.header
stopped-not c at (at_slot has is) o = slot-closed (header_of c) at is o.closed
stopped-not c at (at_gate has is walk) o = walk-not (header_of c).version at c walk o.first

-- ---- it stops once

module _ (from version : ℕ) (first : Option State) where
  -- of two frames that are refused none is before the other
  frame-not-before : (fs : List Frame) (a b : ℕ) (s : StopsAtFrame from version first fs a) (t : StopsAtFrame from version first fs b) → s.number < t.number → ⊥
  frame-not-before fs a b s t lt =
      stops-here false version first (take t.number fs) s.number s.frame s.items t.items
      (subst (λ (l : List Frame). AreHeld version l s.items) (sym (take-shorter fs s.number t.number lt)) s.held)
      (found-front fs s.number t.number s.frame lt s.there) s.refused t.held t.stand
    where
      take-shorter : (l : List Frame) (n m : ℕ) → n < m → take n (take m l) ≡ take n l
      take-shorter l zero m lt = refl
      take-shorter l (suc n) zero lt = absurd (omega (arith, lt))
      take-shorter [] (suc n) (suc m) lt = refl
      take-shorter (x ∷ xs) (suc n) (suc m) lt = ap (λ (ys : List Frame). x ∷ ys) (take-shorter xs n m (omega (arith, lt)))

      found-front : (l : List Frame) (n m : ℕ) (x : Frame) → n < m → slice_get l n ≡ Some x → slice_get (take m l) n ≡ Some x
      found-front l n zero x lt here = absurd (omega (arith, lt))
      found-front [] n (suc m) x lt here = absurd (cc here)
      found-front (y ∷ ys) zero (suc m) x lt here = here
      found-front (y ∷ ys) (suc n) (suc m) x lt here = found-front ys n m x (omega (arith, lt)) here

  frames-once : (fs : List Frame) (a b : ℕ) → StopsAtFrame from version first fs a → StopsAtFrame from version first fs b → a ≡ b
  frames-once fs a b s t = s.place ∙ ap (λ (n : ℕ). from + length (spelled_all (take n fs))) same ∙ sym t.place
    where
      same : s.number ≡ t.number
      same = omega (arith, frame-not-before fs a b s t, frame-not-before fs b a t s)

  walk-once : (w : Walk) (a b : ℕ) → StopsWalk from version first w a → StopsWalk from version first w b → a ≡ b
  walk-once w a b (inl s) (inl t) = frames-once w.frames a b s t
  walk-once w a b (inl s) (inr t) = absurd (stops-here false version first w.frames s.number s.frame s.items t.items s.held s.there s.refused t.held t.stand)
  walk-once w a b (inr s) (inl t) = absurd (stops-here false version first w.frames t.number t.frame t.items s.items t.held t.there t.refused s.held s.stand)
  walk-once w a b (inr s) (inr t) = s.place ∙ sym t.place

pub stops-once : (c : List ℕ) (at other : ℕ) → StopsAt c at → StopsAt c other → at ≡ other
stops-once c at other (at_header none place) (at_header lacks there) = place ∙ sym there
stops-once c at other (at_header none place) (at_slot has is) = absurd (none has)
stops-once c at other (at_header none place) (at_gate has is walk) = absurd (none has)
stops-once c at other (at_slot has is) (at_header lacks there) = absurd (lacks has)
stops-once c at other (at_slot has is) (at_slot too there) = let same : Some at ≡ Some other = sym is ∙ there in cc same
stops-once c at other (at_slot has is) (at_gate too none walk) = let no : Some at ≡ None = sym is ∙ none in absurd (cc no)
stops-once c at other (at_gate has none walk) (at_header lacks there) = absurd (lacks has)
stops-once c at other (at_gate has none walk) (at_slot too is) = let no : Some other ≡ None = sym is ∙ none in absurd (cc no)
stops-once c at other (at_gate has closed walk) (at_gate too none there) = walk-once HEADER_SIZE (header_of c).version None (frames_of (drop HEADER_SIZE c)) at other walk there
