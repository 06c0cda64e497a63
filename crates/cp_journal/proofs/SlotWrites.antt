-- What a file says while a slot of its header is written.
use Rattle.std.proofs.Common.{◌≡◌, ◌≤◌, ◌<◌, ◌+◌, ◌-◌, ◌^◌, ◌⊎◌, ◌==◌, inl, inr, ⊎_elim, ℕ, if◌then◌else◌, true, false, Option, None, Some, List, [], ◌∷◌, ◌++◌, length, take, drop, get_or, refl, sym, ◌∙◌, ap, subst, arith, length-take}
use Rattle.std.specs.Prelude.{nat_lt, is_some}
use Rattle.std.specs.Int.{w64, to_be_bytes, from_be_bytes}
use Rattle.std.proofs.lemmas.Nat.{from_be_bytes-to_be_bytes_8}
use Rattle.std.proofs.lemmas.List.{take_at, drop_at, drop-drop, drop-take, take-take, drop_more, get_or-take, get_or_at}
use Rattle.std.proofs.lemmas.Bool.{cases_Bool, cases_eq}
use Rattle.std.proofs.lemmas.Bool.Decides.{nat_tests}
use Rattle.cp_disk.specs.Views.{View, Only, ViewSteps, ViewKeeps}
use Rattle.cp_disk.specs.Writes.{Torn, with_bytes}
use Rattle.cp_disk.proofs.Composing.{keeps_then, keeps_wider}
use Rattle.cp_journal.specs.Headers.{numbers_in, slot_in, header_in, IsSlot, IsFront, HasOwnNumbers}
use Rattle.cp_journal.specs.Slots.{newer, live_slot, spare_of, spare_slot, IsSlotPlace, slot_at, with_slot, slot_rest, HasOtherSlot, HasLive, number_after, next_slot, NamesOldOrNew, SaysSlot, SaysEitherSlot}
use Rattle.cp_journal.specs.Upgrading.{SaysHeader}
use Rattle.cp_journal.specs.declared.header.Header.{Header}
use Rattle.cp_journal.specs.declared.header.Slot.{Slot}
use Rattle.cp_journal.specs.declared.limits.TheConstants.{HEADER_SIZE}
use Rattle.cp_journal.proofs.Adding.{shorter_front}
use Rattle.cp_journal.proofs.Upgrading.{steps_keep}

-- so many bytes from an offset on
abbrev pub seg : ℕ → ℕ → List ℕ → List ℕ
seg at n c = take n (drop at c)

-- bytes of the front of a file
pub seg-take : (at n m : ℕ) (c : List ℕ) → at + n ≤ m → seg at n (take m c) ≡ seg at n c
seg-take at n m c le =
    let k = m - at in
    let is : at + k ≡ m = omega (arith, le) in
    ap (λ (i : ℕ). take n (drop at (take i c))) (sym is) ∙ ap (take n) (drop-take at k c) ∙ take-take n k (drop at c) (omega (arith, is, le))

-- where two fronts are the same, so are their bytes
pub seg-front : (at n m : ℕ) (c d : List ℕ) → at + n ≤ m → take m c ≡ take m d → seg at n c ≡ seg at n d
seg-front at n m c d le same = sym (seg-take at n m c le) ∙ ap (seg at n) same ∙ seg-take at n m d le

-- where two ends are the same, so are their bytes
pub seg-end : (at n m : ℕ) (c d : List ℕ) → m ≤ at → drop m c ≡ drop m d → seg at n c ≡ seg at n d
seg-end at n m c d le same =
    let k = at - m in
    let is : m + k ≡ at = omega (arith, le) in
    let back = λ (l : List ℕ). let e : drop at l ≡ drop k (drop m l) = ap (λ (i : ℕ). drop i l) (sym is) ∙ sym (drop-drop k m l) in e in
    ap (take n) (back c ∙ ap (drop k) same ∙ sym (back d))

pub byte-front : (i m : ℕ) (c d : List ℕ) → i < m → take m c ≡ take m d → get_or c i 0 ≡ get_or d i 0
byte-front i m c d lt same = sym (get_or-take m c i 0 lt) ∙ ap (λ (l : List ℕ). get_or l i 0) same ∙ get_or-take m d i 0 lt

-- ---- one slot is another one

-- what comes before the slots is that of a store
front_same : (x y : List ℕ) → take 64 y ≡ take 64 x → IsFront x → IsFront y
front_same x y same front = record {
  gate = byte-front 0 64 y x (omega arith) same ∙ front.gate;
  magic = seg-front 1 5 64 y x (omega arith) same ∙ front.magic;
  zeros = seg-front 7 57 64 y x (omega arith) same ∙ front.zeros;
}

abbrev made : ℕ → Option Slot → Option Slot → Header
made v f s = record { version = v; first = f; second = s }

header_made : (x y : List ℕ) (o p : Option Slot) → take 64 y ≡ take 64 x → slot_in (seg 64 64 y) ≡ o → slot_in (seg 128 64 y) ≡ p
    → header_in y ≡ made (if get_or x 6 0 == 1 then 2 else 1) o p
header_made x y o p same first second =
    ap (λ (g : ℕ). made (if g == 1 then 2 else 1) (slot_in (seg 64 64 y)) (slot_in (seg 128 64 y))) (byte-front 6 64 y x (omega arith) same)
    ∙ ap (λ (k : Option Slot). made (if get_or x 6 0 == 1 then 2 else 1) k (slot_in (seg 128 64 y))) first
    ∙ ap (λ (k : Option Slot). made (if get_or x 6 0 == 1 then 2 else 1) o k) second

-- with another first slot
first_says : (h : Header) (o : Option Slot) (old new : List ℕ) → HasOtherSlot 64 old new → SaysHeader h old → IsSlot (seg 64 64 new) → slot_in (seg 64 64 new) ≡ o → HasOwnNumbers (with_slot 64 o h) → SaysHeader (with_slot 64 o h) new
first_says h o old new other says good is own =
    let x = take 192 old in
    let y = take 192 new in
    let same : take 64 y ≡ take 64 x = take-take 64 192 new (omega arith) ∙ other.before ∙ sym (take-take 64 192 old (omega arith)) in
    let one : seg 64 64 y ≡ seg 64 64 new = seg-take 64 64 192 new (omega arith) in
    let two : seg 128 64 y ≡ seg 128 64 x = seg-take 128 64 192 new (omega arith) ∙ seg-end 128 64 128 new old (omega arith) other.after ∙ sym (seg-take 128 64 192 old (omega arith)) in
    let made_is : header_in y ≡ with_slot 64 o h =
    header_made x y o (slot_in (seg 128 64 x)) same (ap slot_in one ∙ is) (ap slot_in two) ∙ ap (λ (k : Header). made k.version o k.second) says.1 in (
      (
        omega (arith, says.0.0, other.size),
        record {
          front = front_same x y same says.0.1.front;
          first = subst IsSlot (sym one) good;
          second = subst IsSlot (sym two) says.0.1.second;
          numbers = subst HasOwnNumbers (sym made_is) own;
        },
      ),
      made_is,
    )

-- with another second slot
second_says : (h : Header) (o : Option Slot) (old new : List ℕ) → HasOtherSlot 128 old new → SaysHeader h old → IsSlot (seg 128 64 new) → slot_in (seg 128 64 new) ≡ o → HasOwnNumbers (with_slot 128 o h) → SaysHeader (with_slot 128 o h) new
second_says h o old new other says good is own =
    let x = take 192 old in
    let y = take 192 new in
    let same : take 64 y ≡ take 64 x = take-take 64 192 new (omega arith) ∙ shorter_front 64 128 new old (omega arith) other.before ∙ sym (take-take 64 192 old (omega arith)) in
    let one : seg 64 64 y ≡ seg 64 64 x = seg-take 64 64 192 new (omega arith) ∙ seg-front 64 64 128 new old (omega arith) other.before ∙ sym (seg-take 64 64 192 old (omega arith)) in
    let two : seg 128 64 y ≡ seg 128 64 new = seg-take 128 64 192 new (omega arith) in
    let made_is : header_in y ≡ with_slot 128 o h =
    header_made x y (slot_in (seg 64 64 x)) o same (ap slot_in one) (ap slot_in two ∙ is) ∙ ap (λ (k : Header). made k.version k.first o) says.1 in (
      (
        omega (arith, says.0.0, other.size),
        record {
          front = front_same x y same says.0.1.front;
          first = subst IsSlot (sym one) says.0.1.first;
          second = subst IsSlot (sym two) good;
          numbers = subst HasOwnNumbers (sym made_is) own;
        },
      ),
      made_is,
    )

-- with another slot
pub slot_says : (at : ℕ) (h : Header) (o : Option Slot) (old new : List ℕ) → IsSlotPlace at → HasOtherSlot at old new → SaysHeader h old → IsSlot (seg at 64 new) → slot_in (seg at 64 new) ≡ o → HasOwnNumbers (with_slot at o h) → SaysHeader (with_slot at o h) new
slot_says at h o old new (inl is) other says good slot own =
    subst (λ (k : ℕ). HasOtherSlot k old new → IsSlot (seg k 64 new) → slot_in (seg k 64 new) ≡ o → HasOwnNumbers (with_slot k o h) → SaysHeader (with_slot k o h) new) (sym is) (λ a b c d. first_says h o old new a says b c d) other good slot own
slot_says at h o old new (inr is) other says good slot own =
    subst (λ (k : ℕ). HasOtherSlot k old new → IsSlot (seg k 64 new) → slot_in (seg k 64 new) ≡ o → HasOwnNumbers (with_slot k o h) → SaysHeader (with_slot k o h) new) (sym is) (λ a b c d. second_says h o old new a says b c d) other good slot own

-- ---- headers and slots

-- where no slot is, no number is twice
own_none : (at : ℕ) (h : Header) → HasOwnNumbers (with_slot at None h)
own_none at h = elim (cases_Bool (at == 64)) [
  | inl holds ↦ rw holds (λ a b first second same. absurd (cc first))
  | inr fails ↦ rw fails (λ a b first second same. absurd (cc second))
]

-- a header has the slot that it has
pub with_own : (at : ℕ) (h : Header) → with_slot at (slot_at at h) h ≡ h
with_own at h = elim (cases_Bool (at == 64)) [
  | inl holds ↦ rw holds refl
  | inr fails ↦ rw fails refl
]

-- of two slots put in one place the second stays
pub with_twice : (at : ℕ) (o p : Option Slot) (h : Header) → with_slot at o (with_slot at p h) ≡ with_slot at o h
with_twice at o p h = elim (cases_Bool (at == 64)) [
  | inl holds ↦ rw holds refl
  | inr fails ↦ rw fails refl
]

slot_of_with : (at : ℕ) (o : Option Slot) (h : Header) → slot_at at (with_slot at o h) ≡ o
slot_of_with at o h = elim (cases_Bool (at == 64)) [
  | inl holds ↦ rw holds refl
  | inr fails ↦ rw fails refl
]

-- ---- what a crash leaves of a write in a slot

slot_bound : (at : ℕ) → IsSlotPlace at → at + 64 ≤ HEADER_SIZE
slot_bound at (inl is) = omega (arith, is)
slot_bound at (inr is) = omega (arith, is)

-- nothing is written
pub same_slot : (at : ℕ) (c : List ℕ) → HasOtherSlot at c c
same_slot at c = record { before = refl; after = refl; size = refl }

pub other_then : (at : ℕ) (a b c : List ℕ) → HasOtherSlot at a b → HasOtherSlot at b c → HasOtherSlot at a c
other_then at a b c one two = record { before = two.before ∙ one.before; after = two.after ∙ one.after; size = two.size ∙ one.size }

-- a write inside a slot changes nothing else
pub torn_slot : (at m n : ℕ) (old new : List ℕ) → at ≤ m → m + n ≤ at + 64 → at + 64 ≤ length old → Torn m n old new → HasOtherSlot at old new
torn_slot at m n old new low high long torn =
    let k = at + 64 - (m + n) in
    let is : m + n + k ≡ at + 64 = omega (arith, high) in
    let back = λ (l : List ℕ). let e : drop (at + 64) l ≡ drop k (drop (m + n) l) = ap (λ (i : ℕ). drop i l) (sym is) ∙ sym (drop-drop k (m + n) l) in e in
    record {
      before = shorter_front at m new old low torn.before;
      after = back new ∙ ap (drop k) torn.after ∙ sym (back old);
      size = omega (arith, torn.no_shorter, torn.no_longer, high, long);
    }

-- a slot is its gate and what comes after it
slot_bytes : (at : ℕ) (c : List ℕ) → at < length c → seg at 64 c ≡ get_or c at 0 ∷ seg (at + 1) 63 c
slot_bytes at c lt = ap (take 64) (drop_more c at 0 lt)

-- a closed slot
closed_good : (g : ℕ) (r : List ℕ) → (g ≡ 1 → ⊥) → IsSlot (g ∷ r)
closed_good g r ne = λ one. absurd (ne one)

closed_none : (g : ℕ) (r : List ℕ) → (g ≡ 1 → ⊥) → slot_in (g ∷ r) ≡ None
closed_none g r ne = let no : (g == 1) ≡ false = grind (arith, nat_tests) in rw no refl

-- a file whose slot is closed says so
pub closed_says : (at : ℕ) (h : Header) (old c : List ℕ) → IsSlotPlace at → HasOtherSlot at old c → SaysHeader h old → (get_or c at 0 ≡ 1 → ⊥) → SaysHeader (with_slot at None h) c
closed_says at h old c place other says ne =
    let bound = slot_bound at place in
    let lt : at < length c = omega (arith, bound, says.0.0, other.size) in
    let is = slot_bytes at c lt in
    slot_says at h None old c place other says (subst IsSlot (sym is) (closed_good (get_or c at 0) (seg (at + 1) 63 c) ne)) (ap slot_in is ∙ closed_none (get_or c at 0) (seg (at + 1) 63 c) ne) (own_none at h)

abbrev a_slot : ℕ → ℕ → Option Slot
a_slot n m = Some (record { seq = n; at = m })

-- numbers that fit are read back
opened_is : (s : Slot) → s.seq < 2 ^ 64 → s.at < 2 ^ 64 → slot_in (1 ∷ slot_rest s) ≡ Some s
opened_is s fits fits_at =
    ap (λ (n : ℕ). a_slot n (from_be_bytes w64 (to_be_bytes w64 s.at))) (from_be_bytes-to_be_bytes_8 s.seq fits) ∙ ap (a_slot s.seq) (from_be_bytes-to_be_bytes_8 s.at fits_at)

opened_good : (s : Slot) → IsSlot (1 ∷ slot_rest s)
opened_good s = λ one. refl

-- a file whose slot is open, and has these numbers, says so
pub opened_says : (at : ℕ) (h : Header) (s : Slot) (old c : List ℕ) → IsSlotPlace at → HasOtherSlot at old c → SaysHeader h old → s.seq < 2 ^ 64 → s.at < 2 ^ 64 → HasOwnNumbers (with_slot at (Some s) h)
    → get_or c at 0 ≡ 1 → seg (at + 1) 63 c ≡ slot_rest s → SaysHeader (with_slot at (Some s) h) c
opened_says at h s old c place other says fits fits_at own gate rest =
    let bound = slot_bound at place in
    let lt : at < length c = omega (arith, bound, says.0.0, other.size) in
    let is : seg at 64 c ≡ 1 ∷ slot_rest s = slot_bytes at c lt ∙ ap (λ (g : ℕ). g ∷ seg (at + 1) 63 c) gate ∙ ap (λ (l : List ℕ). 1 ∷ l) rest in
    slot_says at h (Some s) old c place other says (subst IsSlot (sym is) (opened_good s)) (ap slot_in is ∙ opened_is s fits fits_at) own

-- a slot that says None is closed
gate_of_none : (b : List ℕ) → slot_in b ≡ None → get_or b 0 0 ≡ 1 → ⊥
gate_of_none b none one = let some : Some (numbers_in b) ≡ None = rw one at none in cc some

-- what a file says at a place of a slot
pub said_slot : (at : ℕ) (h : Header) (c : List ℕ) → IsSlotPlace at → SaysHeader h c → slot_in (seg at 64 c) ≡ slot_at at h
said_slot at h c (inl is) says =
    subst (λ (k : ℕ). slot_in (seg k 64 c) ≡ slot_at k h) (sym is) (ap slot_in (sym (seg-take 64 64 192 c (omega arith))) ∙ ap (λ (k : Header). k.first) says.1)
said_slot at h c (inr is) says =
    subst (λ (k : ℕ). slot_in (seg k 64 c) ≡ slot_at k h) (sym is) (ap slot_in (sym (seg-take 128 64 192 c (omega arith))) ∙ ap (λ (k : Header). k.second) says.1)

pub said_closed : (at : ℕ) (h : Header) (c : List ℕ) → IsSlotPlace at → SaysHeader (with_slot at None h) c → get_or c at 0 ≡ 1 → ⊥
said_closed at h c place says one =
    let bound = slot_bound at place in
    let lt : at < length c = omega (arith, bound, says.0.0) in
    gate_of_none (seg at 64 c) (said_slot at (with_slot at None h) c place says ∙ slot_of_with at None h) (ap (λ (l : List ℕ). get_or l 0 0) (slot_bytes at c lt) ∙ one)

-- the slots of a header are spelled
good_at : (at : ℕ) (h : Header) (c : List ℕ) → IsSlotPlace at → SaysHeader h c → IsSlot (seg at 64 c)
good_at at h c (inl is) says = subst (λ (k : ℕ). IsSlot (seg k 64 c)) (sym is) (subst IsSlot (seg-take 64 64 192 c (omega arith)) says.0.1.first)
good_at at h c (inr is) says = subst (λ (k : ℕ). IsSlot (seg k 64 c)) (sym is) (subst IsSlot (seg-take 128 64 192 c (omega arith)) says.0.1.second)

-- a slot that is there is open
gate_of_some : (b : List ℕ) → is_some (slot_in b) ≡ true → get_or b 0 0 ≡ 1
gate_of_some b some = elim (cases_eq (get_or b 0 0) 1) [
  | inl is ↦ is
  | inr ne ↦ let no : (get_or b 0 0 == 1) ≡ false = grind (arith, nat_tests) in let none : slot_in b ≡ None = rw no refl in absurd (cc (some, ap (λ (o : Option Slot). is_some o) none))
]

pub said_open : (at : ℕ) (h : Header) (c : List ℕ) → IsSlotPlace at → SaysHeader h c → is_some (slot_at at h) ≡ true → get_or c at 0 ≡ 1
said_open at h c place says some =
    let bound = slot_bound at place in
    let lt : at < length c = omega (arith, bound, says.0.0) in
    sym (ap (λ (l : List ℕ). get_or l 0 0) (slot_bytes at c lt)) ∙ gate_of_some (seg at 64 c) (ap (λ (o : Option Slot). is_some o) (said_slot at h c place says) ∙ some)

-- ---- the three writes

-- while an open slot is closed it is still open, as it was, or closed
pub closing : (at : ℕ) (h : Header) (old c : List ℕ) → IsSlotPlace at → SaysHeader h old → is_some (slot_at at h) ≡ true → Torn at 1 old c → SaysEitherSlot at h (slot_at at h) None old c
closing at h old c place says some torn =
    let bound = slot_bound at place in
    let other = torn_slot at at 1 old c (omega arith) (omega arith) (omega (arith, bound, says.0.0)) torn in
    let lt : at < length old = omega (arith, bound, says.0.0) in
    let lt_c : at < length c = omega (arith, lt, other.size) in
    let was = said_open at h old place says some in
    elim (cases_eq (get_or c at 0) 1) [
      | inl one ↦
          (let same : seg at 64 c ≡ seg at 64 old = slot_bytes at c lt_c ∙ ap (λ (g : ℕ). g ∷ seg (at + 1) 63 c) (one ∙ sym was) ∙ ap (λ (l : List ℕ). get_or old at 0 ∷ take 63 l) torn.after ∙ sym (slot_bytes at old lt) in
          inl (record {
            same = other;
            says = slot_says at h (slot_at at h) old c place other says (subst IsSlot (sym same) (good_at at h old place says)) (ap slot_in same ∙ said_slot at h old place says)
                (subst HasOwnNumbers (sym (with_own at h)) (subst HasOwnNumbers says.1 says.0.1.numbers));
          }))
      | inr closed ↦ inr (record { same = other; says = closed_says at h old c place other says closed })
    ]

-- where no slot is open, it is left as it is
pub left_closed : (at : ℕ) (h : Header) (c : List ℕ) → SaysHeader h c → is_some (slot_at at h) ≡ false → SaysSlot at h None c c
left_closed at h c says none =
    let is : slot_at at h ≡ None = no_slot (slot_at at h) none in
    record { same = same_slot at c; says = subst (λ (o : Option Slot). SaysHeader (with_slot at o h) c) is (subst (λ (k : Header). SaysHeader k c) (sym (with_own at h)) says) }
  where
    no_slot : (o : Option Slot) → is_some o ≡ false → o ≡ None
    no_slot None none = refl
    no_slot (Some a) none = absurd (cc none)

-- a closed slot is written, and is still closed
pub filling : (at : ℕ) (h : Header) (first old c : List ℕ) → IsSlotPlace at → SaysSlot at h None first old → Torn (at + 1) 63 old c → SaysSlot at h None first c
filling at h first old c place says torn =
    let bound = slot_bound at place in
    let long = says.says.0.0 in
    let other = torn_slot at (at + 1) 63 old c (omega arith) (omega arith) (omega (arith, bound, long)) torn in
    let gate : get_or c at 0 ≡ get_or old at 0 = byte-front at (at + 1) c old (omega arith) torn.before in
    let closed = closed_says at (with_slot at None h) old c place other says.says (λ one. said_closed at h old place says.says (sym gate ∙ one)) in
    record { same = other_then at first old c says.same other; says = subst (λ (k : Header). SaysHeader k c) (with_twice at None None h) closed }

-- while it is opened it is closed, or has the numbers that stand in it
pub opening : (at : ℕ) (h : Header) (s : Slot) (first old c : List ℕ) → IsSlotPlace at → SaysSlot at h None first old → s.seq < 2 ^ 64 → s.at < 2 ^ 64 → HasOwnNumbers (with_slot at (Some s) h) → seg (at + 1) 63 old ≡ slot_rest s
    → Torn at 1 old c → SaysEitherSlot at h None (Some s) first c
opening at h s first old c place says fits fits_at own filled torn =
    let bound = slot_bound at place in
    let long = says.says.0.0 in
    let other = torn_slot at at 1 old c (omega arith) (omega arith) (omega (arith, bound, long)) torn in
    let whole = other_then at first old c says.same other in
    let none = with_twice at None None h in
    elim (cases_eq (get_or c at 0) 1) [
      | inl one ↦
          (let some = with_twice at (Some s) None h in
          inr (record { same = whole; says = subst (λ (k : Header). SaysHeader k c) some (opened_says at (with_slot at None h) s old c place other says.says fits fits_at (subst HasOwnNumbers (sym some) own) one (ap (take 63) torn.after ∙ filled)) }))
      | inr closed ↦ inl (record { same = whole; says = subst (λ (k : Header). SaysHeader k c) none (closed_says at (with_slot at None h) old c place other says.says closed) })
    ]

-- after the write the gate is what was written
pub gate_written : (old new : List ℕ) (at g : ℕ) → at ≤ length old → new ≡ with_bytes old at (g ∷ []) → get_or new at 0 ≡ g
gate_written old new at g le is = ap (λ (l : List ℕ). get_or l at 0) is ∙ get_or_at (take at old) g (drop (at + 1) old) 0 at (omega (arith, length-take at old))

-- and so is what comes after it
pub rest_written : (old new bytes : List ℕ) (m n : ℕ) → m ≤ length old → length bytes ≡ n → new ≡ with_bytes old m bytes → take n (drop m new) ≡ bytes
rest_written old new bytes m n le long is =
    let more = drop (m + length bytes) old in
    ap (λ (l : List ℕ). take n (drop m l)) is ∙ ap (take n) (drop_at (take m old) (bytes ++ more) m (omega (arith, length-take m old))) ∙ take_at bytes more n long

-- the numbers stand in the slot
pub filled_is : (at : ℕ) → IsSlotPlace at → (h : Header) (s : Slot) (old new bytes : List ℕ) → SaysSlot at h None old old → bytes ≡ slot_rest s → new ≡ with_bytes old (at + 1) bytes → take 63 (drop (at + 1) new) ≡ slot_rest s
filled_is at place h s old new bytes says is made =
    let bound = slot_bound at place in
    rest_written old new bytes (at + 1) 63 (omega (arith, bound, says.says.0.0)) (ap length is) made ∙ is

-- ---- the live slot

-- while the spare slot is closed the live one is live
spare_none : (a b : Option Slot) (v : ℕ) → live_slot (with_slot (spare_of a b) None (made v a b)) ≡ newer a b
spare_none None None v = refl
spare_none None (Some b) v = refl
spare_none (Some a) None v = refl
spare_none (Some a) (Some b) v = elim (cases_Bool (nat_lt b.seq a.seq)) [
  | inl holds ↦ rw holds refl
  | inr fails ↦ rw fails refl
]

-- and then the new one
spare_some : (a b : Option Slot) (s : Slot) (v : ℕ) → s.seq ≡ number_after (newer a b) → live_slot (with_slot (spare_of a b) (Some s) (made v a b)) ≡ Some s
spare_some None None s v is = refl
spare_some None (Some b) s v is = let less : nat_lt b.seq s.seq ≡ true = grind (arith, nat_tests) in rw less refl
spare_some (Some a) None s v is = let less : nat_lt s.seq a.seq ≡ false = grind (arith, nat_tests) in rw less refl
spare_some (Some a) (Some b) s v is = elim (cases_Bool (nat_lt b.seq a.seq)) [
  | inl holds ↦ let num : s.seq ≡ a.seq + 1 = rw holds at is in let less : nat_lt s.seq a.seq ≡ false = grind (arith, nat_tests) in rw (holds, less) refl
  | inr fails ↦ let num : s.seq ≡ b.seq + 1 = rw fails at is in let less : nat_lt b.seq s.seq ≡ true = grind (arith, nat_tests) in rw (fails, less) refl
]

pub spare_own : (a b : Option Slot) (s : Slot) (v : ℕ) → s.seq ≡ number_after (newer a b) → HasOwnNumbers (with_slot (spare_of a b) (Some s) (made v a b))
spare_own None None s v is = λ x y one two same. absurd (cc two)
spare_own None (Some b) s v is = λ x y one two same. let k : s ≡ x = cc one in let l : b ≡ y = cc two in absurd (omega (arith, is, ap (λ (z : Slot). z.seq) k, ap (λ (z : Slot). z.seq) l, same))
spare_own (Some a) None s v is = λ x y one two same. let k : a ≡ x = cc one in let l : s ≡ y = cc two in absurd (omega (arith, is, ap (λ (z : Slot). z.seq) k, ap (λ (z : Slot). z.seq) l, same))
spare_own (Some a) (Some b) s v is = elim (cases_Bool (nat_lt b.seq a.seq)) [
  | inl holds ↦ let num : s.seq ≡ a.seq + 1 = rw holds at is in rw holds (λ x y one two same. let k : a ≡ x = cc one in let l : s ≡ y = cc two in absurd (omega (arith, num, ap (λ (z : Slot). z.seq) k, ap (λ (z : Slot). z.seq) l, same)))
  | inr fails ↦ let num : s.seq ≡ b.seq + 1 = rw fails at is in rw fails (λ x y one two same. let k : s ≡ x = cc one in let l : b ≡ y = cc two in absurd (omega (arith, num, ap (λ (z : Slot). z.seq) k, ap (λ (z : Slot). z.seq) l, same)))
]

pub live_none : (h : Header) → live_slot (with_slot (spare_slot h) None h) ≡ live_slot h
live_none h = spare_none h.first h.second h.version

pub live_new : (h : Header) (at : ℕ) → live_slot (with_slot (spare_slot h) (Some (next_slot h at)) h) ≡ Some (next_slot h at)
live_new h at = spare_some h.first h.second (next_slot h at) h.version refl

pub own_next : (h : Header) (at : ℕ) (s : Slot) → s ≡ next_slot h at → HasOwnNumbers (with_slot (spare_slot h) (Some s) h)
own_next h at s is = spare_own h.first h.second s h.version (ap (λ (t : Slot). t.seq) is)

has_live : (h : Header) (o : Option Slot) (c : List ℕ) → SaysHeader h c → live_slot h ≡ o → HasLive o c
has_live h o c says is = (says.0, ap live_slot says.1 ∙ is)

-- what a crash leaves names the old checkpoint or the new one
pub names : (h : Header) (at : ℕ) (old c : List ℕ) → SaysSlot (spare_slot h) h (slot_at (spare_slot h) h) old c ⊎ SaysEitherSlot (spare_slot h) h None (Some (next_slot h at)) old c → NamesOldOrNew h at old c
names h at old c (inl was) = record { same = was.same; live = inl (has_live _ _ c was.says (ap live_slot (with_own (spare_slot h) h))) }
names h at old c (inr (inl none)) = record { same = none.same; live = inl (has_live _ _ c none.says (live_none h)) }
names h at old c (inr (inr new)) = record { same = new.same; live = inr (has_live _ _ c new.says (live_new h at)) }

-- ---- the calls

module _ (at : ℕ) (place : IsSlotPlace at) (h : Header) (v w : View) (only : Only v.content v.images) where
  -- a file that a crash leaves of a write, where one file alone could be left before
  torn_from : (m n : ℕ) → ViewSteps (Torn m n) v w → w.images w.content → Torn m n v.content w.content
  torn_from m n steps here = let from = steps.now w.content here in subst (λ (l : List ℕ). Torn m n l w.content) (only from.0 from.1) from.2

  pub close_crash : SaysHeader h v.content → is_some (slot_at at h) ≡ true → ViewSteps (Torn at 1) v w → ViewKeeps (SaysEitherSlot at h (slot_at at h) None v.content) v w
  close_crash says some steps = steps_keep (Torn at 1) (SaysEitherSlot at h (slot_at at h) None v.content) v w steps
      (λ d c im torn. closing at h v.content c place says some (subst (λ (l : List ℕ). Torn at 1 l c) (only d im) torn))

  pub close_done : SaysHeader h v.content → ViewSteps (Torn at 1) v w → w.images w.content → w.content ≡ with_bytes v.content at (0 ∷ []) → SaysSlot at h None v.content w.content
  close_done says steps here is =
      let bound = slot_bound at place in
      let other = torn_slot at at 1 v.content w.content (omega arith) (omega arith) (omega (arith, bound, says.0.0)) (torn_from at 1 steps here) in
      let gate = gate_written v.content w.content at 0 (omega (arith, bound, says.0.0)) is in
      record { same = other; says = closed_says at h v.content w.content place other says (λ one. let no : 0 ≡ 1 = sym gate ∙ one in absurd (omega (arith, no))) }

  module _ (first : List ℕ) (says : SaysSlot at h None first v.content) where
    pub fill_crash : ViewSteps (Torn (at + 1) 63) v w → ViewKeeps (SaysSlot at h None first) v w
    fill_crash steps = steps_keep (Torn (at + 1) 63) (SaysSlot at h None first) v w steps
        (λ d c im torn. filling at h first v.content c place says (subst (λ (l : List ℕ). Torn (at + 1) 63 l c) (only d im) torn))

    module _ (s : Slot) (fits : s.seq < 2 ^ 64) (fits_at : s.at < 2 ^ 64) (own : HasOwnNumbers (with_slot at (Some s) h)) (filled : take 63 (drop (at + 1) v.content) ≡ slot_rest s) (steps : ViewSteps (Torn at 1) v w) where
      pub open_crash : ViewKeeps (SaysEitherSlot at h None (Some s) first) v w
      open_crash = steps_keep (Torn at 1) (SaysEitherSlot at h None (Some s) first) v w steps
          (λ d c im torn. opening at h s first v.content c place says fits fits_at own filled (subst (λ (l : List ℕ). Torn at 1 l c) (only d im) torn))

      pub open_done : w.images w.content → w.content ≡ with_bytes v.content at (1 ∷ []) → SaysSlot at h (Some s) first w.content
      open_done here is =
          let bound = slot_bound at place in
          let long = says.says.0.0 in
          let torn = torn_from at 1 steps here in
          let other = torn_slot at at 1 v.content w.content (omega arith) (omega arith) (omega (arith, bound, long)) torn in
          let gate = gate_written v.content w.content at 1 (omega (arith, bound, long)) is in
          let some = with_twice at (Some s) None h in
          record {
            same = other_then at first v.content w.content says.same other;
            says = subst (λ (k : Header). SaysHeader k w.content) some (opened_says at (with_slot at None h) s v.content w.content place other says.says fits fits_at (subst HasOwnNumbers (sym some) own) gate (ap (take 63) torn.after ∙ filled));
          }

-- a file whose slot was closed is one whose slot is closed
pub still_closed : (at : ℕ) (h : Header) (first c : List ℕ) → SaysSlot at h None first c → SaysSlot at h None c c
still_closed at h first c says = record { same = same_slot at c; says = says.says }

module _ (at : ℕ) (h : Header) (s : Slot) (old : List ℕ) where
  -- what a crash leaves of all three
  abbrev Written : List ℕ → Type 0
  Written c = SaysSlot at h (slot_at at h) old c ⊎ SaysEitherSlot at h None (Some s) old c

  pub after_close : (v w : View) → ViewKeeps (SaysEitherSlot at h (slot_at at h) None old) v w → ViewKeeps Written v w
  after_close v w keeps = keeps_wider (SaysEitherSlot at h (slot_at at h) None old) Written v w keeps (λ c says. ⊎_elim (λ was. inl was) (λ none. inr (inl none)) says)

  pub after_fill : (v w x : View) → ViewKeeps (SaysEitherSlot at h (slot_at at h) None old) v w → ViewKeeps (SaysSlot at h None old) w x → ViewKeeps Written v x
  after_fill v w x one two = keeps_then Written (SaysSlot at h None old) v w x (after_close v w one) two (λ c none. inr (inl none))

  pub after_open : (v w x y : View) → ViewKeeps (SaysEitherSlot at h (slot_at at h) None old) v w → ViewKeeps (SaysSlot at h None old) w x → ViewKeeps (SaysEitherSlot at h None (Some s) old) x y → ViewKeeps Written v y
  after_open v w x y one two three = keeps_then Written (SaysEitherSlot at h None (Some s) old) v x y (after_fill v w x one two) three (λ c either. inr either)

pub names_crash : (h : Header) (at k n : ℕ) (o : Option Slot) (old : List ℕ) (v w : View) → k ≡ spare_slot h → o ≡ live_slot h → n ≡ number_after o
    → ViewKeeps (λ c. SaysSlot k h (slot_at k h) old c ⊎ SaysEitherSlot k h None (Some (record { seq = n; at = at })) old c) v w → ViewKeeps (NamesOldOrNew h at old) v w
names_crash h at k n o old v w spare live number keeps =
    let is : n ≡ number_after (live_slot h) = number ∙ ap number_after live in
    keeps_wider (Written k h (record { seq = n; at = at }) old) (NamesOldOrNew h at old) v w keeps
    (λ c says. names h at old c (subst (λ (m : ℕ). Written (spare_slot h) h (record { seq = m; at = at }) old c) is (subst (λ (j : ℕ). Written j h (record { seq = n; at = at }) old c) spare says)))
