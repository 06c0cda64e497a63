-- Slots that hold cells: what they say of each, and what a write, a new order and a new slot keep.
use Rattle.std.specs.Prelude.{◌≡◌, ℕ, zero, suc, ◌<◌, ◌==◌, ◌≢◌, Bool, true, false, List, [], ◌∷◌, ◌++◌, map, length, slice_get, slice_set, refl}
use Rattle.std.proofs.Common.{sym, ap, subst, ◌∙◌, append_assoc, arith, eqb, eqb-true, eq-eqb, ne_eqb, get_or-set_same, get_or-set_other, length-set, length-append}
use Rattle.std.specs.List.{AllByRecursion}
use Rattle.std.specs.List.Sorted.{IsPermutation}
use Rattle.std.specs.declared.option.Option.TheVariants.{Some}
use Rattle.std.proofs.lemmas.List.Elements.{All-from_recursion, recursion_from_All}
use Rattle.std.proofs.lemmas.List.Sorted.{All-permutation, IsPermutation-map, IsPermutation-sym, IsPermutation-append_left, IsPermutation-append_right, IsPermutation-append_comm, IsPermutation-middle}
use Rattle.std.proofs.lemmas.Map.Keys.{IsDistinct-IsPermutation, IsDistinct-head, IsDistinct-tail, IsDistinct-cons}
use Rattle.std.proofs.lemmas.Option.{slice_get_within, slice_get-get_or, get_or_from_slice_get}
use Rattle.cp_tree_arena.specs.declared.slot.Slot.{Slot}
use Rattle.cp_tree_arena.specs.Slots.{NO_SLOT}
use Rattle.cp_tree_arena.specs.Shapes.{Cell}
use Rattle.cp_tree_arena.specs.Cells.{Holds}

-- what the slots say of a cell
abbrev stands_in : List Slot → Cell → Type 0
stands_in slots c = slice_get slots c.0 ≡ Some c.1

-- the numbers of cells
abbrev pub numbers : List Cell → List ℕ
numbers cs = map (λ (c : Cell). c.0) cs

flips : (a b : ℕ) → (a == b) ≡ (b == a)
flips a b = by (eqb a b) refl
  where
    by : (t : Bool) → eqb a b ≡ t → eqb a b ≡ eqb b a
    by true e = e ∙ sym (eq-eqb b a (sym (eqb-true a b e)))
    by false e = e ∙ sym (ne_eqb b a (λ (k : b ≡ a). (let same : eqb a b ≡ true = eq-eqb a b (sym k) in cc)))

-- the order of the cells does not matter
held_permuted : (slots : List Slot) (cs ds : List Cell) → IsPermutation cs ds → Holds slots cs → Holds slots ds
held_permuted slots cs ds p h = record {
  few = h.few;
  stand = recursion_from_All (stands_in slots) ds (All-permutation (stands_in slots) cs ds p (All-from_recursion (stands_in slots) cs h.stand));
  apart = IsDistinct-IsPermutation (λ a b. a == b) flips (numbers cs) (numbers ds) (IsPermutation-map (λ (c : Cell). c.0) cs ds p) h.apart;
}

-- a block of cells moves past another
pub held_swapped : (slots : List Slot) (xs bs cs ys : List Cell) → Holds slots (xs ++ (bs ++ (cs ++ ys))) → Holds slots (xs ++ (cs ++ (bs ++ ys)))
held_swapped slots xs bs cs ys h =
    let p : IsPermutation ((bs ++ cs) ++ ys) ((cs ++ bs) ++ ys) = IsPermutation-append_left ys (bs ++ cs) (cs ++ bs) (IsPermutation-append_comm bs cs) in
    let q = IsPermutation-append_right xs ((bs ++ cs) ++ ys) ((cs ++ bs) ++ ys) p in
    subst (λ z. Holds slots (xs ++ z)) (append_assoc cs bs ys) (held_permuted slots (xs ++ ((bs ++ cs) ++ ys)) (xs ++ ((cs ++ bs) ++ ys)) q (subst (λ z. Holds slots (xs ++ z)) (sym (append_assoc bs cs ys)) h))

-- a cell comes to the front
pub held_first : (slots : List Slot) (xs : List Cell) (c : Cell) (ys : List Cell) → Holds slots (xs ++ c ∷ ys) → Holds slots (c ∷ (xs ++ ys))
held_first slots xs c ys h = held_permuted slots (xs ++ c ∷ ys) (c ∷ (xs ++ ys)) (IsPermutation-middle xs c ys) h

-- and goes back
pub held_back : (slots : List Slot) (xs : List Cell) (c : Cell) (ys : List Cell) → Holds slots (c ∷ (xs ++ ys)) → Holds slots (xs ++ c ∷ ys)
held_back slots xs c ys h = held_permuted slots (c ∷ (xs ++ ys)) (xs ++ c ∷ ys) (IsPermutation-sym (xs ++ c ∷ ys) (c ∷ (xs ++ ys)) (IsPermutation-middle xs c ys)) h

-- all but the first cell
pub held_rest : (slots : List Slot) (c : Cell) (cs : List Cell) → Holds slots (c ∷ cs) → Holds slots cs
held_rest slots c cs h = record { few = h.few; stand = h.stand.1; apart = IsDistinct-tail (λ a b. a == b) c.0 (numbers cs) h.apart }

-- what stands in a cell's slot
pub held_at : (slots : List Slot) (xs : List Cell) (c : Cell) (ys : List Cell) → Holds slots (xs ++ c ∷ ys) → slice_get slots c.0 ≡ Some c.1
held_at slots xs c ys h = (held_first slots xs c ys h).stand.0

-- a cell's number is that of a slot
pub held_within : (slots : List Slot) (xs : List Cell) (c : Cell) (ys : List Cell) → Holds slots (xs ++ c ∷ ys) → c.0 < length slots
held_within slots xs c ys h = slice_get_within slots c.0 c.1 (held_at slots xs c ys h)

-- and not that of none
pub held_some : (slots : List Slot) (xs : List Cell) (c : Cell) (ys : List Cell) → Holds slots (xs ++ c ∷ ys) → c.0 < NO_SLOT
held_some slots xs c ys h = omega (arith, held_within slots xs c ys h, h.few)

get_set_same : (slots : List Slot) (n : ℕ) (s : Slot) → n < length slots → slice_get (slice_set slots n s) n ≡ Some s
get_set_same slots n s lt =
    slice_get-get_or (slice_set slots n s) n s (omega (arith, length-set slots n s)) ∙ ap (λ z. Some z) (get_or-set_same slots n s s lt)

get_set_other : (slots : List Slot) (n m : ℕ) (s t : Slot) → m ≢ n → slice_get slots m ≡ Some t → slice_get (slice_set slots n s) m ≡ Some t
get_set_other slots n m s t ne e =
    let lt = slice_get_within slots m t e in
    slice_get-get_or (slice_set slots n s) m t (omega (arith, length-set slots n s)) ∙ ap (λ z. Some z) (get_or-set_other slots n m s t ne ∙ get_or_from_slice_get slots m t t e)

others_stand : (slots : List Slot) (n : ℕ) (s : Slot) (cs : List Cell) → AllByRecursion (λ y. (n == y) ≡ false) (numbers cs) → AllByRecursion (stands_in slots) cs → AllByRecursion (stands_in (slice_set slots n s)) cs
others_stand slots n s [] a h = tt
others_stand slots n s (c ∷ cs) a h =
    (get_set_other slots n c.0 s c.1 (λ (k : c.0 ≡ n). (let same : eqb n c.0 ≡ true = eq-eqb n c.0 (sym k) in let other : eqb n c.0 ≡ false = a.0 in absurd (cc))) h.0, others_stand slots n s cs a.1 h.1)

-- a write to a cell's slot changes that cell alone
pub held_set : (slots : List Slot) (xs : List Cell) (n : ℕ) (old new : Slot) (ys : List Cell) → Holds slots (xs ++ (n, old) ∷ ys) → Holds (slice_set slots n new) (xs ++ (n, new) ∷ ys)
held_set slots xs n old new ys h =
    let first = held_first slots xs (n, old) ys h in
    let within = held_within slots xs (n, old) ys h in
    let others = IsDistinct-head (λ a b. a == b) n (numbers (xs ++ ys)) first.apart in
    held_back (slice_set slots n new) xs (n, new) ys (record {
      few = omega (arith, h.few, length-set slots n new);
      stand = (get_set_same slots n new within, others_stand slots n new (xs ++ ys) others first.stand.1);
      apart = first.apart;
    })

-- ---- a new slot

get_front : (slots more : List Slot) (n : ℕ) (s : Slot) → slice_get slots n ≡ Some s → slice_get (slots ++ more) n ≡ Some s
get_front [] more n s e = absurd (cc)
get_front (x ∷ slots) more zero s e = e
get_front (x ∷ slots) more (suc n) s e = get_front slots more n s e

get_last : (slots : List Slot) (s : Slot) → slice_get (slots ++ s ∷ []) (length slots) ≡ Some s
get_last [] s = refl
get_last (x ∷ slots) s = get_last slots s

all_stand : (slots more : List Slot) (cs : List Cell) → AllByRecursion (stands_in slots) cs → AllByRecursion (stands_in (slots ++ more)) cs
all_stand slots more [] h = tt
all_stand slots more (c ∷ cs) h = (get_front slots more c.0 c.1 h.0, all_stand slots more cs h.1)

new_apart : (slots : List Slot) (cs : List Cell) → AllByRecursion (stands_in slots) cs → AllByRecursion (λ y. (length slots == y) ≡ false) (numbers cs)
new_apart slots [] h = tt
new_apart slots (c ∷ cs) h =
    (ne_eqb (length slots) c.0 (λ (k : length slots ≡ c.0). absurd (omega (arith, slice_get_within slots c.0 c.1 h.0))), new_apart slots cs h.1)

-- a slot more at the end holds a cell more
pub held_new : (slots : List Slot) (s : Slot) (cs : List Cell) → length slots < NO_SLOT → Holds slots cs → Holds (slots ++ s ∷ []) ((length slots, s) ∷ cs)
held_new slots s cs lt h = record {
  few = omega (arith, length-append slots (s ∷ []));
  stand = (get_last slots s, all_stand slots (s ∷ []) cs h.stand);
  apart = IsDistinct-cons (λ a b. a == b) (length slots) (numbers cs) (new_apart slots cs h.stand) h.apart;
}
