-- Slots that hold cells and free ones: one of these taken, one added, and cells set free.
use Rattle.std.specs.Prelude.{◌≡◌, ℕ, ◌<◌, ◌≢◌, if◌then◌else◌, Bool, true, false, List, [], ◌∷◌, ◌++◌, map, length, slice_get, slice_set, refl}
use Rattle.std.proofs.Common.{sym, ap, subst, ◌∙◌, append_assoc, append-nil, arith}
use Rattle.std.proofs.lemmas.List.{map-append}
use Rattle.std.specs.declared.option.Option.TheVariants.{None, Some}
use Rattle.std.proofs.lemmas.Option.{slice_get_past}
use Rattle.cp_tree_arena.specs.declared.slot.Slot.{Slot}
use Rattle.cp_tree_arena.specs.declared.slot.SlotId.{SlotId}
use Rattle.cp_tree_arena.specs.Slots.{NO_SLOT, links_in}
use Rattle.cp_tree_arena.specs.Shapes.{Cell, Shape, Tip, Fork, number_of, cells, IsSound}
use Rattle.cp_tree_arena.specs.Cells.{Holds, IsAt, IsPool}
use Rattle.cp_tree_arena.proofs.Held.{numbers, held_set, held_new, held_first, held_back, held_at, held_within}
use Rattle.cp_tree_arena.proofs.Holding.{pool_back, pool_turned}
use Rattle.cp_tree_arena.proofs.Opening.{Opened, opened, full_of}
use Rattle.cp_tree_arena.proofs.Sound.{held_as, root_read}

-- the numbers of free slots
abbrev pub free_numbers : List SlotId → List ℕ
free_numbers free = map (λ (i : SlotId). i.number) free

-- the same cells, grouped in another way
pool_as : (slots : List Slot) (free : List SlotId) (cs ds : List Cell) → cs ≡ ds → IsPool slots free cs → IsPool slots free ds
pool_as slots free cs ds e p = subst (IsPool slots free) e p

-- ---- a cell that is set free

pool_freed : (slots : List Slot) (free : List SlotId) (id : SlotId) (s : Slot) (cs : List Cell) → IsPool slots free ((id.number, s) ∷ cs) → IsPool slots (free ++ id ∷ []) cs
pool_freed slots free id s cs p = record {
  rest = p.rest ++ (id.number, s) ∷ [];
  numbers = map-append (λ (c : Cell). c.0) p.rest ((id.number, s) ∷ []) ∙ ap (λ z. z ++ id.number ∷ []) p.numbers ∙ sym (map-append (λ (i : SlotId). i.number) free (id ∷ []));
  holds = held_as slots ((cs ++ p.rest) ++ (id.number, s) ∷ []) (cs ++ (p.rest ++ (id.number, s) ∷ [])) (append_assoc cs p.rest ((id.number, s) ∷ []))
      (held_last slots (cs ++ p.rest) (id.number, s) p.holds);
}
  where
    held_last : (slots : List Slot) (ds : List Cell) (c : Cell) → Holds slots (c ∷ ds) → Holds slots (ds ++ c ∷ [])
    held_last slots ds c h = held_back slots ds c [] (subst (λ z. Holds slots (c ∷ z)) (sym (append-nil ds)) h)

-- where there is room for its number; else it stays out of use
pub pool_pushed : (slots : List Slot) (free more : List SlotId) (id : SlotId) (s : Slot) (cs : List Cell) (b : Bool) → more ≡ (if b then free ++ id ∷ [] else free) → IsPool slots free ((id.number, s) ∷ cs) → IsPool slots more cs
pool_pushed slots free more id s cs true e p = subst (λ z. IsPool slots z cs) (sym e) (pool_freed slots free id s cs p)
pool_pushed slots free more id s cs false e p = subst (λ z. IsPool slots z cs) (sym e) (pool_back slots free ((id.number, s) ∷ []) cs p)

-- ---- siblings that are set free

module _ (slots : List Slot) (free : List SlotId) (at : ℕ) (t : Shape) (cs : List Cell) (root : at ≡ number_of t) (sound : IsSound t) (p : IsPool slots free (cells t ++ cs)) where
  -- they stand there
  pub pool_at : IsAt slots at t [] (cs ++ p.rest)
  pool_at = record { root = root; holds = held_as slots ((cells t ++ cs) ++ p.rest) (cells t ++ (cs ++ p.rest)) (append_assoc (cells t) cs p.rest) p.holds; sound = sound }

  -- there are none
  pub pool_none : slice_get slots at ≡ None → IsPool slots free cs
  pool_none none = by t root pool_at p
    where
      by : (u : Shape) → at ≡ number_of u → IsAt slots at u [] (cs ++ p.rest) → IsPool slots free (cells u ++ cs) → IsPool slots free cs
      by Tip e k q = q
      by (Fork n s l c r) e k q = absurd (let some : slice_get slots at ≡ Some s = root_read slots at (Fork n s l c r) [] (cs ++ p.rest) k in cc)

  -- there are some: the parts
  pub pool_opened : (s : Slot) → slice_get slots at ≡ Some s → Opened slots at t [] (cs ++ p.rest) s.links
  pool_opened s there =
      let some : at ≢ NO_SLOT = λ e. (let none : slice_get slots at ≡ None = ap (slice_get slots) e ∙ slice_get_past slots NO_SLOT p.holds.few in cc) in
      opened slots at t [] (cs ++ p.rest) s.links pool_at (full_of slots at t [] (cs ++ p.rest) pool_at some) (ap links_in (sym there))

  module _ (s : Slot) (there : slice_get slots at ≡ Some s) (f : Opened slots at t [] (cs ++ p.rest) s.links) where
    pub pool_left : IsPool slots free (cells f.l ++ (((at, f.s) ∷ (cells f.c ++ cells f.r)) ++ cs))
    pool_left = pool_as slots free (cells t ++ cs) (cells f.l ++ (((at, f.s) ∷ (cells f.c ++ cells f.r)) ++ cs)) (ap (λ z. cells z ++ cs) f.is ∙ append_assoc (cells f.l) ((at, f.s) ∷ (cells f.c ++ cells f.r)) cs) p

    pub pool_children : (free2 : List SlotId) → IsPool slots free2 (((at, f.s) ∷ (cells f.c ++ cells f.r)) ++ cs) → IsPool slots free2 (cells f.c ++ ((at, f.s) ∷ (cells f.r ++ cs)))
    pool_children free2 q = pool_turned slots free2 ((at, f.s) ∷ []) (cells f.c) (cells f.r ++ cs)
        (pool_as slots free2 (((at, f.s) ∷ (cells f.c ++ cells f.r)) ++ cs) (((at, f.s) ∷ []) ++ (cells f.c ++ (cells f.r ++ cs))) (simp append_assoc) q)

    pub pool_right : (free3 : List SlotId) → IsPool slots free3 ((at, f.s) ∷ (cells f.r ++ cs)) → IsPool slots free3 (cells f.r ++ ((at, f.s) ∷ cs))
    pool_right free3 q = pool_turned slots free3 ((at, f.s) ∷ []) (cells f.r) cs q

-- ---- a free slot that is taken

-- the last of the free slots
pub record LastOf (rest : List Cell) (free : List SlotId) (id : SlotId) : Type 0 where
  pub front : List Cell
  pub s : Slot
  pub is : rest ≡ front ++ (id.number, s) ∷ []
  pub numbers : numbers front ≡ free_numbers free

last_more : (c : Cell) (i : SlotId) (rest : List Cell) (free : List SlotId) (id : SlotId) → c.0 ≡ i.number → LastOf rest free id → LastOf (c ∷ rest) (i ∷ free) id
last_more c i rest free id same r = record {
  front = c ∷ r.front;
  s = r.s;
  is = ap (λ z. c ∷ z) r.is;
  numbers = ap (λ z. z ∷ numbers r.front) same ∙ ap (λ z. i.number ∷ z) r.numbers;
}

pub last_of : (free : List SlotId) (rest : List Cell) (id : SlotId) → numbers rest ≡ free_numbers (free ++ id ∷ []) → LastOf rest free id
last_of [] [] id e = absurd (cc)
last_of [] (c ∷ []) id e = (let same : c.0 ≡ id.number = cc in record { front = []; s = c.1; is = ap (λ z. (z, c.1) ∷ []) same; numbers = refl })
last_of [] (c ∷ d ∷ rest) id e = absurd (cc)
last_of (i ∷ free) [] id e = absurd (cc)
last_of (i ∷ free) (c ∷ rest) id e =
    let tail : numbers rest ≡ free_numbers (free ++ id ∷ []) = cc in
    let same : c.0 ≡ i.number = cc in
    last_more c i rest free id same (last_of free rest id tail)

module _ (slots : List Slot) (free front : List SlotId) (id : SlotId) (popped : free ≡ front ++ id ∷ []) (cs : List Cell) (p : IsPool slots free cs) where
  last_free : LastOf p.rest front id
  last_free = last_of front p.rest id (p.numbers ∙ ap free_numbers popped)

  taken_holds : Holds slots ((cs ++ last_free.front) ++ (id.number, last_free.s) ∷ [])
  taken_holds = held_as slots (cs ++ p.rest) ((cs ++ last_free.front) ++ (id.number, last_free.s) ∷ []) (ap (λ z. cs ++ z) last_free.is ∙ sym (append_assoc cs last_free.front ((id.number, last_free.s) ∷ []))) p.holds

  pub taken_within : id.number < length slots
  taken_within = held_within slots (cs ++ last_free.front) (id.number, last_free.s) [] taken_holds

  pub pool_taken : (s : Slot) → IsPool (slice_set slots id.number s) front ((id.number, s) ∷ cs)
  pool_taken s = record {
    rest = last_free.front;
    numbers = last_free.numbers;
    holds = subst (λ z. Holds (slice_set slots id.number s) ((id.number, s) ∷ z)) (append-nil (cs ++ last_free.front))
        (held_first (slice_set slots id.number s) (cs ++ last_free.front) (id.number, s) [] (held_set slots (cs ++ last_free.front) id.number last_free.s s [] taken_holds));
  }

-- ---- a slot that is added

pub pool_added : (slots more : List Slot) (free front : List SlotId) (n : ℕ) (s : Slot) (cs : List Cell) → more ≡ slots ++ s ∷ [] → n ≡ length slots → n < NO_SLOT → free ≡ front ++ [] → IsPool slots free cs → IsPool more front ((n, s) ∷ cs)
pool_added slots more free front n s cs e f lt g p =
    let same : free ≡ front = g ∙ append-nil front in
    record {
      rest = p.rest;
      numbers = p.numbers ∙ ap free_numbers same;
      holds = rw (e, f) (held_new slots s (cs ++ p.rest) (omega (arith, f, lt)) p.holds);
    }

-- siblings that are kept where a slot is
pub kept_opened : (slots : List Slot) (at : ℕ) (t : Shape) (xs ys : List Cell) → IsAt slots at t xs ys → (s : Slot) → slice_get slots at ≡ Some s → Opened slots at t xs ys s.links
kept_opened slots at t xs ys k s there =
    let some : at ≢ NO_SLOT = λ e. (let none : slice_get slots at ≡ None = ap (slice_get slots) e ∙ slice_get_past slots NO_SLOT k.holds.few in cc) in
    opened slots at t xs ys s.links k (full_of slots at t xs ys k some) (ap links_in (sym there))

-- ---- a node that is set free

module _ (slots : List Slot) (free : List SlotId) (at : ℕ) (s : Slot) (c : Shape) (cs : List Cell) (p : IsPool slots free ((at, s) ∷ (cells c ++ cs))) where
  -- its children first
  pub node_turned : IsPool slots free (cells c ++ ((at, s) ∷ cs))
  node_turned = pool_turned slots free ((at, s) ∷ []) (cells c) cs p

  -- the slot that is read
  pub node_children : (t : Slot) → slice_get slots at ≡ Some t → t.links.children.number ≡ s.links.children.number
  node_children t there =
      let e : slice_get slots at ≡ Some s = held_at slots [] (at, s) ((cells c ++ cs) ++ p.rest) p.holds in
      let same : t ≡ s = cc in
      ap (λ z. z.links.children.number) same
