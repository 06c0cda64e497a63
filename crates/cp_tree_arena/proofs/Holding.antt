-- Cells that the slots hold, besides the free ones: in another order, and some of them alone.
use Rattle.std.proofs.Common.{List, [], ◌∷◌, ◌++◌, subst, sym, append_assoc}
use Rattle.std.specs.List.{AllByRecursion}
use Rattle.cp_tree_arena.specs.declared.slot.Slot.{Slot}
use Rattle.cp_tree_arena.specs.declared.slot.SlotId.{SlotId}
use Rattle.cp_tree_arena.specs.Shapes.{Cell}
use Rattle.cp_tree_arena.specs.Cells.{Holds, IsPool}
use Rattle.cp_tree_arena.proofs.Held.{held_rest, held_swapped}

module _ {X : Type 0} (P : X → Type 0) where
  pub all_front : (xs ys : List X) → AllByRecursion P (xs ++ ys) → AllByRecursion P xs
  all_front [] ys h = tt
  all_front (x ∷ xs) ys h = (h.0, all_front xs ys h.1)

  pub all_back : (xs ys : List X) → AllByRecursion P (xs ++ ys) → AllByRecursion P ys
  all_back [] ys h = h
  all_back (x ∷ xs) ys h = all_back xs ys h.1

module _ (slots : List Slot) where
  -- the later cells alone
  holds_back : (xs ys : List Cell) → Holds slots (xs ++ ys) → Holds slots ys
  holds_back [] ys h = h
  holds_back (x ∷ xs) ys h = holds_back xs ys (held_rest slots x (xs ++ ys) h)

  module _ (free : List SlotId) where
    -- the later cells alone, besides the free ones
    pub pool_back : (xs ys : List Cell) → IsPool slots free (xs ++ ys) → IsPool slots free ys
    pool_back xs ys p = record { rest = p.rest; numbers = p.numbers; holds = holds_back xs (ys ++ p.rest) (subst (Holds slots) (append_assoc xs ys p.rest) p.holds) }

    -- two parts in the other order
    pub pool_turned : (xs ys zs : List Cell) → IsPool slots free (xs ++ (ys ++ zs)) → IsPool slots free (ys ++ (xs ++ zs))
    pool_turned xs ys zs p = record {
      rest = p.rest;
      numbers = p.numbers;
      holds = subst (Holds slots) (sym (simp append_assoc)) (held_swapped slots [] xs ys (zs ++ p.rest) (subst (Holds slots) (simp append_assoc) p.holds));
    }

    -- the last of three parts first
    pub pool_last : (xs ys zs : List Cell) → IsPool slots free (xs ++ (ys ++ (zs ++ []))) → IsPool slots free (zs ++ (xs ++ (ys ++ [])))
    pool_last xs ys zs p =
        subst (λ z. IsPool slots free (zs ++ z)) (append_assoc xs ys []) (pool_turned (xs ++ ys) zs [] (subst (IsPool slots free) (sym (append_assoc xs ys (zs ++ []))) p))

    -- the free slots alone
    pub pool_none : (cs : List Cell) → IsPool slots free cs → IsPool slots free []
    pool_none cs p = record { rest = p.rest; numbers = p.numbers; holds = holds_back cs p.rest p.holds }
