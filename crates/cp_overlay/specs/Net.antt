-- What of a step's rows is noted, by place.
use Rattle.std.specs.Prelude.{◌≡◌, Bool, true, cond, not, ◌&&◌, List, ◌∷◌, ◌++◌, is_some, length, nat_lt}
use Rattle.cp_path.specs.declared.limits.TheConstants.{LABELS_MAX}
use Rattle.std.specs.declared.option.Option.{Option}
use Rattle.std.specs.declared.option.Option.TheVariants.{None, Some}
use Rattle.cp_model.specs.Place.{Path, Label, child, starts_with, nearest, parent, or_else, option_map}
use Rattle.cp_model.specs.Keyed.{look}
use Rattle.cp_model.specs.Subtrees.{is_there}
use Rattle.cp_model.specs.Tree.{Tree}
use Rattle.cp_model.specs.declared.record.RowMark.{RowMark as Mark}
use Rattle.cp_model.specs.declared.record.RowMark.TheVariants.{Gone as D}
use Rattle.cp_model.specs.Rows.{effect, full_mark, reduced_mark, is_same, limited}
use Rattle.cp_overlay.specs.Kept.{Kept, Origins, origin_at}

-- the row of a place by what is kept, if it has one; a place over a limit counts as the same
unfoldable pub mark_kept : Kept → Path → Option Mark
mark_kept k p = full_mark (limited (effect p (origin_at k.origins p)))

-- what was noted, and in its place the row, if there is one and the test is passed
abbrev pub noted : Bool → Option Mark → Option Mark → Option Mark
noted b m o = cond b (or_else m o) o

-- no more labels than a place may have
unfoldable pub is_short : Path → Bool
is_short p = not (nat_lt LABELS_MAX (length p))

-- the row of a place by the origin that is kept of it, if one is: of other data, or K where its own data came back
unfoldable pub top_mark : Kept → Path → Option Mark
top_mark k p = option_map (λ o. reduced_mark (effect p o)) (k.origins p)

-- no origin is kept at this place or above, if there is such a place
abbrev pub none_kept : Origins → Option Path → Bool
none_kept f None = true
none_kept f (Some r) = not (is_some (nearest f r))

-- no origin is kept above p
unfoldable pub is_topmost : Origins → Path → Bool
is_topmost f p = none_kept f (parent p)

-- r lies at or below p, and is there
unfoldable pub is_within : Tree → Path → Path → Bool
is_within t p r = starts_with r p && is_there t r

-- q is there and is the same, and its child l isn't there
unfoldable pub is_lost : Kept → Tree → Path → Label → Bool
is_lost k b q l = (is_there b q && not (is_there b (child q l))) && is_same (limited (effect q (origin_at k.origins q)))

-- in a step from a to b, r is gone with a child that is kept as lost
pub record IsLoss (k : Kept) (a b : Tree) (r : Path) : Type 0 where
  pub parent : Path
  pub label : Label
  pub rest : Path
  pub place : r ≡ parent ++ label ∷ rest
  pub kept : k.lost parent label ≡ true
  pub gone : is_lost k b parent label ≡ true
  pub was : is_there a r ≡ true

-- what is gone with lost children is noted, and all else is noted as before
pub record LossesNoted (k : Kept) (a b : Tree) (old new : List (Path × Mark)) : Type 0 where
  pub gone : (r : Path) → IsLoss k a b r → look r new ≡ Some D
  pub others : (r : Path) → (IsLoss k a b r → ⊥) → look r new ≡ look r old

-- in a step from a to b, r is a child that is kept as lost, and gone
pub record IsLostChild (k : Kept) (a b : Tree) (r : Path) : Type 0 where
  pub parent : Path
  pub label : Label
  pub place : r ≡ child parent label
  pub kept : k.lost parent label ≡ true
  pub gone : is_lost k b parent label ≡ true
  pub was : is_there a r ≡ true

-- the lost children are noted, and all else is noted as before
pub record ChildrenNoted (k : Kept) (a b : Tree) (old new : List (Path × Mark)) : Type 0 where
  pub gone : (r : Path) → IsLostChild k a b r → look r new ≡ Some D
  pub others : (r : Path) → (IsLostChild k a b r → ⊥) → look r new ≡ look r old
