-- What an overlay keeps, and when it stands for the working tree of a step.
use Rattle.std.specs.Prelude.{◌≡◌, Bool, true, false, cond, List, [], ◌∷◌, is_some, ⊤}
use Rattle.std.specs.declared.option.Option.{Option}
use Rattle.std.specs.declared.option.Option.TheVariants.{None, Some}
use Rattle.cp_model.specs.Place.{Path, Label, path_eq, strip, nearest, at_target, below_place, child, over_limit}
use Rattle.cp_model.specs.Keyed as keyed
use Rattle.cp_model.specs.Subtrees.{is_there}
use Rattle.cp_model.specs.Closed.{Closed}
use Rattle.cp_model.specs.Tree.{Tree, Source, refusal}
use Rattle.cp_model.specs.Step.{Working, Worked, contents, apply_op}
use Rattle.cp_model.specs.declared.origin.Origin.{Origin}
use Rattle.cp_model.specs.declared.origin.Origin.TheVariants.{New as new, Was as was}
use Rattle.cp_model.specs.Laws.{Every, at_rest_or}
use Rattle.cp_model.specs.declared.op.Op.{Op}

-- origins by place, where they are kept
abbrev pub Origins : Type 0
Origins = Path → Option Origin

-- what is kept: origins, and the children that a deletion took from a place whose data stood at a place of the tree before
-- the step; these are kept by that place
pub record Kept : Type 0 where
  pub origins : Path → Option Origin
  pub lost : Path → Label → Bool

-- ---- origins

-- an origin, carried down these labels
abbrev pub carry : Origin → Path → Origin
carry new s = new
carry (was q) s = was (below_place q s)

-- the origin that is kept nearest, carried down; where none is, the place itself
abbrev pub origin_by : Path → Option (Origin × Path) → Origin
origin_by p None = was (at_target p)
origin_by p (Some e) = carry e.0 e.1

-- the origin at a place: of the longest prefix that keeps one
unfoldable pub origin_at : Origins → Path → Origin
origin_at f p = origin_by p (nearest f p)

-- ---- working trees

-- an origin within the limits of places
abbrev pub Fits : Origin → Type 0
Fits new = ⊤
Fits (was q) = over_limit q ≡ false

-- with each place the one above it is there, and no origin is over a limit of places
pub record IsWorking (w : Working) : Type 0 where
  pub closed : Closed (keyed.get w)
  pub fits : Every Fits w

-- what is kept stands for the working tree w of a step that began on the tree a
pub record Stands (k : Kept) (a : Tree) (w : Working) : Type 0 where
  -- it gives every place its origin
  pub origins : (p : Path) (x : Worked) → keyed.get w p ≡ Some x → origin_at k.origins p ≡ x.origin
  -- origins are kept of places that are there
  pub there : (p : Path) → is_some (k.origins p) ≡ true → is_there w p ≡ true
  -- a child that a place had before the step, and hasn't now where that place's data has come to stand, is kept as lost
  pub lost : (p q : Path) (l : Label) → is_there w p ≡ true → origin_at k.origins p ≡ was (at_target q) → is_there a (child q l) ≡ true → is_there w (child p l) ≡ false → k.lost q l ≡ true

-- where what was kept stood for the working tree of a step, what is kept now stands for it after the operation, if that is
-- accepted
abbrev pub Follows : List Source → Tree → Kept → Kept → Op → Type 0
Follows ss a k l op = (w : Working) → IsWorking w → refusal ss (contents w) op ≡ None → Stands k a w → Stands l a (apply_op ss w op)

-- ---- changes of what is kept

-- what is kept at and below p becomes h
unfoldable pub put_below : {X : Type 0} → Path → (Path → Option X) → (Path → Option X) → Path → Option X
put_below p h f r = at_rest_or (strip p r) h (f r)

-- all but what is kept at p itself
unfoldable pub but : {X : Type 0} → Path → (Path → Option X) → Path → Option X
but p f r = cond (path_eq r p) None (f r)

-- ---- sparseness

-- the origin that is kept of a place is what the place has without it
abbrev pub IsGiven : Origins → Path → Type 0
IsGiven f p = f p ≡ Some (origin_at (but p f) p)

-- no origin is kept that the place above gives anyhow, and at the root not that of the root
pub record IsSparse (f : Origins) : Type 0 where
  pub root : f [] ≡ Some (was (at_target [])) → ⊥
  pub below : (p : Path) (l : Label) (o : Origin) → f (child p l) ≡ Some o → carry (origin_at f p) (l ∷ []) ≡ o → ⊥
