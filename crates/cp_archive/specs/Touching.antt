-- The places that a step touched, and what it left there.
use Rattle.std.specs.Prelude.{◌≡◌, Bool, true, false, List, [], ◌∷◌, map, length, nat_lt, if◌then◌else◌}
use Rattle.std.specs.List.{list_any, AllByRecursion}
use Rattle.cp_path.specs.declared.limits.TheConstants.{LABELS_MAX}
use Rattle.cp_model.specs.Place.{Label, Path, child, in_target, path_eq, starts_with}
use Rattle.cp_model.specs.declared.op.Op.{Op}
use Rattle.cp_model.specs.declared.op.Op.TheVariants.{Ins, Del, Copy}
use Rattle.cp_model.specs.Keyed.{get}
use Rattle.cp_model.specs.Subtrees.{below}
use Rattle.cp_model.specs.Tree.{Tree, IsTree}
use Rattle.cp_tree.specs.Rows.{entries_in, entry_row}
use Rattle.cp_archive.specs.declared.touched.Touched.{Touched}

-- neither place lies at or below the other
pub record IsApart (p q : Path) : Type 0 where
  pub not_below : starts_with p q ≡ false
  pub not_above : starts_with q p ≡ false

-- no place lies at or below another
abbrev pub AreApart : List Path → Type 0
AreApart [] = Unit {0}
AreApart (p ∷ ps) = AllByRecursion (IsApart p) ps × AreApart ps

-- p lies at or below one of the places
abbrev pub is_covered : List Path → Path → Bool
is_covered ps p = list_any (starts_with p) ps

-- each path that differs lies at or below one of the places
abbrev pub Covers : List Path → Tree → Tree → Type 0
Covers ps old new = (p : Path) → is_covered ps p ≡ false → get new p ≡ get old p

-- the place that an operation touches: nothing changes but at and below it
abbrev pub touched_by : Op → Path
touched_by (Ins p a l) = child p.path a
touched_by (Del a p) = child p.path a
touched_by (Copy q p) = p.path

-- the place of each operation lies at or below one of these
abbrev pub AreTouched : List Op → List Path → Type 0
AreTouched ops ps = AllByRecursion (λ op. is_covered ps (touched_by op) ≡ true) ops

-- the operation copies what its destination in the tree has already
abbrev pub IsIdle : Tree → Op → Type 0
IsIdle t (Ins p a l) = ⊥
IsIdle t (Del a p) = ⊥
IsIdle t (Copy q p) = (in_target q ≡ true) × (below q.path t ≡ below p.path t)

-- the place at a label, or the one above it, where a label more would be too many
abbrev pub child_within : Path → Label → Path
child_within p a = if nat_lt (length p) LABELS_MAX then child p a else p

-- the place at which an operation is looked at: the one that it touches, or the one above it, where a label more would be too many
abbrev pub looked_at : Op → Path
looked_at (Ins p a l) = child_within p.path a
looked_at (Del a p) = child_within p.path a
looked_at (Copy q p) = p.path

-- p is one of the places
abbrev pub is_among : List Path → Path → Bool
is_among ps p = list_any (path_eq p) ps

-- each of these is one of the places
abbrev pub AreAmong : List Path → List Path → Type 0
AreAmong ps qs = AllByRecursion (λ q. is_among ps q ≡ true) qs

-- the places
abbrev pub places_of : List Touched → List Path
places_of xs = map (λ x. x.place) xs

-- a place with its rows in the tree before a step
abbrev pub touched_before : Tree → Path → Touched
touched_before t p = record { place = p; before = map entry_row (below p t); after = [] }

-- with its rows in the tree after the step
abbrev pub with_after : Tree → Touched → Touched
with_after t x = record { place = x.place; before = x.before; after = map entry_row (below x.place t) }

-- the rows of the old tree and of the new one at a place
pub record IsToldOf (old new : Tree) (x : Touched) : Type 0 where
  pub before : entries_in x.before ≡ below x.place old
  pub after : entries_in x.after ≡ below x.place new

-- a step that touched these places leads from the old tree to the new one
pub record Leads (xs : List Touched) (old new : Tree) : Type 0 where
  pub apart : AreApart (places_of xs)
  pub told : AllByRecursion (IsToldOf old new) xs
  pub covers : Covers (places_of xs) old new
  pub tree : IsTree new
