-- What the steps of the walks over a value do and need: the earliest place without a value, and a tree grown place by place.
use Rattle.cp_path.specs.declared.limits.TheConstants.{LABELS_MAX, LABEL_MAX, TEXT_MAX}
use Rattle.std.specs.Prelude.{◌≡◌, ◌<◌, ◌≤◌, false, [], length, if◌then◌else◌}
use Rattle.std.specs.declared.option.Option.{Option}
use Rattle.std.specs.declared.option.Option.TheVariants.{None, Some}
use Rattle.std.specs.Option.{unwrap_or}
use Rattle.std.specs.Ordering.{is_lt}
use Rattle.serde_json.specs.Data.{Data}
use Rattle.cp_model.specs.declared.row.Content.{Content}
use Rattle.cp_model.specs.declared.row.Content.TheVariants.{Node}
use Rattle.cp_model.specs.Place.{Label, Path, child, path_cmp}
use Rattle.cp_model.specs.Keyed as keyed
use Rattle.cp_model.specs.Subtrees.{with_subtree, is_there}
use Rattle.cp_model.specs.Tree.{Tree, IsTree, text_bytes}
use Rattle.cp_tree.specs.Rows.{root_entries, single}
use Rattle.cp_sources.specs.Places.{content_of}
use Rattle.cp_sources.specs.Walks.{walk_below, NeedsBelow}

-- ---- the earliest place

-- the path, unless one is there that comes before it
abbrev pub earlier_of : Option Path → Path → Path
earlier_of None p = p
earlier_of (Some q) p = if is_lt (path_cmp p q) then p else q

-- the earliest path so far of a place without a value, once this place is looked at
abbrev pub with_place : Path → Option Content → Option Path → Option Path
with_place p None o = Some (earlier_of o p)
with_place p (Some c) o = o

-- the label, and the depth of the place at it below p, are within their limits
abbrev pub IsWithinLimits : Path → Label → Option Content → Option Path → Type 0
IsWithinLimits p a c o = (length p < LABELS_MAX) × (length a ≤ LABEL_MAX)

-- so are those of all places of the value
abbrev pub AreWithinLimits : Data → Type 0
AreWithinLimits d = NeedsBelow child with_place IsWithinLimits [] d (with_place [] (content_of d) None)

-- ---- the tree

-- what is held, and a node where nothing is
abbrev pub or_node : Option Content → Content
or_node o = unwrap_or o Node

-- a leaf more
abbrev pub with_leaf : Path → Option Content → Tree → Tree
with_leaf p c t = with_subtree p (root_entries (or_node c)) t

-- a value can be put at the child a of p as a leaf
pub record CanPut (p : Path) (a : Label) (c : Option Content) (t : Tree) : Type 0 where
  pub near : (length p < LABELS_MAX) × (length a ≤ LABEL_MAX)
  pub holds : c ≡ Some (or_node c)
  pub node : keyed.get t p ≡ Some Node
  pub free : is_there t (child p a) ≡ false
  pub fits : IsTree (with_leaf (child p a) c t)

-- the tree of what a value's root holds
abbrev pub root_tree : Data → Tree
root_tree d = single (or_node (content_of d))

-- the tree of a value, place by place
abbrev pub grown_tree : Data → Tree
grown_tree d = walk_below child with_leaf [] d (root_tree d)

-- the tree of a value can be made so
pub record CanGrow (d : Data) : Type 0 where
  pub holds : content_of d ≡ Some (or_node (content_of d))
  pub short : text_bytes (or_node (content_of d)) ≤ TEXT_MAX
  pub room : NeedsBelow child with_leaf CanPut [] d (root_tree d)
