-- The room that a tree has: how deep, how long, how many and how heavy its places may be.
use Rattle.std.specs.Prelude.{ℕ, ◌+◌, ◌-◌, ◌*◌, ◌/◌, ◌≡◌, ◌≤◌, ◌==◌, ◌||◌, List, length, min, sum_by, if◌then◌else◌}
use Rattle.std.specs.declared.option.Option.{Option}
use Rattle.cp_path.specs.declared.limits.TheConstants.{LABEL_MAX, LABELS_MAX, LOC_MAX}
use Rattle.cp_model.specs.declared.limits.TheConstants.{NODES_MAX, PLACE_WEIGHT, WEIGHT_MAX}
use Rattle.cp_model.specs.Place.{Label}
use Rattle.cp_model.specs.Literals.{literal_rows}
use Rattle.cp_model.specs.Tree.{weight_of}
use Rattle.cp_model.specs.declared.literal.Literal.{Literal}
use Rattle.cp_tree.specs.Rows.{deepest}
use Rattle.cp_tree.specs.Sums.{largest}
use Rattle.cp_format.specs.Formats.{Format, ReadsAt}
pub use Rattle.cp_frame.specs.declared.room.Room.{Room}
use Rattle.cp_frame.specs.Trees.{Written, Children, rows_of, rows_below, number_of, tree_bytes, children_bytes, tree_checks, children_checks, HasParts, HaveParts}

-- the room of a whole tree whose places have a name of so many bytes
abbrev pub whole_room : ℕ → Room
whole_room name = record { levels = LABELS_MAX; size = LOC_MAX - name; nodes = NODES_MAX - 1; weight = WEIGHT_MAX - PLACE_WEIGHT }

-- the tree has its parts, and lies in the room
pub record FitsIn (r : Room) (t : Written) : Type 0 where
  pub parts : HasParts t
  pub deep : deepest (rows_of t) ≤ r.levels
  pub long : largest (rows_of t) ≤ r.size
  pub few : length (rows_of t) ≤ r.nodes + 1
  pub light : sum_by weight_of (rows_of t) ≤ r.weight + PLACE_WEIGHT

-- a tree in this room
abbrev pub tree_format : Room → Format Written
tree_format r = record { fit = λ t. FitsIn r t; bytes = λ t. tree_bytes t; checks = λ t. tree_checks t }

-- so many children fit in the room below a node, of which one place and its `PLACE_WEIGHT` are taken already for each
pub record FitBelow (n : ℕ) (r : Room) (cs : Children) : Type 0 where
  pub number : number_of cs ≡ n
  pub parts : HaveParts cs
  pub deep : deepest (rows_below cs) ≤ r.levels
  pub long : largest (rows_below cs) ≤ r.size
  pub few : length (rows_below cs) ≤ r.nodes + n
  pub light : sum_by weight_of (rows_below cs) ≤ r.weight + PLACE_WEIGHT * n

-- so many children, after one with this label
abbrev pub children_format : ℕ → Option Label → Room → Format Children
children_format n elder r = record { fit = λ cs. FitBelow n r cs; bytes = λ cs. children_bytes cs; checks = λ cs. children_checks elder cs }

-- how many children a node may have: none where no label can be added
abbrev pub most_children : Room → ℕ
most_children r = if ((r.levels == 0) || (r.size == 0)) then 0 else min r.nodes (r.weight / PLACE_WEIGHT)

-- the room once so many children are announced
abbrev pub with_children : ℕ → Room → Room
with_children n r = record r { nodes = r.nodes - n; weight = r.weight - PLACE_WEIGHT * n }

-- the most bytes of the label of a child
abbrev pub most_bytes : Room → ℕ
most_bytes r = min (min LABEL_MAX (r.size - 1)) r.weight

-- the room of the tree at a child's label
abbrev pub below_label : Label → Room → Room
below_label a r = record { levels = r.levels - 1; size = r.size - (length a + 1); nodes = r.nodes; weight = r.weight - length a }

-- what a tree takes of the room: its places below the root, and their weight with that of the root's text
abbrev pub after_tree : Room → Written → Room
after_tree r t = record r { nodes = r.nodes + 1 - length (rows_of t); weight = r.weight + PLACE_WEIGHT - sum_by weight_of (rows_of t) }

-- a tree stands at this offset, and has the rows of the literal
pub record HasTakenTree (r : Room) (bytes : List ℕ) (at : ℕ) (l : Literal) (next : ℕ) : Type 0 where
  pub tree : Written
  pub reads : ReadsAt (tree_format r) bytes at tree next
  pub rows : rows_of tree ≡ literal_rows l
