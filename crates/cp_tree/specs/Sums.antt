-- What the edges below a root add up to.
use Rattle.cp_model.specs.declared.limits.TheConstants.{NODES_MAX, PLACE_WEIGHT, WEIGHT_MAX}
use Rattle.cp_path.specs.declared.limits.TheConstants.{LABELS_MAX, LOC_MAX}
use Rattle.std.specs.Prelude.{ℕ, ◌+◌, ◌-◌, ◌≤◌, List, [], ◌∷◌, length, max}
use Rattle.std.proofs.Common.{T}
use Rattle.std.specs.FinMap.Entries.{is_sorted}
use Rattle.cp_path.specs.Text.{text_cmp}
use Rattle.cp_model.specs.declared.row.Content.{Content}
use Rattle.cp_model.specs.Place.{Label, Path}
use Rattle.cp_model.specs.Keyed as keyed
use Rattle.cp_model.specs.Tree.{Tree, weight, text_bytes}
use Rattle.cp_tree.specs.Branch.{children_len}
use Rattle.cp_tree.specs.Good.{AllRooted}
use Rattle.cp_tree.specs.Rows.{greatest, path_size, deepest}
use Rattle.cp_tree.specs.declared.reach.Reach.{Reach}
use Rattle.cp_tree.specs.declared.sums.Sums.{Sums}

-- the weight of all edges' trees, and the bytes of the edges' labels
abbrev pub children_weight : List (Label × Tree) → ℕ
children_weight [] = 0
children_weight (e ∷ es) = length e.0 + weight e.1 + children_weight es

-- the largest size of a place of these entries
abbrev pub largest : List (Path × Content) → ℕ
largest es = greatest (λ e. path_size e.0) es

-- the most labels of a place below a root
abbrev pub children_depth : List (Label × Tree) → ℕ
children_depth [] = 0
children_depth (e ∷ es) = max (1 + deepest (keyed.entries e.1)) (children_depth es)

-- the largest size of a place below a root
abbrev pub children_size : List (Label × Tree) → ℕ
children_size [] = 0
children_size (e ∷ es) = max (length e.0 + 1 + largest (keyed.entries e.1)) (children_size es)

-- the number, the weight, the largest size and the most labels of the places below a root
abbrev pub sums_of : List (Label × Tree) → Sums
sums_of es = record { nodes = children_len es; inner = children_weight es; size = children_size es; depth = children_depth es }

-- the sums of some edges and of others
abbrev pub beside : Sums → Sums → Sums
beside s t = record { nodes = s.nodes + t.nodes; inner = s.inner + t.inner; size = max s.size t.size; depth = max s.depth t.depth }

-- the sums below a root, with the root itself at a label and with a text of these many bytes
abbrev pub seen_above : ℕ → ℕ → Sums → Sums
seen_above label text s = record { nodes = s.nodes + 1; inner = s.inner + PLACE_WEIGHT + label + text; size = s.size + label + 1; depth = s.depth + 1 }

-- the reach of a root with a text of these many bytes, and with these sums below it
abbrev pub reach_of_sums : ℕ → Sums → Reach
reach_of_sums text s = record { nodes = s.nodes + 1; inner = PLACE_WEIGHT + text + s.inner; depth = s.depth; size = s.size }

-- the sums are within the limits of a tree
pub record AreSmall (s : Sums) : Type 0 where
  pub nodes : s.nodes ≤ NODES_MAX
  pub inner : s.inner ≤ WEIGHT_MAX
  pub size : s.size ≤ LOC_MAX - 1
  pub depth : s.depth ≤ LABELS_MAX

-- the labels rise, each leads to a rooted tree, and together they are within the limits
pub record AreChildren (es : List (Label × Tree)) : Type 0 where
  pub sorted : T (is_sorted text_cmp es)
  pub rooted : AllRooted es
  pub small : AreSmall (sums_of es)

-- the numbers of a tree are within the limits
pub record IsSmall (m : Tree) : Type 0 where
  pub nodes : keyed.len m ≤ NODES_MAX
  pub inner : weight m ≤ WEIGHT_MAX
  pub size : largest (keyed.entries m) ≤ LOC_MAX - 1
  pub depth : deepest (keyed.entries m) ≤ LABELS_MAX
