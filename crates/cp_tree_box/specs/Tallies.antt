-- What is counted of the places of a tree.
use Rattle.cp_model.specs.declared.limits.TheConstants.{PLACE_WEIGHT}
use Rattle.cp_path.specs.declared.limits.TheConstants.{LABELS_MAX, LOC_MAX}
use Rattle.std.specs.Prelude.{◌-◌, ◌≡◌, ℕ, ◌+◌, ◌≤◌, true, cond, ◌==◌, [], ◌∷◌, length, max, slice_index}
use Rattle.std.specs.Coded.{Coded-set, coded_ℕ}
use Rattle.cp_model.specs.declared.row.Content.{Content}
use Rattle.cp_model.specs.Place.{Label, Path}
use Rattle.cp_model.specs.Keyed as keyed
use Rattle.cp_model.specs.Subtrees.{is_there}
use Rattle.cp_model.specs.Tree.{Tree, text_bytes}
use Rattle.cp_model.specs.Sums.{total}
use Rattle.cp_tree.specs.Rows.{greatest}
use Rattle.cp_tree.specs.declared.reach.Reach.{Reach}
use Rattle.cp_tree_box.specs.declared.spot.Spot.{Spot}
use Rattle.cp_tree_box.specs.declared.tally.Tally.{Tally}

-- where a root lies
abbrev pub root_spot : Spot
root_spot = record { depth = 0; size = 0; last = 0 }

-- one label further down
abbrev pub child_spot : Spot → Label → Spot
child_spot s a = record { depth = s.depth + 1; size = s.size + length a + 1; last = length a }

-- these labels further down
abbrev pub spot_at : Spot → Path → Spot
spot_at s [] = s
spot_at s (a ∷ p) = spot_at (child_spot s a) p

-- it is within the limits of places
abbrev pub IsNear : Spot → Type 0
IsNear s = (s.depth ≤ LABELS_MAX) × (s.size ≤ LOC_MAX - 1)

-- every place of the tree that lies there is
abbrev pub AreNear : Spot → Tree → Type 0
AreNear s m = (q : Path) → is_there m q ≡ true → IsNear (spot_at s q)

-- what is counted: the places, their weight, those with this many labels, those of this size
pub data Gauge : Type 0 where
  places : Gauge
  weighs : Gauge
  deep : ℕ → Gauge
  large : ℕ → Gauge

-- what a place counts for
abbrev pub place_counts : Gauge → Spot → Content → ℕ
place_counts places s c = 1
place_counts weighs s c = PLACE_WEIGHT + s.last + text_bytes c
place_counts (deep k) s c = cond (s.depth == k) 1 0
place_counts (large k) s c = cond (s.size == k) 1 0

-- what a row of a tree that lies there counts for
abbrev pub row_counts : Gauge → Spot → Path × Content → ℕ
row_counts g s e = place_counts g (spot_at s e.0) e.1

-- what the whole tree counts for
abbrev pub tree_counts : Gauge → Spot → Tree → ℕ
tree_counts g s m = total (row_counts g s) m

-- what a tally has
abbrev pub tally_counts : Tally → Gauge → ℕ
tally_counts t places = t.places
tally_counts t weighs = t.weight
tally_counts t (deep k) = slice_index t.depths.items k
tally_counts t (large k) = slice_index t.sizes.items k

-- what the tally has are the numbers of the tree
abbrev pub IsTallyOf : Tally → Tree → Type 0
IsTallyOf t m = (g : Gauge) → tally_counts t g ≡ tree_counts g root_spot m

-- the labels and the size of a row's place
abbrev pub row_depth : Spot → Path × Content → ℕ
row_depth s e = (spot_at s e.0).depth

abbrev pub row_size : Spot → Path × Content → ℕ
row_size s e = (spot_at s e.0).size

-- a reach with all of the tree that lies there
pub record IsReachWith (s : Spot) (m : Tree) (r t : Reach) : Type 0 where
  pub nodes : t.nodes ≡ r.nodes + tree_counts places s m
  pub inner : t.inner ≡ r.inner + tree_counts weighs s m
  pub depth : t.depth ≡ max r.depth (greatest (row_depth s) (keyed.entries m))
  pub size : t.size ≡ max r.size (greatest (row_size s) (keyed.entries m))

-- two proofs of that are equal
pub IsTallyOf-prop : (t : Tally) (m : Tree) → IsProp (IsTallyOf t m)
IsTallyOf-prop t m x y = λ i g. Coded-set coded_ℕ _ _ (x g) (y g) i
