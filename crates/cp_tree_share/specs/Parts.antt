-- What siblings that are taken apart say of the whole.
use Rattle.std.specs.Prelude.{◌≡◌, Bool, true, false, ℕ, ◌+◌, ◌<◌, max, [], ◌∷◌, ◌++◌}
use Rattle.std.specs.FinMap.Entries.{put}
use Rattle.cp_path.specs.Text.{text_cmp}
use Rattle.cp_model.specs.Keyed.{len}
use Rattle.cp_model.specs.Place.{Label}
use Rattle.cp_model.specs.Tree.{Tree}
use Rattle.cp_tree.specs.Branch.{children_len, without_child}
use Rattle.cp_tree.specs.Sums.{AreChildren}
use Rattle.cp_tree_share.specs.Siblings.{Edges, Near}
use Rattle.cp_tree_share.specs.declared.forest.Fork.{Fork}

-- a sibling, those before it, and those after it
pub record IsFull (s : Edges × ℕ) (l : Edges × ℕ) (e : Label × Tree) (r : Edges × ℕ) : Type 0 where
  pub edges : s.0 ≡ l.0 ++ e ∷ r.0
  pub children : AreChildren (l.0 ++ e ∷ r.0)
  pub some : 0 < len e.1
  pub high : s.1 ≡ max l.1 r.1 + 1
  pub near : Near 1 l.1 r.1
  pub count : children_len s.0 ≡ children_len l.0 + len e.1 + children_len r.0

-- no siblings
pub record IsEmpty (s : Edges × ℕ) : Type 0 where
  pub edges : s.0 ≡ []
  pub high : s.1 ≡ 0

-- the fork has these parts
pub record HasParts (f : Fork) (l : Edges × ℕ) (e : Label × Tree) (r : Edges × ℕ) : Type 0 where
  pub left : f.left ≡ l
  pub entry : f.entry ≡ e
  pub right : f.right ≡ r

-- the edge was put in the place of one with its label, or nothing has changed
abbrev pub IsPutOrSame : Edges × ℕ → Label × Tree → Edges × ℕ → Bool → Type 0
IsPutOrSame old e new true = new ≡ (put text_cmp e.0 e.1 old.0, old.1)
IsPutOrSame old e new false = new ≡ old

-- the edge with the label was taken out, or nothing has changed
abbrev pub IsCutOrSame : Edges × ℕ → Label → Edges × ℕ → Bool → Type 0
IsCutOrSame old a new true = new ≡ (without_child a old.0, old.1)
IsCutOrSame old a new false = new ≡ old
