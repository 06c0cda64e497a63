-- A copy that isn't refused.
use Rattle.std.specs.Prelude.{◌≡◌, true, false}
use Rattle.cp_path.specs.declared.loc.Loc.{Loc}
use Rattle.cp_model.specs.Subtrees.{below, with_subtree, is_there}
use Rattle.cp_model.specs.Tree.{Tree, IsTree, reaches_over}

-- what u has at q is copied onto the place p of t: both are there, and what is copied reaches over no limit and leaves a tree
pub record IsCopied (t u : Tree) (q p : Loc) : Type 0 where
  pub there : is_there t p.path ≡ true
  pub origin : is_there u q.path ≡ true
  pub places : reaches_over p (below q.path u) ≡ false
  pub fits : IsTree (with_subtree p.path (below q.path u) t)
