-- A row put into a tree that is built from its rows.
use Rattle.std.specs.Prelude.{◌≡◌, ◌++◌, [], ◌∷◌, Result, Ok, Err, OnOk}
use Rattle.std.proofs.Common.{sym, ◌∙◌}
use Rattle.cp_model.specs.declared.row.Content.{Content}
use Rattle.cp_model.specs.Place.{Label, Path, child}
use Rattle.cp_model.specs.Subtrees.{with_subtree}
use Rattle.cp_model.specs.Tree.{Tree}
use Rattle.cp_tree.specs.Rows.{root_entries}

-- a leaf put at a row's place
pub put_row : {E : Type 0} (r : Result (Unit {0}) E) (new root : Tree) (path parent : Path) (a : Label) (c d : Content) → path ≡ parent ++ a ∷ [] → d ≡ c →
    OnOk r (new ≡ with_subtree (child parent a) (root_entries d) root) → OnOk r (new ≡ with_subtree path (root_entries c) root)
put_row (Err y) new root path parent a c d p e h = tt
put_row (Ok u) new root path parent a c d p e h = h ∙ (λ i. with_subtree (sym p i) (root_entries (e i)) root)
