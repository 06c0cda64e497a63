-- The tree of a version, made of its rows.
use Rattle.std.specs.Prelude.{◌≡◌, List, []}
use Rattle.std.proofs.Common.{ap, subst, ◌∙◌}
use Rattle.cp_model.specs.Place.{Path}
use Rattle.cp_model.specs.Keyed as keyed
use Rattle.cp_model.specs.Subtrees.{with_subtree}
use Rattle.cp_model.specs.History.{IsLiteral}
use Rattle.cp_model.specs.Tree.{Tree, IsTree}
use Rattle.cp_model.specs.declared.row.Row.{Row}
use Rattle.cp_tree.specs.Rows.{entries_in}
use Rattle.cp_tree.proofs.Found.{root_put}
use Rattle.cp_tree.proofs.ListingLemmas.{literal-below}
use Rattle.cp_archive.proofs.Adding.{below-whole}

-- the rows of a tree within the limits are those of a literal
pub version-literal : (t : Tree) → IsTree t → IsLiteral (keyed.entries t)
version-literal t within = subst IsLiteral (below-whole t) (literal-below t [] within within.rooted.root)

-- put at the root, they make that tree of any other
pub version-made : (t other : Tree) (p : Path) (rs : List Row) → p ≡ [] → entries_in rs ≡ keyed.entries t → with_subtree p (entries_in rs) other ≡ t
version-made t other p rs root listed = ap (λ q. with_subtree q (entries_in rs) other) root ∙ ap (λ es. with_subtree [] es other) listed ∙ root_put other t
