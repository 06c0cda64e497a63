use Rattle.std.proofs.Common.{◌∙◌, sym, refl}
use Rattle.cp_tree.proofs.Building.{put_row}
use Rattle.cp_tree_box.proofs.build.add_row.Goals as goal

pub returns : goal.returns
returns c = put_row c.insert.result _ _ _ _ _ _ _ _ _ (sym c.labels.ensures.labels ∙ c.in-Some.ensures.cases.0) refl c.leaf-leaf.ensures.tree c.in_ok-copy_content-in-Some.ensures c.insert.ensures.ok
