use Rattle.std.proofs.Common.{◌∙◌, sym}
use Rattle.cp_tree_rows.proofs.Building.{put_row}
use Rattle.cp_tree_rows.proofs.build.add_row.Goals as goal

pub returns-clause-added : goal.returns-clause-added
returns-clause-added c = put_row c.put_leaf.result _ _ _ _ _ _ _ (sym c.labels.ensures.labels ∙ c.in-Some.ensures.cases.0) c.in_ok-item.ensures c.put_leaf.ensures.ok
