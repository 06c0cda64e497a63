-- The rows of a step of one operation are the operation's own.
use Rattle.std.specs.Prelude.{◌≡◌, List}
use Rattle.std.proofs.Common.{◌∙◌}
use Rattle.std.specs.declared.option.Option.TheVariants.{None}
use Rattle.cp_model.specs.declared.op.Op.{Op}
use Rattle.cp_model.specs.Laws.{AreTrees}
use Rattle.cp_model.specs.Tree.{Tree, Source, IsTree, refusal}
use Rattle.cp_model.specs.Step.{open_tree, apply_op}
use Rattle.cp_model.specs.Rows.{full_rows, reduced_rows}
use Rattle.cp_model.specs.History.{IsWritten}
use Rattle.cp_model.proofs.Marks.{find-full_rows, find-reduced_rows}
use Rattle.cp_overlay.proofs.Marking.{sorted-full_rows, sorted-reduced_rows, same_rows}
use Rattle.cp_operation.specs.RowsAlone.{op_rows, top_rows}
use Rattle.cp_operation.proofs.RowsAloneLemmas.{sorted-op_rows, here-alone}
use Rattle.cp_operation.proofs.TopRows.{row_of, sorted-row, top_mark, top_place, top_rows-is, row-alone, closed-alone}

-- the full rows of a step of one operation that isn't refused are the operation's rows
pub rows-alone : (ss : List Source) (t : Tree) (op : Op) → IsTree t → IsWritten op → refusal ss t op ≡ None → full_rows t (apply_op ss (open_tree t) op) ≡ op_rows ss t op
rows-alone ss t op h i n =
    same_rows (full_rows t (apply_op ss (open_tree t) op)) (op_rows ss t op) (sorted-full_rows t (apply_op ss (open_tree t) op)) (sorted-op_rows ss t op i)
    (λ r. find-full_rows t (apply_op ss (open_tree t) op) r ∙ here-alone ss t op h n r)

-- the reduced rows of a step of one operation that isn't refused are one row at most, of the place that it wrote
pub reduced-alone : (ss : List Source) (t : Tree) (op : Op) → AreTrees ss → IsTree t → IsWritten op → refusal ss t op ≡ None → reduced_rows t (apply_op ss (open_tree t) op) ≡ top_rows op
reduced-alone ss t op k h i n =
    same_rows (reduced_rows t (apply_op ss (open_tree t) op)) (row_of (top_place op) (top_mark op)) (sorted-reduced_rows t (apply_op ss (open_tree t) op)) (sorted-row (top_place op) (top_mark op))
    (λ r. find-reduced_rows t (apply_op ss (open_tree t) op) r ∙ row-alone ss t op h n (closed-alone ss t op k h i n) r)
    ∙ top_rows-is op
