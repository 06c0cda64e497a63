-- The bytes of written trees, operations and batches are as many as are counted for them.
use Rattle.std.proofs.Common.{◌≡◌, ℕ, ◌+◌, ◌<◌, ◌≤◌, Bool, List, [], ◌∷◌, ◌++◌, refl, length, length-append, map, sum_by, arith}
use Rattle.std.proofs.lemmas.List.Sums.{sum_by-cons, sum_by-append}
use Rattle.std.specs.Int.{to_be_bytes, w32}
use Rattle.std.specs.List.{flat_map, AllByRecursion}
use Rattle.cp_path.specs.Encoding.{counted_bytes}
use Rattle.cp_path.specs.declared.loc.Loc.{Loc}
use Rattle.cp_path.specs.declared.value.Value.{Value}
use Rattle.cp_path.specs.declared.value.Value.TheVariants.{Null, False, True, Whole, Text}
use Rattle.cp_model.specs.Literals.{rows_under}
use Rattle.cp_model.specs.Place.{Label, Path}
use Rattle.cp_model.specs.Tree.{last_bytes, text_bytes, weight_of}
use Rattle.cp_model.specs.declared.literal.Literal.TheVariants as literal
use Rattle.cp_model.specs.declared.op.Op.{Op}
use Rattle.cp_model.specs.declared.op.Op.TheVariants.{Ins, Del, Copy}
use Rattle.cp_model.specs.declared.row.Content.{Content}
use Rattle.cp_model.specs.declared.row.Content.TheVariants.{Leaf, Node}
use Rattle.cp_record.specs.Bytes.{branch_length, commit_length, edge_length, inserted_length, op_length, record_bytes, records_bytes, tree_length}
use Rattle.cp_record.specs.Packed.{AreBelow}
use Rattle.cp_format.specs.Contents.{content_bytes}
use Rattle.cp_format.specs.Operations.{IsShort, IsSpelledOp}
use Rattle.cp_format.proofs.Operations.{op_counted}
use Rattle.cp_frame.specs.Entries.{Batch, IsBatch, batch_bytes, counted_records, ops_bytes}
use Rattle.cp_frame.specs.Laws.{TreesAreLight, TreesAreMeasured}
use Rattle.cp_frame.specs.Operations.{IsAllowed, IsFit, WrittenOp, op_of, planted, planted_front, short, written_bytes}
use Rattle.cp_frame.specs.Trees.{Children, Written, child, children_bytes, leaf, no_more, node, number_of, rows_below, rows_of, tree_bytes}
use Rattle.cp_frame.proofs.Rows.{children_below, enough_rows}

-- ---- trees

-- the bytes of one place
abbrev row_length : Path × Content → ℕ
row_length e = edge_length e.0 + branch_length e.1

-- one label further down a row that is none of a root is as long
as_long : (a : Label) (p : Path) (x : Content) → 0 < length p → row_length (a ∷ p, x) ≡ row_length (p, x)
as_long a [] x h = absurd (omega arith)
as_long a (b ∷ p) x h = refl

-- one label further down rows that are none of a root are as long
under_length : (a : Label) (rows : List (Path × Content)) → AreBelow rows → tree_length (rows_under a rows) ≡ tree_length rows
under_length a [] h = refl
under_length a (e ∷ es) h = omega (arith, under_length a es h.1, as_long a e.0 e.1 h.0, sum_by-cons row_length e es, sum_by-cons row_length (a ∷ e.0, e.1) (rows_under a es))

root_under : (a : Label) (x : Content) (rows : List (Path × Content)) → AreBelow rows → tree_length (rows_under a (([], x) ∷ rows)) ≡ 1 + length a + tree_length (([], x) ∷ rows)
root_under a x rows h = omega (arith, under_length a rows h, sum_by-cons row_length ([], x) rows, sum_by-cons row_length (a ∷ [], x) (rows_under a rows))

-- below a label a tree is longer by that label
tree_under : (a : Label) (t : Written) → tree_length (rows_under a (rows_of t)) ≡ 1 + length a + tree_length (rows_of t)
tree_under a (leaf v) = root_under a (Leaf v) [] tt
tree_under a (node cs) = root_under a Node (rows_below cs) (children_below cs)

leaf_counted : (v : Value) → length (content_bytes (Leaf v)) ≡ branch_length (Leaf v)
leaf_counted Null = refl
leaf_counted False = refl
leaf_counted True = refl
leaf_counted (Whole n) = refl
leaf_counted (Text a) = omega arith

-- the bytes of a tree, and those of children, are as many as are counted for their rows
mutual
  pub tree_counted : (t : Written) → length (tree_bytes t) ≡ tree_length (rows_of t)
  tree_counted (leaf v) = omega (arith, leaf_counted v, sum_by-cons row_length ([], Leaf v) [])
  tree_counted (node cs) = omega (arith, children_counted cs, length-append (to_be_bytes w32 (number_of cs)) (children_bytes cs), sum_by-cons row_length ([], Node) (rows_below cs))

  pub children_counted : (cs : Children) → length (children_bytes cs) ≡ tree_length (rows_below cs)
  children_counted no_more = refl
  children_counted (child a t cs) =
      omega (arith, tree_counted t, children_counted cs, tree_under a t, length-append (counted_bytes a) (tree_bytes t ++ children_bytes cs), length-append (tree_bytes t) (children_bytes cs), sum_by-append row_length (rows_under a (rows_of t)) (rows_below cs))

pub trees_measured : TreesAreMeasured
trees_measured t h = tree_counted t

-- ---- no more bytes than weight

-- a place has no more bytes than it weighs
row_light : (p : Path) (c : Content) → row_length (p, c) ≤ weight_of (p, c)
row_light p c = omega (arith, label_light p, content_light c)
  where
    label_light : (p : Path) → edge_length p ≤ 1 + last_bytes p
    label_light [] = omega arith
    label_light (a ∷ q) = omega arith

    content_light : (c : Content) → branch_length c ≤ 9 + text_bytes c
    content_light Node = omega arith
    content_light (Leaf Null) = omega arith
    content_light (Leaf False) = omega arith
    content_light (Leaf True) = omega arith
    content_light (Leaf (Whole n)) = omega arith
    content_light (Leaf (Text a)) = omega arith

-- rows have no more bytes than they weigh
rows_light : (rows : List (Path × Content)) → tree_length rows ≤ sum_by weight_of rows
rows_light [] = omega arith
rows_light (e ∷ es) = omega (arith, row_light e.0 e.1, rows_light es, sum_by-cons row_length e es, sum_by-cons weight_of e es)

pub trees_light : TreesAreLight
trees_light t h = omega (arith, tree_counted t, rows_light (rows_of t))

-- ---- operations

is_short : (o : Op) → IsSpelledOp o → IsShort o
is_short (Ins p a l) f = f.2
is_short (Del a p) f = tt
is_short (Copy q p) f = tt

-- a node with children is inserted as a tree
node_inserted : (rows : List (Path × Content)) → 0 < length rows → inserted_length (literal.Node rows) ≡ 5 + tree_length rows
node_inserted [] h = absurd (omega arith)
node_inserted (e ∷ rows) h = omega (arith, sum_by-cons row_length ([], Node) (e ∷ rows))

-- the insertion of a tree has as many bytes as are counted for it
planted_counted : (p : Loc) (a : Label) (cs : Children) → 1 ≤ number_of cs → length (written_bytes (planted p a cs)) ≡ op_length (Ins p a (literal.Node (rows_below cs)))
unfolding op_length
planted_counted p a cs some =
    omega (
      arith,
      op_counted (Del a p) tt,
      children_counted cs,
      length-append (planted_front p a) (tree_bytes (node cs)),
      length-append (to_be_bytes w32 (number_of cs)) (children_bytes cs),
      node_inserted (rows_below cs) (omega (arith, some, enough_rows cs)),
    )

-- each operation has as many bytes as are counted for it
written_counted : (w : WrittenOp) → IsFit w → length (written_bytes w) ≡ op_length (op_of w)
written_counted (short o) f = op_counted o (is_short o f)
written_counted (planted p a cs) f = planted_counted p a cs f.2.some

ops_length : (trees : Bool) (ws : List WrittenOp) → AllByRecursion (λ w. IsFit w × IsAllowed trees w) ws → length (flat_map written_bytes ws) ≡ sum_by op_length (map op_of ws)
ops_length trees [] h = refl
ops_length trees (w ∷ ws) h = omega (arith, written_counted w h.0.0, ops_length trees ws h.1, length-append (written_bytes w) (flat_map written_bytes ws), sum_by-cons op_length (op_of w) (map op_of ws))

-- ---- batches

-- a batch's bytes are as many as a commit counts for it, but for the number of its form
pub batch_counted : (trees : Bool) (b : Batch) → IsBatch trees b → 1 + length (batch_bytes b) ≡ commit_length (map op_of b.ops) b.records
unfolding commit_length records_bytes
batch_counted trees b f =
    omega (arith, ops_length trees b.ops f.ops, length-append (ops_bytes b.ops) (counted_records b.records), length-append (to_be_bytes w32 (length b.ops)) (flat_map written_bytes b.ops), length-append (to_be_bytes w32 (length b.records)) (flat_map record_bytes b.records))
