-- How many bytes the entries take that fit.
use Rattle.std.proofs.Common.{◌≡◌, ◌≤◌, ◌⊎◌, inl, inr, T, ℕ, ◌+◌, true, List, [], ◌∷◌, length, map, sum_by, sym, ap, ◌∙◌, subst, arith, length-append}
use Rattle.std.proofs.lemmas.List.Sums.{sum_by-cons}
use Rattle.std.specs.FinMap.Entries.{is_sorted, same_entries}
use Rattle.std.specs.Int.{to_be_bytes, w32, w64}
use Rattle.std.specs.List.{flat_map}
use Rattle.cp_path.specs.Encoding.{counted_bytes}
use Rattle.cp_path.specs.PathOrder.{path_total}
use Rattle.cp_path.specs.declared.value.Value.TheVariants.{Null, False, True, Whole, Text}
use Rattle.cp_path.proofs.Same.{path_same}
use Rattle.cp_model.proofs.KeyedLemmas.{get-entries, look-find}
use Rattle.cp_model.proofs.Lookups.{find-from_entries}
use Rattle.cp_model.proofs.Sorted.{sorted-entries}
use Rattle.cp_model.specs.Keyed.{Keyed, entries, from_entries}
use Rattle.cp_model.specs.Place.{Path, path_cmp}
use Rattle.cp_model.specs.Tree.{weight_of}
use Rattle.cp_model.specs.declared.kind.Kind.{Kind}
use Rattle.cp_model.specs.declared.row.Content.{Content}
use Rattle.cp_model.specs.declared.row.Content.TheVariants.{Leaf, Node}
use Rattle.cp_model.specs.declared.stamp.Stamp.{Stamp}
use Rattle.cp_record.specs.Bytes.{branch_length, edge_length, tree_length}
use Rattle.cp_journal.specs.declared.limits.TheConstants.{BODY_MAX}
use Rattle.cp_format.proofs.Names.{name_parts}
use Rattle.cp_frame.specs.Entries.{Batch, IsFitEntry, WrittenEntry, start, load, commit, stamped, batch_bytes, counted_records, ops_bytes, stamp_bytes, written_entry}
use Rattle.cp_frame.specs.Operations.{WrittenOp, short, planted, op_of, written_bytes}
use Rattle.cp_frame.specs.Trees.{Written, HasParts, rows_of, tree_bytes}
use Rattle.cp_frame.proofs.Lengths.{batch_counted, tree_counted}
use Rattle.cp_frame.specs.Items.{ops_in}
use Rattle.cp_frame.specs.Sizes.{load_size, start_size, stamped_size}

-- ---- trees

-- rows that rise are the entries of the map that they make
entries_sorted : (rows : List (Path × Content)) → T (is_sorted path_cmp rows) → entries (from_entries rows) ≡ rows
entries_sorted rows sorted =
    let m : Keyed Content = from_entries rows in
    same_entries path_cmp path_total path_same (entries m) rows (sorted-entries m) sorted
    (λ q. sym (look-find q (entries m)) ∙ sym (get-entries m q) ∙ find-from_entries rows q ∙ look-find q rows)

-- a tree has as many bytes as are counted for the map of its rows
tree_measured : (t : Written) → T (is_sorted path_cmp (rows_of t)) → length (tree_bytes t) ≡ tree_length (entries (from_entries (rows_of t)))
tree_measured t sorted = tree_counted t ∙ ap tree_length (sym (entries_sorted (rows_of t) sorted))

-- a place has no more bytes than it weighs
row_light : (p : Path) (x : Content) → edge_length p + branch_length x ≤ weight_of (p, x)
row_light [] Node = omega arith
row_light [] (Leaf Null) = omega arith
row_light [] (Leaf False) = omega arith
row_light [] (Leaf True) = omega arith
row_light [] (Leaf (Whole n)) = omega arith
row_light [] (Leaf (Text bytes)) = omega arith
row_light (a ∷ p) Node = omega arith
row_light (a ∷ p) (Leaf Null) = omega arith
row_light (a ∷ p) (Leaf False) = omega arith
row_light (a ∷ p) (Leaf True) = omega arith
row_light (a ∷ p) (Leaf (Whole n)) = omega arith
row_light (a ∷ p) (Leaf (Text bytes)) = omega arith

rows_light : (rows : List (Path × Content)) → tree_length rows ≤ sum_by weight_of rows
rows_light [] = omega arith
rows_light (e ∷ es) =
    omega (arith, row_light e.0 e.1, rows_light es, sum_by-cons (λ (r : Path × Content). edge_length r.0 + branch_length r.1) e es, sum_by-cons weight_of e es)

-- and so a tree
tree_light : (t : Written) → HasParts t → length (tree_bytes t) ≤ sum_by weight_of (rows_of t)
tree_light t parts = omega (arith, tree_counted t, rows_light (rows_of t))

-- ---- entries

-- a start has as many bytes as are counted for it
pub start-measured : (k : Kind) (t : Written) → IsFitEntry (start k t) → T (is_sorted path_cmp (rows_of t)) → length (written_entry (start k t)) ≡ start_size (from_entries (rows_of t))
start-measured k t fit sorted = omega (arith, tree_measured t sorted)

-- and so has a load
pub load-measured : (n : List ℕ) (t : Written) → IsFitEntry (load n t) → T (is_sorted path_cmp (rows_of t)) → length (written_entry (load n t)) ≡ load_size n (from_entries (rows_of t))
load-measured n t fit sorted = omega (arith, tree_measured t sorted, length-append (counted_bytes n) (tree_bytes t))

-- and a commit with its stamp
pub stamped-measured : (s : Stamp) (b : Batch) → IsFitEntry (stamped s b) → length (written_entry (stamped s b)) ≡ stamped_size s (ops_in b) b.records
stamped-measured s b fit =
    omega (arith, batch_counted true b fit.1, length-append (stamp_bytes s) (batch_bytes b), length-append (counted_bytes s.curator) (to_be_bytes w64 s.moment))

-- ---- limits

-- a start is no longer than an entry may be
pub start-short : (k : Kind) (t : Written) → IsFitEntry (start k t) → length (written_entry (start k t)) ≤ BODY_MAX
start-short k t fit = omega (arith, tree_light t fit.parts, fit.light)

-- nor is a load
pub load-short : (n : List ℕ) (t : Written) → IsFitEntry (load n t) → length (written_entry (load n t)) ≤ BODY_MAX
load-short n t fit =
    let name = (name_parts n fit.0.name).few in
    omega (arith, tree_light t fit.1.parts, fit.1.light, name, length-append (counted_bytes n) (tree_bytes t))

-- ---- operations

op_some : (w : WrittenOp) → 1 ≤ length (written_bytes w)
op_some (short o) = omega arith
op_some (planted p a cs) = omega arith

ops_few : (ws : List WrittenOp) → length (map op_of ws) ≤ length (flat_map written_bytes ws)
ops_few [] = omega arith
ops_few (w ∷ ws) = omega (arith, op_some w, ops_few ws, length-append (written_bytes w) (flat_map written_bytes ws))

-- a batch has no more operations than bytes
batch_few : (b : Batch) → length (ops_in b) ≤ length (batch_bytes b)
batch_few b =
    omega (arith, ops_few b.ops, length-append (ops_bytes b.ops) (counted_records b.records), length-append (to_be_bytes w32 (length b.ops)) (flat_map written_bytes b.ops))

-- a commit has no more operations than bytes
pub few-ops : (w : WrittenEntry) (b : Batch) → (w ≡ commit b) ⊎ ((s : Stamp) × (w ≡ stamped s b)) → length (ops_in b) ≤ length (written_entry w)
few-ops w b (inl plain) =
    let few : length (ops_in b) ≤ length (written_entry (commit b)) = omega (arith, batch_few b) in
    subst (λ (x : WrittenEntry). length (ops_in b) ≤ length (written_entry x)) (sym plain) few
few-ops w b (inr (s, with_stamp)) =
    let few : length (ops_in b) ≤ length (written_entry (stamped s b)) = omega (arith, batch_few b, length-append (stamp_bytes s) (batch_bytes b)) in
    subst (λ (x : WrittenEntry). length (ops_in b) ≤ length (written_entry x)) (sym with_stamp) few
