use Rattle.cp_model.specs.declared.limits.TheConstants.{NODES_MAX, WEIGHT_MAX}
use Rattle.std.proofs.Common.{◌≡◌, ◌+◌, ◌≤◌, drop, length}
use Rattle.csv.specs.Records.{fields_of}
use Rattle.cp_model.specs.Keyed.{len}
use Rattle.cp_model.specs.Tree.{weight}
use Rattle.cp_sources.specs.CsvTrees.{with_fields}
use Rattle.cp_sources.specs.Steps.{IsEmptyRow, fields_weight}
use Rattle.cp_sources.proofs.place.put_fields.Given as goal

abbrev pub invariant-loop-label : goal.invariant-loop-label
invariant-loop-label g l = record {
  next : (goal.iterator-loop-label g).can_next l.texts;
  finite : (goal.iterator-loop-label g).is_finite l.texts;
  row : l.texts.row.now ≡ l.fn.row.fields;
  at : l.texts.at ≡ l.label-index;
  bare : IsEmptyRow (g.R.TreeRep.contents l.tree) l.fn.row.label (drop l.label-index l.fn.columns.labels.items);
  goes : with_fields l.fn.row.label (drop l.label-index l.fn.columns.labels.items) (drop l.label-index (fields_of l.fn.row.fields)) (g.R.TreeRep.contents l.tree) ≡ with_fields l.fn.row.label l.fn.columns.labels.items (fields_of l.fn.row.fields) (g.R.TreeRep.contents l.fn.tree);
  few : len (g.R.TreeRep.contents l.tree) + length (drop l.label-index l.fn.columns.labels.items) ≤ NODES_MAX;
  light : weight (g.R.TreeRep.contents l.tree) + fields_weight (drop l.label-index l.fn.columns.labels.items) (drop l.label-index (fields_of l.fn.row.fields)) ≤ WEIGHT_MAX;
}
