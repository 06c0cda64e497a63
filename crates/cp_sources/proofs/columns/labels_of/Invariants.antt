use Rattle.std.proofs.Common.{◌≡◌, ◌++◌, drop}
use Rattle.csv.specs.Records.{fields_of}
use Rattle.cp_sources.proofs.columns.labels_of.Given as goal

abbrev pub invariant-loop-field : goal.invariant-loop-field
invariant-loop-field l = record {
  next : (goal.iterator-loop-field).can_next l.field-iterator;
  finite : (goal.iterator-loop-field).is_finite l.field-iterator;
  row : l.field-iterator.row.now ≡ l.fn.fields;
  all : l.labels.items ++ drop l.field-iterator.at (fields_of l.fn.fields) ≡ fields_of l.fn.fields;
}
