use Rattle.std.proofs.Common.{◌≡◌, ◌+◌, ◌*◌, ◌≤◌, drop}
use Rattle.csv.specs.Records.{fields_of}
use Rattle.cp_sources.specs.Steps.{fields_weight}
use Rattle.cp_sources.proofs.place.fields_weight.Given as goal

abbrev pub invariant-loop-label : goal.invariant-loop-label
invariant-loop-label l = record {
  next : (goal.iterator-loop-label).can_next l.texts;
  finite : (goal.iterator-loop-label).is_finite l.texts;
  row : l.texts.row.now ≡ l.fn.row.fields;
  at : l.texts.at ≡ l.label-index;
  sum : l.weight + fields_weight (drop l.label-index l.fn.columns.labels.items) (drop l.label-index (fields_of l.fn.row.fields)) ≡ fields_weight l.fn.columns.labels.items (fields_of l.fn.row.fields);
  bound : l.weight ≤ l.label-index * 1048847;
}
