use Rattle.std.proofs.Common.{◌≡◌, nat_lt, length, drop}
use Rattle.std.specs.List.{list_any}
use Rattle.csv.specs.Records.{fields_of}
use Rattle.cp_sources.proofs.columns.has_longer.Given as goal

abbrev pub invariant-loop-field : goal.invariant-loop-field
invariant-loop-field l = record {
  next : (goal.iterator-loop-field).can_next l.field-iterator;
  finite : (goal.iterator-loop-field).is_finite l.field-iterator;
  row : l.field-iterator.row.now ≡ l.fn.fields;
  rest : list_any (λ f. nat_lt l.fn.most (length f)) (fields_of l.fn.fields) ≡ list_any (λ f. nat_lt l.fn.most (length f)) (drop l.field-iterator.at (fields_of l.fn.fields));
}
