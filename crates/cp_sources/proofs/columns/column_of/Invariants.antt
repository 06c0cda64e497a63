use Rattle.std.proofs.Common.{◌≡◌, ◌+◌, drop}
use Rattle.cp_model.specs.Place.{option_map}
use Rattle.cp_sources.specs.Steps.{column_of}
use Rattle.cp_sources.proofs.columns.column_of.Given as goal

abbrev pub invariant-loop-label : goal.invariant-loop-label
invariant-loop-label l = record {
  count : l.at ≡ l.label-index;
  rest : column_of l.fn.key l.fn.labels ≡ option_map (λ k. l.at + k) (column_of l.fn.key (drop l.label-index l.fn.labels));
}
