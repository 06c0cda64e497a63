use Rattle.std.proofs.Common.{◌≡◌, ◌+◌, List, [], drop}
use Rattle.std.specs.List.{list_any}
use Rattle.std.specs.BTreeSet.{contains}
use Rattle.cp_path.specs.Text.{text_cmp}
use Rattle.cp_model.specs.Place.{Label, label_eq}
use Rattle.cp_sources.specs.CsvTrees.{repeated_column}
use Rattle.cp_sources.proofs.columns.repeated_column.Given as goal

abbrev pub invariant-loop-label : goal.invariant-loop-label
invariant-loop-label l = record {
  count : l.column ≡ l.label-index;
  seen : (before : List Label) × ((q : Label) → contains text_cmp l.seen q ≡ list_any (label_eq q) before) × (repeated_column [] 1 l.fn.labels ≡ repeated_column before (l.column + 1) (drop l.label-index l.fn.labels));
}
