use Rattle.std.proofs.Common.{◌≡◌, ◌+◌, ◌≤◌, [], length, Some}
use Rattle.cp_model.specs.Keyed.{get, len}
use Rattle.cp_model.specs.declared.row.Content.TheVariants.{Node}
use Rattle.cp_sources.specs.CsvTrees.{rows_tree}
use Rattle.cp_sources.specs.Steps.{IsOpen, IsShallow, key_of, records_left}
use Rattle.cp_sources.proofs.load.put_rows.Given as goal

abbrev pub invariant-loop-raw : goal.invariant-loop-raw
invariant-loop-raw g l = record {
  ready : IsOpen l.records;
  goes : rows_tree l.fn.columns.labels.items (key_of l.fn.columns.labels.items l.fn.columns.key) (l.number + 1) (records_left l.records) (g.R.TreeRep.contents l.tree)
      ≡ rows_tree l.fn.columns.labels.items (key_of l.fn.columns.labels.items l.fn.columns.key) 1 (records_left l.fn.records) (g.R.TreeRep.contents l.fn.tree);
  root : get (g.R.TreeRep.contents l.tree) [] ≡ Some Node;
  shallow : IsShallow (g.R.TreeRep.contents l.tree);
  number : l.number + 1 ≤ len (g.R.TreeRep.contents l.tree);
}

abbrev pub decreases-loop-raw : goal.decreases-loop-raw
decreases-loop-raw g l = length (records_left l.records)
