use Rattle.std.proofs.Common.{◌≤◌, ◌+◌, ◌-◌, ◌*◌, List, length}
use Rattle.std.specs.Prelude.{IfSome}
use Rattle.cp_model.specs.declared.record.Record.{Record}
use Rattle.cp_store.specs.Calls.{Asked}
use Rattle.cp_paged.specs.Calls.{as_store}
use Rattle.cp_paged.specs.Newest.{IsNewestAbove}
use Rattle.cp_paged.proofs.newest.newest_above.Given as goal

abbrev pub invariant-loop-depth : goal.invariant-loop-depth
invariant-loop-depth g l = record {
  deep : l.first ≤ l.depth;
  end : l.depth ≤ length l.labels + 1;
  best : (rs : List Record) → g.K.PlaceRows.keeps l.initial.rows rs → IsNewestAbove rs l.labels l.first l.depth l.t l.best;
  within : IfSome l.best (λ a. (a.told.tid ≤ l.t) × (a.depth ≤ length l.labels));
  spent : g.K.PlaceRows.reads l.rows ≤ g.K.PlaceRows.reads l.initial.rows + (l.depth - l.first) * (g.K.PlaceRows.cost l.initial.rows).look;
  asked : Asked (as_store g.K.PlaceRows) l.initial.rows l.rows;
}
