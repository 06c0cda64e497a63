use Rattle.std.proofs.Common.{◌≡◌, ◌≤◌, ◌<◌, ◌+◌, ◌*◌, ℕ, suc, true, List}
use Rattle.std.specs.Prelude.{◌&&◌}
use Rattle.cp_model.specs.declared.kind.Kind.TheVariants as kind
use Rattle.cp_model.specs.declared.record.Record.{Record}
use Rattle.cp_store.specs.Calls.{Asked}
use Rattle.cp_store.specs.Costs.{has_row, rows_within}
use Rattle.cp_store.specs.Lost.{is_within}
use Rattle.cp_paged.specs.Calls.{as_store}
use Rattle.cp_paged.specs.Listing.{is_tid, goes_whole, NeverGone}
use Rattle.cp_paged.proofs.losing.whole_losses.Given as goal

abbrev pub invariant-loop-to : goal.invariant-loop-to
invariant-loop-to g l = record {
  below : l.to ≤ l.high;
  floor : l.to < l.low → l.to ≡ l.high;
  all : (rs : List Record) → g.K.PlaceRows.keeps l.initial.rows rs → (t : ℕ) → is_tid t l.whole.items ≡ (is_within l.to l.high t && goes_whole rs l.labels t);
  within : (t : ℕ) → is_tid t l.whole.items ≡ true → is_within l.low l.high t ≡ true;
  spent : (rs : List Record) → g.K.PlaceRows.keeps l.initial.rows rs → NeverGone rs l.labels l.low l.high
      → g.K.PlaceRows.reads l.rows + suc (rows_within (has_row kind.N rs l.labels) (suc l.low) l.to) * (g.K.PlaceRows.cost l.initial.rows).look
      ≤ g.K.PlaceRows.reads l.initial.rows + suc (rows_within (has_row kind.N rs l.labels) (suc l.low) l.high) * (g.K.PlaceRows.cost l.initial.rows).look;
  asked : Asked (as_store g.K.PlaceRows) l.initial.rows l.rows;
}

abbrev pub decreases-loop-to : goal.decreases-loop-to
decreases-loop-to g l = l.to
