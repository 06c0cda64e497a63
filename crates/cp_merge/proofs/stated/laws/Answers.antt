use Rattle.cp_merge.proofs.CountedRows.{runs_count_whole, counted_rows_rise}
use Rattle.cp_merge.proofs.Holding.{new_runs_hold_each, merges_hold_each, merged_runs_hold_each}
use Rattle.cp_merge.proofs.Splitting.{orders_split, each_order_holds}
use Rattle.cp_merge.proofs.stated.laws.Goals as goal

pub returns : goal.returns
returns c = record {
  new = new_runs_hold_each;
  merge = merges_hold_each;
  merged = merged_runs_hold_each;
  split = orders_split;
  orders = each_order_holds;
  whole = runs_count_whole;
  rise = counted_rows_rise;
}
