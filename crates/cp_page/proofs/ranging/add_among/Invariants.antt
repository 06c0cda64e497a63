use Rattle.std.proofs.Common.{◌≡◌, ◌≤◌, ◌-◌, false}
use Rattle.std.specs.Option.{option_map}
use Rattle.cp_page.specs.Ranges.{found_with}
use Rattle.cp_page.specs.Rows.{rows_from, rows_of}
use Rattle.cp_page.proofs.ranging.add_among.Given as goal

abbrev pub decreases-loop-read : goal.decreases-loop-read
decreases-loop-read l = l.count - l.read

abbrev pub invariant-loop-read : goal.invariant-loop-read
invariant-loop-read l = record {
  within : l.read ≤ l.count;
  rows : option_map (found_with l.low l.high l.found.items l.past) (rows_from (l.count - l.read) (option_map (λ k. k.now) l.before) l.rest)
      ≡ option_map (found_with l.low l.high l.initial.found.items false) (rows_of l.bytes);
}
