use Rattle.std.proofs.Common.{◌≡◌, ◌≤◌, ◌-◌}
use Rattle.std.specs.Option.{option_map}
use Rattle.cp_page.specs.Rows.{rows_from, rows_of, last_from, greatest}
use Rattle.cp_page.specs.Rows.{shown}
use Rattle.cp_page.proofs.finding.find_among.Given as goal

abbrev pub decreases-loop-read : goal.decreases-loop-read
decreases-loop-read l = l.count - l.read

abbrev pub invariant-loop-read : goal.invariant-loop-read
invariant-loop-read l = record {
  within : l.read ≤ l.count;
  rows : option_map (last_from l.key (option_map shown l.best)) (rows_from (l.count - l.read) (option_map (λ k. k.now) l.before) l.rest) ≡ option_map (greatest l.key) (rows_of l.bytes);
}
