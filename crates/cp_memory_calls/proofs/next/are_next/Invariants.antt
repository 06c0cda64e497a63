use Rattle.std.proofs.Common.{◌≡◌, true, take}
use Rattle.std.specs.List.{list_all}
use Rattle.cp_model.specs.Changes.{is_between, is_source}
use Rattle.cp_memory_calls.proofs.next.are_next.Given as goal

abbrev pub invariant-loop-row : goal.invariant-loop-row
invariant-loop-row l = record {
  sources : list_all (λ r. is_source r.op r.src) (take l.row-index l.rows) ≡ true;
  between : list_all (is_between l.low l.high) (take l.row-index l.rows) ≡ true;
}
