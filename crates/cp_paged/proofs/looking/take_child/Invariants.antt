use Rattle.std.proofs.Common.{◌≡◌, false, take}
use Rattle.std.specs.Prelude.{◌&&◌}
use Rattle.std.specs.List.{list_any}
use Rattle.cp_model.specs.Past.{is_child}
use Rattle.cp_model.specs.Records.{is_D, mark_by}
use Rattle.cp_paged.proofs.looking.take_child.Given as goal

abbrev pub invariant-loop-record : goal.invariant-loop-record
invariant-loop-record l = list_any (λ r. is_child l.labels r.loc.path && is_D (mark_by r.op r.src)) (take l.record-index l.records) ≡ false
